use Rattle.std.proofs.Common.{arith, ◌-◌, ◌≡◌, length, take, refl, None}
use Rattle.std.proofs.lemmas.List.{length-take-le}
use Rattle.wasm_validate.proofs.Walks.{at_if, no_other, inside_block, inside_loop, inside_if, below_all, below_rest, some_types, entered_is}
use Rattle.wasm_validate.proofs.walk.Typing.enter.Goals as goal

pub overflow_sub-self : goal.overflow_sub-self
overflow_sub-self c =
    let k = at_if c.args.self.now.around c.args.self.now.labels c.args.instr.now c.args.self.now.own c.requires.typed _ _ _ c.in-If.is in
    let h = some_types c.self.inside.valid.now c.self.inside.func c.self.inside.labels.items c.self.inside.types.items c.self.inside.base c.args.self.now c.self.view_is k.0 k.1 in
    omega (arith, h, c.len.ensures)

pub unreachable-requires : goal.unreachable-requires
unreachable-requires c = no_other c.args.instr.now c.in_default.not-Block c.in_default.not-Loop c.in_default.not-If c.requires.opens

pub returns-in_ok-push-in-Block : goal.returns-in_ok-push-in-Block
returns-in_ok-push-in-Block c =
    let e = below_all c.self.inside.valid.now c.self.inside.func c.self.inside.labels.items c.self.inside.types.items c.self.inside.base c.args.self.now c.self.view_is in
    let w = entered_is c.self.inside.valid.now c.self.inside.func c.self.inside.labels.items c.self.inside.types.items c.self.inside.base c.args.self.now c.self.view_is c.self.invariant.1
    c.push.new.self.items c.in-Block.result c.self.inside.types.items c.self.inside.types.items c.len-self-inside.result c.in_ok-push-in-Block.ensures.items refl
    (omega (arith, c.len-self-inside.ensures)) in
    inside_block c.args.self.now _ c.args.instr.now _ _ c.in-Block.is (rw e at w)

pub returns-in_ok-push-in-Loop : goal.returns-in_ok-push-in-Loop
returns-in_ok-push-in-Loop c =
    let e = below_all c.self.inside.valid.now c.self.inside.func c.self.inside.labels.items c.self.inside.types.items c.self.inside.base c.args.self.now c.self.view_is in
    let w = entered_is c.self.inside.valid.now c.self.inside.func c.self.inside.labels.items c.self.inside.types.items c.self.inside.base c.args.self.now c.self.view_is c.self.invariant.1
    c.push-in-Loop.new.self.items None c.self.inside.types.items c.self.inside.types.items c.len-self-inside-in-Loop.result c.in_ok-push-in-Loop.ensures.items refl
    (omega (arith, c.len-self-inside-in-Loop.ensures)) in
    inside_loop c.args.self.now _ c.args.instr.now _ _ c.in-Loop.is (rw e at w)

pub returns-in_ok-push-in-If : goal.returns-in_ok-push-in-If
returns-in_ok-push-in-If c =
    let k = at_if c.args.self.now.around c.args.self.now.labels c.args.instr.now c.args.self.now.own c.requires.typed _ _ _ c.in-If.is in
    let h = some_types c.self.inside.valid.now c.self.inside.func c.self.inside.labels.items c.self.inside.types.items c.self.inside.base c.args.self.now c.self.view_is k.0 k.1 in
    let n : c.len.result - 1 ≡ length c.self.inside.types.items - 1 = omega (arith, c.len.ensures) in
    let le : c.len.result - 1 ≡ length (take (c.len.result - 1) c.self.inside.types.items) =
    omega (arith, c.len.ensures, length-take-le (c.len.result - 1) c.self.inside.types.items (omega (arith, c.len.ensures))) in
    let e = below_rest c.self.inside.valid.now c.self.inside.func c.self.inside.labels.items c.self.inside.types.items c.self.inside.base c.args.self.now c.self.view_is (c.len.result - 1) k.0 k.1 n in
    let w = entered_is c.self.inside.valid.now c.self.inside.func c.self.inside.labels.items c.self.inside.types.items c.self.inside.base c.args.self.now c.self.view_is c.self.invariant.1
    c.push-in-If.new.self.items c.in-If.result c.truncate.new.self.items (take (c.len.result - 1) c.self.inside.types.items)
    (c.len.result - 1) c.in_ok-push-in-If.ensures.items c.truncate.ensures.items le in
    inside_if c.args.self.now _ c.args.instr.now _ _ _ c.in-If.is (rw e at w)
