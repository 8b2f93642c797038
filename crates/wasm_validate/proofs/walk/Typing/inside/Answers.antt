use Rattle.std.proofs.Common.{arith, ap, ◌-◌, ◌≡◌, length}
use Rattle.wasm_validate.proofs.Walks.{at_if, no_other, inside_block, inside_loop, inside_if, below_all, below_rest, some_types}
use Rattle.wasm_validate.proofs.walk.Typing.inside.Goals as goal

pub slice_bounds-enter-count : goal.slice_bounds-enter-count
slice_bounds-enter-count c =
    let k = at_if c.args.self.now.around c.args.self.now.labels c.args.instr.now c.args.self.now.own c.requires.typed _ _ _ c.in-If.is in
    let h = some_types c.self.inside.valid.now c.self.inside.func c.self.inside.labels.items c.self.inside.types.items c.self.inside.base c.args.self.now c.self.view_is k.0 k.1 in
    omega (arith, h, c.deref-in-If.ensures.len, ap length c.deref-in-If.ensures.value, c.len.ensures)

pub unreachable-requires : goal.unreachable-requires
unreachable-requires c = no_other c.args.instr.now c.in_default.not-Block c.in_default.not-Loop c.in_default.not-If c.requires.opens

pub returns-in_ok-inner-in-Block : goal.returns-in_ok-inner-in-Block
returns-in_ok-inner-in-Block c =
    let e = below_all c.self.inside.valid.now c.self.inside.func c.self.inside.labels.items c.self.inside.types.items c.self.inside.base c.args.self.now c.self.view_is in
    inside_block c.args.self.now c.in_ok-inner-in-Block.inner c.args.instr.now _ _ c.in-Block.is (rw (c.deref.ensures.value, e) at c.in_ok-inner-in-Block.ensures)

pub returns-in_ok-inner-in-Loop : goal.returns-in_ok-inner-in-Loop
returns-in_ok-inner-in-Loop c =
    let e = below_all c.self.inside.valid.now c.self.inside.func c.self.inside.labels.items c.self.inside.types.items c.self.inside.base c.args.self.now c.self.view_is in
    inside_loop c.args.self.now c.in_ok-inner-in-Loop.inner c.args.instr.now _ _ c.in-Loop.is (rw (c.deref-in-Loop.ensures.value, e) at c.in_ok-inner-in-Loop.ensures)

pub returns-in_ok-inner-in-If : goal.returns-in_ok-inner-in-If
returns-in_ok-inner-in-If c =
    let k = at_if c.args.self.now.around c.args.self.now.labels c.args.instr.now c.args.self.now.own c.requires.typed _ _ _ c.in-If.is in
    let n : c.len.result - 1 ≡ length c.self.inside.types.items - 1 = omega (arith, c.deref-in-If.ensures.len, ap length c.deref-in-If.ensures.value, c.len.ensures) in
    let e = below_rest c.self.inside.valid.now c.self.inside.func c.self.inside.labels.items c.self.inside.types.items c.self.inside.base c.args.self.now c.self.view_is (c.len.result - 1) k.0 k.1 n in
    inside_if c.args.self.now c.in_ok-inner-in-If.inner c.args.instr.now _ _ _ c.in-If.is (rw (c.deref-in-If.ensures.value, e) at c.in_ok-inner-in-If.ensures)
