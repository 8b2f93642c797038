use Rattle.std.proofs.Common.{refl, ap, sym, arith, ◌∙◌, ◌++◌, slice_get, drop, reverse, length, List, ℕ, Option}
use Rattle.wa_types.specs.Syntax.{br_if}
use Rattle.flat_laws.specs.Flatten.{slots}
use Rattle.flatten.specs.Emitting.{all_of, first_or}
use Rattle.flatten.proofs.PositionLemmas.{top_is}
use Rattle.flatten.proofs.LeafLemmas.{moved, emits, is_br_if, taken, br_if_one, may_jump_there, branched_if, put_is, slots_are_long, labels_long, top_slot_is, one_less}
use Rattle.flatten.proofs.leaves.put_br_if.Goals as goal

pub pop_slot-cond-requires : goal.pop_slot-cond-requires
pop_slot-cond-requires c =
    let v = c.args.at.now.typing in
    let t = taken v c.args.instr.now (br_if c.args.label) (is_br_if c.args.instr.now c.args.label c.requires.is) c.requires.typed in
    let o = br_if_one (slice_get v.labels c.args.label) v.own t.0 v.under t.1 in
    omega (arith, o.0, slots_are_long c.args.names.now c.args.at.now c.requires.ready)

pub put_carry-requires : goal.put_carry-requires
put_carry-requires c =
    let v = c.args.at.now.typing in
    let t = taken v c.args.instr.now (br_if c.args.label) (is_br_if c.args.instr.now c.args.label c.requires.is) c.requires.typed in
    let lt = may_jump_there v.labels c.args.label v.own t.0 (slice_get v.labels c.args.label) refl t.1 in
    omega (arith, lt, labels_long c.args.names.now c.args.at.now c.requires.ready, ap length c.deref-2.ensures.value)

pub returns : goal.returns
returns c =
    let n = c.args.names.now in
    let v = c.args.at.now.typing in
    let w = c.advance.new.self in
    let st = c.in_ok-advance.ensures.stays in
    let ty = c.in_ok-advance.ensures.typed in
    let is = is_br_if c.args.instr.now c.args.label c.requires.is in
    let t = moved n v w c.args.instr.now (br_if c.args.label) is st ty in
    let o = br_if_one (slice_get v.labels c.args.label) v.own w.own v.under t in
    let ready = c.requires.ready in
    let less = one_less n c.args.at.now ready c.pop_slot-cond.new.slots.items c.pop_slot-cond.ensures.rest in
    let from = c.top_slot-from.ensures ∙ ap (λ (z : List ℕ). first_or (reverse z)) c.deref.ensures.value ∙ top_is n (drop 1 (all_of v)) (reverse c.pop_slot-cond.new.slots.items) less in
    let locals = ap (λ (z : List (Option ℕ)). reverse z) c.deref-2.ensures.value ∙ ready.labels in
    put_is n c.args.at.now _ c.args.instr.now c.args.out.now.items c.push.new.self.items w ready st ty
    (emits n v w c.args.instr.now (br_if c.args.label) is st ty refl c.args.out.now.items c.push.new.self.items
    (λ k. branched_if n v.labels (reverse c.deref-2.result.now) c.args.out.now.items c.put_carry.new.out.items c.push.new.self.items c.pop_slot-cond.result c.args.label
    c.top_slot-from.result (all_of v) k locals c.in_ok-put_carry.ensures c.in_ok-push.ensures.items
    (top_slot_is n c.args.at.now ready c.pop_slot-cond.result c.pop_slot-cond.ensures.top) from))
    refl refl (less ∙ ap (slots n) (sym o.1 ∙ ap (λ z. w.own ++ z) (sym st.under)))
