use Rattle.std.proofs.Common.{refl, ap, arith, ◌∙◌, slice_get, length, reverse, List, ℕ, Option}
use Rattle.wa_types.specs.Syntax.{br}
use Rattle.flatten.specs.Emitting.{all_of, first_or}
use Rattle.flatten.proofs.LeafLemmas.{taken, labels_long, top_slot_is}
use Rattle.flatten.proofs.JumpLemmas.{is_br, last_put, jump_there, jumped}
use Rattle.flatten.proofs.jumps.put_br.Goals as goal

pub put_carry-requires : goal.put_carry-requires
put_carry-requires c =
    let v = c.args.at.now.typing in
    let t = taken v c.args.instr.now (br c.args.label) (is_br c.args.instr.now c.args.label c.requires.is) c.requires.typed in
    let lt = jump_there v.labels c.args.label v.own t.0 (slice_get v.labels c.args.label) refl t.1 in
    omega (arith, lt, labels_long c.args._names.now c.args.at.now c.requires.ready, ap length c.deref-2.ensures.value)

pub returns : goal.returns
returns c =
    let n = c.args._names.now in
    let v = c.args.at.now.typing in
    let from = top_slot_is n c.args.at.now c.requires.ready c.top_slot-from.result (c.top_slot-from.ensures ∙ ap (λ (z : List ℕ). first_or (reverse z)) c.deref.ensures.value) in
    let locals = ap (λ (z : List (Option ℕ)). reverse z) c.deref-2.ensures.value ∙ c.requires.ready.labels in
    last_put n v c.args.instr.now (br c.args.label) c.args.out.now.items c.push.new.self.items (is_br c.args.instr.now c.args.label c.requires.is)
    (λ behind k. jumped n v.labels (reverse c.deref-2.result.now) c.args.out.now.items c.put_carry.new.out.items c.push.new.self.items c.args.label c.top_slot-from.result
    (all_of v) locals c.in_ok-put_carry.ensures c.in_ok-push.ensures.items from)
