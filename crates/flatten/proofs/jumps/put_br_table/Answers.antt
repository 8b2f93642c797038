use Rattle.std.proofs.Common.{refl, ap, arith, ◌≡◌, ◌<◌, ◌-◌, ◌∙◌, slice_get, get_or, length, reverse, drop, take, List, ℕ, Option}
use Rattle.wa_types.specs.Syntax.{br_table}
use Rattle.flatten.specs.Emitting.{all_of, first_or, all_carried, carried_to, onto_stmts}
use Rattle.flatten.proofs.PositionLemmas.{less_one, top_is}
use Rattle.flatten.proofs.LeafLemmas.{taken, labels_long, slots_are_long, top_slot_is, one_less}
use Rattle.flatten.proofs.JumpLemmas.{is_br_table, last_put, table_there, jumped_by, own_long}
use Rattle.flatten.proofs.jumps.put_br_table.Goals as goal

pub slice_bounds-top_slot-count : goal.slice_bounds-top_slot-count
slice_bounds-top_slot-count c =
    let v = c.args.at.now.typing in
    let t = taken v c.args.instr.now (br_table c.args.targets.now.items c.args.last) (is_br_table c.args.instr.now c.args.targets.now c.args.last c.requires.is) c.requires.typed in
    let w = table_there v.labels c.args.targets.now.items c.args.last v.own t.0 (slice_get v.labels c.args.last) refl t.1 in
    omega (arith, own_long v w.one, slots_are_long c.args._names.now c.args.at.now c.requires.ready, c.len.ensures, ap length c.deref-2.ensures.value)

pub put_carries-requires : goal.put_carries-requires
put_carries-requires c k d lt =
    let v = c.args.at.now.typing in
    let t = taken v c.args.instr.now (br_table c.args.targets.now.items c.args.last) (is_br_table c.args.instr.now c.args.targets.now c.args.last c.requires.is) c.requires.typed in
    let w = table_there v.labels c.args.targets.now.items c.args.last v.own t.0 (slice_get v.labels c.args.last) refl t.1 in
    let e = w.each k d (omega (arith, lt, ap length c.deref-4.ensures.value)) in
    omega (arith, e, labels_long c.args._names.now c.args.at.now c.requires.ready, ap length c.deref-3.ensures.value, ap (λ (ts : List ℕ). get_or ts k d) c.deref-4.ensures.value)

pub put_carry-requires : goal.put_carry-requires
put_carry-requires c =
    let v = c.args.at.now.typing in
    let t = taken v c.args.instr.now (br_table c.args.targets.now.items c.args.last) (is_br_table c.args.instr.now c.args.targets.now c.args.last c.requires.is) c.requires.typed in
    let w = table_there v.labels c.args.targets.now.items c.args.last v.own t.0 (slice_get v.labels c.args.last) refl t.1 in
    omega (arith, w.last_there, labels_long c.args._names.now c.args.at.now c.requires.ready, ap length c.deref-5.ensures.value)

pub returns : goal.returns
returns c =
    let n = c.args._names.now in
    let v = c.args.at.now.typing in
    let ready = c.requires.ready in
    let ss = c.args.at.now.slots.items in
    let t = taken v c.args.instr.now (br_table c.args.targets.now.items c.args.last) (is_br_table c.args.instr.now c.args.targets.now c.args.last c.requires.is) c.requires.typed in
    let w = table_there v.labels c.args.targets.now.items c.args.last v.own t.0 (slice_get v.labels c.args.last) refl t.1 in
    let index = top_slot_is n c.args.at.now ready c.top_slot-index.result (c.top_slot-index.ensures ∙ ap (λ (z : List ℕ). first_or (reverse z)) c.deref.ensures.value) in
    let size : c.len.result ≡ length ss = omega (arith, c.len.ensures, ap length c.deref-2.ensures.value) in
    let some : 0 < c.len.result = omega (arith, own_long v w.one, slots_are_long n c.args.at.now ready, size) in
    let low = one_less n c.args.at.now ready (take (c.len.result - 1) ss) (less_one ss c.len.result size some) in
    let from = c.top_slot-from.ensures ∙ ap (λ (z : List ℕ). first_or (reverse (take (c.len.result - 1) z))) c.deref-2.ensures.value
    ∙ top_is n (drop 1 (all_of v)) (reverse (take (c.len.result - 1) ss)) low in
    let locals = ready.labels in
    last_put n v c.args.instr.now (br_table c.args.targets.now.items c.args.last) c.args.out.now.items c.push.new.self.items (is_br_table c.args.instr.now c.args.targets.now c.args.last c.requires.is)
    (λ behind k. jumped_by n v.labels (reverse c.args.at.now.labels.items) c.args.out.now.items c.put_carries.new.out.items c.put_carry.new.out.items c.push.new.self.items
    c.top_slot-index.result c.top_slot-from.result c.args.last c.args.targets.now c.in_ok-from_slice.field-0 (all_of v) locals
    (c.in_ok-from_slice.ensures.items ∙ c.deref-6.ensures.value)
    (λ rest. c.in_ok-put_carries.ensures rest ∙ ap (λ (z : List (Option ℕ)). onto_stmts c.args.out.now.items (all_carried (reverse z) c.deref-4.result.now c.top_slot-from.result rest))
    c.deref-3.ensures.value ∙ ap (λ z. onto_stmts c.args.out.now.items (all_carried (reverse c.args.at.now.labels.items) z c.top_slot-from.result rest)) c.deref-4.ensures.value)
    (λ rest. c.in_ok-put_carry.ensures rest ∙ ap (λ (z : List (Option ℕ)). onto_stmts c.put_carries.new.out.items
    (carried_to (slice_get (reverse z) c.args.last) c.top_slot-from.result rest)) c.deref-5.ensures.value)
    c.in_ok-push.ensures.items index from)
