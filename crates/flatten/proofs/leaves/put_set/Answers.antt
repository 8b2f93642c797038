use Rattle.std.proofs.Common.{refl, ap, sym, arith, ◌∙◌, ◌++◌, slice_get}
use Rattle.wa_types.specs.Syntax.{local_set}
use Rattle.flat_laws.specs.Flatten.{slots}
use Rattle.flatten.specs.Emitting.{all_of}
use Rattle.flatten.proofs.LeafLemmas.{moved, emits, is_set, taken, set_one, copied_from, put_is, slots_are_long, top_slot_is, one_less}
use Rattle.flatten.proofs.leaves.put_set.Goals as goal

pub pop_slot-from-requires : goal.pop_slot-from-requires
pop_slot-from-requires c =
    let v = c.args.at.now.typing in
    let t = taken v c.args.instr.now (local_set c.args.x) (is_set c.args.instr.now c.args.x c.requires.is) c.requires.typed in
    let o = set_one (slice_get v.around.locals c.args.x) v.own t.0 v.under t.1 in
    omega (arith, o.0, slots_are_long c.args.names.now c.args.at.now c.requires.ready)

pub returns : goal.returns
returns c =
    let n = c.args.names.now in
    let v = c.args.at.now.typing in
    let w = c.advance.new.self in
    let st = c.in_ok-advance.ensures.stays in
    let ty = c.in_ok-advance.ensures.typed in
    let is = is_set c.args.instr.now c.args.x c.requires.is in
    let t = moved n v w c.args.instr.now (local_set c.args.x) is st ty in
    let o = set_one (slice_get v.around.locals c.args.x) v.own w.own v.under t in
    put_is n c.args.at.now _ c.args.instr.now c.args.out.now.items c.push.new.self.items w c.requires.ready st ty
    (emits n v w c.args.instr.now (local_set c.args.x) is st ty refl c.args.out.now.items c.push.new.self.items
    (λ k. copied_from n c.args.out.now.items c.push.new.self.items c.args.x c.pop_slot-from.result (all_of v) k c.in_ok-push.ensures.items
    (top_slot_is n c.args.at.now c.requires.ready c.pop_slot-from.result c.pop_slot-from.ensures.top)))
    refl refl (one_less n c.args.at.now c.requires.ready c.pop_slot-from.new.slots.items c.pop_slot-from.ensures.rest ∙ ap (slots n) (sym o.1 ∙ ap (λ z. w.own ++ z) (sym st.under)))
