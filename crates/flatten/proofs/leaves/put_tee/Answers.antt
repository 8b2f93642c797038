use Rattle.std.proofs.Common.{refl, ap, sym, ◌∙◌, ◌++◌, slice_get, reverse, List, ℕ}
use Rattle.wa_types.specs.Syntax.{local_tee}
use Rattle.flat_laws.specs.Flatten.{slots}
use Rattle.flatten.specs.Emitting.{all_of, first_or}
use Rattle.flatten.proofs.LeafLemmas.{moved, emits, is_tee, tee_same, copied_from, put_is, top_slot_is}
use Rattle.flatten.proofs.leaves.put_tee.Goals as goal

pub returns : goal.returns
returns c =
    let n = c.args.names.now in
    let v = c.args.at.now.typing in
    let w = c.advance.new.self in
    let st = c.in_ok-advance.ensures.stays in
    let ty = c.in_ok-advance.ensures.typed in
    let is = is_tee c.args.instr.now c.args.x c.requires.is in
    let t = moved n v w c.args.instr.now (local_tee c.args.x) is st ty in
    let o = tee_same (slice_get v.around.locals c.args.x) v.own w.own v.under t in
    put_is n c.args.at.now _ c.args.instr.now c.args.out.now.items c.push.new.self.items w c.requires.ready st ty
    (emits n v w c.args.instr.now (local_tee c.args.x) is st ty refl c.args.out.now.items c.push.new.self.items
    (λ k. copied_from n c.args.out.now.items c.push.new.self.items c.args.x c.top_slot-from.result (all_of v) k c.in_ok-push.ensures.items
    (top_slot_is n c.args.at.now c.requires.ready c.top_slot-from.result (c.top_slot-from.ensures ∙ ap (λ (z : List ℕ). first_or (reverse z)) c.deref.ensures.value))))
    refl refl (c.requires.ready.held ∙ ap (slots n) (sym o ∙ ap (λ z. w.own ++ z) (sym st.under)))
