use Rattle.std.proofs.Common.{◌∙◌, length, ap, inl, inr, refl, arith}
use Rattle.std.proofs.lemmas.List.{take_rest, length-drop}
use Rattle.vault_port.proofs.Telling.{Becomes_same, Becomes_then, told_since}
use Rattle.vault_port.proofs.Pieces.{HasFront, HasFront_all, HasFront_cut, HasFront_more, HasFront_within}
use Rattle.vault_port.proofs.whole.save_whole.Goals as goal

pub saving-preserved : goal.saving-preserved
saving-preserved g c =
    let name = c.args.name.now in
    let bytes = c.args.bytes.now in
    let done = c.saving.done in
    let piece = take_rest bytes done in
    let long = ap length piece in
    record {
      within = omega (arith, long, length-drop done bytes, c.in-Ok.ensures.count);
      front = Becomes_then (HasFront name bytes done) _ _ (λ old mid new before now. inl (HasFront_more name bytes _ done c.in-Ok.count piece old mid new before now)) _ _ _
          c.saving.invariant.front c.in-Ok.ensures.saved;
      steady = c.in-Ok.ensures.stays (λ e. cc) ∙ c.saving.invariant.steady;
      fetches = cc;
    }

pub returns-in-Err-Failed-clause-cut : goal.returns-in-Err-Failed-clause-cut
returns-in-Err-Failed-clause-cut g c =
    Becomes_then (HasFront c.args.name.now c.args.bytes.now c.saving.done) _ _ (HasFront_cut c.args.name.now c.args.bytes.now c.saving.done) _ _ _ c.saving.invariant.front c.in-Err-Failed.ensures.cut

pub returns-in-Err-Memory-clause-cut : goal.returns-in-Err-Memory-clause-cut
returns-in-Err-Memory-clause-cut g c =
    Becomes_then (HasFront c.args.name.now c.args.bytes.now c.saving.done) _ _ (HasFront_cut c.args.name.now c.args.bytes.now c.saving.done) _ _ _ c.saving.invariant.front c.in-Err-Memory.ensures.cut

pub returns-then-done-bytes-clause-saved : goal.returns-then-done-bytes-clause-saved
returns-then-done-bytes-clause-saved g c =
    let piece = take_rest c.args.bytes.now c.saving.done in
    Becomes_then (HasFront c.args.name.now c.args.bytes.now c.saving.done) _ _
    (HasFront_all c.args.name.now c.args.bytes.now _ c.saving.done c.in-Ok.count piece (omega (arith, c.if-done-bytes.true))) _ _ _ c.saving.invariant.front c.in-Ok.ensures.saved

pub saving-init : goal.saving-init
saving-init g c =
    record {
      within = omega arith;
      front = Becomes_same (HasFront c.args.name.now c.args.bytes.now 0) (λ files. inr (refl, refl)) _;
      steady = refl;
      fetches = refl;
    }

pub save-requires : goal.save-requires
save-requires g c =
    told_since (HasFront c.args.name.now c.args.bytes.now c.saving.done) _ (HasFront_within c.args.name.now c.args.bytes.now c.saving.done c.saving.invariant.within) _ _ c.saving.invariant.front
