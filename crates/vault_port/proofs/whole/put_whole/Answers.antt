use Rattle.std.proofs.Common.{◌∙◌, length, take, ap, arith}
use Rattle.std.proofs.lemmas.List.{take_rest, length-drop}
use Rattle.vault_port.specs.Taken.{Appends}
use Rattle.vault_port.proofs.Telling.{Becomes_then}
use Rattle.vault_port.proofs.Pieces.{Appends_more}
use Rattle.vault_port.proofs.whole.put_whole.Goals as goal

pub putting-preserved : goal.putting-preserved
putting-preserved g c =
    let bytes = c.args.bytes.now in
    let done = c.putting.done in
    let piece = take_rest bytes done in
    let long = ap length piece in
    record {
      within = omega (arith, long, length-drop done bytes, c.in-Ok.ensures.count);
      taken = Becomes_then (Appends (take done bytes)) _ _ (Appends_more bytes _ done c.in-Ok.count piece) _ _ _ c.putting.invariant.taken c.in-Ok.ensures.taken;
      steady = c.in-Ok.ensures.stays (λ e. cc) ∙ c.putting.invariant.steady;
    }
