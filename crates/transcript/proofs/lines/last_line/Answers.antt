-- The format's pieces, joined to the left.
use Rattle.std.proofs.Common.{append_assoc}
use Rattle.std.proofs.lemmas.Result.{IfOk-weaker}
use Rattle.script_model.specs.Transcript.{last_line}
use Rattle.transcript.proofs.lines.last_line.Goals as goal

pub returns : goal.returns
unfolding last_line
returns c = IfOk-weaker c.format.result _ _ (λ s e. simp append_assoc e) c.format.ensures.ok
