-- The format's pieces, joined to the left.
use Rattle.std.proofs.Common.{append_assoc}
use Rattle.std.proofs.lemmas.Result.{IfOk-weaker}
use Rattle.asyncify_app.specs.Printed.{three_lines}
use Rattle.asyncify_app.proofs.generating.three_lines.Goals as goal

pub returns : goal.returns
unfolding three_lines
returns c = IfOk-weaker c.format.result _ _ (λ s e. simp append_assoc e) c.format.ensures.ok
