-- The format's pieces, joined to the left.
use Rattle.std.proofs.Common.{append_assoc}
use Rattle.std.proofs.lemmas.Result.{IfOk-weaker}
use Rattle.transform_command.specs.Transforms.{done_line}
use Rattle.transform_command.proofs.report.done_line.Goals as goal

pub returns : goal.returns
unfolding done_line
returns c = IfOk-weaker c.format.result _ _ (λ s e. simp append_assoc e) c.format.ensures.ok
