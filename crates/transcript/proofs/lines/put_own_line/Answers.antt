use Rattle.transcript.proofs.LineTexts.{line_some, nothing_printed}
use Rattle.transcript.proofs.lines.put_own_line.Goals as goal

pub returns-in_default-clause-less : goal.returns-in_default-clause-less
returns-in_default-clause-less g c = nothing_printed _ _ (line_some _ _)
