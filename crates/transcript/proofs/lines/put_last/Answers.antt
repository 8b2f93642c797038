use Rattle.transcript.proofs.LineTexts.{last_some, nothing_printed}
use Rattle.transcript.proofs.lines.put_last.Goals as goal

pub returns-in_default-clause-less : goal.returns-in_default-clause-less
returns-in_default-clause-less g c = nothing_printed _ _ (last_some _ _)
