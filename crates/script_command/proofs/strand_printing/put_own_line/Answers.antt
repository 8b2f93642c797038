use Rattle.script_command.proofs.StrandTexts.{strand_line_some}
use Rattle.transcript.proofs.LineTexts.{nothing_printed}
use Rattle.script_command.proofs.strand_printing.put_own_line.Goals as goal

pub returns-in_default-clause-less : goal.returns-in_default-clause-less
returns-in_default-clause-less g c = nothing_printed _ _ (strand_line_some _ _ _)
