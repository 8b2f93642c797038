use Rattle.script_command.proofs.Endings.{bounded_programs_whole}
use Rattle.script_command.proofs.originals_run.bounded_programs_are_whole.Goals as goal

pub returns : goal.returns
returns c = bounded_programs_whole
