use Rattle.strand_laws.proofs.OneRun.{held_tell_one}
use Rattle.strand_laws.proofs.world_strands.held_programs_tell_one_run.Goals as goal

pub returns : goal.returns
returns c = held_tell_one
