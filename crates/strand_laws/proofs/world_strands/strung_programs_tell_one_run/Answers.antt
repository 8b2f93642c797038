use Rattle.strand_laws.proofs.OneRun.{strung_tell_one}
use Rattle.strand_laws.proofs.world_strands.strung_programs_tell_one_run.Goals as goal

pub returns : goal.returns
returns c = strung_tell_one
