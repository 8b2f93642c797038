use Rattle.frame_laws.proofs.OneFunction.{unwinds_one_law, stops_one_law}
use Rattle.frame_laws.proofs.frame_stacks.functions_unwind.Goals as goal

pub returns-clause-unwinds : goal.returns-clause-unwinds
returns-clause-unwinds c = unwinds_one_law

pub returns-clause-stops : goal.returns-clause-stops
returns-clause-stops c = stops_one_law
