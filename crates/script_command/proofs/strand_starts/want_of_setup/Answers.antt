use Rattle.script_command.proofs.PlansOfStrands.{blames_memory}
use Rattle.script_command.proofs.strand_starts.want_of_setup.Goals as goal

pub unreachable-requires : goal.unreachable-requires
unreachable-requires c = blames_memory c.args.fault c.requires.0 c.requires.1 c.in_default.not-Memory
