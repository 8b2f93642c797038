use Rattle.world_hosting.proofs.Starts.{blames_memory}
use Rattle.world_hosting.proofs.staging.want_of_memory.Goals as goal

pub unreachable-requires : goal.unreachable-requires
unreachable-requires c = blames_memory c.args.fault c.requires.0 c.requires.1 c.in_default.not-Memory
