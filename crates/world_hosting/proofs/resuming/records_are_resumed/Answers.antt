use Rattle.world_hosting.proofs.PutBack.{records_are_resumed}
use Rattle.world_hosting.proofs.resuming.records_are_resumed.Goals as goal

pub returns : goal.returns
returns c = records_are_resumed
