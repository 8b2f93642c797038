use Rattle.std.proofs.Common.{length}
use Rattle.host_setup.proofs.types.+same_types.Given as goal

abbrev pub decreases-same_types : goal.decreases-same_types
decreases-same_types l = length l.types.now
