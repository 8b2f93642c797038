use Rattle.world_hosting.proofs.Counting.{faults_are_counted}
use Rattle.world_hosting.proofs.fault_counts.told_faults_are_counted.Goals as goal

pub returns : goal.returns
returns c = faults_are_counted
