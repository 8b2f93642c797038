-- Told faults are counted, whatever is played.
use Rattle.world_hosting.proofs.Counting.{faults_are_counted}
use Rattle.script_command.specs.Playing.{detaches_in}
use Rattle.script_command.specs.PlayedFaults.{PlayedFaultsAreCounted}

pub played_faults : PlayedFaultsAreCounted
played_faults way files name play old new text told = faults_are_counted play.parts (detaches_in play.whole) old new text told
