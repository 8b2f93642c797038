use Rattle.frame_laws.proofs.FrameSizes.{function_size, function_depth, restore_depth, restore_size}
use Rattle.frame_laws.proofs.frame_codes.functions_are_small.Goals as goal

pub returns-clause-size : goal.returns-clause-size
returns-clause-size c = function_size

pub returns-clause-depth : goal.returns-clause-depth
returns-clause-depth c = function_depth

pub returns-clause-restore_size : goal.returns-clause-restore_size
returns-clause-restore_size c = restore_size

pub returns-clause-restore_depth : goal.returns-clause-restore_depth
returns-clause-restore_depth c = restore_depth
