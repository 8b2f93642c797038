use Rattle.std.proofs.Common.{refl}
use Rattle.wa_types.specs.Pruned.{pruned}
use Rattle.wa_types.specs.Points.{points, call_points}
use Rattle.wa_types.specs.Liveness.{live, behind_calls}
use Rattle.wa_types.specs.Counts.{depth_of}
use Rattle.wa_types.specs.Pausing.{calls_of}
use Rattle.wa_types.specs.Frames.{results_in}
use Rattle.wa_types.specs.Bounds.{code_weight}
use Rattle.checks.proofs.definition_check.measures.Goals as goal

pub returns : goal.returns
unfolding pruned points call_points live behind_calls depth_of results_in calls_of code_weight
returns c = record {
  two_labels_has = refl;
  two_labels_locals_has = refl;
  sum_loop_has = refl;
  with_blocks_locals_has = refl;
  with_loop_locals_has = refl;
  numbered_has = refl;
}
