use Rattle.std.proofs.Common.{refl}
use Rattle.wa_types.specs.Pruned.{pruned}
use Rattle.wa_types.specs.Points.{points, call_points}
use Rattle.wa_types.specs.Liveness.{live, behind_calls}
use Rattle.wa_types.specs.Counts.{depth_of}
use Rattle.wa_types.specs.Pausing.{calls_of}
use Rattle.wa_types.specs.Frames.{results_in}
use Rattle.wa_types.specs.Bounds.{code_weight}
use Rattle.checks.proofs.definition_check.rooms.Goals as goal

pub returns : goal.returns
unfolding pruned points call_points live behind_calls depth_of results_in calls_of code_weight
returns c = record {
  one_call_takes = refl;
  one_call_live_takes = refl;
  sum_loop_takes = refl;
  sum_loop_live_takes = refl;
  two_labels_takes = refl;
  countdown_takes = refl;
  countdown_live_takes = refl;
  countdown_fits_takes = refl;
  two_widths_takes = refl;
  reading_takes = refl;
  through_table_takes = refl;
  through_table_live_takes = refl;
  back_edge_live_takes = refl;
}
