use Rattle.std.proofs.Common.{refl}
use Rattle.wa_types.specs.Pruned.{pruned}
use Rattle.wa_types.specs.Points.{points, call_points}
use Rattle.wa_types.specs.Liveness.{live, behind_calls}
use Rattle.wa_types.specs.Counts.{depth_of}
use Rattle.wa_types.specs.Pausing.{calls_of}
use Rattle.wa_types.specs.Frames.{results_in}
use Rattle.wa_types.specs.Bounds.{code_weight}
use Rattle.checks.proofs.definition_check.one_call_image.Goals as goal

pub returns : goal.returns
unfolding pruned points call_points live behind_calls depth_of results_in calls_of code_weight
returns c = record { location = refl; limit = refl; frames = (((refl, (refl, tt)), refl), tt) }
