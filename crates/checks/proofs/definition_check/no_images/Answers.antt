use Rattle.std.proofs.Common.{◌≡◌, [], ◌∷◌}
use Rattle.wa_types.specs.Pruned.{pruned}
use Rattle.wa_types.specs.Points.{points, call_points}
use Rattle.wa_types.specs.Liveness.{live, behind_calls}
use Rattle.wa_types.specs.Counts.{depth_of}
use Rattle.wa_types.specs.Pausing.{calls_of}
use Rattle.wa_types.specs.Frames.{results_in}
use Rattle.wa_types.specs.Bounds.{code_weight}
use Rattle.checks.proofs.definition_check.no_images.Goals as goal

pub returns : goal.returns
unfolding pruned points call_points live behind_calls depth_of results_in calls_of code_weight
returns c = record {
  other_argument = λ i. let e : 6 ∷ 0 ∷ 0 ∷ 0 ∷ [] ≡ 7 ∷ 0 ∷ 0 ∷ 0 ∷ [] = i.frames.0.0.1.0 in cc;
  other_place = λ i. i.frames.0.1;
}
