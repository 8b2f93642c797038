-- What frames of both policies cost: restoring no more than saving, and both no more than 64 for each unit of weight and for four more.
use Rattle.std.proofs.Common.{◌≡◌, ℕ, List, Bool, sym, ap, subst, arith}
use Rattle.wa_types.specs.Modules.{defined_at}
use Rattle.wa_types.specs.Pausing.{Settings}
use Rattle.wa_types.specs.Pruned.{pruned}
use Rattle.wa_types.specs.Syntax.{Module}
use Rattle.wa_types.specs.Validity.{Valid}
use Rattle.frame_laws.specs.Layout.{Layout}
use Rattle.guard_runs.specs.Joined.{one_frame}
use Rattle.headline.proofs.Sizes.{counts}
use Rattle.slim_laws.specs.SlimModule.{Pieces}
use Rattle.slot_laws.proofs.Few.{slots_are_few}
use Rattle.headline.specs.EmittedModule.{kept_frames, lay_at, layout_of, result_at}
use Rattle.headline.proofs.PauseCosts.{keeps_few}
use Rattle.headline.proofs.WrittenLocals.{index_of}
use Rattle.image_laws.proofs.ApartLevels.{ApartCall, ApartCalls}

pub all_apart : (m : Module) (s : Settings) (which : List Bool) (pieces : (index : ℕ) → Pieces) (keep : (func local : ℕ) → Bool) → Valid m → ApartCalls m s which (kept_frames m s which pieces keep)
all_apart m s which pieces keep valid x f is told k place number =
    let l : Layout = layout_of m s which keep x f in
    let same : layout_of m s which keep x f ≡ lay_at m s which keep x (defined_at m x) = sym (ap (lay_at m s which keep x) is) in
    let kept = keeps_few m s which keep valid x f is in
    let i = index_of m x f is in
    let few = slots_are_few m i.0 f valid i.2 in
    let weigh = counts m (pruned f.body) in
    let result = result_at m s which keep x (defined_at m x) in
    let r : ApartCall m f (one_frame (layout_of m s which keep x f) (result_at m s which keep x (defined_at m x))) = record { less = omega arith; cost = omega arith } in
    subst (λ (z : Layout). ApartCall m f (one_frame z result)) same r
