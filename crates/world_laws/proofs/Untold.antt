-- Stories and worlds of rewritten modules whose plans tell no list are those of their originals.
use Rattle.std.proofs.Common.{◌≡◌, ◌≤◌, ◌∙◌, ℕ, List, length, Bool, ap, sym, subst, arith}
use Rattle.std.specs.List.{AllZip}
use Rattle.wa_types.specs.Runtime.{global_space}
use Rattle.wa_model.specs.Blocking.{Note}
use Rattle.wa_model.specs.Plan.{Plan}
use Rattle.wa_model.specs.Protocol.{Protocol}
use Rattle.world_model.specs.World.{BlockingStory, Original, protocol_story}
use Rattle.run_laws.specs.ListedPauses.{ComparedUntold}
use Rattle.run_laws.proofs.UntoldRuns.{behaves_untold, compared_lower}
use Rattle.world_laws.specs.Originals.{SameMoment, new_calls}
use Rattle.world_laws.proofs.Counting.{protocol_tells}
use Rattle.run_laws.proofs.Growing.{pauses_lower}
use Rattle.world_laws.proofs.Stories.{story_of, story_stands, told}
use Rattle.world_laws.proofs.Tails.{told_calls}
use Rattle.world_laws.proofs.Worlds.{Plain, worlds_by}
use Rattle.world_laws.specs.UntoldWorlds.{MayRunUntold, OrderlyUntold, StoriesUntold, WorldsUntold}

pub stories_untold : StoriesUntold
stories_untold o w os st may fits enough ord =
    let m = o.program.source in
    let plan : Plan = o.program.plan in
    let n : ℕ = o.program.steps in
    let which : List Bool = ord.which in
    let compared : ComparedUntold m o.settings plan os n = record { fits = may.fits; allows = may.allows; outcomes = fits; untouched = ord.untouched; listed = ord.listed } in
    let same : protocol_story w os ≡ story_of w.source plan n os = story_stands o w os st in
    let calls = ap new_calls same ∙ told_calls n (Protocol w.source plan os n) in
    let few : new_calls (Protocol w.source plan os n).events ≤ length os = omega arith in
    subst (λ (story : List Note). (notes : List Note) × BlockingStory o.settings o.program os notes × AllZip (SameMoment (global_space o.program.source) plan.area) notes story) (sym same)
    (told o os w.source which
    (λ k le. behaves_untold m o.settings w.source st.rewrites.behaves may.well_formed which ord.tells plan os k (compared_lower m o.settings w.source which plan os n k le compared)
    (pauses_lower m o.settings which plan os n k le ord.numbered))
    (protocol_tells w.source plan os n) few)

may_plainly : (o : Original) → MayRunUntold o → Plain o
may_plainly o may = let area = may.fits.area in record { least = area.least; answers = may.answers; looks = may.looks }

pub worlds_untold : WorldsUntold
worlds_untold = worlds_by MayRunUntold OrderlyUntold may_plainly stories_untold
