-- What is told of programs with mailboxes over rewritten modules is told of their originals.
use Rattle.std.proofs.Common.{◌≡◌, ℕ, zero, suc, List, [], ◌∷◌, Some, refl, sym, ap, ◌∙◌, subst}
use Rattle.std.specs.Prelude.{slice_get}
use Rattle.std.specs.List.{AllZip}
use Rattle.std.proofs.lemmas.Option.{same_Some}
use Rattle.world_model.specs.World.{Original, Program}
use Rattle.world_laws.specs.Originals.{MayRun, Orderly}
use Rattle.world_laws.proofs.Stories.{none_ignored}
use Rattle.mail_laws.specs.MailOriginals.{AllRunAsFar, RunsAsFar, met, to_its_end, to_its_receive, within}
use Rattle.mail_laws.specs.MailWorld.{Actor, StartsHeld, sharing}
use Rattle.mail_laws.proofs.CallsInRange.{EachMet, events_met}
use Rattle.mail_laws.proofs.MailOriginals.{mail_worlds_of_originals}
use Rattle.world_hosting.specs.MailEndings.{EndsOrStalls, MailToldEnds}
use Rattle.world_hosting.specs.MailOriginalRuns.{MailToldOfOriginals, TouchesNone}
use Rattle.world_hosting.specs.OriginalRuns.{IsRewritten, Source, original_for, originals_for}
use Rattle.world_hosting.specs.Worlds.{Part, world_program, world_programs}
use Rattle.world_hosting.proofs.MailEnds.{HasCutStory, ends_or_stalls, has_cut_story}
use Rattle.world_hosting.proofs.Originals.{all_may_run, all_stand_in, may_run, stands_in}

-- the same original with fewer steps may run
within_may : (n : ℕ) (o : Original) → MayRun o → MayRun (within n o)
within_may n o may = record { well_formed = may.well_formed; fits = may.fits; listed = may.listed; answers = may.answers; looks = may.looks }

-- it runs orderly as far as it touches no byte of its area
pub as_far : (x : Source) (y : Part) (w : Program) (a : Actor) → IsRewritten x y → RunsAsFar TouchesNone (original_for x y) w a → RunsAsFar Orderly (original_for x y) w a
as_far x y w a is (to_its_end calm) = to_its_end (none_ignored (original_for x y) (met a) is.which (may_run x y is) is.tells is.heeds calm)
as_far x y w a is (to_its_receive n rest le e p calm) =
    to_its_receive n rest le e p (none_ignored (within n (original_for x y)) (met a) is.which (within_may n (original_for x y) (may_run x y is)) is.tells is.heeds calm)

-- ---- by their numbers

-- the source and the part for which an original stands
at_number : (xs : List Source) (ys : List Part) (i : ℕ) (o : Original) (w : Program) → AllZip IsRewritten xs ys → slice_get (originals_for xs ys) i ≡ Some o → slice_get (world_programs ys) i ≡ Some w
    → (x : Source) × (y : Part) × IsRewritten x y × (o ≡ original_for x y) × (w ≡ world_program y)
at_number [] ys i o w is e f = absurd cc
at_number (x ∷ xs) [] i o w is e f = absurd is
at_number (x ∷ xs) (y ∷ ys) zero o w is e f = (x, y, is.0, same_Some o (original_for x y) (sym e), same_Some w (world_program y) (sym f))
at_number (x ∷ xs) (y ∷ ys) (suc i) o w is e f = at_number xs ys i o w is.1 e f

pub mail_told_of_originals : MailToldOfOriginals
mail_told_of_originals xs ys detaches boxes ds ds' lines h world calm =
    mail_worlds_of_originals (originals_for xs ys) (world_programs ys) detaches boxes ds ds' lines (all_stand_in xs ys h) (all_may_run xs ys h) world orderly
  where
    orderly : AllRunAsFar Orderly (originals_for xs ys) (world_programs ys) world.actors
    orderly i o w a eo ew ea =
        let r = at_number xs ys i o w h eo ew in
        subst (λ (q : Original). RunsAsFar Orderly q w a) (sym r.3) (as_far r.0 r.1 w a r.2 (subst (λ (q : Original). RunsAsFar TouchesNone q w a) r.3 (calm i o w a eo ew ea)))

-- ---- how they end

starts_at : (ws : List Program) (acts : List Actor) (i : ℕ) (w : Program) (a : Actor) → AllZip StartsHeld ws acts → slice_get ws i ≡ Some w → slice_get acts i ≡ Some a → StartsHeld w a
starts_at [] acts i w a h e f = absurd cc
starts_at (v ∷ ws) [] i w a h e f = absurd h
starts_at (v ∷ ws) (b ∷ acts) zero w a h e f = subst (λ (u : Program). StartsHeld u a) (same_Some v w e) (subst (StartsHeld v) (same_Some b a f) h.0)
starts_at (v ∷ ws) (b ∷ acts) (suc i) w a h e f = starts_at ws acts i w a h.1 e f

pub mail_told_ends : MailToldEnds
mail_told_ends xs ys detaches boxes ds ds' lines number o w a is world there program at far =
    let programs : List Program = world_programs ys in
    let r = at_number xs ys number o w is there program in
    let meets : EachMet world.actors = events_met programs detaches 1 world.actors (sharing boxes ds) lines world.runs.last world.runs.shared world.runs.events world.runs.over in
    let held : StartsHeld (world_program r.1) a = subst (λ (v : Program). StartsHeld v a) r.4 (starts_at programs world.actors number w a world.starts program at) in
    let story : HasCutStory (original_for r.0 r.1) a =
    has_cut_story (original_for r.0 r.1) (world_program r.1) a (stands_in r.0 r.1 r.2) (may_run r.0 r.1 r.2) held (meets number a at)
    (as_far r.0 r.1 (world_program r.1) a r.2 (subst (λ (q : Original). RunsAsFar TouchesNone q (world_program r.1) a) r.3 (subst (λ (v : Program). RunsAsFar TouchesNone o v a) r.4 far))) in
    subst (λ (q : Original). EndsOrStalls q (met a) number lines) (sym r.3)
    (ends_or_stalls programs detaches boxes ds ds' lines world number (original_for r.0 r.1) (world_program r.1) a (program ∙ ap (λ (v : Program). Some v) r.4) at refl story)
