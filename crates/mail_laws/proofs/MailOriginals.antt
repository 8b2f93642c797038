-- A run of the world with mailboxes of rewritten modules is one of that of their originals.
use Rattle.std.proofs.Common.{arith, ◌≡◌, ◌≤◌, ℕ, suc, List, [], ◌∷◌, ◌++◌, length, take, map, Some, None, true, false, All, slice_get, refl, sym, ap, ◌∙◌, subst, append-nil}
use Rattle.std.specs.List.{AllZip}
use Rattle.std.proofs.lemmas.List.Elements.{All-head, All-tail}
use Rattle.wa_types.specs.Runtime.{global_space}
use Rattle.wa_model.specs.declared.answers.Detach.{Detach}
use Rattle.wa_model.specs.Outside.{Line}
use Rattle.wa_model.specs.Plan.{Outcome, OutcomeFits}
use Rattle.wa_model.specs.Blocking.{Note}
use Rattle.world_model.specs.World.{BlockingStory, Device, Look, Original, Program, answers_from, due_from, protocol_story}
use Rattle.world_laws.specs.Originals.{MayRun, Orderly, SameMoment, StandsIn, new_calls}
use Rattle.world_laws.specs.UntoldWorlds.{MayRunUntold, OrderlyUntold}
use Rattle.world_laws.proofs.Meeting.{AnswersFit}
use Rattle.world_laws.proofs.Places.{of_map, zip_at}
use Rattle.world_laws.proofs.Stories.{stories_of_originals}
use Rattle.world_laws.proofs.StoryParts.{begins_any}
use Rattle.world_laws.proofs.Tails.{story_tailed}
use Rattle.world_laws.proofs.Untold.{stories_untold}
use Rattle.world_laws.proofs.Worlds.{Plain, take_first}
use Rattle.mail_laws.specs.MailWorld.{Actor, BlockingWorld, HeldStory, ProtocolWorld, StartsHeld, StartsOriginal, begins_over, over_at, pauses, sharing, tells_end, to_end, to_wait, unblocked}
use Rattle.mail_laws.specs.MailOriginals.{AllRunAsFar, MailWorldsOfOriginals, MailWorldsUntold, RunsAsFar, met, to_its_end, to_its_receive, with_steps, within}
use Rattle.mail_laws.proofs.CallsInRange.{EachMet, Met, events_met}
use Rattle.mail_laws.proofs.CutStories.{Told, cut_stories, cut_untold}
use Rattle.mail_laws.proofs.MailRows.{AllSeen, Row, Rows, SameParked, events_beside, no_rows, one_more_row, over_beside, seen_by}

-- the actor of the original
abbrev Starting : Original → Program → Actor → Type 0
Starting o w a = (b : Actor) × StartsOriginal o b × Row o w a b

-- worlds of originals of which this is asked, and whose runs are so, from their stories, whole and cut
module _ (May : Original → Type 0) (Ord : Original → List Outcome → Type 0) (plain : (o : Original) → May o → Plain o)
    (stories : (o : Original) (w : Program) (os : List Outcome) → StandsIn o w → May o → All OutcomeFits os → new_calls (protocol_story w os) ≤ length os → Ord o os
    → (notes : List Note) × BlockingStory o.settings o.program os notes × AllZip (SameMoment (global_space o.program.source) o.program.plan.area) notes (protocol_story w os))
    (cuts : (o : Original) (w : Program) (os : List Outcome) (notes rest : List Note) (n : ℕ) → StandsIn o w → May o → All OutcomeFits os → n ≤ o.program.steps
    → Ord (within n o) os → protocol_story (with_steps n w) os ≡ notes ++ rest → pauses notes ≡ true → Told o os notes) where
  story_told : (o : Original) (w : Program) (used rest : List Outcome) (notes : List Note) → StandsIn o w → May o → All OutcomeFits used → Ord o used → length used ≡ new_calls notes
      → HeldStory w (used ++ rest) notes → Told o used notes
  story_told o w used rest notes st may fits ord len (to_end whole) =
      let few : new_calls (protocol_story w (used ++ rest)) ≤ length used = let e = ap new_calls whole in omega (arith, len, e) in
      let story : notes ≡ protocol_story w used = whole ∙ story_tailed w used rest few in
      let enough : new_calls (protocol_story w used) ≤ length used = let e = ap new_calls story in omega (arith, len, e) in
      let r = stories o w used st may fits enough ord in
      (r.0, unblocked r.1, subst (λ (xs : List Note). AllZip (SameMoment (global_space o.program.source) o.program.plan.area) r.0 xs) (sym story) r.2)
  story_told o w used rest notes st may fits ord len (to_wait more e cut) =
      let b = begins_any w used rest [] notes (sym len) (more, e) in
      let all_steps : protocol_story (with_steps o.program.steps w) used ≡ protocol_story w used = ap (λ (n : ℕ). protocol_story (with_steps n w) used) (sym st.steps) in
      cuts o w used notes b.0 o.program.steps st may fits (omega arith) ord (all_steps ∙ ap (protocol_story w) (sym (append-nil used)) ∙ b.1) cut

  pub told_as_far : (o : Original) (w : Program) (a : Actor) (used rest : List Outcome) → StandsIn o w → May o → All OutcomeFits used → met a ≡ used → length used ≡ new_calls a.notes
      → HeldStory w (used ++ rest) a.notes → RunsAsFar Ord o w a → Told o used a.notes
  told_as_far o w a used rest st may fits is_met len held (to_its_end ord) = story_told o w used rest a.notes st may fits (subst (Ord o) is_met ord) len held
  told_as_far o w a used rest st may fits is_met len held (to_its_receive n more le e cut ord) =
      cuts o w used a.notes more n st may fits le (subst (Ord (within n o)) is_met ord) (ap (protocol_story (with_steps n w)) (sym is_met) ∙ e) cut

  starting : (o : Original) (w : Program) (a : Actor) → StandsIn o w → May o → StartsHeld w a → Met a → RunsAsFar Ord o w a → Starting o w a
  starting o w a st may held meets ord =
      let same_answers : a.answers ≡ o.program.answers = held.starts.answers ∙ ap (answers_from w.answers) st.start ∙ st.answers in
      let fit : AnswersFit a.answers = subst AnswersFit (sym same_answers) (plain o may).answers in
      let t = meets.2 in
      let used : List Outcome = t.0 in
      let rest : List Outcome = meets.0 in
      let os : a.outcomes ≡ used ++ rest = t.1 in
      let len : length used ≡ new_calls a.notes = t.2 in
      let in_range = t.3 fit in
      let is_met : met a ≡ used = ap (take (new_calls a.notes)) os ∙ take_first used rest (new_calls a.notes) len in
      let r = told_as_far o w a used rest st may in_range.0 is_met len (subst (λ (xs : List Outcome). HeldStory w xs a.notes) os held.story) ord in
      let least = (plain o may).least in
      let seen : AllSeen w.looks r.0 a.notes =
      subst (λ (ls : List Look). AllSeen ls r.0 a.notes) (sym st.looks)
      (seen_by (global_space o.program.source) o.program.plan.area (omega (arith, least)) o.program.looks (plain o may).looks r.0 a.notes r.2) in
      let parts = st.rewrites in (
        record { due = 0; notes = r.0; outcomes = used; answers = o.program.answers; parked = None },
        record {
          origin = st.original_start;
          starts = record { due = ap due_from (sym st.original_start); answers = ap (answers_from o.program.answers) (sym st.original_start); parked = refl };
          story = r.1;
        },
        record {
          calls = record { imports = parts.parts.imports; binds = st.binds };
          looks = st.looks;
          due = sym (held.starts.due ∙ ap due_from st.start);
          answers = sym same_answers;
          notes = seen;
          rest = rest;
          outcomes = os;
          count = len;
          parked = subst (SameParked w.looks None) (sym held.starts.parked) tt;
        },
      )

  all_starting : (os : List Original) (ws : List Program) (acts : List Actor) → AllZip StandsIn os ws → All May os → AllZip StartsHeld ws acts → EachMet acts
      → AllRunAsFar Ord os ws acts → (bs : List Actor) × AllZip StartsOriginal os bs × Rows os ws acts bs
  all_starting [] [] [] st may held meets ord = ([], tt, no_rows)
  all_starting (o ∷ os) (w ∷ ws) (a ∷ acts) st may held meets ord =
      let one = starting o w a st.0 (All-head May o os may) held.0 (meets 0 a refl) (ord 0 o w a refl refl refl) in
      let on = all_starting os ws acts st.1 (All-tail May o os may) held.1 (λ i. meets (suc i)) (λ i. ord (suc i)) in
      (one.0 ∷ on.0, (one.1, on.1), one_more_row o os w ws a acts one.0 on.0 one.2 on.2)
  all_starting [] (w ∷ ws) acts st may held meets ord = absurd st
  all_starting (o ∷ os) [] acts st may held meets ord = absurd st
  all_starting [] [] (a ∷ acts) st may held meets ord = absurd held
  all_starting (o ∷ os) (w ∷ ws) [] st may held meets ord = absurd held

  pub worlds_by : (originals : List Original) (programs : List Program) (detaches : List Detach) (boxes : List (List ℕ)) (ds ds' : List Device) (lines : List Line)
      → AllZip StandsIn originals programs → All May originals → (world : ProtocolWorld programs detaches boxes ds lines ds')
      → AllRunAsFar Ord originals programs world.actors → BlockingWorld originals detaches boxes ds lines ds'
  worlds_by os ws detaches boxes ds ds' lines st may world ord =
      let meets = events_met ws detaches 1 world.actors (sharing boxes ds) lines world.runs.last world.runs.shared world.runs.events world.runs.over in
      let s = all_starting os ws world.actors st may world.starts meets ord in
      let e = events_beside os ws detaches 1 world.actors s.0 (sharing boxes ds) lines world.runs.last world.runs.shared s.2 world.runs.events in
      record {
        actors = s.0;
        starts = s.1;
        runs = record { last = e.0; shared = world.runs.shared; events = e.1; over = over_beside os ws world.runs.last e.0 e.2 world.runs.over; devices = world.runs.devices };
        ends = ends;
      }
    where
      ends : (i : ℕ) (p : Program) → slice_get (map (λ (o : Original). o.program) os) i ≡ Some p → begins_over p ≡ false → tells_end i lines ≡ true
      ends i p ep going =
          let o = of_map (λ (o : Original). o.program) os i p ep in
          let w = zip_at StandsIn os ws st i o.0 o.1 in
          let stands : StandsIn o.0 w.0 = w.2 in
          world.ends i w.0 w.1 (ap (over_at w.0.plan.entries) stands.start)

pub told_plainly : (o : Original) → MayRun o → Plain o
told_plainly o may = let area = may.fits.area in record { least = area.least; answers = may.answers; looks = may.looks }

pub mail_worlds_of_originals : MailWorldsOfOriginals
mail_worlds_of_originals = worlds_by MayRun Orderly told_plainly stories_of_originals cut_stories

pub untold_plainly : (o : Original) → MayRunUntold o → Plain o
untold_plainly o may = let area = may.fits.area in record { least = area.least; answers = may.answers; looks = may.looks }

pub mail_worlds_untold : MailWorldsUntold
mail_worlds_untold = worlds_by MayRunUntold OrderlyUntold untold_plainly stories_untold cut_untold
