-- No rewritten module that runs orderly as far as is asked breaks the protocol.
use Rattle.std.proofs.Common.{◌≡◌, ◌≤◌, ℕ, suc, List, [], ◌∷◌, ◌++◌, length, take, map, Option, Some, None, true, false, All, slice_get, slice_set, refl, sym, ap, ◌∙◌, subst}
use Rattle.std.specs.List.{AllZip}
use Rattle.std.specs.Option.{unwrap_or}
use Rattle.std.proofs.lemmas.List.Elements.{All-nil, All-cons, All-head, All-tail, All-append}
use Rattle.wa_types.specs.Runtime.{global_space}
use Rattle.wa_types.specs.Pausing.{Settings}
use Rattle.wa_model.specs.declared.answers.Detach.{Detach}
use Rattle.wa_model.specs.declared.events.End.TheVariants.{Stalled}
use Rattle.wa_model.specs.Outside.{Event, Line, answered, called, ended, parked, paused, returned, shown}
use Rattle.wa_model.specs.Plan.{Outcome, OutcomeFits}
use Rattle.wa_model.specs.Blocking.{Note}
use Rattle.world_model.specs.World.{BlockingStory, Device, Original, Program, answers_from, behind_turn, events_with_looks, line_at, look_events, protocol_story, turn_of}
use Rattle.run_theory.specs.Growth.{Each}
use Rattle.world_laws.specs.Originals.{MayRun, Orderly, SameMoment, StandsIn, new_calls}
use Rattle.world_laws.specs.UntoldWorlds.{MayRunUntold, OrderlyUntold}
use Rattle.world_laws.specs.Bounded.{ends_astray}
use Rattle.world_laws.proofs.Astray.{Right, RightEvent, RightLine, beside_right, events_right, expected_right, front_right, looks_right, story_right}
use Rattle.world_laws.proofs.Meeting.{AnswersFit}
use Rattle.world_laws.proofs.Places.{each_at, each_set}
use Rattle.world_laws.proofs.Stories.{stories_of_originals}
use Rattle.world_laws.proofs.Turns.{turn_parts}
use Rattle.world_laws.proofs.Untold.{stories_untold}
use Rattle.world_laws.proofs.Worlds.{Plain, take_first}
use Rattle.mail_laws.specs.MailWorld.{Actor, Events, HeldStory, Plays, ProtocolWorld, StartsHeld, StoryOrCut, a_stall, a_turn, an_event, no_event, nobody, parks, pauses, sharing, told_pause, unblocked, waits, wake, woken}
use Rattle.mail_laws.specs.Mailboxes.{Receive, Shared}
use Rattle.mail_laws.specs.MailOriginals.{AllRunAsFar, RunsAsFar, met, with_steps, within}
use Rattle.mail_laws.specs.Astray.{NoneAstray, NoneAstrayUntold}
use Rattle.mail_laws.proofs.CallsInRange.{EachMet, Met, events_met}
use Rattle.mail_laws.proofs.CutStories.{Told, cut_stories, cut_untold}
use Rattle.mail_laws.proofs.MailOriginals.{told_as_far, told_plainly, untold_plainly}

-- ---- stories

cut_right : (s : Settings) (w : Program) (os : List Outcome) (notes : List Note) → StoryOrCut s w os notes → All OutcomeFits os → All Right notes
cut_right s w os notes (unblocked story) h = story_right s w os notes story h
cut_right s w os notes (waits cost rest le e p) h = (front_right notes rest (subst (All Right) e (expected_right w.source s w.plan os cost h))).0

told_right : (o : Original) (os : List Outcome) (notes : List Note) → Told o os notes → All OutcomeFits os → All Right notes
told_right o os notes t h =
    beside_right (global_space o.program.source) o.program.plan.area t.0 notes t.2 (cut_right o.settings o.program os t.0 t.1 h)

-- ---- lines

-- a pause that parks is no end
told_as_right : (p : Option Receive) (e : Event) → RightEvent e → RightEvent (told_pause p e)
told_as_right None e h = h
told_as_right (Some r) (paused t u) h = refl
told_as_right (Some r) (ended how) h = h
told_as_right (Some r) (called c) h = h
told_as_right (Some r) (answered c) h = h
told_as_right (Some r) (parked u) h = h
told_as_right (Some r) (returned i v) h = h
told_as_right (Some r) (shown i v) h = h

lines_right : (due number : ℕ) (p : Option Receive) (es : List Event) → All RightEvent es → All RightLine (map (λ (e : Event). line_at due number (told_pause p e)) es)
lines_right due number p [] h = All-nil RightLine
lines_right due number p (e ∷ es) h =
    All-cons RightLine (line_at due number (told_pause p e)) (map (λ (v : Event). line_at due number (told_pause p v)) es) (told_as_right p e (All-head RightEvent e es h))
    (lines_right due number p es (All-tail RightEvent e es h))

-- ---- events

abbrev RightActor : Actor → Type 0
RightActor a = All Right a.notes

wake_right : (due : ℕ) (is : List ℕ) (acts : List Actor) → Each RightActor acts → Each RightActor (wake due is acts)
wake_right due [] acts h = h
wake_right due (i ∷ is) acts h =
    let one : Actor = woken due (unwrap_or (slice_get acts i) nobody) in
    wake_right due is (slice_set acts i one) (each_set RightActor acts i one h (by (slice_get acts i) refl))
  where
    by : (o : Option Actor) → slice_get acts i ≡ o → RightActor (woken due (unwrap_or o nobody))
    by None e = All-nil Right
    by (Some a) e = each_at RightActor acts i a h e

module _ (ws : List Program) (detaches : List Detach) where
  event_right : (number : ℕ) (acts acts' : List Actor) (sh sh' : Shared) (lines : List Line) → Plays ws detaches number acts sh lines acts' sh' → Each RightActor acts
      → All RightLine lines × Each RightActor acts'
  event_right number acts acts' sh sh' lines (a_turn t) h =
      let here : All Right t.a.notes = each_at RightActor acts t.i t.a h t.next.there in
      let parts = front_right (turn_of t.a.notes) (behind_turn t.a.notes) (subst (All Right) (sym (turn_parts t.a.notes)) here) in (
        subst (All RightLine) (sym t.made)
            (lines_right t.a.due t.i (parks (turn_of t.a.notes) t.behind.receive) (events_with_looks t.w.looks (turn_of t.a.notes)) (events_right t.w.looks (turn_of t.a.notes) parts.0)),
        subst (Each RightActor) (sym t.after) (wake_right (suc t.a.due) t.behind.settled (slice_set acts t.i _) (each_set RightActor acts t.i _ h parts.1)),
      )
  event_right number acts acts' sh sh' lines (a_stall s) h = (
    subst (All RightLine) (sym s.made) (stalled (ended (Stalled s.at.import) ∷ look_events s.at.store s.w.looks)
        (All-cons RightEvent (ended (Stalled s.at.import)) (look_events s.at.store s.w.looks) refl (looks_right s.at.store s.w.looks))),
    subst (Each RightActor) (sym s.after) (each_set RightActor acts s.i (record s.a { parked = None }) h (each_at RightActor acts s.i s.a h s.there)),
  )
    where
      stalled : (es : List Event) → All RightEvent es → All RightLine (map (line_at sh.tick s.i) es)
      stalled es k = lines_right sh.tick s.i None es k

  run_right : (number : ℕ) (acts last : List Actor) (sh end : Shared) (lines : List Line) → Events ws detaches number acts sh lines last end → Each RightActor acts → All RightLine lines
  run_right number acts last sh end lines no_event h = All-nil RightLine
  run_right number acts last sh end lines (an_event {actors' = mid} {sh' = z} {lines = first} {more = more} play rest e) h =
      let one = event_right number acts mid sh z first play h in
      subst (All RightLine) (sym e) (All-append RightLine first more one.0 (run_right (suc number) mid last z end more rest one.1))

-- ---- worlds, as those of `MailOriginals`

module _ (May : Original → Type 0) (Ord : Original → List Outcome → Type 0) (plain : (o : Original) → May o → Plain o)
    (stories : (o : Original) (w : Program) (os : List Outcome) → StandsIn o w → May o → All OutcomeFits os → new_calls (protocol_story w os) ≤ length os → Ord o os
    → (notes : List Note) × BlockingStory o.settings o.program os notes × AllZip (SameMoment (global_space o.program.source) o.program.plan.area) notes (protocol_story w os))
    (cuts : (o : Original) (w : Program) (os : List Outcome) (notes rest : List Note) (n : ℕ) → StandsIn o w → May o → All OutcomeFits os → n ≤ o.program.steps
    → Ord (within n o) os → protocol_story (with_steps n w) os ≡ notes ++ rest → pauses notes ≡ true → Told o os notes) where
  actor_right : (o : Original) (w : Program) (a : Actor) → StandsIn o w → May o → StartsHeld w a → Met a → RunsAsFar Ord o w a → RightActor a
  actor_right o w a st may held meets ord =
      let same_answers : a.answers ≡ o.program.answers = held.starts.answers ∙ ap (answers_from w.answers) st.start ∙ st.answers in
      let fit : AnswersFit a.answers = subst AnswersFit (sym same_answers) (plain o may).answers in
      let t = meets.2 in
      let in_range = t.3 fit in
      let is_met : met a ≡ t.0 = ap (take (new_calls a.notes)) t.1 ∙ take_first t.0 meets.0 (new_calls a.notes) t.2 in
      told_right o t.0 a.notes
      (told_as_far May Ord plain stories cuts o w a t.0 meets.0 st may in_range.0 is_met t.2 (subst (λ (xs : List Outcome). HeldStory w xs a.notes) t.1 held.story) ord)
      in_range.0

  all_right : (os : List Original) (ws : List Program) (acts : List Actor) → AllZip StandsIn os ws → All May os → AllZip StartsHeld ws acts → EachMet acts
      → AllRunAsFar Ord os ws acts → Each RightActor acts
  all_right [] [] [] st may held meets ord = tt
  all_right (o ∷ os) (w ∷ ws) (a ∷ acts) st may held meets ord = (
    actor_right o w a st.0 (All-head May o os may) held.0 (meets 0 a refl) (ord 0 o w a refl refl refl),
    all_right os ws acts st.1 (All-tail May o os may) held.1 (λ i. meets (suc i)) (λ i. ord (suc i)),
  )
  all_right [] (w ∷ ws) acts st may held meets ord = absurd st
  all_right (o ∷ os) [] acts st may held meets ord = absurd st
  all_right [] [] (a ∷ acts) st may held meets ord = absurd held
  all_right (o ∷ os) (w ∷ ws) [] st may held meets ord = absurd held

  world_right : (os : List Original) (ws : List Program) (detaches : List Detach) (boxes : List (List ℕ)) (ds ds' : List Device) (lines : List Line)
      → AllZip StandsIn os ws → All May os → (world : ProtocolWorld ws detaches boxes ds lines ds') → AllRunAsFar Ord os ws world.actors → All (λ (l : Line). ends_astray l.event ≡ false) lines
  world_right os ws detaches boxes ds ds' lines st may world ord =
      let meets = events_met ws detaches 1 world.actors (sharing boxes ds) lines world.runs.last world.runs.shared world.runs.events world.runs.over in
      run_right ws detaches 1 world.actors world.runs.last (sharing boxes ds) world.runs.shared lines world.runs.events (all_right os ws world.actors st may world.starts meets ord)

pub none_astray : NoneAstray
none_astray = world_right MayRun Orderly told_plainly stories_of_originals cut_stories

pub none_astray_untold : NoneAstrayUntold
none_astray_untold = world_right MayRunUntold OrderlyUntold untold_plainly stories_untold cut_untold
