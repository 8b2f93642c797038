-- No rewritten module that runs orderly breaks the protocol.
use Rattle.std.proofs.Common.{arith, ◌≡◌, ◌≤◌, ◌+◌, ℕ, suc, List, [], ◌∷◌, ◌++◌, length, take, map, Option, Some, None, Bool, true, false, All, refl, sym, ap, ◌∙◌, subst}
use Rattle.std.specs.Prelude.{nat_lt, if◌then◌else◌}
use Rattle.std.specs.List.{AllZip}
use Rattle.std.proofs.lemmas.List.Elements.{All-nil, All-cons, All-head, All-tail, All-append, All-take, All-weaker}
use Rattle.wa_types.specs.Syntax.{Module}
use Rattle.wa_types.specs.Pausing.{Settings}
use Rattle.wa_types.specs.Frames.{Suspended, Room, Fit}
use Rattle.wa_types.specs.Runtime.{global_space}
use Rattle.wa_model.specs.declared.answers.Area.{Area}
use Rattle.wa_model.specs.declared.answers.Detach.{Detach}
use Rattle.wa_model.specs.declared.events.End.{End}
use Rattle.wa_model.specs.declared.events.End.TheVariants.{RewindTrap, Broken, StepsSpent}
use Rattle.wa_model.specs.Outside.{Event, called, answered, paused, parked, returned, ended, shown as was_shown, Line}
use Rattle.wa_model.specs.Store.{Store}
use Rattle.wa_model.specs.Plan.{Plan, Outcome, OutcomeFits}
use Rattle.wa_model.specs.Blocking.{Note, note, Blocking}
use Rattle.wa_model.specs.Expected.{pause_note, trap_note}
use Rattle.run_theory.specs.Shown.{shown_within_at as shown_at, shown_within as shown}
use Rattle.wa_model.specs.Behaves.{expected_notes}
use Rattle.world_model.specs.World.{Device, Look, Program, answers_from, bytes_shown, put_off, turn_of, behind_turn, protocol_story, BlockingStory, whole, spent, looks_after, look_events, events_with_looks, line_at, Actor, Events, no_event, an_event, StartsHeld, Original}
use Rattle.run_laws.proofs.OwnEnds.{Own, blocking_own, ends_hosts, is_hosts}
use Rattle.world_laws.specs.Originals.{StandsIn, MayRun, new_calls, met, Orderly, SameMoment}
use Rattle.world_laws.proofs.Meeting.{AnswersFit, Met, EachMet, events_met}
use Rattle.world_laws.proofs.Stories.{stories_of_originals}
use Rattle.world_laws.proofs.Tails.{story_tailed}
use Rattle.world_laws.proofs.Worlds.{take_first}
use Rattle.world_laws.specs.Bounded.{is_astray, ends_astray, NoneAstray}
use Rattle.world_laws.proofs.Places.{each_at, each_set}
use Rattle.world_laws.proofs.Turns.{turn_parts}
use Rattle.run_theory.specs.Growth.{Each}

abbrev pub Right : Note → Type 0
Right x = ends_astray x.event ≡ false

-- ---- runs

no_notes : All Right []
no_notes = All-nil Right

one_note : (x : Note) → Right x → All Right (x ∷ [])
one_note x h = All-cons Right x [] h no_notes

two_notes : (x y : Note) → Right x → Right y → All Right (x ∷ y ∷ [])
two_notes x y h k = All-cons Right x (y ∷ []) h (one_note y k)

-- an end that a host doesn't make isn't astray
own_end : (e : End) → is_hosts e ≡ false → is_astray e ≡ false
own_end (RewindTrap trap) h = cc
own_end (Broken rule) h = cc
own_end _ h = refl

own_event : (e : Event) → ends_hosts e ≡ false → ends_astray e ≡ false
own_event (ended how) h = own_end how h
own_event _ h = refl

blocking_right : (m : Module) (plan : Plan) (os : List Outcome) (n : ℕ) → All OutcomeFits os → All Right (Blocking m plan os n).events
blocking_right m plan os n h = All-weaker Own Right (λ x k. own_event x.event k) (Blocking m plan os n).events (blocking_own m plan os n h)

-- ---- stories

module _ (room fit : List Suspended → ℕ) (len : ℕ) where
  shown_right : (es : List Note) → All Right es → All Right (shown room fit len es)
  shown_right [] h = no_notes
  shown_right (x ∷ es) h = by_pause x.pause (shown_right es (All-tail Right x es h))
    where
      here : Right x
      here = All-head Right x es h

      by_room : (ticks : ℕ) (b : Bool) → All Right (shown room fit len es)
          → All Right (x ∷ (if b then trap_note (fit x.stack) len x.store ∷ [] else pause_note ticks (room x.stack) x.store x.stack ∷ shown room fit len es))
      by_room ticks true g = two_notes x (trap_note (fit x.stack) len x.store) here refl
      by_room ticks false g =
          All-cons Right x (pause_note ticks (room x.stack) x.store x.stack ∷ shown room fit len es) here
          (All-cons Right (pause_note ticks (room x.stack) x.store x.stack) (shown room fit len es) refl g)

      by_pause : (o : Option ℕ) → All Right (shown room fit len es) → All Right (shown_at room fit len x o (shown room fit len es))
      by_pause None g = All-cons Right x (shown room fit len es) here g
      by_pause (Some ticks) g = by_room ticks (nat_lt len (room x.stack)) g

pub expected_right : (m : Module) (s : Settings) (plan : Plan) (os : List Outcome) (n : ℕ) → All OutcomeFits os → All Right (expected_notes m s plan os n)
expected_right m s plan os n h = shown_right (Room m s.policy) (λ stack. Fit m s.policy stack plan.area.len) plan.area.len (Blocking m plan os n).events (blocking_right m plan os n h)

pub story_right : (s : Settings) (w : Program) (os : List Outcome) (notes : List Note) → BlockingStory s w os notes → All OutcomeFits os → All Right notes
story_right s w os notes (whole x before ns e f g) h = subst (All Right) (sym e) (expected_right w.source s w.plan os w.steps h)
story_right s w os notes (spent j before ns at e f lives uncertain moment g) h =
    subst (All Right) (sym g)
    (All-append Right before (note (ended (StepsSpent w.steps)) at ∷ [])
    (subst (All Right) (sym e) (All-take Right j (expected_notes w.source s w.plan os w.steps) (expected_right w.source s w.plan os w.steps h)))
    (one_note (note (ended (StepsSpent w.steps)) at) refl))

pub beside_right : (globals : ℕ) (area : Area) (xs ys : List Note) → AllZip (SameMoment globals area) xs ys → All Right xs → All Right ys
beside_right globals area [] [] h k = no_notes
beside_right globals area [] (y ∷ ys) h k = absurd h
beside_right globals area (x ∷ xs) [] h k = absurd h
beside_right globals area (x ∷ xs) (y ∷ ys) h k =
    let e : SameMoment globals area x y = h.0 in
    All-cons Right y ys (ap ends_astray (sym e.event) ∙ All-head Right x xs k) (beside_right globals area xs ys h.1 (All-tail Right x xs k))

actor_right : (o : Original) (w : Program) (a : Actor) → StandsIn o w → MayRun o → StartsHeld w a → Met a → Orderly o (met a) → All Right a.notes
actor_right o w a st may held meets ord =
    let fit : AnswersFit a.answers = subst AnswersFit (sym (held.starts.answers ∙ ap (answers_from w.answers) st.start ∙ st.answers)) may.answers in
    let t = meets.2 in
    let used : List Outcome = t.0 in
    let rest : List Outcome = meets.0 in
    let in_range = t.3 fit in
    let is_met : met a ≡ used = ap (take (new_calls a.notes)) t.1 ∙ take_first used rest (new_calls a.notes) t.2 in
    let whole_story : a.notes ≡ protocol_story w (used ++ rest) = held.story ∙ ap (protocol_story w) t.1 in
    let few : new_calls (protocol_story w (used ++ rest)) ≤ length used = let e = ap new_calls whole_story in omega (arith, t.2, e) in
    let story : a.notes ≡ protocol_story w used = whole_story ∙ story_tailed w used rest few in
    let enough : new_calls (protocol_story w used) ≤ length used = let e = ap new_calls story in omega (arith, t.2, e) in
    let r = stories_of_originals o w used st may in_range.0 enough (subst (Orderly o) is_met ord) in
    subst (All Right) (sym story)
    (beside_right (global_space o.program.source) o.program.plan.area r.0 (protocol_story w used) r.2 (story_right o.settings o.program used r.0 r.1 in_range.0))

-- ---- lines

abbrev pub RightLine : Line → Type 0
RightLine l = ends_astray l.event ≡ false

abbrev pub RightEvent : Event → Type 0
RightEvent e = ends_astray e ≡ false

pub looks_right : (s : Store) (looks : List Look) → All RightEvent (look_events s looks)
looks_right s [] = All-nil RightEvent
looks_right s (l ∷ ls) = All-cons RightEvent (was_shown l.at (bytes_shown s.memory l)) (look_events s ls) refl (looks_right s ls)

after_right : (looks : List Look) (x : Note) (e : Event) → All RightEvent (looks_after looks x e)
after_right looks x (called c) = All-nil RightEvent
after_right looks x (answered v) = All-nil RightEvent
after_right looks x (paused t u) = All-nil RightEvent
after_right looks x (returned i v) = All-nil RightEvent
after_right looks x (ended how) = looks_right x.store looks
after_right looks x (parked used) = All-nil RightEvent
after_right looks x (was_shown at bytes) = All-nil RightEvent

pub events_right : (looks : List Look) (xs : List Note) → All Right xs → All RightEvent (events_with_looks looks xs)
events_right looks [] h = All-nil RightEvent
events_right looks (x ∷ xs) h =
    All-append RightEvent (x.event ∷ looks_after looks x x.event) (events_with_looks looks xs)
    (All-cons RightEvent x.event (looks_after looks x x.event) (All-head Right x xs h) (after_right looks x x.event)) (events_right looks xs (All-tail Right x xs h))

lines_right : (due number : ℕ) (es : List Event) → All RightEvent es → All RightLine (map (line_at due number) es)
lines_right due number [] h = All-nil RightLine
lines_right due number (e ∷ es) h = All-cons RightLine (line_at due number e) (map (line_at due number) es) (All-head RightEvent e es h) (lines_right due number es (All-tail RightEvent e es h))

pub front_right : (xs ys : List Note) → All Right (xs ++ ys) → All Right xs × All Right ys
front_right [] ys h = (no_notes, h)
front_right (x ∷ xs) ys h =
    let r = front_right xs ys (All-tail Right x (xs ++ ys) h) in
    (All-cons Right x xs (All-head Right x (xs ++ ys) h) r.0, r.1)

abbrev RightActor : Actor → Type 0
RightActor a = All Right a.notes

run_right : (ws : List Program) (detaches : List Detach) (number : ℕ) (acts last : List Actor) (ds ds' : List Device) (lines : List Line) → Events ws detaches number acts ds lines last ds'
    → Each RightActor acts → All RightLine lines
run_right ws detaches number acts last ds ds' lines no_event h = All-nil RightLine
run_right ws detaches number acts last ds ds' lines (an_event {actors' = mid} {ds' = es} {lines = first} {more = more} play rest e) h =
    let here : All Right play.a.notes = each_at RightActor acts play.i play.a h play.next.there in
    let parts = front_right (turn_of play.a.notes) (behind_turn play.a.notes) (subst (All Right) (sym (turn_parts play.a.notes)) here) in
    let told : All RightLine first = subst (All RightLine) (sym play.made)
    (lines_right play.a.due play.i (events_with_looks play.w.looks (turn_of play.a.notes)) (events_right play.w.looks (turn_of play.a.notes) parts.0)) in
    let on : Each RightActor mid = subst (Each RightActor) (sym play.after)
    (each_set RightActor acts play.i (record { due = play.a.due + put_off (turn_of play.a.notes); notes = behind_turn play.a.notes; outcomes = play.outcomes; answers = play.answers }) h parts.1) in
    subst (All RightLine) (sym e) (All-append RightLine first more told (run_right ws detaches (suc number) mid last es ds' more rest on))

all_right : (os : List Original) (ws : List Program) (acts : List Actor) → AllZip StandsIn os ws → All MayRun os → AllZip StartsHeld ws acts → EachMet acts
    → AllZip (λ (o : Original) (a : Actor). Orderly o (met a)) os acts → Each RightActor acts
all_right [] [] [] st may held meets ord = tt
all_right (o ∷ os) (w ∷ ws) (a ∷ acts) st may held meets ord =
    (actor_right o w a st.0 (All-head MayRun o os may) held.0 meets.0 ord.0, all_right os ws acts st.1 (All-tail MayRun o os may) held.1 meets.1 ord.1)
all_right [] (w ∷ ws) acts st may held meets ord = absurd st
all_right (o ∷ os) [] acts st may held meets ord = absurd st
all_right [] [] (a ∷ acts) st may held meets ord = absurd held
all_right (o ∷ os) (w ∷ ws) [] st may held meets ord = absurd held

pub none_astray : NoneAstray
none_astray os ws detaches ds ds' lines st may world ord =
    let meets = events_met ws detaches 1 world.actors ds lines world.last ds' world.events world.over in
    run_right ws detaches 1 world.actors world.last ds ds' lines world.events (all_right os ws world.actors st may world.starts meets ord)
