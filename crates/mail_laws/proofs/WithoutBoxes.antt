-- Without mailboxes the events are those of the world of `world_model`, and those of that world are such.
use Rattle.std.proofs.Common.{◌≡◌, ◌+◌, ◌≤◌, ◌<◌, ◌⊎◌, ℕ, zero, suc, List, [], ◌∷◌, map, Option, Some, None, All, refl, sym, ap, ◌∙◌, subst, slice_get, slice_set}
use Rattle.std.specs.List.{find}
use Rattle.std.specs.Option.{unwrap_or}
use Rattle.wa_types.specs.declared.values.Value.{Value}
use Rattle.wa_model.specs.declared.answers.Detach.{Detach}
use Rattle.wa_model.specs.Outside.{AnswerLine, Call, Line}
use Rattle.wa_model.specs.Plan.{Outcome}
use Rattle.wa_model.specs.Blocking.{Note}
use Rattle.world_model.specs.World.{Actor as Unboxed, CallsMeet as UnboxedCalls, HasNotes as UnboxedNotes, IsNext as UnboxedNext, Meets as UnboxedMeets, MeetsBound as UnboxedBound, NoteMeets as UnboxedNote}
use Rattle.world_model.specs.World.{Plays as UnboxedPlays, an_event as then_unboxed, no_event as none_unboxed}
use Rattle.world_model.specs.World.{Device, MeetsDevice, Program, base_names, behind_turn, call_in, detached, name_at, put_off, turn_of}
use Rattle.world_laws.proofs.Places.{all_at, map_at, of_map}
use Rattle.mail_laws.specs.Mailboxes.{CallsMeet, Mailbox, Meets, MeetsBound, MeetsNamed, Midst, NoteMeets, Receive, Shared, is_box}
use Rattle.mail_laws.specs.MailWorld.{Actor, HasNotes, IsNext, IsReady, TakesTurn, a_turn, an_event, begun_event, no_event, parked_at, parks, store_behind, turn_lines, wake, with_waiting}
use Rattle.mail_laws.specs.WithoutBoxes.{EventsAreUnboxed, IsAwake, UnboxedEventsAre, bare, boxed, unboxed}
use Rattle.mail_laws.proofs.NoneWaits.{NoMail, calls_none, meets_none, none_parks, none_waits}

map_set : {X Y : Type 0} (f : X → Y) (xs : List X) (i : ℕ) (x : X) → map f (slice_set xs i x) ≡ slice_set (map f xs) i (f x)
map_set f [] i x = refl
map_set f (y ∷ xs) zero x = refl
map_set {Y = Y} f (y ∷ xs) (suc i) x = ap (λ (ys : List Y). f y ∷ ys) (map_set f xs i x)

-- ---- calls

-- these devices alone, in the midst of an event
abbrev mid : List Device → Midst
mid ds = record { devices = ds; boxes = []; settled = []; receive = None }

meets_here : (w : Program) (import : ℕ) (args : List Value) (lines : List AnswerLine) (ds : List Device) (o : Outcome) (lines' : List AnswerLine) (ds' : List Device)
    → UnboxedMeets w import args lines ds o lines' ds' → Meets w import args lines (mid ds) o lines' (mid ds')
meets_here w import args lines ds o lines' ds' = by_bound (unwrap_or (slice_get w.binds import) None)
  where
    by_bound : (b : Option (List ℕ)) → UnboxedBound w.source import args b lines ds o lines' ds' → MeetsBound w.source import args b lines (mid ds) o lines' (mid ds')
    by_bound None g = (g.0, ap mid g.1)
    by_bound (Some name) g = ((ds', g.0, refl), g.1)

calls_here : (w : Program) (xs : List Note) (os : List Outcome) (lines : List AnswerLine) (ds : List Device) (os' : List Outcome) (lines' : List AnswerLine) (ds' : List Device)
    → UnboxedCalls w xs os lines ds os' lines' ds' → CallsMeet w xs os lines (mid ds) os' lines' (mid ds')
calls_here w [] os lines ds os' lines' ds' g = (g.0, g.1, ap mid g.2)
calls_here w (x ∷ xs) os lines ds os' lines' ds' g = by_call (λ o l d h. calls_here w xs o l d os' lines' ds' h) (call_in x.event) g
  where
    by_call : ((o : List Outcome) (l : List AnswerLine) (d : List Device) → UnboxedCalls w xs o l d os' lines' ds' → CallsMeet w xs o l (mid d) os' lines' (mid ds'))
        → (c : Option Call) → UnboxedNote w c os lines ds (λ o l d. UnboxedCalls w xs o l d os' lines' ds') → NoteMeets w c os lines (mid ds) (λ o l z. CallsMeet w xs o l z os' lines' (mid ds'))
    by_call on None h = on os lines ds h
    by_call on (Some c) h = (h.0, h.1, h.2, mid h.3, h.4, meets_here w c.import c.args lines ds h.0 h.2 h.3 h.5, on h.1 h.2 h.3 h.6)

abbrev devices_of : Midst → List Device
devices_of z = z.devices

meets_back : (w : Program) (import : ℕ) (args : List Value) (lines : List AnswerLine) (z : Midst) (o : Outcome) (lines' : List AnswerLine) (z' : Midst) → NoMail z
    → Meets w import args lines z o lines' z' → UnboxedMeets w import args lines z.devices o lines' z'.devices
meets_back w import args lines z o lines' z' pl = by_bound (unwrap_or (slice_get w.binds import) None)
  where
    named : (name : List ℕ) (b : Option Mailbox) → b ≡ None → MeetsNamed import (name_at (base_names w.source) import) name args b z o z'
        → MeetsDevice import (name_at (base_names w.source) import) name args z.devices o z'.devices
    named name None e g = subst (λ (ds : List Device). MeetsDevice import (name_at (base_names w.source) import) name args z.devices o ds) (sym (ap devices_of g.2)) g.1
    named name (Some b) e g = cc

    by_bound : (b : Option (List ℕ)) → MeetsBound w.source import args b lines z o lines' z' → UnboxedBound w.source import args b lines z.devices o lines' z'.devices
    by_bound None g = (g.0, ap devices_of g.1)
    by_bound (Some name) g = (named name (find (is_box name) z.boxes) (ap (λ (bs : List Mailbox). find (is_box name) bs) pl.boxes) g.0, g.1)

calls_back : (w : Program) (xs : List Note) (os : List Outcome) (lines : List AnswerLine) (z : Midst) (os' : List Outcome) (lines' : List AnswerLine) (z' : Midst) → NoMail z
    → CallsMeet w xs os lines z os' lines' z' → UnboxedCalls w xs os lines z.devices os' lines' z'.devices
calls_back w [] os lines z os' lines' z' pl g = (g.0, g.1, ap devices_of g.2)
calls_back w (x ∷ xs) os lines z os' lines' z' pl g = by_call (λ o l y p h. calls_back w xs o l y os' lines' z' p h) (call_in x.event) g
  where
    by_call : ((o : List Outcome) (l : List AnswerLine) (y : Midst) → NoMail y → CallsMeet w xs o l y os' lines' z' → UnboxedCalls w xs o l y.devices os' lines' z'.devices)
        → (c : Option Call) → NoteMeets w c os lines z (λ o l y. CallsMeet w xs o l y os' lines' z') → UnboxedNote w c os lines z.devices (λ o l d. UnboxedCalls w xs o l d os' lines' z'.devices)
    by_call on None h = on os lines z pl h
    by_call on (Some c) h =
        (h.0, h.1, h.2, h.3.devices, h.4, meets_back w c.import c.args lines z h.0 h.2 h.3 pl h.5, on h.1 h.2 h.3 (meets_none w c.import c.args lines z h.0 h.2 h.3 pl h.5) h.6)

-- ---- whose turn it is

next_here : (actors : List Unboxed) (i : ℕ) (a : Unboxed) → UnboxedNext actors i a → IsNext (map boxed actors) i (boxed a)
next_here actors i a n = record { there = map_at boxed actors i a n.there; ready = record { unfinished = n.unfinished; awake = refl }; least = least }
  where
    least : (j : ℕ) (b : Actor) → slice_get (map boxed actors) j ≡ Some b → IsReady b → (a.due < b.due) ⊎ ((a.due ≡ b.due) × (i ≤ j))
    least j b e r =
        let c = of_map boxed actors j b e in
        subst (λ (x : Actor). (a.due < x.due) ⊎ ((a.due ≡ x.due) × (i ≤ j))) c.2 (n.least j c.0 c.1 (subst HasNotes (sym c.2) r.unfinished))

next_back : (actors : List Actor) (i : ℕ) (a : Actor) → All IsAwake actors → IsNext actors i a → UnboxedNext (map unboxed actors) i (unboxed a)
next_back actors i a awake n = record { there = map_at unboxed actors i a n.there; unfinished = n.ready.unfinished; least = least }
  where
    least : (j : ℕ) (b : Unboxed) → slice_get (map unboxed actors) j ≡ Some b → UnboxedNotes b → (a.due < b.due) ⊎ ((a.due ≡ b.due) × (i ≤ j))
    least j b e has =
        let c = of_map unboxed actors j b e in
        let ready : IsReady c.0 = record { unfinished = subst UnboxedNotes (sym c.2) has; awake = all_at IsAwake actors j c.0 awake c.1 } in
        subst (λ (x : Unboxed). (a.due < x.due) ⊎ ((a.due ≡ x.due) × (i ≤ j))) c.2 (n.least j c.0 c.1 ready)

-- ---- turns

module _ (ws : List Program) (detaches : List Detach) (number : ℕ) where
  turn_here : (actors actors' : List Unboxed) (ds ds' : List Device) (lines : List Line) (tick : ℕ) → (p : UnboxedPlays ws detaches number actors ds lines actors' ds')
      → TakesTurn ws detaches number (map boxed actors) (bare tick ds) lines (map boxed actors') (bare p.a.due ds')
  turn_here actors actors' ds ds' lines tick p = record {
    i = p.i;
    a = boxed p.a;
    w = p.w;
    next = next_here actors p.i p.a p.next;
    program = p.program;
    outcomes = p.outcomes;
    answers = p.answers;
    behind = mid ds';
    calls = calls_here p.w (turn_of p.a.notes) p.a.outcomes p.a.answers (detached number detaches ds) p.outcomes p.answers ds' p.calls;
    made = p.made ∙ ap (turn_lines p.i p.w (boxed p.a)) (sym parking);
    after = ap (map boxed) p.after ∙ map_set boxed actors p.i new ∙ (λ k. slice_set (map boxed actors) p.i (record {
      due = p.a.due + put_off (turn_of p.a.notes);
      notes = behind_turn p.a.notes;
      outcomes = p.outcomes;
      answers = p.answers;
      parked = parked_at (store_behind (turn_of p.a.notes)) (sym parking k);
    }));
    shared = λ k. record { devices = ds'; boxes = with_waiting p.i (sym parking k) []; tick = p.a.due };
  }
    where
      none : Option Receive
      none = None

      parking : parks (turn_of p.a.notes) none ≡ None
      parking = none_parks (turn_of p.a.notes) None refl

      new : Unboxed
      new = record { due = p.a.due + put_off (turn_of p.a.notes); notes = behind_turn p.a.notes; outcomes = p.outcomes; answers = p.answers }

  turn_back : (actors actors' : List Actor) (sh sh' : Shared) (lines : List Line) → sh.boxes ≡ [] → All IsAwake actors → TakesTurn ws detaches number actors sh lines actors' sh'
      → UnboxedPlays ws detaches number (map unboxed actors) sh.devices lines (map unboxed actors') sh'.devices
  turn_back actors actors' sh sh' lines none awake t = record {
    i = t.i;
    a = unboxed t.a;
    w = t.w;
    next = next_back actors t.i t.a awake t.next;
    program = t.program;
    outcomes = t.outcomes;
    answers = t.answers;
    calls =
        subst (λ (ds : List Device). UnboxedCalls t.w (turn_of t.a.notes) t.a.outcomes t.a.answers (detached number detaches sh.devices) t.outcomes t.answers ds)
        (sym (ap (λ (z : Shared). z.devices) t.shared))
        (calls_back t.w (turn_of t.a.notes) t.a.outcomes t.a.answers (begun_event number detaches sh) t.outcomes t.answers t.behind begun t.calls);
    made = t.made ∙ ap (turn_lines t.i t.w t.a) (none_parks (turn_of t.a.notes) t.behind.receive behind.receive);
    after = ap (map unboxed) (t.after ∙ ap (λ (is : List ℕ). wake (suc t.a.due) is (slice_set actors t.i new)) behind.settled) ∙ map_set unboxed actors t.i new;
  }
    where
      begun : NoMail (begun_event number detaches sh)
      begun = record { boxes = none; settled = refl; receive = refl }

      behind : NoMail t.behind
      behind = calls_none t.w (turn_of t.a.notes) t.a.outcomes t.a.answers (begun_event number detaches sh) t.outcomes t.answers t.behind begun t.calls

      new : Actor
      new = record {
        due = t.a.due + put_off (turn_of t.a.notes);
        notes = behind_turn t.a.notes;
        outcomes = t.outcomes;
        answers = t.answers;
        parked = parked_at (store_behind (turn_of t.a.notes)) (parks (turn_of t.a.notes) t.behind.receive);
      }

-- ---- events

pub unboxed_events_are : UnboxedEventsAre
unboxed_events_are ws detaches number tick actors last ds ds' lines none_unboxed = (tick, no_event)
unboxed_events_are ws detaches number tick actors last ds ds' lines (then_unboxed {actors' = next} {ds' = es} {lines = first} {more = more} play rest e) =
    let on = unboxed_events_are ws detaches (suc number) play.a.due next last es ds' more rest in
    (on.0, an_event (a_turn (turn_here ws detaches number actors next ds es first tick play)) on.1 e)

pub events_are_unboxed : EventsAreUnboxed
events_are_unboxed ws detaches number actors last sh sh' lines none awake no_event = (none_unboxed, none, awake)
events_are_unboxed ws detaches number actors last sh sh' lines none awake (an_event {actors' = next} {sh' = z} {lines = first} {more = more} play rest e) =
    let t = none_waits ws detaches number actors next sh z first none awake play in
    let on = events_are_unboxed ws detaches (suc number) next last z sh' more t.1 t.2 rest in
    (then_unboxed (turn_back ws detaches number actors next sh z first none awake t.0) on.0 e, on.1, on.2)
