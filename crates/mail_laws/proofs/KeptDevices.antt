-- What becomes of devices along a run of a world with mailboxes.
use Rattle.std.proofs.Common.{◌≡◌, ℕ, zero, suc, List, [], ◌∷◌, length, map, Option, Some, None, refl, sym, ap, ◌∙◌, subst, slice_get}
use Rattle.std.specs.List.{find}
use Rattle.std.specs.Option.{unwrap_or}
use Rattle.wa_types.specs.declared.values.Value.{Value}
use Rattle.wa_types.specs.declared.values.Value.TheVariants as V
use Rattle.wa_model.specs.declared.answers.Detach.{Detach}
use Rattle.wa_model.specs.Outside.{AnswerLine, Call, Line}
use Rattle.wa_model.specs.Plan.{Outcome}
use Rattle.wa_model.specs.Blocking.{Note}
use Rattle.world_model.specs.World.{MeetsBound as UnboxedBound, Original, Program, base_names, call_in, detached, name_at, turn_of}
use Rattle.world_laws.specs.Kept.{Kept}
use Rattle.world_laws.proofs.KeptDevices.{Stay, all_kept, detached_kept, kept_on, meets_stay, stay_on, stay_same}
use Rattle.mail_laws.specs.Mailboxes.{CallsMeet, Mailbox, Meets, MeetsBound, MeetsBox, MeetsNamed, MeetsValues, Midst, NoteMeets, Shared, is_box}
use Rattle.mail_laws.specs.MailWorld.{Actor, Events, Plays, a_stall, a_turn, an_event, begun_event, no_event, sharing}
use Rattle.mail_laws.specs.Played.{Played}
use Rattle.mail_laws.specs.Kept.{DevicesKept, DevicesKeptBlocking, DevicesKeptUpTo, NoneTakenOut}

-- ---- one call

values_stay : (import : ℕ) (name vs : List ℕ) (z : Midst) (o : Outcome) (z' : Midst) → MeetsValues import name vs z o z' → z'.devices ≡ z.devices
values_stay import name [] z o z' h = ap (λ (y : Midst). y.devices) h.3
values_stay import name (v ∷ vs) z o z' h = ap (λ (y : Midst). y.devices) h.1

-- a call that a mailbox meets leaves the devices
pub box_stays : (import : ℕ) (name : List ℕ) (args : List Value) (b : Mailbox) (z : Midst) (o : Outcome) (z' : Midst) → MeetsBox import name args b z o z' → z'.devices ≡ z.devices
box_stays import name [] b z o z' h = values_stay import name b.values z o z' h
box_stays import name (V.I32 v ∷ []) b z o z' h = ap (λ (y : Midst). y.devices) h.2
box_stays import name (V.I32 v ∷ y ∷ ys) b z o z' h = ap (λ (y : Midst). y.devices) h.1
box_stays import name (V.I64 v ∷ ys) b z o z' h = ap (λ (y : Midst). y.devices) h.1

call_stays : (w : Program) (import : ℕ) (args : List Value) (lines : List AnswerLine) (z : Midst) (o : Outcome) (lines' : List AnswerLine) (z' : Midst)
    → Meets w import args lines z o lines' z' → Stay z.devices z'.devices
call_stays w import args lines z o lines' z' h = by_bound (unwrap_or (slice_get w.binds import) None) refl h
  where
    by_found : (name : List ℕ) → unwrap_or (slice_get w.binds import) None ≡ Some name → lines' ≡ lines → (found : Option Mailbox)
        → MeetsNamed import (name_at (base_names w.source) import) name args found z o z' → Stay z.devices z'.devices
    by_found name e same None g =
        subst (Stay z.devices) (sym (ap (λ (y : Midst). y.devices) g.2))
        (meets_stay w import args lines z.devices o lines' g.0
        (subst (λ (b : Option (List ℕ)). UnboxedBound w.source import args b lines z.devices o lines' g.0) (sym e) (g.1, same)))
    by_found name e same (Some b) g = stay_same z.devices z'.devices (box_stays import name args b z o z' g)

    by_bound : (b : Option (List ℕ)) → unwrap_or (slice_get w.binds import) None ≡ b → MeetsBound w.source import args b lines z o lines' z' → Stay z.devices z'.devices
    by_bound None e g = stay_same z.devices z'.devices (ap (λ (y : Midst). y.devices) g.1)
    by_bound (Some name) e g = by_found name e g.1 (find (is_box name) z.boxes) g.0

calls_stay : (w : Program) (xs : List Note) (os : List Outcome) (lines : List AnswerLine) (z : Midst) (os' : List Outcome) (lines' : List AnswerLine) (z' : Midst)
    → CallsMeet w xs os lines z os' lines' z' → Stay z.devices z'.devices
calls_stay w [] os lines z os' lines' z' h = stay_same z.devices z'.devices (ap (λ (y : Midst). y.devices) h.2)
calls_stay w (x ∷ xs) os lines z os' lines' z' h = by_call (λ us ls y g. calls_stay w xs us ls y os' lines' z' g) (call_in x.event) h
  where
    by_call : ((us : List Outcome) (ls : List AnswerLine) (y : Midst) → CallsMeet w xs us ls y os' lines' z' → Stay y.devices z'.devices)
        → (c : Option Call) → NoteMeets w c os lines z (λ o l y. CallsMeet w xs o l y os' lines' z') → Stay z.devices z'.devices
    by_call on None g = on os lines z g
    by_call on (Some c) g = stay_on z.devices g.3.devices z'.devices (call_stays w c.import c.args lines z g.0 g.2 g.3 g.5) (on g.1 g.2 g.3 g.6)

-- ---- events

module _ (ws : List Program) (detaches : List Detach) where
  -- behind the detaches of an event its devices stay
  event_stays : (number : ℕ) (acts acts' : List Actor) (sh sh' : Shared) (lines : List Line) → Plays ws detaches number acts sh lines acts' sh'
      → Stay (detached number detaches sh.devices) sh'.devices
  event_stays number acts acts' sh sh' lines (a_turn t) =
      subst (Stay (detached number detaches sh.devices)) (sym (ap (λ (y : Shared). y.devices) t.shared))
      (calls_stay t.w (turn_of t.a.notes) t.a.outcomes t.a.answers (begun_event number detaches sh) t.outcomes t.answers t.behind t.calls)
  event_stays number acts acts' sh sh' lines (a_stall s) = stay_same (detached number detaches sh.devices) sh'.devices (ap (λ (y : Shared). y.devices) s.shared)

  event_kept : (number : ℕ) (acts acts' : List Actor) (sh sh' : Shared) (lines : List Line) → Plays ws detaches number acts sh lines acts' sh' → Kept sh.devices sh'.devices
  event_kept number acts acts' sh sh' lines play =
      kept_on sh.devices (detached number detaches sh.devices) sh'.devices (detached_kept number detaches sh.devices) (event_stays number acts acts' sh sh' lines play).0

  played_kept : (count number : ℕ) (acts last : List Actor) (sh end : Shared) (lines : List Line) → Played ws detaches number count acts sh lines last end → Kept sh.devices end.devices
  played_kept zero number acts last sh end lines h = subst (Kept sh.devices) (sym (ap (λ (y : Shared). y.devices) h.2)) (all_kept sh.devices)
  played_kept (suc count) number acts last sh end lines h =
      kept_on sh.devices h.3.devices end.devices (event_kept number acts h.2 sh h.3 h.0 h.4) (played_kept count (suc number) h.2 last h.3 end h.1 h.5)

  events_kept : (number : ℕ) (acts last : List Actor) (sh end : Shared) (lines : List Line) → Events ws detaches number acts sh lines last end → Kept sh.devices end.devices
  events_kept number acts last sh end lines no_event = all_kept sh.devices
  events_kept number acts last sh end lines (an_event {actors' = mid} {sh' = z} {lines = first} {more = more} play rest e) =
      kept_on sh.devices z.devices end.devices (event_kept number acts mid sh z first play) (events_kept (suc number) mid last z end more rest)

  events_as_many : detaches ≡ [] → (number : ℕ) (acts last : List Actor) (sh end : Shared) (lines : List Line) → Events ws detaches number acts sh lines last end
      → length end.devices ≡ length sh.devices
  events_as_many none number acts last sh end lines no_event = refl
  events_as_many none number acts last sh end lines (an_event {actors' = mid} {sh' = z} {lines = first} {more = more} play rest e) =
      events_as_many none (suc number) mid last z end more rest ∙ (event_stays number acts mid sh z first play).1
      ∙ ap (λ (xs : List Detach). length (detached number xs sh.devices)) none

-- ---- laws

pub devices_kept : DevicesKept
devices_kept begun ws detaches boxes ds ds' lines world =
    subst (Kept ds) (sym world.runs.devices)
    (events_kept ws detaches (suc begun) world.actors world.runs.last (sharing boxes ds) world.runs.shared lines world.runs.events)

pub devices_kept_up_to : DevicesKeptUpTo
devices_kept_up_to begun ws detaches boxes ds ds' number lines world =
    subst (Kept ds) (sym world.devices)
    (played_kept ws detaches world.count (suc begun) world.actors world.now (sharing boxes ds) world.shared lines world.played)

pub devices_kept_blocking : DevicesKeptBlocking
devices_kept_blocking os detaches boxes ds ds' lines world =
    subst (Kept ds) (sym world.runs.devices)
    (events_kept (map (λ (o : Original). o.program) os) detaches 1 world.actors world.runs.last (sharing boxes ds) world.runs.shared lines world.runs.events)

pub none_taken_out : NoneTakenOut
none_taken_out begun ws boxes ds ds' lines world =
    ap length world.runs.devices
    ∙ events_as_many ws [] refl (suc begun) world.actors world.runs.last (sharing boxes ds) world.runs.shared lines world.runs.events
