-- Journals of devices that aren't taken out only grow, in worlds with mailboxes too.
use Rattle.std.proofs.Common.{◌≡◌, ℕ, zero, suc, List, [], ◌∷◌, Option, Some, None, All, false, slice_get, refl, sym, ap, subst}
use Rattle.std.specs.List.{find}
use Rattle.std.specs.Option.{unwrap_or}
use Rattle.wa_types.specs.Validity.{same_name}
use Rattle.wa_types.specs.declared.values.Value.{Value}
use Rattle.wa_model.specs.declared.answers.Detach.{Detach}
use Rattle.wa_model.specs.Outside.{AnswerLine, Call, Line}
use Rattle.wa_model.specs.Plan.{Outcome}
use Rattle.wa_model.specs.Blocking.{Note}
use Rattle.world_model.specs.World.{MeetsBound as UnboxedBound, Program, base_names, call_in, detached, name_at, turn_of}
use Rattle.world_laws.proofs.Journals.{Grows, grows_on, grows_same, journal_of, meets_grow, other_detached}
use Rattle.mail_laws.specs.Mailboxes.{CallsMeet, Mailbox, Meets, MeetsBound, MeetsNamed, Midst, NoteMeets, Shared, is_box}
use Rattle.mail_laws.specs.MailWorld.{Actor, Plays, a_stall, a_turn, begun_event}
use Rattle.mail_laws.specs.Played.{Played}
use Rattle.mail_laws.proofs.KeptDevices.{box_stays}

call_grows : (w : Program) (name : List ℕ) (import : ℕ) (args : List Value) (lines : List AnswerLine) (z : Midst) (o : Outcome) (lines' : List AnswerLine) (z' : Midst)
    → Meets w import args lines z o lines' z' → Grows name z.devices z'.devices
call_grows w name import args lines z o lines' z' h = by_bound (unwrap_or (slice_get w.binds import) None) refl h
  where
    by_found : (device : List ℕ) → unwrap_or (slice_get w.binds import) None ≡ Some device → lines' ≡ lines → (found : Option Mailbox)
        → MeetsNamed import (name_at (base_names w.source) import) device args found z o z' → Grows name z.devices z'.devices
    by_found device e same None g =
        subst (Grows name z.devices) (sym (ap (λ (y : Midst). y.devices) g.2))
        (meets_grow w name import args lines z.devices o lines' g.0
        (subst (λ (b : Option (List ℕ)). UnboxedBound w.source import args b lines z.devices o lines' g.0) (sym e) (g.1, same)))
    by_found device e same (Some b) g = grows_same name z.devices z'.devices (ap (journal_of name) (box_stays import device args b z o z' g))

    by_bound : (b : Option (List ℕ)) → unwrap_or (slice_get w.binds import) None ≡ b → MeetsBound w.source import args b lines z o lines' z' → Grows name z.devices z'.devices
    by_bound None e g = grows_same name z.devices z'.devices (ap (λ (y : Midst). journal_of name y.devices) g.1)
    by_bound (Some device) e g = by_found device e g.1 (find (is_box device) z.boxes) g.0

calls_grow : (w : Program) (name : List ℕ) (xs : List Note) (os : List Outcome) (lines : List AnswerLine) (z : Midst) (os' : List Outcome) (lines' : List AnswerLine) (z' : Midst)
    → CallsMeet w xs os lines z os' lines' z' → Grows name z.devices z'.devices
calls_grow w name [] os lines z os' lines' z' h = grows_same name z.devices z'.devices (ap (λ (y : Midst). journal_of name y.devices) h.2)
calls_grow w name (x ∷ xs) os lines z os' lines' z' h = by_call (λ us ls y g. calls_grow w name xs us ls y os' lines' z' g) (call_in x.event) h
  where
    by_call : ((us : List Outcome) (ls : List AnswerLine) (y : Midst) → CallsMeet w xs us ls y os' lines' z' → Grows name y.devices z'.devices)
        → (c : Option Call) → NoteMeets w c os lines z (λ o l y. CallsMeet w xs o l y os' lines' z') → Grows name z.devices z'.devices
    by_call on None g = on os lines z g
    by_call on (Some c) g = grows_on name z.devices g.3.devices z'.devices (call_grows w name c.import c.args lines z g.0 g.2 g.3 g.5) (on g.1 g.2 g.3 g.6)

module _ (programs : List Program) (detaches : List Detach) (name : List ℕ) (stays : All (λ (x : Detach). same_name x.device name ≡ false) detaches) where
  event_grows : (number : ℕ) (acts acts' : List Actor) (sh sh' : Shared) (lines : List Line) → Plays programs detaches number acts sh lines acts' sh' → Grows name sh.devices sh'.devices
  event_grows number acts acts' sh sh' lines play =
      grows_on name sh.devices (detached number detaches sh.devices) sh'.devices
      (grows_same name sh.devices (detached number detaches sh.devices) (other_detached name number detaches sh.devices stays)) (by play)
    where
      by : Plays programs detaches number acts sh lines acts' sh' → Grows name (detached number detaches sh.devices) sh'.devices
      by (a_turn t) =
          subst (Grows name (detached number detaches sh.devices)) (sym (ap (λ (y : Shared). y.devices) t.shared))
          (calls_grow t.w name (turn_of t.a.notes) t.a.outcomes t.a.answers (begun_event number detaches sh) t.outcomes t.answers t.behind t.calls)
      by (a_stall s) = grows_same name (detached number detaches sh.devices) sh'.devices (ap (λ (y : Shared). journal_of name y.devices) s.shared)

  pub played_grows : (count number : ℕ) (acts last : List Actor) (sh end : Shared) (lines : List Line) → Played programs detaches number count acts sh lines last end → Grows name sh.devices end.devices
  played_grows zero number acts last sh end lines h = grows_same name sh.devices end.devices (ap (λ (y : Shared). journal_of name y.devices) h.2)
  played_grows (suc count) number acts last sh end lines h =
      grows_on name sh.devices h.3.devices end.devices (event_grows number acts h.2 sh h.3 h.0 h.4) (played_grows count (suc number) h.2 last h.3 end h.1 h.5)
