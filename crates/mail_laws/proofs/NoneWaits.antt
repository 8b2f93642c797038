-- Without mailboxes no program waits.
use Rattle.std.proofs.Common.{◌≡◌, ℕ, zero, suc, List, [], ◌∷◌, Option, Some, None, Bool, true, false, All, refl, sym, ap, ◌∙◌, subst}
use Rattle.std.specs.Prelude.{◌+◌, slice_get, slice_set, if◌then◌else◌}
use Rattle.std.specs.List.{find}
use Rattle.std.specs.Option.{unwrap_or}
use Rattle.std.proofs.lemmas.List.Elements.{All-nil, All-cons, All-head, All-tail}
use Rattle.wa_types.specs.declared.values.Value.{Value}
use Rattle.wa_model.specs.Outside.{Call, AnswerLine}
use Rattle.wa_model.specs.Plan.{Outcome}
use Rattle.wa_model.specs.Blocking.{Note}
use Rattle.world_model.specs.World.{Program, base_names, behind_turn, call_in, name_at, put_off, turn_of}
use Rattle.world_laws.proofs.Places.{all_at}
use Rattle.mail_laws.specs.Mailboxes.{Shared, Midst, Mailbox, Receive, is_box, Meets, MeetsBound, MeetsNamed, NoteMeets, CallsMeet}
use Rattle.mail_laws.specs.MailWorld.{Actor, pauses, parks, parked_at, with_waiting, a_turn, a_stall, begun_event, wake, store_behind}
use Rattle.mail_laws.specs.WithoutBoxes.{IsAwake, NoneWaits}

-- nothing of mailboxes is there, and nothing of them changes
pub record NoMail (sh : Midst) : Type 0 where
  pub boxes : sh.boxes ≡ []
  pub settled : sh.settled ≡ []
  pub receive : sh.receive ≡ None

pub meets_none : (w : Program) (import : ℕ) (args : List Value) (lines : List AnswerLine) (sh : Midst) (o : Outcome) (lines' : List AnswerLine) (sh' : Midst)
    → NoMail sh → Meets w import args lines sh o lines' sh' → NoMail sh'
meets_none w import args lines sh o lines' sh' pl = by_bound (unwrap_or (slice_get w.binds import) None)
  where
    named : (name : List ℕ) (b : Option Mailbox) → b ≡ None → MeetsNamed import (name_at (base_names w.source) import) name args b sh o sh' → NoMail sh'
    named name None e g = subst NoMail (sym g.2) (record { boxes = pl.boxes; settled = pl.settled; receive = pl.receive })
    named name (Some b) e g = cc

    by_bound : (bound : Option (List ℕ)) → MeetsBound w.source import args bound lines sh o lines' sh' → NoMail sh'
    by_bound None g = subst NoMail (sym g.1) pl
    by_bound (Some name) g = named name (find (is_box name) sh.boxes) (ap (λ (bs : List Mailbox). find (is_box name) bs) pl.boxes) g.0

pub calls_none : (w : Program) (xs : List Note) (os : List Outcome) (lines : List AnswerLine) (sh : Midst) (os' : List Outcome) (lines' : List AnswerLine) (sh' : Midst)
    → NoMail sh → CallsMeet w xs os lines sh os' lines' sh' → NoMail sh'
calls_none w [] os lines sh os' lines' sh' pl g = subst NoMail (sym g.2) pl
calls_none w (x ∷ xs) os lines sh os' lines' sh' pl g = by_call (λ o l z p h. calls_none w xs o l z os' lines' sh' p h) (call_in x.event) g
  where
    by_call : ((o : List Outcome) (l : List AnswerLine) (z : Midst) → NoMail z → CallsMeet w xs o l z os' lines' sh' → NoMail sh')
        → (c : Option Call) → NoteMeets w c os lines sh (λ o l z. CallsMeet w xs o l z os' lines' sh') → NoMail sh'
    by_call on None h = on os lines sh pl h
    by_call on (Some c) h = on h.1 h.2 h.3 (meets_none w c.import c.args lines sh h.0 h.2 h.3 pl h.5) h.6

pub all_set : (acts : List Actor) (i : ℕ) (b : Actor) → All IsAwake acts → IsAwake b → All IsAwake (slice_set acts i b)
all_set [] i b h g = All-nil IsAwake
all_set (a ∷ acts) zero b h g = All-cons IsAwake b acts g (All-tail IsAwake a acts h)
all_set (a ∷ acts) (suc i) b h g = All-cons IsAwake a (slice_set acts i b) (All-head IsAwake a acts h) (all_set acts i b (All-tail IsAwake a acts h) g)

pub none_parks : (turn : List Note) (r : Option Receive) → r ≡ None → parks turn r ≡ None
none_parks turn r e = ap (parks turn) e ∙ by_pause (pauses turn)
  where
    none : Option Receive
    none = None

    by_pause : (b : Bool) → (if b then none else none) ≡ none
    by_pause true = refl
    by_pause false = refl

pub none_waits : NoneWaits
none_waits programs detaches number actors actors' sh sh' lines none awake (a_turn t) =
    let pl : NoMail (begun_event number detaches sh) = record { boxes = none; settled = refl; receive = refl } in
    let behind : NoMail t.behind = calls_none t.w (turn_of t.a.notes) t.a.outcomes t.a.answers (begun_event number detaches sh) t.outcomes t.answers t.behind pl t.calls in
    let parking : parks (turn_of t.a.notes) t.behind.receive ≡ None = none_parks (turn_of t.a.notes) t.behind.receive behind.receive in
    let boxes : sh'.boxes ≡ [] = ap (λ (z : Shared). z.boxes) t.shared ∙ ap (λ r. with_waiting t.i r t.behind.boxes) parking ∙ behind.boxes in
    let set_ : List Actor = slice_set actors t.i (record {
      due = t.a.due + put_off (turn_of t.a.notes);
      notes = behind_turn t.a.notes;
      outcomes = t.outcomes;
      answers = t.answers;
      parked = parked_at (store_behind (turn_of t.a.notes)) (parks (turn_of t.a.notes) t.behind.receive);
    }) in
    let after : actors' ≡ set_ = t.after ∙ ap (λ is. wake (suc t.a.due) is set_) behind.settled in
    let now : All IsAwake set_ = all_set actors t.i _ awake (ap (parked_at (store_behind (turn_of t.a.notes))) parking) in
    (t, boxes, subst (All IsAwake) (sym after) now)
none_waits programs detaches number actors actors' sh sh' lines none awake (a_stall s) =
    let is : s.a.parked ≡ None = all_at IsAwake actors s.i s.a awake s.there in
    let no_way : Some s.at ≡ None = sym s.waits ∙ is in
    cc
