-- What a world with mailboxes has calls meet, as for the devices.
use Rattle.std.proofs.Common.{◌≡◌, inl, inr, ℕ, List, [], ◌∷◌, map, Option, Some, None, Bool, true, false, if◌then◌else◌, refl, sym, ap, ◌∙◌, subst}
use Rattle.std.specs.Prelude.{MatchBool, MatchOption, slice_get, ◌||◌}
use Rattle.std.specs.List.{find}
use Rattle.std.specs.Option.{is_some}
use Rattle.std.proofs.lemmas.Option.{same_Some}
use Rattle.wa_types.specs.declared.values.Value.{Value}
use Rattle.wa_types.specs.declared.values.Value.TheVariants as V
use Rattle.wa_types.specs.Validity.{same_name}
use Rattle.wa_model.specs.Outside.{AnswerLine, Call, Event, Line, answered, called, ended, parked, paused, returned, shown}
use Rattle.wa_model.specs.Plan.{Outcome}
use Rattle.wa_model.specs.Blocking.{Note}
use Rattle.world_model.specs.World.{Device, Meets as UnboxedMeets, MeetsBound as UnboxedBound, Program, base_names, call_in, ends_turn, name_at}
use Rattle.event_order.specs.Left.{Counted}
use Rattle.host_laws.specs.Supplies.{Takes, bound_to}
use Rattle.mail_laws.specs.Mailboxes.{CallsMeet, Mailbox, Meets, MeetsBound, MeetsBox, MeetsNamed, MeetsValues, Midst, NoteMeets, Receive, Waiting, at_box, awaited, empty_box, is_box, received, sent, sent_past}
use Rattle.mail_laws.specs.MailWorld.{told_pause, with_waiting}
use Rattle.many_host.specs.Calls.{devices_of, faults_of}
use Rattle.many_host.specs.Telling.{supply}
use Rattle.world_hosting.specs.MailCounts.{IsMailed, TakesBeside, asks_mailbox, ends_event, is_mailbox}
use Rattle.world_hosting.proofs.Calls.{called_beside, owed}
use Rattle.world_hosting.proofs.CountedNotes.{CallsBy, NoteMeetsBy, as_line}
use Rattle.world_hosting.proofs.Ledgers.{Beside}
use Rattle.world_hosting.proofs.NoneParked.{is_parking}

-- ---- names of mailboxes

abbrev pub names_in : List Mailbox → List (List ℕ)
names_in bs = map (λ (b : Mailbox). b.name) bs

-- a change that keeps the name of a mailbox keeps the names of all
at_names : (change : Mailbox → Mailbox) → ((b : Mailbox) → (change b).name ≡ b.name) → (name : List ℕ) (bs : List Mailbox) → names_in (at_box change name bs) ≡ names_in bs
at_names change keeps name [] = refl
at_names change keeps name (b ∷ bs) = by (same_name b.name name) (at_names change keeps name bs)
  where
    by : (y : Bool) → names_in (at_box change name bs) ≡ names_in bs → names_in (if y then change b ∷ bs else b ∷ at_box change name bs) ≡ names_in (b ∷ bs)
    by true on = ap (λ (n : List ℕ). n ∷ names_in bs) (keeps b)
    by false on = ap (λ (ns : List (List ℕ)). b.name ∷ ns) on

sent_name : (v : ℕ) (b : Mailbox) → (sent v b).name ≡ b.name
sent_name v b = by b.waits
  where
    by : (ws : List Waiting) → (sent_past v b ws).name ≡ b.name
    by [] = refl
    by (w ∷ ws) = refl

pub waiting_names : (i : ℕ) (p : Option Receive) (bs : List Mailbox) → names_in (with_waiting i p bs) ≡ names_in bs
waiting_names i None bs = refl
waiting_names i (Some r) bs = at_names (awaited (record { program = i; value = r.value })) (λ b. refl) r.box bs

pub empty_names : (names : List (List ℕ)) → names_in (map empty_box names) ≡ names
empty_names [] = refl
empty_names (n ∷ names) = ap (λ (ns : List (List ℕ)). n ∷ ns) (empty_names names)

-- a mailbox has a name where one is found
pub found_box : (name : List ℕ) (bs : List Mailbox) → is_mailbox (names_in bs) name ≡ is_some (find (is_box name) bs)
found_box name [] = refl
found_box name (b ∷ bs) = by (same_name b.name name) (found_box name bs)
  where
    by : (y : Bool) → is_mailbox (names_in bs) name ≡ is_some (find (is_box name) bs) → (y || is_mailbox (names_in bs) name) ≡ is_some (if y then Some b else find (is_box name) bs)
    by true on = refl
    by false on = on

-- ---- one call

-- a world has a call meet this: an outcome of a mailbox, or what it meets without mailboxes
abbrev pub MeetsBeside : (boxes : List (List ℕ)) → Program → Call → Outcome → (ds ds' : List Device) → Type 0
MeetsBeside boxes w c o ds ds' =
    MatchBool (asks_mailbox boxes (bound_to w c.import)) (IsMailed c.import o × (ds' ≡ ds)) ((lines : List AnswerLine) × (lines' : List AnswerLine) × UnboxedMeets w c.import c.args lines ds o lines' ds')

-- what a mailbox does to what is shared
record AtBox (import : ℕ) (o : Outcome) (z z' : Midst) : Type 0 where
  mailed : IsMailed import o
  devices : z'.devices ≡ z.devices
  names : names_in z'.boxes ≡ names_in z.boxes

met_at_box : (import : ℕ) (name : List ℕ) (args : List Value) (b : Mailbox) (z : Midst) (o : Outcome) (z' : Midst) → MeetsBox import name args b z o z' → AtBox import o z z'
met_at_box import name (V.I32 v ∷ []) b z o z' h = record {
  mailed = inl (None, 0, h.1);
  devices = ap (λ (m : Midst). m.devices) h.2;
  names = ap (λ (m : Midst). names_in m.boxes) h.2 ∙ at_names (sent v) (sent_name v) name z.boxes;
}
met_at_box import name [] b z o z' h = by b.values h
  where
    by : (vs : List ℕ) → MeetsValues import name vs z o z' → AtBox import o z z'
    by [] g = record { mailed = inl (Some (V.I32 g.0), 1, g.2); devices = ap (λ (m : Midst). m.devices) g.3; names = ap (λ (m : Midst). names_in m.boxes) g.3 }
    by (v ∷ vs) g = record {
      mailed = inl (_, 0, g.0);
      devices = ap (λ (m : Midst). m.devices) g.1;
      names = ap (λ (m : Midst). names_in m.boxes) g.1 ∙ at_names (received vs) (λ b. refl) name z.boxes;
    }
met_at_box import name (V.I32 v ∷ y ∷ ys) b z o z' h = record { mailed = inr h.0; devices = ap (λ (m : Midst). m.devices) h.1; names = ap (λ (m : Midst). names_in m.boxes) h.1 }
met_at_box import name (V.I64 v ∷ ys) b z o z' h = record { mailed = inr h.0; devices = ap (λ (m : Midst). m.devices) h.1; names = ap (λ (m : Midst). names_in m.boxes) h.1 }

module _ (boxes : List (List ℕ)) (w : Program) (c : Call) (lines : List AnswerLine) (z : Midst) (o : Outcome) (lines' : List AnswerLine) (z' : Midst) (named : names_in z.boxes ≡ boxes) where
  abbrev Met : Type 0
  Met = MeetsBeside boxes w c o z.devices z'.devices × (names_in z'.boxes ≡ boxes)

  -- an import that asks a mailbox, and one that doesn't
  asks_box : asks_mailbox boxes (bound_to w c.import) ≡ true → AtBox c.import o z z' → Met
  asks_box e h = (
    subst (λ (b : Bool). MatchBool b (IsMailed c.import o × (z'.devices ≡ z.devices))
        ((ls : List AnswerLine) × (ls' : List AnswerLine) × UnboxedMeets w c.import c.args ls z.devices o ls' z'.devices)) (sym e) (h.mailed, h.devices),
    h.names ∙ named,
  )

  asks_none : asks_mailbox boxes (bound_to w c.import) ≡ false → UnboxedMeets w c.import c.args lines z.devices o lines' z'.devices → z'.boxes ≡ z.boxes → Met
  asks_none e h same = (
    subst (λ (b : Bool). MatchBool b (IsMailed c.import o × (z'.devices ≡ z.devices))
        ((ls : List AnswerLine) × (ls' : List AnswerLine) × UnboxedMeets w c.import c.args ls z.devices o ls' z'.devices)) (sym e) (lines, lines', h),
    ap names_in same ∙ named,
  )

  pub met_beside : Meets w c.import c.args lines z o lines' z' → Met
  met_beside h = by_bound (bound_to w c.import) refl h
    where
      in_boxes : (name : List ℕ) → is_mailbox boxes name ≡ is_some (find (is_box name) z.boxes)
      in_boxes name = ap (λ (ns : List (List ℕ)). is_mailbox ns name) (sym named) ∙ found_box name z.boxes

      by_found : (name : List ℕ) → bound_to w c.import ≡ Some name → lines' ≡ lines → (found : Option Mailbox) → find (is_box name) z.boxes ≡ found
          → MeetsNamed c.import (name_at (base_names w.source) c.import) name c.args found z o z' → Met
      by_found name is same None f g =
          asks_none (ap (asks_mailbox boxes) is ∙ in_boxes name ∙ ap (λ (m : Option Mailbox). is_some m) f)
          (subst (λ (b : Option (List ℕ)). UnboxedBound w.source c.import c.args b lines z.devices o lines' z'.devices) (sym is)
          (subst (λ (ds : List Device). UnboxedBound w.source c.import c.args (Some name) lines z.devices o lines' ds) (sym (ap (λ (m : Midst). m.devices) g.2)) (g.1, same)))
          (ap (λ (m : Midst). m.boxes) g.2)
      by_found name is same (Some b) f g =
          asks_box (ap (asks_mailbox boxes) is ∙ in_boxes name ∙ ap (λ (m : Option Mailbox). is_some m) f) (met_at_box c.import name c.args b z o z' g)

      by_bound : (b : Option (List ℕ)) → bound_to w c.import ≡ b → MeetsBound w.source c.import c.args b lines z o lines' z' → Met
      by_bound None is g =
          asks_none (ap (asks_mailbox boxes) is)
          (subst (λ (b : Option (List ℕ)). UnboxedBound w.source c.import c.args b lines z.devices o lines' z'.devices) (sym is) (g.0, ap (λ (m : Midst). m.devices) g.1))
          (ap (λ (m : Midst). m.boxes) g.1)
      by_bound (Some name) is g = by_found name is g.1 (find (is_box name) z.boxes) refl g.0

-- ---- the calls of a turn

pub calls_beside : (boxes : List (List ℕ)) (w : Program) (xs : List Note) (os : List Outcome) (lines : List AnswerLine) (z : Midst) (os' : List Outcome) (lines' : List AnswerLine) (z' : Midst)
    → CallsMeet w xs os lines z os' lines' z' → names_in z.boxes ≡ boxes → CallsBy (MeetsBeside boxes) w xs os z.devices os' z'.devices × (names_in z'.boxes ≡ boxes)
calls_beside boxes w [] os lines z os' lines' z' h named = ((h.0, ap (λ (m : Midst). m.devices) h.2), ap (λ (m : Midst). names_in m.boxes) h.2 ∙ named)
calls_beside boxes w (x ∷ xs) os lines z os' lines' z' h named = by (call_in x.event) h (λ us ls y k e. calls_beside boxes w xs us ls y os' lines' z' k e)
  where
    by : (c : Option Call) → NoteMeets w c os lines z (λ o l y. CallsMeet w xs o l y os' lines' z')
        → ((us : List Outcome) (ls : List AnswerLine) (y : Midst) → CallsMeet w xs us ls y os' lines' z' → names_in y.boxes ≡ boxes
        → CallsBy (MeetsBeside boxes) w xs us y.devices os' z'.devices × (names_in z'.boxes ≡ boxes))
        → NoteMeetsBy (MeetsBeside boxes) w c os z.devices (λ us es. CallsBy (MeetsBeside boxes) w xs us es os' z'.devices) × (names_in z'.boxes ≡ boxes)
    by None g on = on os lines z g named
    by (Some c) g on =
        let one = met_beside boxes w c lines z g.0 g.2 g.3 named g.5 in
        let rest = on g.1 g.2 g.3 g.6 one.1 in
        ((g.0, g.1, g.3.devices, g.4, one.0, rest.0), rest.1)

-- ---- what lines took

pub no_call_beside : (boxes : List (List ℕ)) (programs : List Program) (l : Line) (met : List Outcome) (old mid : List Counted) → TakesBeside boxes programs l met old mid → call_in l.event ≡ None → mid ≡ old
no_call_beside boxes programs l met old mid t none =
    let h =
    subst (λ (q : Option Call). MatchOption q ((met ≡ []) × (mid ≡ old)) (λ c. MatchBool (asks_mailbox boxes (bound_to t.w c.import))
    ((o : Outcome) × (met ≡ o ∷ []) × IsMailed c.import o × (mid ≡ old))
    (Takes t.w (Some c) (supply t.answers (devices_of old) (faults_of old)) met (supply t.left (devices_of mid) (faults_of mid))))) none t.takes in
    h.1

-- an outcome of a mailbox owes no fault
mailed_owes : (w : Program) (import : ℕ) (o : Outcome) (ls : List Counted) → IsMailed import o → owed w (Some o) ls ≡ ls
mailed_owes w import o ls (inl h) = ap (λ (q : Outcome). owed w (Some q) ls) h.2
mailed_owes w import o ls (inr h) = ap (λ (q : Outcome). owed w (Some q) ls) h

pub answers_beside : (boxes : List (List ℕ)) (programs : List Program) (l : Line) (c : Call) (w : Program) (met : List Outcome) (old mid : List Counted) (ds ds' : List Device) (o : Outcome)
    (ls : List Counted) → call_in l.event ≡ Some c → slice_get programs l.program ≡ Some w → TakesBeside boxes programs l met old mid → Beside old ds ls → MeetsBeside boxes w c o ds ds'
    → Beside mid ds' (owed w (Some o) ls)
answers_beside boxes programs l c w met old mid ds ds' o ls is program t beside meets =
    by (asks_mailbox boxes (bound_to w c.import)) (subst (λ (v : Program). Takes_of v (asks_mailbox boxes (bound_to v c.import))) same takes) meets
  where
    Takes_of : Program → Bool → Type 0
    Takes_of v b =
        MatchBool b ((u : Outcome) × (met ≡ u ∷ []) × IsMailed c.import u × (mid ≡ old))
        (Takes v (Some c) (supply t.answers (devices_of old) (faults_of old)) met (supply t.left (devices_of mid) (faults_of mid)))

    same : t.w ≡ w
    same = same_Some t.w w (sym t.program ∙ program)

    takes : Takes_of t.w (asks_mailbox boxes (bound_to t.w c.import))
    takes =
        subst (λ (q : Option Call). MatchOption q ((met ≡ []) × (mid ≡ old)) (λ c. MatchBool (asks_mailbox boxes (bound_to t.w c.import))
        ((o : Outcome) × (met ≡ o ∷ []) × IsMailed c.import o × (mid ≡ old))
        (Takes t.w (Some c) (supply t.answers (devices_of old) (faults_of old)) met (supply t.left (devices_of mid) (faults_of mid))))) is t.takes

    by : (b : Bool) → Takes_of w b
        → MatchBool b (IsMailed c.import o × (ds' ≡ ds)) ((lines : List AnswerLine) × (lines' : List AnswerLine) × UnboxedMeets w c.import c.args lines ds o lines' ds')
        → Beside mid ds' (owed w (Some o) ls)
    by true h g =
        subst (λ (ms : List Counted). Beside ms ds' (owed w (Some o) ls)) (sym h.3)
        (subst (λ (es : List Device). Beside old es (owed w (Some o) ls)) (sym g.1) (subst (Beside old ds) (sym (mailed_owes w c.import o ls g.0)) beside))
    by false h g = called_beside w old mid ds ds' ls beside c g.0 g.1 t.answers t.left o h.0 g.2 h.2

-- ---- lines

pub goes_event : (e : Event) → ends_turn e ≡ false → is_parking e ≡ false → ends_event e ≡ false
goes_event (paused t u) h k = h
goes_event (parked u) h k = absurd cc
goes_event (ended how) h k = h
goes_event (called c) h k = refl
goes_event (answered v) h k = refl
goes_event (returned i v) h k = refl
goes_event (shown at bytes) h k = refl

pub stops_event : (b : Bool) (ticks used : ℕ) → ends_event (as_line b (paused ticks used)) ≡ true
stops_event true ticks used = refl
stops_event false ticks used = refl

pub told_as_line : (p : Option Receive) (e : Event) → told_pause p e ≡ as_line (is_some p) e
told_as_line None (paused t u) = refl
told_as_line (Some r) (paused t u) = refl
told_as_line None (called c) = refl
told_as_line (Some r) (called c) = refl
told_as_line None (answered v) = refl
told_as_line (Some r) (answered v) = refl
told_as_line None (returned i v) = refl
told_as_line (Some r) (returned i v) = refl
told_as_line None (ended how) = refl
told_as_line (Some r) (ended how) = refl
told_as_line None (parked u) = refl
told_as_line (Some r) (parked u) = refl
told_as_line None (shown at bytes) = refl
told_as_line (Some r) (shown at bytes) = refl
