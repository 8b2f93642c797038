-- A turn whose program received from an empty mailbox asked one by its last call.
use Rattle.std.proofs.Common.{arith, ◌≡◌, ◌<◌, ◌^◌, ◌⊎◌, inl, inr, ℕ, List, [], ◌∷◌, ◌++◌, map, Option, Some, None, Bool, true, false, refl, sym, ap, ◌∙◌, subst}
use Rattle.std.specs.Prelude.{MatchBool, if◌then◌else◌, slice_get, ◌||◌}
use Rattle.std.specs.List.{find, list_any}
use Rattle.std.specs.Option.{is_some}
use Rattle.std.proofs.lemmas.List.{append_cancel_left, map-append}
use Rattle.wa_types.specs.declared.values.Value.TheVariants as V
use Rattle.wa_model.specs.declared.answers.Said.{Said}
use Rattle.wa_model.specs.declared.answers.Said.TheVariants as S
use Rattle.wa_model.specs.declared.events.End.{End}
use Rattle.wa_model.specs.declared.events.End.TheVariants.{DeviceFault, NoDevice}
use Rattle.wa_model.specs.Outside.{AnswerLine, Call, Event, Line, answered, called, ended, parked, paused, returned, shown}
use Rattle.wa_model.specs.Plan.{Outcome, ValueFits, given, refused}
use Rattle.wa_model.specs.Blocking.{Note, events_of}
use Rattle.world_model.specs.World.{Asked, Device, Look, MeetsBound as UnboxedBound, MeetsDevice, Program, Reply, base_names, bytes_shown, call_in, events_with_looks, import_names, is_named, journaled, line_at, looks_after, name_at}
use Rattle.world_laws.proofs.Determined.{answer_of, device_fixes, head_same, line_fixes, tail_same}
use Rattle.host_laws.specs.Supplies.{bound_to}
use Rattle.mailbox_device.specs.Mail.{Box, names_of}
use Rattle.mail_laws.specs.Mailboxes.{CallsMeet, Mailbox, Meets, MeetsBound, MeetsNamed, Midst, NoteMeets, is_box, mailed}
use Rattle.mail_laws.specs.MailWorld.{told_pause}
use Rattle.mail_laws.specs.Told.{Amid, AreSent, Await, KeepsPromises, NotAmong, Teller, midst_by, pending, promised}
use Rattle.mail_laws.proofs.KeptDevices.{box_stays}
use Rattle.mail_laws.proofs.KnownCalls.{CallFree}
use Rattle.mail_laws.proofs.Promises.{fixed, fixed_keeps, fixed_out, fixed_small}
use Rattle.world_hosting.specs.MailCounts.{asks_mailbox, is_mailbox}
use Rattle.world_hosting.proofs.MailMeets.{calls_beside, found_box, met_beside, names_in}

-- the outcome of a receive that waited
abbrev pub waited : ℕ → Outcome
waited v = mailed (Some (V.I32 v)) 1

-- the value of an outcome
abbrev in_said : Said → ℕ
in_said (S.Value (Some (V.I32 v))) = v
in_said _ = 0

abbrev value_in : Outcome → ℕ
value_in (given a) = in_said a.said
value_in (refused e) = 0

apart : waited 0 ≡ waited 1 → ⊥
apart e = let n : 0 ≡ 1 = ap value_in e in omega (arith, n)

no_refusal : (v : ℕ) (e : End) → waited v ≡ refused e → ⊥
no_refusal v e h = absurd cc

-- ---- one call

-- a call behind a journal is the one that was put there
journal_same : (name : List ℕ) (a b : Asked) (ds : List Device) → list_any (is_named name) ds ≡ true → journaled name a ds ≡ journaled name b ds → a ≡ b
journal_same name a b [] some e = absurd cc
journal_same name a b (d ∷ ds) some e = by (is_named name d) some e (λ s f. journal_same name a b ds s f)
  where
    heads : (x y : Device) (xs ys : List Device) → x ∷ xs ≡ y ∷ ys → x ≡ y
    heads x y xs ys e = cc

    tails : (x y : Device) (xs ys : List Device) → x ∷ xs ≡ y ∷ ys → xs ≡ ys
    tails x y xs ys e = cc

    one : (x y : Asked) → x ∷ [] ≡ y ∷ [] → x ≡ y
    one x y e = cc

    with_call : Asked → Device
    with_call c = record { name = d.name; journal = d.journal ++ c ∷ [] }

    by : (y : Bool) → (y || list_any (is_named name) ds) ≡ true
        → (if y then with_call a ∷ ds else d ∷ journaled name a ds) ≡ (if y then with_call b ∷ ds else d ∷ journaled name b ds)
        → (list_any (is_named name) ds ≡ true → journaled name a ds ≡ journaled name b ds → a ≡ b) → a ≡ b
    by true s f on = one a b (append_cancel_left d.journal (a ∷ []) (b ∷ []) (ap (λ (x : Device). x.journal) (heads (with_call a) (with_call b) ds ds f)))
    by false s f on = on s (tails d d (journaled name a ds) (journaled name b ds) f)

module _ (boxes : List (List ℕ)) (w : Program) where
  -- what a call meets without mailboxes
  abbrev Plain : Call → Option (List ℕ) → List AnswerLine → List Device → Outcome → List AnswerLine → List Device → Type 0
  Plain c b lines ds o lines' ds' = UnboxedBound w.source c.import c.args b lines ds o lines' ds'

  module _ (c : Call) (lines : List AnswerLine) (z : Midst) (o : Outcome) (lines' : List AnswerLine) (z' : Midst) (named : names_in z.boxes ≡ boxes) where
    in_boxes : (name : List ℕ) → is_mailbox boxes name ≡ is_some (find (is_box name) z.boxes)
    in_boxes name = ap (λ (ns : List (List ℕ)). is_mailbox ns name) (sym named) ∙ found_box name z.boxes

    plain : (b : Option (List ℕ)) → asks_mailbox boxes b ≡ false → MeetsBound w.source c.import c.args b lines z o lines' z' → Plain c b lines z.devices o lines' z'.devices
    plain None other g = (g.0, ap (λ (m : Midst). m.devices) g.1)
    plain (Some name) other g = (at (find (is_box name) z.boxes) (sym (in_boxes name) ∙ other) g.0, g.1)
      where
        at : (found : Option Mailbox) → is_some found ≡ false → MeetsNamed c.import (name_at (base_names w.source) c.import) name c.args found z o z'
            → MeetsDevice c.import (name_at (base_names w.source) c.import) name c.args z.devices o z'.devices
        at None e h =
            subst (λ (ds : List Device). MeetsDevice c.import (name_at (base_names w.source) c.import) name c.args z.devices o ds) (sym (ap (λ (m : Midst). m.devices) h.2)) h.1
        at (Some b) e h = absurd cc

    boxed : (b : Option (List ℕ)) → asks_mailbox boxes b ≡ true → MeetsBound w.source c.import c.args b lines z o lines' z' → (lines' ≡ lines) × (z'.devices ≡ z.devices)
    boxed None asks g = absurd cc
    boxed (Some name) asks g = (g.1, at (find (is_box name) z.boxes) (sym (in_boxes name) ∙ asks) g.0)
      where
        at : (found : Option Mailbox) → is_some found ≡ true → MeetsNamed c.import (name_at (base_names w.source) c.import) name c.args found z o z' → z'.devices ≡ z.devices
        at None e h = absurd cc
        at (Some b) e h = box_stays c.import name c.args b z o z' h

  -- two calls that meet the same with the same devices leave the same
  call_same : (c : Call) (o : Outcome) (lines l k : List AnswerLine) (z z' y y' : Midst) → z.devices ≡ y.devices → names_in z.boxes ≡ boxes → names_in y.boxes ≡ boxes
      → Meets w c.import c.args lines z o l z' → Meets w c.import c.args lines y o k y' → (l ≡ k) × (z'.devices ≡ y'.devices)
  call_same c o lines l k z z' y y' same nz ny h g = by (asks_mailbox boxes (bound_to w c.import)) refl
    where
      both : (b : Option (List ℕ)) → Plain c b lines z.devices o l z'.devices → Plain c b lines z.devices o k y'.devices → (l ≡ k) × (z'.devices ≡ y'.devices)
      both (Some name) p q = (p.1 ∙ sym q.1, device_fixes c.import (name_at (base_names w.source) c.import) name c.args z.devices o z'.devices y'.devices p.0 q.0)
      both None p q = ((line_fixes c.import (name_at (import_names w.source) c.import) lines o o l k p.0 q.0).0, p.1 ∙ same_devices q.1)
        where
          same_devices : y'.devices ≡ z.devices → z.devices ≡ y'.devices
          same_devices e = sym e

      by : (b : Bool) → asks_mailbox boxes (bound_to w c.import) ≡ b → (l ≡ k) × (z'.devices ≡ y'.devices)
      by true asks =
          let a = boxed c lines z o l z' nz (bound_to w c.import) asks h in
          let b = boxed c lines y o k y' ny (bound_to w c.import) asks g in
          (a.0 ∙ sym b.0, a.1 ∙ same ∙ sym b.1)
      by false other =
          both (bound_to w c.import) (plain c lines z o l z' nz (bound_to w c.import) other h)
          (subst (λ (ds : List Device). Plain c (bound_to w c.import) lines ds o k y'.devices) (sym same) (plain c lines y o k y' ny (bound_to w c.import) other g))

  -- no call without mailboxes leaves the same devices with one answer as with another
  never_plain : (c : Call) (b : Option (List ℕ)) (lines l k : List AnswerLine) (ds d e : List Device) → Plain c b lines ds (waited 0) l d → Plain c b lines ds (waited 1) k e → d ≡ e → ⊥
  never_plain c None lines l k ds d e p q same = apart (line_fixes c.import (name_at (import_names w.source) c.import) lines (waited 0) (waited 1) l k p.0 q.0).1
  never_plain c (Some name) lines l k ds d e p q same = by (list_any (is_named name) ds) refl p.0 q.0
    where
      base : List ℕ
      base = name_at (base_names w.source) c.import

      asked : Reply → Asked
      asked r = record { base = base; args = c.args; reply = r }

      Answers : Outcome → List Device → Type 0
      Answers o ds' =
          ((r : Reply) × ValueFits r.value × (r.ticks < 2 ^ 32) × (o ≡ given (record { said = S.Value r.value; pokes = []; ticks = r.ticks }))
          × (ds' ≡ journaled name (record { base = base; args = c.args; reply = r }) ds))
          ⊎ ((o ≡ refused (DeviceFault c.import)) × (ds' ≡ ds))

      both : list_any (is_named name) ds ≡ true → Answers (waited 0) d → Answers (waited 1) e → ⊥
      both some (inl r) (inl s) =
          let one : asked r.0 ≡ asked s.0 = journal_same name (asked r.0) (asked s.0) ds some (sym r.4 ∙ same ∙ s.4) in
          apart (r.3 ∙ ap (λ (x : Asked). given (answer_of x.reply)) one ∙ sym s.3)
      both some (inl r) (inr f) = no_refusal 1 (DeviceFault c.import) f.0
      both some (inr f) s = no_refusal 0 (DeviceFault c.import) f.0

      by : (b : Bool) → list_any (is_named name) ds ≡ b → MatchBool b (Answers (waited 0) d) ((waited 0 ≡ refused (NoDevice c.import)) × (d ≡ ds))
          → MatchBool b (Answers (waited 1) e) ((waited 1 ≡ refused (NoDevice c.import)) × (e ≡ ds)) → ⊥
      by true some h g = both some h g
      by false some h g = no_refusal 0 (NoDevice c.import) h.0

  -- ---- a turn

  -- the last call of these notes asks a mailbox
  abbrev pub AsksIn : List Note → Type 0
  AsksIn [] = ⊥
  AsksIn (x ∷ xs) = AsksIn xs ⊎ ((c : Call) × (call_in x.event ≡ Some c) × (asks_mailbox boxes (bound_to w c.import) ≡ true) × CallFree xs)

  -- without outcomes there are no calls
  free : (xs : List Note) (os : List Outcome) → os ≡ [] → (lines : List AnswerLine) (z : Midst) (left : List AnswerLine) (z' : Midst) → CallsMeet w xs os lines z [] left z' → CallFree xs × (z' ≡ z)
  free [] os none lines z left z' h = (tt, h.2)
  free (x ∷ xs) os none lines z left z' h = by (call_in x.event) refl h (λ g. free xs os none lines z left z' g)
    where
      by : (q : Option Call) → call_in x.event ≡ q → NoteMeets w q os lines z (λ o l s. CallsMeet w xs o l s [] left z') → (CallsMeet w xs os lines z [] left z' → CallFree xs × (z' ≡ z))
          → ((call_in x.event ≡ None) × CallFree xs) × (z' ≡ z)
      by None is g on = let r = on g in ((is, r.0), r.1)
      by (Some c) is g on = let bad : [] ≡ g.0 ∷ g.1 = sym none ∙ g.4 in absurd cc

  -- where the last outcome may be one or another, whatever else is the same, the last call asks a mailbox
  turn_asks : (xs : List Note) (front : List Outcome) (lines : List AnswerLine) (z y : Midst) → z.devices ≡ y.devices → names_in z.boxes ≡ boxes → names_in y.boxes ≡ boxes
      → (left : List AnswerLine) (z' y' : Midst) → z'.devices ≡ y'.devices → CallsMeet w xs (front ++ waited 0 ∷ []) lines z [] left z' → CallsMeet w xs (front ++ waited 1 ∷ []) lines y [] left y' → AsksIn xs
  turn_asks [] front lines z y same nz ny left z' y' end h k = absurd (nothing front h.0)
    where
      nothing : (os : List Outcome) → [] ≡ os ++ waited 0 ∷ [] → ⊥
      nothing [] e = absurd cc
      nothing (o ∷ os) e = absurd cc
  turn_asks (x ∷ xs) front lines z y same nz ny left z' y' end h k =
      by (call_in x.event) refl front h k (λ front lines z y same nz ny g f. turn_asks xs front lines z y same nz ny left z' y' end g f)
    where
      Rest : List Outcome → List AnswerLine → Midst → Midst → Type 0
      Rest os ls s s' = CallsMeet w xs os ls s [] left s'

      by : (q : Option Call) → call_in x.event ≡ q → (front : List Outcome) → NoteMeets w q (front ++ waited 0 ∷ []) lines z (λ o l s. CallsMeet w xs o l s [] left z')
          → NoteMeets w q (front ++ waited 1 ∷ []) lines y (λ o l s. CallsMeet w xs o l s [] left y')
          → ((front : List Outcome) (lines : List AnswerLine) (z y : Midst) → z.devices ≡ y.devices → names_in z.boxes ≡ boxes → names_in y.boxes ≡ boxes
          → CallsMeet w xs (front ++ waited 0 ∷ []) lines z [] left z' → CallsMeet w xs (front ++ waited 1 ∷ []) lines y [] left y' → AsksIn xs)
          → AsksIn xs ⊎ ((c : Call) × (call_in x.event ≡ Some c) × (asks_mailbox boxes (bound_to w c.import) ≡ true) × CallFree xs)
      by None is front g f on = inl (on front lines z y same nz ny g f)
      by (Some c) is [] g f on = inr (c, is, at (asks_mailbox boxes (bound_to w c.import)) refl, r.0)
        where
          r : CallFree xs × (z' ≡ g.3)
          r = free xs g.1 (tail_same (waited 0) g.0 [] g.1 g.4) g.2 g.3 left z' g.6

          s : CallFree xs × (y' ≡ f.3)
          s = free xs f.1 (tail_same (waited 1) f.0 [] f.1 f.4) f.2 f.3 left y' f.6

          first : Meets w c.import c.args lines z (waited 0) g.2 g.3
          first = subst (λ (o : Outcome). Meets w c.import c.args lines z o g.2 g.3) (head_same (waited 0) g.0 [] g.1 g.4) g.5

          second : Meets w c.import c.args lines y (waited 1) f.2 f.3
          second = subst (λ (o : Outcome). Meets w c.import c.args lines y o f.2 f.3) (head_same (waited 1) f.0 [] f.1 f.4) f.5

          at : (b : Bool) → asks_mailbox boxes (bound_to w c.import) ≡ b → asks_mailbox boxes (bound_to w c.import) ≡ true
          at true asks = asks
          at false other =
              absurd (never_plain c (bound_to w c.import) lines g.2 f.2 z.devices g.3.devices f.3.devices (plain c lines z (waited 0) g.2 g.3 nz (bound_to w c.import) other first)
              (subst (λ (ds : List Device). Plain c (bound_to w c.import) lines ds (waited 1) f.2 f.3.devices) (sym same) (plain c lines y (waited 1) f.2 f.3 ny (bound_to w c.import) other second))
              (ap (λ (m : Midst). m.devices) (sym r.1) ∙ end ∙ ap (λ (m : Midst). m.devices) s.1))
      by (Some c) is (o ∷ os) g f on =
          let first : Meets w c.import c.args lines z o g.2 g.3 = subst (λ (u : Outcome). Meets w c.import c.args lines z u g.2 g.3) (head_same o g.0 (os ++ waited 0 ∷ []) g.1 g.4) g.5 in
          let second : Meets w c.import c.args lines y o f.2 f.3 = subst (λ (u : Outcome). Meets w c.import c.args lines y u f.2 f.3) (head_same o f.0 (os ++ waited 1 ∷ []) f.1 f.4) f.5 in
          let both = call_same c o lines g.2 f.2 z g.3 y f.3 same nz ny first second in
          inl (on os g.2 g.3 f.3 both.1 (met_beside boxes w c lines z o g.2 g.3 nz first).1 (met_beside boxes w c lines y o f.2 f.3 ny second).1
          (subst (λ (us : List Outcome). CallsMeet w xs us g.2 g.3 [] left z') (tail_same o g.0 (os ++ waited 0 ∷ []) g.1 g.4) g.6)
          (subst (λ (ls : List AnswerLine). CallsMeet w xs (os ++ waited 1 ∷ []) ls f.3 [] left y') (sym both.0)
          (subst (λ (us : List Outcome). CallsMeet w xs us f.2 f.3 [] left y') (tail_same o f.0 (os ++ waited 1 ∷ []) f.1 f.4) f.6)))

-- ---- lines

-- none of these lines tells a call of this program
abbrev pub NoCalls : ℕ → List Line → Type 0
NoCalls i [] = Unit {0}
NoCalls i (l ∷ ls) = (l.program ≡ i → call_in l.event ≡ None) × NoCalls i ls

no_calls_on : (i : ℕ) (xs ys : List Line) → NoCalls i xs → NoCalls i ys → NoCalls i (xs ++ ys)
no_calls_on i [] ys h k = k
no_calls_on i (l ∷ xs) ys h k = (h.0, no_calls_on i xs ys h.1 k)

no_calls_front : (i : ℕ) (xs ys : List Line) → NoCalls i (xs ++ ys) → NoCalls i xs
no_calls_front i [] ys h = tt
no_calls_front i (l ∷ xs) ys h = (h.0, no_calls_front i xs ys h.1)

-- the lines of another program
pub others_quiet : (due i j : ℕ) (told : Event → Event) (es : List Event) → (j ≡ i → ⊥) → NoCalls j (map (λ (e : Event). line_at due i (told e)) es)
others_quiet due i j told [] other = tt
others_quiet due i j told (e ∷ es) other = (λ own. absurd (other (sym own)), others_quiet due i j told es other)

module _ (due i j : ℕ) where
  -- what is shown of memory
  pub looks_quiet : (memory : List ℕ) (looks : List Look) → NoCalls j (map (line_at due i) (map (λ (k : Look). shown k.at (bytes_shown memory k)) looks))
  looks_quiet memory [] = tt
  looks_quiet memory (k ∷ ks) = (λ own. refl, looks_quiet memory ks)

  free_quiet : (xs : List Note) → CallFree xs → NoCalls j (map (line_at due i) (events_of xs))
  free_quiet [] h = tt
  free_quiet (x ∷ xs) h = (λ own. h.0, free_quiet xs h.1)

-- a pause that is told as parking is no call
call_told : {X : Type 0} (p : Option X) (e : Event) → call_in (told_pause p e) ≡ call_in e
call_told None (paused t u) = refl
call_told (Some r) (paused t u) = refl
call_told None (called c) = refl
call_told (Some r) (called c) = refl
call_told None (answered v) = refl
call_told (Some r) (answered v) = refl
call_told None (returned k v) = refl
call_told (Some r) (returned k v) = refl
call_told None (ended how) = refl
call_told (Some r) (ended how) = refl
call_told None (parked u) = refl
call_told (Some r) (parked u) = refl
call_told None (shown at bytes) = refl
call_told (Some r) (shown at bytes) = refl

module _ {X : Type 0} (due i : ℕ) (p : Option X) where
  abbrev told_of : List Event → List Line
  told_of es = map (λ (e : Event). line_at due i (told_pause p e)) es

  shown_quiet : (j : ℕ) (memory : List ℕ) (looks : List Look) → NoCalls j (told_of (map (λ (k : Look). shown k.at (bytes_shown memory k)) looks))
  shown_quiet j memory [] = tt
  shown_quiet j memory (k ∷ ks) = (λ own. call_told p (shown k.at (bytes_shown memory k)), shown_quiet j memory ks)

  after_quiet : (j : ℕ) (looks : List Look) (x : Note) (e : Event) → NoCalls j (told_of (looks_after looks x e))
  after_quiet j looks x (called call) = tt
  after_quiet j looks x (answered value) = tt
  after_quiet j looks x (paused ticks used) = tt
  after_quiet j looks x (returned entry value) = tt
  after_quiet j looks x (ended how) = shown_quiet j x.store.memory looks
  after_quiet j looks x (parked used) = tt
  after_quiet j looks x (shown at bytes) = tt

  parts : (looks : List Look) (x : Note) (xs : List Note) → told_of (events_with_looks looks (x ∷ xs)) ≡ told_of (x.event ∷ looks_after looks x x.event) ++ told_of (events_with_looks looks xs)
  parts looks x xs = map-append (λ (e : Event). line_at due i (told_pause p e)) (x.event ∷ looks_after looks x x.event) (events_with_looks looks xs)

  free_told : (j : ℕ) (looks : List Look) (xs : List Note) → CallFree xs → NoCalls j (told_of (events_with_looks looks xs))
  free_told j looks [] h = tt
  free_told j looks (x ∷ xs) h =
      subst (NoCalls j) (sym (parts looks x xs))
      (no_calls_on j (told_of (x.event ∷ looks_after looks x x.event)) (told_of (events_with_looks looks xs)) (λ own. call_told p x.event ∙ h.0, after_quiet j looks x x.event) (free_told j looks xs h.1))

module _ (boxes : List (List ℕ)) (programs : List Program) where
  -- The line tells a call of this program that asks a mailbox.
  pub record IsAsking (i : ℕ) (l : Line) : Type 0 where
    pub own : l.program ≡ i
    pub c : Call
    pub call : call_in l.event ≡ Some c
    pub w : Program
    pub there : slice_get programs i ≡ Some w
    pub asks : asks_mailbox boxes (bound_to w c.import) ≡ true

  -- the last call of this program asks a mailbox
  abbrev pub AsksLast : ℕ → List Line → Type 0
  AsksLast i [] = ⊥
  AsksLast i (l ∷ ls) = AsksLast i ls ⊎ (IsAsking i l × NoCalls i ls)

  pub last_before : (i : ℕ) (xs ys : List Line) → NoCalls i ys → AsksLast i xs → AsksLast i (xs ++ ys)
  last_before i [] ys quiet h = absurd h
  last_before i (l ∷ xs) ys quiet (inl h) = inl (last_before i xs ys quiet h)
  last_before i (l ∷ xs) ys quiet (inr h) = inr (h.0, no_calls_on i xs ys h.1 quiet)

  pub last_behind : (i : ℕ) (xs ys : List Line) → AsksLast i ys → AsksLast i (xs ++ ys)
  last_behind i [] ys h = h
  last_behind i (l ∷ xs) ys h = inl (last_behind i xs ys h)

  never_quiet : (i : ℕ) (ys : List Line) → NoCalls i ys → AsksLast i ys → ⊥
  never_quiet i [] quiet h = h
  never_quiet i (l ∷ ys) quiet (inl h) = never_quiet i ys quiet.1 h
  never_quiet i (l ∷ ys) quiet (inr h) = let bad : None ≡ Some h.0.c = sym (quiet.0 h.0.own) ∙ h.0.call in absurd cc

  pub last_front : (i : ℕ) (xs ys : List Line) → NoCalls i ys → AsksLast i (xs ++ ys) → AsksLast i xs
  last_front i [] ys quiet h = absurd (never_quiet i ys quiet h)
  last_front i (l ∷ xs) ys quiet (inl h) = inl (last_front i xs ys quiet h)
  last_front i (l ∷ xs) ys quiet (inr h) = inr (h.0, no_calls_front i xs ys h.1)

  module _ (i : ℕ) (w : Program) (there : slice_get programs i ≡ Some w) (due : ℕ) where
    pub asks_plain : (xs : List Note) → AsksIn boxes w xs → AsksLast i (map (line_at due i) (events_of xs))
    asks_plain [] h = absurd h
    asks_plain (x ∷ xs) (inl h) = inl (asks_plain xs h)
    asks_plain (x ∷ xs) (inr h) = inr (record { own = refl; c = h.0; call = h.1; w = w; there = there; asks = h.2 }, free_quiet due i i xs h.3)

    pub asks_told : {X : Type 0} (p : Option X) (looks : List Look) (xs : List Note) → AsksIn boxes w xs → AsksLast i (told_of due i p (events_with_looks looks xs))
    asks_told p looks [] h = absurd h
    asks_told p looks (x ∷ xs) (inl h) =
        subst (AsksLast i) (sym (parts due i p looks x xs))
        (last_behind i (told_of due i p (x.event ∷ looks_after looks x x.event)) (told_of due i p (events_with_looks looks xs)) (asks_told p looks xs h))
    asks_told p looks (x ∷ xs) (inr h) =
        subst (AsksLast i) (sym (parts due i p looks x xs))
        (inr (
          record { own = refl; c = h.0; call = call_told p x.event ∙ h.1; w = w; there = there; asks = h.2 },
          no_calls_on i (told_of due i p (looks_after looks x x.event)) (told_of due i p (events_with_looks looks xs)) (after_quiet due i p i looks x x.event) (free_told due i p i looks xs h.3),
        ))

-- ---- turns

promised_names : (will : ℕ → ℕ) (bs : List Box) → names_in (map (promised will) bs) ≡ names_of bs
promised_names will [] = refl
promised_names will (b ∷ bs) = ap (λ (ns : List (List ℕ)). b.name ∷ ns) (promised_names will bs)

module _ (boxes : List (List ℕ)) (w : Program) (i : ℕ) (turn : List Note) (met : List Outcome) (lines left : List AnswerLine) (begun now : Amid) (mid : List Teller)
    (named : names_of begun.boxes ≡ boxes) (sent : AreSent mid now.settled) (out : NotAmong i now.settled)
    (calls : (will : ℕ → ℕ) → ((j : ℕ) → will j < 2 ^ 32) → KeepsPromises will now.settled
    → CallsMeet w turn (met ++ pending (will i) now.receive) lines (midst_by will i begun) [] left (midst_by will i now)) where
  abbrev told_all : ℕ → ℕ → ℕ
  told_all v = fixed now.settled (λ (j : ℕ). v)

  called_with : (v : ℕ) → v < 2 ^ 32 → CallsMeet w turn (met ++ pending (told_all v i) now.receive) lines (midst_by (told_all v) i begun) [] left (midst_by (told_all v) i now)
  called_with v small = calls (told_all v) (fixed_small mid now.settled (λ (j : ℕ). v) sent (λ j. small)) (fixed_keeps mid now.settled (λ (j : ℕ). v) sent)

  begun_named : (v : ℕ) → names_in (midst_by (told_all v) i begun).boxes ≡ boxes
  begun_named v = promised_names (told_all v) begun.boxes ∙ named

  pub names_now : names_of now.boxes ≡ boxes
  names_now =
      sym (promised_names (told_all 0) now.boxes)
      ∙ (calls_beside boxes w turn (met ++ pending (told_all 0 i) now.receive) lines (midst_by (told_all 0) i begun) [] left (midst_by (told_all 0) i now) (called_with 0 (omega arith)) (begun_named 0)).1

  pub waits_asks : (r : Await) → now.receive ≡ Some r → AsksIn boxes w turn
  waits_asks r is =
      turn_asks boxes w turn met lines (midst_by (told_all 0) i begun) (midst_by (told_all 1) i begun) refl (begun_named 0) (begun_named 1) left
      (midst_by (told_all 0) i now) (midst_by (told_all 1) i now) refl (with_value 0 (omega arith)) (with_value 1 (omega arith))
    where
      with_value : (v : ℕ) → v < 2 ^ 32 → CallsMeet w turn (met ++ waited v ∷ []) lines (midst_by (told_all v) i begun) [] left (midst_by (told_all v) i now)
      with_value v small =
          subst (λ (os : List Outcome). CallsMeet w turn (met ++ os) lines (midst_by (told_all v) i begun) [] left (midst_by (told_all v) i now))
          (ap (pending (told_all v i)) is ∙ ap (λ (n : ℕ). waited n ∷ []) (fixed_out now.settled (λ (j : ℕ). v) i out)) (called_with v small)
