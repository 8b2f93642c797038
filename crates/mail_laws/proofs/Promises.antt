-- Promises, read backwards: in front of an event they are those behind it, but for the programs that it sends a value.
use Rattle.std.proofs.Common.{◌≡◌, ◌<◌, ◌^◌, ◌⊎◌, inl, inr, ℕ, List, [], ◌∷◌, ◌++◌, map, Option, Some, None, Bool, true, false, slice_get, slice_set, if◌then◌else◌, refl, sym, ap, ◌∙◌, subst}
use Rattle.std.specs.Option.{option_map}
use Rattle.std.proofs.lemmas.Bool.{cases_eq}
use Rattle.std.proofs.lemmas.List.{map-append}
use Rattle.std.proofs.lemmas.Option.{same_Some}
use Rattle.wa_types.specs.Validity.{same_name}
use Rattle.wa_model.specs.Outside.{Event, called, answered, paused, parked, returned, ended, shown}
use Rattle.wa_model.specs.Blocking.{Note}
use Rattle.world_laws.proofs.Places.{set_there}
use Rattle.mailbox_device.specs.Mail.{Box}
use Rattle.mailbox_device.specs.declared.mailbox.Settled.{Settled}
use Rattle.mail_laws.specs.Mailboxes.{Mailbox, awaited, at_box}
use Rattle.mail_laws.specs.MailWorld.{with_waiting, parks, pauses, told_pause}
use Rattle.mail_laws.specs.Told.{Await, promise, promised, receive_of, KeepsPromises, NotAmong, AreSent, NoneAmong, StillWait, waiting_in, parked_in, Teller}

abbrev pub pick : {A B : Type 0} → A ⊎ B → ℕ → ℕ → ℕ
pick (inl x) a b = a
pick (inr x) a b = b

-- with what these were sent
pub fixed : List Settled → (ℕ → ℕ) → ℕ → ℕ
fixed [] will j = will j
fixed (s ∷ ss) will j = pick (cases_eq j s.program) s.value (fixed ss will j)

pub fixed_here : (s : Settled) (ss : List Settled) (will : ℕ → ℕ) → fixed (s ∷ ss) will s.program ≡ s.value
unfolding fixed
fixed_here s ss will = by (cases_eq s.program s.program)
  where
    by : (c : (s.program ≡ s.program) ⊎ (s.program ≡ s.program → ⊥)) → pick c s.value (fixed ss will s.program) ≡ s.value
    by (inl e) = refl
    by (inr other) = absurd (other refl)

pub fixed_there : (s : Settled) (ss : List Settled) (will : ℕ → ℕ) (j : ℕ) → (j ≡ s.program → ⊥) → fixed (s ∷ ss) will j ≡ fixed ss will j
unfolding fixed
fixed_there s ss will j other = by (cases_eq j s.program)
  where
    by : (c : (j ≡ s.program) ⊎ (j ≡ s.program → ⊥)) → pick c s.value (fixed ss will j) ≡ fixed ss will j
    by (inl e) = absurd (other e)
    by (inr o) = refl

pub fixed_out : (ss : List Settled) (will : ℕ → ℕ) (j : ℕ) → NotAmong j ss → fixed ss will j ≡ will j
unfolding fixed
fixed_out [] will j out = refl
fixed_out (s ∷ ss) will j out = fixed_there s ss will j out.0 ∙ fixed_out ss will j out.1

pub fixed_none : (will : ℕ → ℕ) (j : ℕ) → fixed [] will j ≡ will j
unfolding fixed
fixed_none will j = refl

pub fixed_small : (tellers : List Teller) (ss : List Settled) (will : ℕ → ℕ) → AreSent tellers ss → ((j : ℕ) → will j < 2 ^ 32) → (j : ℕ) → fixed ss will j < 2 ^ 32
unfolding fixed
fixed_small tellers [] will sent small j = small j
fixed_small tellers (s ∷ ss) will sent small j = by (fixed_small tellers ss will sent.3 small j) (cases_eq j s.program)
  where
    by : fixed ss will j < 2 ^ 32 → (j ≡ s.program) ⊎ (j ≡ s.program → ⊥) → fixed (s ∷ ss) will j < 2 ^ 32
    by on (inl e) = subst (λ (n : ℕ). n < 2 ^ 32) (sym (ap (fixed (s ∷ ss) will) e ∙ fixed_here s ss will)) sent.1
    by on (inr other) = subst (λ (n : ℕ). n < 2 ^ 32) (sym (fixed_there s ss will j other)) on

pub keeps_other : (v w : ℕ → ℕ) (k : ℕ) → ((j : ℕ) → (j ≡ k → ⊥) → v j ≡ w j) → (ss : List Settled) → NotAmong k ss → KeepsPromises w ss → KeepsPromises v ss
keeps_other v w k same [] out keeps = tt
keeps_other v w k same (s ∷ ss) out keeps = (same s.program (λ e. out.0 (sym e)) ∙ keeps.0, keeps_other v w k same ss out.1 keeps.1)

pub fixed_keeps : (tellers : List Teller) (ss : List Settled) (will : ℕ → ℕ) → AreSent tellers ss → KeepsPromises (fixed ss will) ss
fixed_keeps tellers [] will sent = tt
fixed_keeps tellers (s ∷ ss) will sent =
    (fixed_here s ss will, keeps_other (fixed (s ∷ ss) will) (fixed ss will) s.program (fixed_there s ss will) ss sent.2 (fixed_keeps tellers ss will sent.3))

-- ---- who is sent

-- who doesn't wait is sent nothing
pub not_sent : (tellers : List Teller) (ss : List Settled) (i : ℕ) (t : Teller) → slice_get tellers i ≡ Some t → t.receive ≡ None → AreSent tellers ss → NotAmong i ss
not_sent tellers [] i t there none sent = tt
not_sent tellers (s ∷ ss) i t there none sent = (never, not_sent tellers ss i t there none sent.3)
  where
    never : i ≡ s.program → ⊥
    never e =
        let same : t ≡ sent.0.t = same_Some t sent.0.t (sym there ∙ ap (slice_get tellers) e ∙ sent.0.there) in
        let no_way : None ≡ Some sent.0.r = sym none ∙ ap (λ (x : Teller). x.receive) same ∙ sent.0.waits in
        absurd cc

-- with another program set aside
pub still_sent : (tellers : List Teller) (ss : List Settled) (k : ℕ) (x : Teller) → NotAmong k ss → AreSent tellers ss → AreSent (slice_set tellers k x) ss
still_sent tellers [] k x out sent = tt
still_sent tellers (s ∷ ss) k x out sent = (
  record {
    t = sent.0.t;
    r = sent.0.r;
    there = set_there tellers k s.program x (λ e. out.0 (sym e)) ∙ sent.0.there;
    unfinished = sent.0.unfinished;
    waits = sent.0.waits;
  },
  sent.1,
  sent.2,
  still_sent tellers ss k x out.1 sent.3,
)

-- ---- mailboxes

waits_same : (ss : List Settled) (will : ℕ → ℕ) (is : List ℕ) → NoneAmong is ss → map (promise (fixed ss will)) is ≡ map (promise will) is
waits_same ss will [] out = refl
waits_same ss will (i ∷ is) out = λ k. record { program = i; value = fixed_out ss will i out.0 k } ∷ waits_same ss will is out.1 k

pub boxes_same : (ss : List Settled) (will : ℕ → ℕ) (bs : List Box) → StillWait bs ss → map (promised (fixed ss will)) bs ≡ map (promised will) bs
boxes_same ss will [] still = refl
boxes_same ss will (b ∷ bs) still = λ k. record { name = b.name; values = b.values; waits = waits_same ss will b.waits still.0 k } ∷ boxes_same ss will bs still.1 k

waiting_boxes : (will : ℕ → ℕ) (i : ℕ) (name : List ℕ) (bs : List Box)
    → map (promised will) (waiting_in i name bs) ≡ at_box (awaited (record { program = i; value = will i })) name (map (promised will) bs)
waiting_boxes will i name [] = refl
waiting_boxes will i name (b ∷ bs) = by (same_name b.name name) (waiting_boxes will i name bs)
  where
    here : Box
    here = record b { waits = b.waits ++ i ∷ [] }

    there : List Mailbox
    there = at_box (awaited (record { program = i; value = will i })) name (map (promised will) bs)

    by : (y : Bool) → map (promised will) (waiting_in i name bs) ≡ there
        → map (promised will) (if y then (record b { waits = b.waits ++ i ∷ [] }) ∷ bs else b ∷ waiting_in i name bs)
        ≡ (if y then awaited (record { program = i; value = will i }) (promised will b) ∷ map (promised will) bs else promised will b ∷ there)
    by true on = λ k. record { name = b.name; values = b.values; waits = map-append (promise will) b.waits (i ∷ []) k } ∷ map (promised will) bs
    by false on = ap (λ (l : List Mailbox). promised will b ∷ l) on

pub parked_boxes : (will : ℕ → ℕ) (i : ℕ) (p : Option Await) (bs : List Box) → map (promised will) (parked_in i p bs) ≡ with_waiting i (option_map (receive_of (will i)) p) (map (promised will) bs)
parked_boxes will i None bs = refl
parked_boxes will i (Some r) bs = waiting_boxes will i r.box bs

-- ---- a turn that parks

pub parks_map : {X Y : Type 0} (f : X → Y) (turn : List Note) (r : Option X) → parks turn (option_map f r) ≡ option_map f (parks turn r)
parks_map f turn r = by (pauses turn)
  where
    by : (b : Bool) → (if b then option_map f r else None) ≡ option_map f (if b then r else None)
    by true = refl
    by false = refl

pub told_map : {X Y : Type 0} (f : X → Y) (p : Option X) (e : Event) → told_pause (option_map f p) e ≡ told_pause p e
told_map f None e = refl
told_map f (Some r) (paused t u) = refl
told_map f (Some r) (ended how) = refl
told_map f (Some r) (called c) = refl
told_map f (Some r) (answered c) = refl
told_map f (Some r) (parked u) = refl
told_map f (Some r) (returned i v) = refl
told_map f (Some r) (shown i v) = refl
