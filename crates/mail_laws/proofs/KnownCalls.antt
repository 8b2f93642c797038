-- What calls meet by what is known of mailboxes, the promises aside; each call but a receive at an empty mailbox, which is the last of a turn.
use Rattle.std.proofs.Common.{◌≡◌, ◌⊎◌, inl, inr, ℕ, List, [], ◌∷◌, ◌++◌, Option, Some, None, slice_get, refl, sym, ap, ◌∙◌, subst, append-nil}
use Rattle.std.specs.List.{find}
use Rattle.std.specs.Option.{unwrap_or}
use Rattle.wa_types.specs.Syntax.{Module}
use Rattle.wa_types.specs.declared.values.Value.{Value}
use Rattle.wa_types.specs.declared.values.Value.TheVariants as V
use Rattle.wa_model.specs.declared.events.End.TheVariants.{NoDevice}
use Rattle.wa_model.specs.Outside.{AnswerLine, Call}
use Rattle.wa_model.specs.Plan.{Outcome, refused}
use Rattle.wa_model.specs.Blocking.{Note}
use Rattle.world_model.specs.World.{Device, MeetsDevice, MeetsLine, Program, base_names, call_in, import_names, name_at}
use Rattle.mailbox_device.specs.Mail.{Box, at_box as at_told, is_box as has_name, received as told_received, sent as told_sent}
use Rattle.mailbox_device.specs.declared.mailbox.Settled.{Settled}
use Rattle.mail_laws.specs.Mailboxes.{in_range, mailed}
use Rattle.mail_laws.specs.Told.{Amid, Await}

-- ---- one call

abbrev pub told_receiver : ℕ → List ℕ → List Settled
told_receiver v [] = []
told_receiver v (j ∷ js) = record { program = j; value = in_range v } ∷ []

abbrev pub after_sent : (name : List ℕ) → (value : ℕ) → Box → Amid → Amid
after_sent name v b m = record { devices = m.devices; boxes = at_told (told_sent v) name m.boxes; settled = m.settled ++ told_receiver v b.waits; receive = m.receive }

abbrev pub KnownValues : (name : List ℕ) → List ℕ → Amid → Outcome → Amid → Type 0
KnownValues name [] m o m' = ⊥
KnownValues name (v ∷ vs) m o m' = (o ≡ mailed (Some (V.I32 (in_range v))) 0) × (m' ≡ record m { boxes = at_told (told_received vs) name m.boxes })

abbrev pub KnownBox : (import : ℕ) → (name : List ℕ) → List Value → Box → Amid → Outcome → Amid → Type 0
KnownBox import name (V.I32 v ∷ []) b m o m' = (o ≡ mailed None 0) × (m' ≡ after_sent name v b m)
KnownBox import name [] b m o m' = KnownValues name b.values m o m'
KnownBox import name _ b m o m' = (o ≡ refused (NoDevice import)) × (m' ≡ m)

abbrev pub KnownNamed : (import : ℕ) → (base name : List ℕ) → List Value → Option Box → Amid → Outcome → Amid → Type 0
KnownNamed import base name args None m o m' = (ds : List Device) × MeetsDevice import base name args m.devices o ds × (m' ≡ record m { devices = ds })
KnownNamed import base name args (Some b) m o m' = KnownBox import name args b m o m'

abbrev pub KnownBound : Module → (import : ℕ) → List Value → Option (List ℕ) → List AnswerLine → Amid → Outcome → List AnswerLine → Amid → Type 0
KnownBound p import args (Some name) lines m o lines' m' = KnownNamed import (name_at (base_names p) import) name args (find (has_name name) m.boxes) m o m' × (lines' ≡ lines)
KnownBound p import args None lines m o lines' m' = MeetsLine import (name_at (import_names p) import) lines o lines' × (m' ≡ m)

abbrev pub bound_to : Program → Call → Option (List ℕ)
bound_to w c = unwrap_or (slice_get w.binds c.import) None

-- a call that isn't such a receive
abbrev pub Known : Program → Call → List AnswerLine → Amid → Outcome → List AnswerLine → Amid → Type 0
Known w c lines m o lines' m' = KnownBound w.source c.import c.args (bound_to w c) lines m o lines' m'

-- a receive at an empty mailbox
pub record AtEmpty (w : Program) (c : Call) (m : Amid) (r : Await) : Type 0 where
  pub name : List ℕ
  pub box : Box
  pub bound : bound_to w c ≡ Some name
  pub there : find (has_name name) m.boxes ≡ Some box
  pub args : c.args ≡ []
  pub empty : box.values ≡ []
  pub is : r ≡ record { import = c.import; box = name }

module _ (w : Program) (c : Call) (lines : List AnswerLine) (m : Amid) where
  pub known_by : (b : Option (List ℕ)) → bound_to w c ≡ b → (o : Outcome) (lines' : List AnswerLine) (m' : Amid) → KnownBound w.source c.import c.args b lines m o lines' m'
      → Known w c lines m o lines' m'
  known_by b e o lines' m' h = subst (λ (q : Option (List ℕ)). KnownBound w.source c.import c.args q lines m o lines' m') (sym e) h

  pub known_named : (name : List ℕ) → bound_to w c ≡ Some name → (found : Option Box) → find (has_name name) m.boxes ≡ found → (o : Outcome) (m' : Amid)
      → KnownNamed c.import (name_at (base_names w.source) c.import) name c.args found m o m' → Known w c lines m o lines m'
  known_named name e found f o m' h =
      known_by (Some name) e o lines m'
      (subst (λ (q : Option Box). KnownNamed c.import (name_at (base_names w.source) c.import) name c.args q m o m') (sym f) h, refl)

  pub known_box : (name : List ℕ) → bound_to w c ≡ Some name → (b : Box) → find (has_name name) m.boxes ≡ Some b → (args : List Value) → c.args ≡ args → (o : Outcome) (m' : Amid)
      → KnownBox c.import name args b m o m' → Known w c lines m o lines m'
  known_box name e b f args a o m' h = known_named name e (Some b) f o m' (subst (λ (xs : List Value). KnownBox c.import name xs b m o m') (sym a) h)

-- ---- calls of notes

abbrev pub CallFree : List Note → Type 0
CallFree [] = Unit {0}
CallFree (x ∷ xs) = (call_in x.event ≡ None) × CallFree xs

-- one note that is no call
abbrev pub OneQuiet : List Note → Type 0
OneQuiet xs = (z : Note) × (xs ≡ z ∷ []) × (call_in z.event ≡ None)

abbrev pub KnownNote : Program → (silent : Type 0) → Option Call → List Outcome → List AnswerLine → Amid → List Outcome → List AnswerLine → Amid
    → (List Outcome → List AnswerLine → Amid → Type 0) → Type 0
KnownNote w silent None os lines m os' lines' m' rest = rest os lines m
KnownNote w silent (Some c) os lines m os' lines' m' rest =
    ((o : Outcome) × (us : List Outcome) × (l : List AnswerLine) × (z : Amid) × (os ≡ o ∷ us) × Known w c lines m o l z × rest us l z)
    ⊎ ((r : Await) × AtEmpty w c m r × silent × (os' ≡ os) × (lines' ≡ lines) × (m' ≡ record m { receive = Some r }))

-- each call of these notes, of which one such receive may be the last
abbrev pub KnownCalls : Program → List Note → List Outcome → List AnswerLine → Amid → List Outcome → List AnswerLine → Amid → Type 0
KnownCalls w [] os lines m os' lines' m' = (os' ≡ os) × (lines' ≡ lines) × (m' ≡ m)
KnownCalls w (x ∷ xs) os lines m os' lines' m' = KnownNote w (OneQuiet xs) (call_in x.event) os lines m os' lines' m' (λ o l z. KnownCalls w xs o l z os' lines' m')

pub known_free : (w : Program) (es : List Note) (lines : List AnswerLine) (m : Amid) → CallFree es → KnownCalls w es [] lines m [] lines m
known_free w [] lines m free = (refl, refl, refl)
known_free w (x ∷ es) lines m free =
    subst (λ (q : Option Call). KnownNote w (OneQuiet es) q [] lines m [] lines m (λ o l z. KnownCalls w es o l z [] lines m)) (sym free.0) (known_free w es lines m free.1)

-- those of notes behind others, none of which is such a receive
pub known_more : (w : Program) (xs ys : List Note) (os us : List Outcome) (lines l1 l2 : List AnswerLine) (m m1 m2 : Amid) → KnownCalls w xs os lines m [] l1 m1 → m1.receive ≡ None
    → KnownCalls w ys us l1 m1 [] l2 m2 → KnownCalls w (xs ++ ys) (os ++ us) lines m [] l2 m2
known_more w [] ys os us lines l1 l2 m m1 m2 h none k =
    subst (λ (o : List Outcome). KnownCalls w ys (o ++ us) lines m [] l2 m2) h.0
    (subst (λ (l : List AnswerLine). KnownCalls w ys us l m [] l2 m2) h.1 (subst (λ (z : Amid). KnownCalls w ys us l1 z [] l2 m2) h.2 k))
known_more w (x ∷ xs) ys os us lines l1 l2 m m1 m2 h none k = by (call_in x.event) h (λ o l z g. known_more w xs ys o us l l1 l2 z m1 m2 g none k)
  where
    received : (r : Await) → m1 ≡ record m { receive = Some r } → ⊥
    received r e = let bad : None ≡ Some r = sym none ∙ ap (λ (z : Amid). z.receive) e in cc

    by : (c : Option Call) → KnownNote w (OneQuiet xs) c os lines m [] l1 m1 (λ o l z. KnownCalls w xs o l z [] l1 m1)
        → ((o : List Outcome) (l : List AnswerLine) (z : Amid) → KnownCalls w xs o l z [] l1 m1 → KnownCalls w (xs ++ ys) (o ++ us) l z [] l2 m2)
        → KnownNote w (OneQuiet (xs ++ ys)) c (os ++ us) lines m [] l2 m2 (λ o l z. KnownCalls w (xs ++ ys) o l z [] l2 m2)
    by None g on = on os lines m g
    by (Some c) (inl g) on = inl (g.0, g.1 ++ us, g.2, g.3, ap (λ (o : List Outcome). o ++ us) g.4, g.5, on g.1 g.2 g.3 g.6)
    by (Some c) (inr g) on = absurd (received g.0 g.5)

pub known_then_free : (w : Program) (xs es : List Note) (os : List Outcome) (lines l1 : List AnswerLine) (m m1 : Amid) → KnownCalls w xs os lines m [] l1 m1 → m1.receive ≡ None → CallFree es
    → KnownCalls w (xs ++ es) os lines m [] l1 m1
known_then_free w xs es os lines l1 m m1 h none free =
    subst (λ (o : List Outcome). KnownCalls w (xs ++ es) o lines m [] l1 m1) (append-nil os) (known_more w xs es os [] lines l1 l1 m m1 m1 h none (known_free w es l1 m1 free))
