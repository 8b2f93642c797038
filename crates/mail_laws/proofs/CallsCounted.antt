-- What each program has told holds a call for each outcome that its calls met, and one for a receive that isn't answered.
use Rattle.std.proofs.Common.{arith, ◌≡◌, ◌+◌, ◌⊎◌, inl, inr, ℕ, List, [], ◌∷◌, ◌++◌, length, Some, None, slice_get, slice_set, refl, sym, ap, ◌∙◌, subst, length-append}
use Rattle.std.proofs.lemmas.Bool.{cases_eq}
use Rattle.wa_types.specs.declared.values.Value.TheVariants as V
use Rattle.wa_model.specs.Outside.{AnswerLine}
use Rattle.wa_model.specs.Plan.{Outcome}
use Rattle.wa_model.specs.Blocking.{Note}
use Rattle.world_model.specs.World.{Program}
use Rattle.world_laws.specs.Originals.{new_calls}
use Rattle.world_laws.proofs.Counting.{calls_on}
use Rattle.world_laws.proofs.Places.{of_map, set_there}
use Rattle.mailbox_device.specs.declared.mailbox.Settled.{Settled}
use Rattle.mail_laws.specs.Mailboxes.{mailed}
use Rattle.mail_laws.specs.Told.{Amid, AreSent, Teller, having_told, settle_all, starting}
use Rattle.mail_laws.proofs.GoingOn.{Got, settle_at}
use Rattle.mail_laws.proofs.KnownCalls.{KnownCalls}
use Rattle.mail_laws.proofs.SameTurns.{calls_count, open_receive}
use Rattle.mail_laws.proofs.ToldAreWorlds.{set_back}

abbrev pub IsCounted : Teller → Type 0
IsCounted t = new_calls t.told ≡ length t.met + open_receive t.receive

abbrev pub Counted : List Teller → Type 0
Counted tellers = (j : ℕ) (t : Teller) → slice_get tellers j ≡ Some t → IsCounted t

pub start_counted : (programs : List Program) → Counted (Rattle.std.proofs.Common.map starting programs)
start_counted programs j t e = let w = of_map starting programs j t e in subst IsCounted w.2 (by w.0)
  where
    by : (w : Program) → IsCounted (starting w)
    by w = omega arith

pub set_counted : (tellers : List Teller) (i : ℕ) (x : Teller) → Counted tellers → IsCounted x → Counted (slice_set tellers i x)
set_counted tellers i x h one j t e = by (cases_eq j i)
  where
    by : (j ≡ i) ⊎ (j ≡ i → ⊥) → IsCounted t
    by (inl same) = subst IsCounted (sym (set_back tellers i x t (ap (slice_get (slice_set tellers i x)) (sym same) ∙ e)).2) one
    by (inr other) = h j t (sym (set_there tellers i j x other) ∙ e)

pub settled_counted : (due : ℕ) (ss : List Settled) (tellers : List Teller) → AreSent tellers ss → Counted tellers → Counted (settle_all due ss tellers)
settled_counted due ss tellers sent h j t e = by (settle_at due ss tellers j t sent e)
  where
    by : (slice_get tellers j ≡ Some t) ⊎ Got due tellers j t → IsCounted t
    by (inl there) = h j t there
    by (inr g) =
        let old = h j g.u g.there in
        let one : open_receive g.u.receive ≡ 1 = ap open_receive g.waits in
        let met : length (g.u.met ++ mailed (Some (V.I32 g.value)) 1 ∷ []) ≡ length g.u.met + 1 = length-append g.u.met (mailed (Some (V.I32 g.value)) 1 ∷ []) in
        subst IsCounted (sym g.is) (omega (arith, old, one, met))

-- behind a turn
pub turn_counted : (due i : ℕ) (ss : List Settled) (tellers : List Teller) (t : Teller) (w : Program) (turn : List Note) (met : List Outcome) (answers : List AnswerLine) (begin behind : Amid)
    → AreSent (slice_set tellers i (having_told t turn met answers behind.receive)) ss → Counted tellers → IsCounted t → t.receive ≡ None → begin.receive ≡ None
    → KnownCalls w turn met t.answers begin [] answers behind → Counted (settle_all due ss (slice_set tellers i (having_told t turn met answers behind.receive)))
turn_counted due i ss tellers t w turn met answers begin behind sent h one awake fresh known =
    let made = calls_count w turn met [] t.answers answers begin behind known fresh in
    let none : open_receive t.receive ≡ 0 = ap open_receive awake in
    settled_counted due ss (slice_set tellers i (having_told t turn met answers behind.receive)) sent
    (set_counted tellers i (having_told t turn met answers behind.receive) h (omega (arith, calls_on t.told turn, length-append t.met met, one, none, made)))
