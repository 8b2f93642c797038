-- Under a plan with an empty area, which lets no import pause, what is emitted does what its original does.
use Rattle.std.proofs.Common.{◌≡◌, ℕ, zero, suc, ◌+◌, List, [], ◌∷◌, ◌++◌, length, Option, Some, None, Bool, true, false, All, refl, sym, ap, ◌∙◌, subst, arith}
use Rattle.std.specs.Prelude.{◌&&◌, nat_lt, not, slice_get}
use Rattle.std.specs.List.{filter_map}
use Rattle.std.proofs.lemmas.List.Elements.{All-head, All-tail, All-nil, All-cons, All-weaker}
use Rattle.wa_types.specs.Bounds.{Bound}
use Rattle.wa_types.specs.Frames.{Suspended, Fit, Room}
use Rattle.wa_types.specs.Pausing.{Settings, TellsMayPause, is_told}
use Rattle.wa_types.specs.Runtime.{global_space}
use Rattle.wa_types.specs.Sizes.{WellFormed}
use Rattle.wa_types.specs.Syntax.{Module}
use Rattle.wa_model.specs.declared.answers.Area.{Area}
use Rattle.wa_model.specs.Outside.{Event, called, answered, paused, parked, returned, ended, shown as is_shown}
use Rattle.wa_model.specs.Store.{Store}
use Rattle.wa_model.specs.Plan.{Plan, Outcome}
use Rattle.wa_model.specs.Blocking.{Note, State, between, begins, runs, halts, events_of, overlap, Blocking}
use Rattle.wa_model.specs.Protocol.{Protocol, store_held}
use Rattle.wa_model.specs.Untouched.{IsCalm, next_ranges}
use Rattle.wa_model.proofs.StayingOff.{each_off}
use Rattle.wa_model.specs.Expected.{SameEnd}
use Rattle.run_theory.specs.Shown.{shown_within as shown, shown_within_at as shown_at}
use Rattle.wa_model.specs.Behaves.{BehavesOn, IsPrefix, PauseNumbered, expected_notes, pause_stacks, protocol_notes, stack_if, unless_pause, without_pauses, GivenUnpaused, RunsAlike, SameWhole}
use Rattle.run_laws.specs.Standing.{PauseTold}
use Rattle.run_laws.proofs.StandingPauses.{pauses_told}
use Rattle.headline.specs.Given.{BehavesGiven, ComparedGiven, LetsPause}
use Rattle.headline.proofs.HonestRuns.{honest_run}
use Rattle.headline.proofs.HonestRuns as H

-- an area of no byte
abbrev pub nowhere : Area
nowhere = record { at = 0; len = 0 }

-- no import
abbrev no_import : List Bool
no_import = []

-- the plan with an empty area, which lets no import pause
abbrev pub emptied : Plan → Plan
emptied plan = record { globals = plan.globals; entries = plan.entries; area = nowhere; others = plan.others; listed = Some [] }

-- ---- it asks nothing

none_told : (i : ℕ) → is_told (slice_get no_import i) ≡ false
none_told zero = refl
none_told (suc i) = refl

lets_none : (plan : Plan) → LetsPause (emptied plan) → ⊥
lets_none plan h = let z : true ≡ false = sym (ap not (none_told h.0)) ∙ h.1 in cc

pub off_nowhere : (a n : ℕ) → overlap a n 0 0 ≡ false
off_nowhere a n = by (nat_lt 0 n)
  where
    by : (b : Bool) → (((b && nat_lt 0 0) && nat_lt a (0 + 0)) && nat_lt 0 (a + n)) ≡ false
    by true = refl
    by false = refl

calm : (t : State) → IsCalm nowhere t
calm (between s l) = tt
calm (begins x s l) = tt
calm (runs task c l) = each_off nowhere (length c.store.memory) (λ x. off_nowhere x.at x.len) (next_ranges c)
calm (halts s) = tt

-- ---- nothing pauses

abbrev NoPause : Note → Type 0
NoPause x = x.pause ≡ None

unpaused_at : (plan : Plan) → plan.listed ≡ Some [] → (e : Event) (o : Option ℕ) → PauseTold plan e o → o ≡ None
unpaused_at plan l e None h = refl
unpaused_at plan l (called c) (Some ticks) h = let z : slice_get no_import c.import ≡ Some true = h [] l in absurd (none_there c.import z)
  where
    none_there : (i : ℕ) → slice_get no_import i ≡ Some true → ⊥
    none_there zero e = cc
    none_there (suc i) e = cc
unpaused_at plan l (answered v) (Some ticks) h = absurd h
unpaused_at plan l (paused t u) (Some ticks) h = absurd h
unpaused_at plan l (returned n v) (Some ticks) h = absurd h
unpaused_at plan l (ended how) (Some ticks) h = absurd h
unpaused_at plan l (parked used) (Some ticks) h = absurd h
unpaused_at plan l (is_shown at bytes) (Some ticks) h = absurd h

all_unpaused : (m : Module) (plan : Plan) (os : List Outcome) (n : ℕ) → All NoPause (Blocking m (emptied plan) os n).events
all_unpaused m plan os n =
    All-weaker (λ (x : Note). PauseTold (emptied plan) x.event x.pause) NoPause (λ x h. unpaused_at (emptied plan) refl x.event x.pause h) (Blocking m (emptied plan) os n).events
    (pauses_told m (emptied plan) os n)

numbered_none : (m : Module) (s : Settings) (which : List Bool) (stack : List Suspended) (o : Option ℕ) → o ≡ None → PauseNumbered m s which stack o
numbered_none m s which stack None e = tt
numbered_none m s which stack (Some ticks) e = cc

shown_none : (room fit : List Suspended → ℕ) (len : ℕ) (xs : List Note) → All NoPause xs → shown room fit len xs ≡ xs
shown_none room fit len [] h = refl
shown_none room fit len (x ∷ xs) h =
    ap (λ o. shown_at room fit len x o (shown room fit len xs)) (All-head NoPause x xs h) ∙ ap (λ ys. x ∷ ys) (shown_none room fit len xs (All-tail NoPause x xs h))

no_stacks : (xs : List Note) → All NoPause xs → pause_stacks xs ≡ []
no_stacks [] h = refl
no_stacks (x ∷ xs) h =
    ap (λ o. Rattle.std.specs.List.cons_option (stack_if x.stack o) (pause_stacks xs)) (All-head NoPause x xs h) ∙ no_stacks xs (All-tail NoPause x xs h)

-- ---- whole stores

got_first : (x y : ℕ) → Some x ≡ Some y → x ≡ y
got_first x y e = cc

same_bytes : (xs ys : List ℕ) → length xs ≡ length ys → ((i : ℕ) → slice_get xs i ≡ slice_get ys i) → xs ≡ ys
same_bytes [] [] l h = refl
same_bytes [] (y ∷ ys) l h = absurd (omega arith)
same_bytes (x ∷ xs) [] l h = absurd (omega arith)
same_bytes (x ∷ xs) (y ∷ ys) l h =
    ap (λ z. z ∷ xs) (got_first x y (h 0)) ∙ ap (λ zs. y ∷ zs) (same_bytes xs ys (omega arith) (λ i. h (suc i)))

whole : (g : ℕ) (s s' : Store) → SameEnd g nowhere s s' → SameWhole g s s'
whole g s s' h = record { globals_same = h.globals_same; memory = same_bytes s.memory s'.memory h.size (λ i. h.above i (omega arith)) }

-- ---- what is made shows no pause

front_honest : (xs ys : List Event) (more : List Event) → ys ≡ xs ++ more → All (λ (e : Event). unless_pause e ≡ Some e) ys → without_pauses xs ≡ xs
front_honest [] ys more e h = refl
front_honest (x ∷ xs) [] more e h = cc
front_honest (x ∷ xs) (y ∷ ys) more e h =
    let same : y ≡ x = cc in
    let rest : ys ≡ xs ++ more = cc in
    let here : unless_pause x ≡ Some x = subst (λ z. unless_pause z ≡ Some z) same (All-head (λ (e : Event). unless_pause e ≡ Some e) y ys h) in
    ap (λ o. Rattle.std.specs.List.cons_option o (without_pauses xs)) here
    ∙ ap (λ es. x ∷ es) (front_honest xs ys more rest (All-tail (λ (e : Event). unless_pause e ≡ Some e) y ys h))

honest_events : (xs : List Note) → All H.P xs → All (λ (e : Event). unless_pause e ≡ Some e) (events_of xs)
honest_events [] h = All-nil (λ (e : Event). unless_pause e ≡ Some e)
honest_events (x ∷ xs) h = All-cons (λ (e : Event). unless_pause e ≡ Some e) x.event (events_of xs) (All-head H.P x xs h) (honest_events xs (All-tail H.P x xs h))

-- ---- the run

module _ (m : Module) (s : Settings) (p : Module) (which : List Bool) (behaves : BehavesGiven m s p) (wf : WellFormed m) (tells : TellsMayPause m s which)
    (plan : Plan) (os : List Outcome) (n : ℕ) (g : GivenUnpaused m plan os) where
  abbrev plan' : Plan
  plan' = emptied plan

  compared : ComparedGiven m plan' os n
  compared = record {
    given = record { globals = g.globals; entries = g.entries; inside = omega arith; area = λ lets. absurd (lets_none plan lets) };
    outcomes = g.outcomes;
    untouched = λ j lt. calm (Blocking m plan' os j).last;
  }

  abbrev B : List Note
  B = (Blocking m plan' os n).events

  none : All NoPause B
  none = all_unpaused m plan os n

  expected_is : expected_notes m s plan' os n ≡ B
  expected_is = shown_none (Room m s.policy) (λ stack. Fit m s.policy stack 0) 0 B none

  on : BehavesOn m s p plan' os n which B
  on =
      subst (BehavesOn m s p plan' os n which) expected_is
      (behaves wf which tells plan' os n compared
      (All-weaker NoPause (λ (x : Note). PauseNumbered m s which x.stack x.pause) (λ x e. numbered_none m s which x.stack x.pause e) B none))

  pub alike : RunsAlike m p plan' os n
  alike =
      let mo = on.moments in
      let fo = on.follows in
      record {
        reaches = subst (λ ss. IsPrefix (events_of B) (events_of (protocol_notes p plan' os (Bound m n ss)))) (no_stacks B none) on.reaches;
        follows = fo;
        notes = λ i y at. let w = on.notes i y at in let same = w.2 in (w.0, w.1, record { event = same.event; stores = whole (global_space m) (w.0).store y.store same.ends; state = same.state });
        moments = (
          mo.0,
          mo.1,
          mo.2,
          mo.3 ∙ front_honest (events_of (protocol_notes p plan' os n)) (events_of B) fo.0 fo.1 (honest_events B (honest_run m plan' os n g.outcomes)),
          whole (global_space m) mo.1 (store_held (Protocol p plan' os n).last) mo.4,
        );
      }
