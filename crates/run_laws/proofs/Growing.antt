-- Longer runs go on from shorter ones.
use Rattle.std.proofs.Common.{arith, ◌≡◌, ◌≤◌, ℕ, ◌+◌, ◌-◌, List, [], ◌∷◌, ◌++◌, Option, Some, None, Bool, true, false, All, refl, sym, ap, ◌∙◌, subst, append-nil}
use Rattle.std.specs.Prelude.{nat_lt, if◌then◌else◌}
use Rattle.std.proofs.lemmas.List.Elements.{All-nil, All-cons, All-head, All-tail}
use Rattle.wa_types.specs.Base.{Base}
use Rattle.wa_types.specs.Syntax.{Module}
use Rattle.wa_types.specs.Frames.{Suspended, Room, Fit}
use Rattle.wa_model.specs.Plan.{Plan, Outcome}
use Rattle.wa_model.specs.Blocking.{Note, State, blocking, Blocking}
use Rattle.wa_model.specs.Expected.{pause_note, trap_note}
use Rattle.run_theory.specs.Shown.{shown_within_at as shown_at, shown_within as shown}
use Rattle.wa_model.specs.Behaves.{IsPrefix, PauseNumbered}
use Rattle.run_theory.specs.DeterminedRuns.{start_of}
use Rattle.run_theory.proofs.Runs.{prefix_on, prefix_of_longer}
use Rattle.run_laws.specs.Growing.{ExpectedGrow, ComparedLower, PausesLower}

pub runs_grow : (m : Module) (plan : Plan) (os : List Outcome) (n more : ℕ) → IsPrefix (Blocking m plan os n).events (Blocking m plan os (n + more)).events
runs_grow m plan os n more =
    let le : n ≤ n = omega arith in
    prefix_on State Note (blocking (Base m) plan) (start_of m plan os).events _ _ (prefix_of_longer State Note (blocking (Base m) plan) n n more (start_of m plan os).last le)

cons_prefix : (x : Note) (xs ys : List Note) → IsPrefix xs ys → IsPrefix (x ∷ xs) (x ∷ ys)
cons_prefix x xs ys h = (h.0, ap (λ zs. x ∷ zs) h.1)

module _ (room fit : List Suspended → ℕ) (len : ℕ) where
  shown_grows : (xs ys : List Note) → IsPrefix (shown room fit len xs) (shown room fit len (xs ++ ys))
  shown_grows [] ys = (shown room fit len ys, refl)
  shown_grows (x ∷ xs) ys = by_pause x.pause (shown_grows xs ys)
    where
      by_room : (ticks : ℕ) (b : Bool) → IsPrefix (shown room fit len xs) (shown room fit len (xs ++ ys))
          → IsPrefix (x ∷ (if b then trap_note (fit x.stack) len x.store ∷ [] else pause_note ticks (room x.stack) x.store x.stack ∷ shown room fit len xs))
          (x ∷ (if b then trap_note (fit x.stack) len x.store ∷ [] else pause_note ticks (room x.stack) x.store x.stack ∷ shown room fit len (xs ++ ys)))
      by_room ticks true h = ([], sym (append-nil (x ∷ trap_note (fit x.stack) len x.store ∷ [])))
      by_room ticks false h =
          cons_prefix x (pause_note ticks (room x.stack) x.store x.stack ∷ shown room fit len xs) (pause_note ticks (room x.stack) x.store x.stack ∷ shown room fit len (xs ++ ys))
          (cons_prefix (pause_note ticks (room x.stack) x.store x.stack) (shown room fit len xs) (shown room fit len (xs ++ ys)) h)

      by_pause : (o : Option ℕ) → IsPrefix (shown room fit len xs) (shown room fit len (xs ++ ys))
          → IsPrefix (shown_at room fit len x o (shown room fit len xs)) (shown_at room fit len x o (shown room fit len (xs ++ ys)))
      by_pause None h = cons_prefix x (shown room fit len xs) (shown room fit len (xs ++ ys)) h
      by_pause (Some ticks) h = by_room ticks (nat_lt len (room x.stack)) h

pub expected_grow : ExpectedGrow
expected_grow m s plan os n more =
    let room : List Suspended → ℕ = Room m s.policy in
    let fit : List Suspended → ℕ = λ stack. Fit m s.policy stack plan.area.len in
    let g = runs_grow m plan os n more in
    subst (λ xs. IsPrefix (shown room fit plan.area.len (Blocking m plan os n).events) (shown room fit plan.area.len xs)) (sym g.1)
    (shown_grows room fit plan.area.len (Blocking m plan os n).events g.0)

pub compared_lower : ComparedLower
compared_lower m s plan os n k le c = record { fits = c.fits; listed = c.listed; outcomes = c.outcomes; untouched = λ j lt. c.untouched j (omega (arith, le, lt)) }

all_before : (P : Note → Type 0) (xs ys : List Note) → All P (xs ++ ys) → All P xs
all_before P [] ys h = All-nil P
all_before P (x ∷ xs) ys h = All-cons P x xs (All-head P x (xs ++ ys) h) (all_before P xs ys (All-tail P x (xs ++ ys) h))

pub pauses_lower : PausesLower
pauses_lower m s which plan os n k le h =
    let P : Note → Type 0 = λ (x : Note). PauseNumbered m s which x.stack x.pause in
    let g = runs_grow m plan os k (n - k) in
    let z : n ≡ k + (n - k) = omega (arith, le) in
    all_before P (Blocking m plan os k).events g.0 (subst (All P) (ap (λ j. (Blocking m plan os j).events) z ∙ g.1) h)
