-- The lean cost is at most the cost.
use Rattle.std.proofs.Common.{◌≡◌, ℕ, zero, suc, ◌+◌, ◌-◌, ◌≤◌, List, [], Bool, true, false, refl, sym, ap, subst, ⊎_elim, arith}
use Rattle.std.specs.List.{sum}
use Rattle.std.proofs.lemmas.Bool.{cases_lt}
use Rattle.wa_types.specs.Syntax.{Module}
use Rattle.wa_types.specs.Base.{Base}
use Rattle.wa_model.specs.Machine.{Turn, stops, goes, CostsMore}
use Rattle.wa_model.specs.Plan.{Plan, Outcome}
use Rattle.wa_model.specs.Blocking.{Note, State, blocking}
use Rattle.run_theory.specs.DeterminedRuns.{start_of}
use Rattle.run_laws.proofs.Seeing.{no_further}
use Rattle.flat_runs.specs.Beside.{first_of}
use Rattle.flat_runs.specs.FlatBlocking.{counts, turn_cost, cost_if, lean_next, LeanCost}
use Rattle.flat_runs.proofs.Matching.{lean, lean_on}
use Rattle.std.proofs.lemmas.List.Sums.{sum_by-cons}

once_at_most : (b : Bool) (k : ℕ) → sum (cost_if b k) ≤ k
once_at_most true k = let c = sum_by-cons (λ n. n) k [] in let none : sum [] ≡ 0 = refl in omega arith
once_at_most false k = omega arith

module _ (first : ℕ → ℕ) (p : Module) (plan : Plan) where
  abbrev at : State → List ℕ
  at = lean_next first p plan

  abbrev nb : State → Turn State Note
  nb = blocking p plan

  none : (n : ℕ) (s : State) → CostsMore n (nb s) → lean nb at n s ≤ n
  none n s c = let z = ap sum (no_further nb at (λ (x : Note). 0) s n c) in omega arith

  less : (fuel n : ℕ) (s : State) → n ≤ fuel → lean nb at n s ≤ n
  less fuel n s le = by_fuel fuel n s le
    where
      by_turn : (fuel n : ℕ) (s : State) → n ≤ suc fuel → ((n' : ℕ) (s' : State) → n' ≤ fuel → lean nb at n' s' ≤ n') → (o : Turn State Note) → nb s ≡ o → lean nb at n s ≤ n
      by_turn fuel n s le ih stops e = none n s (subst (CostsMore n) (sym e) tt)
      by_turn fuel n s le ih (goes k es t) e =
          ⊎_elim
          (λ lt. none n s (subst (CostsMore n) (sym e) (omega arith)))
          (λ ge.
          let on = lean_on nb at k (n - suc k) es s t e in
          let rest = ih (n - suc k) t (omega arith) in
          let z : suc k + (n - suc k) ≡ n = omega arith in
          let same = ap (λ j. lean nb at j s) z in
          let here = once_at_most (counts first s) (turn_cost (nb s)) in
          let cost : turn_cost (nb s) ≡ suc k = ap turn_cost e in
          omega arith)
          (cases_lt n (suc k))

      by_fuel : (fuel n : ℕ) (s : State) → n ≤ fuel → lean nb at n s ≤ n
      by_fuel zero n s le = let z : 0 ≡ n = omega arith in subst (λ k. lean nb at k s ≤ k) z (omega arith)
      by_fuel (suc fuel) n s le = by_turn fuel n s le (λ n' s' h. by_fuel fuel n' s' h) (nb s) refl

pub lean_is_less : (m p : Module) (plan : Plan) (os : List Outcome) (n : ℕ) → LeanCost m p plan os n ≤ n
lean_is_less m p plan os n = less (first_of m) (Base p) plan n n (start_of p plan os).last (omega arith)
