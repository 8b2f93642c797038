-- Whether a call is numbered.
use Rattle.std.proofs.Common.{◌≡◌, ℕ, suc, ◌<◌, ◌≤◌, List, [], ◌∷◌, length, get_or, Result, Ok, Err, true, false, nat_eq, refl, sym, ap, ◌∙◌, arith, ⊎_elim, nat_cmp}
use Rattle.std.specs.Prelude.{◌||◌, ◌≢◌}
use Rattle.std.specs.Result.{is_ok, MatchResult}
use Rattle.std.specs.List.Sorted.{IsBinarySearchResult}
use Rattle.std.proofs.lemmas.Bool.{cases_lt, ne_eqb}
use Rattle.std.proofs.lemmas.List.Sorted.{searched}
use Rattle.std.proofs.lemmas.List.Folds.{list_any_at}
use Rattle.guard_form.specs.Grouping.{is_place}
use Rattle.flow_rewrite.specs.Emitting.{Rises}

none_there : (xs : List ℕ) (x : ℕ) → ((k : ℕ) → k < length xs → get_or xs k 0 ≢ x) → is_place xs x ≡ false
none_there [] x h = refl
none_there (y ∷ ys) x h = ap (λ b. b || is_place ys x) (ne_eqb y x (h 0 (omega arith))) ∙ none_there ys x (λ k lt. h (suc k) (omega arith))

eq_true : (n m : ℕ) → n ≡ m → nat_eq n m ≡ true
eq_true n m e = grind arith

rises_weakly : (xs : List ℕ) → Rises xs → (i j : ℕ) → i ≤ j → j < length xs → get_or xs i 0 ≤ get_or xs j 0
rises_weakly xs h i j le lt =
    ⊎_elim (λ less. let q = h i j less lt in omega arith) (λ ge. let z : i ≡ j = omega arith in let q : get_or xs i 0 ≡ get_or xs j 0 = ap (λ n. get_or xs n 0) z in omega arith) (cases_lt i j)

pub place_found : (xs : List ℕ) (x : ℕ) (r : Result ℕ ℕ) → IsBinarySearchResult (λ y. nat_cmp y x) xs r → Rises xs → is_ok r ≡ is_place xs x
place_found xs x r is rises = by r (searched xs x r is (rises_weakly xs rises))
  where
    by : (r : Result ℕ ℕ) → MatchResult r (λ i. (i < length xs) × (get_or xs i 0 ≡ x))
        (λ i. (i ≤ length xs) × ((k : ℕ) → k < i → get_or xs k 0 < x) × ((k : ℕ) → i ≤ k → k < length xs → x < get_or xs k 0)) → is_ok r ≡ is_place xs x
    by (Ok i) h = sym (list_any_at (λ p. nat_eq p x) xs i 0 h.0 (eq_true (get_or xs i 0) x h.1))
    by (Err i) h = sym (none_there xs x (λ k lt. ⊎_elim (λ less. let q = h.1 k less in (λ e. absurd (omega (arith, e, q))))
        (λ ge. let q = h.2 k ge lt in (λ e. absurd (omega (arith, e, q)))) (cases_lt k i)))
