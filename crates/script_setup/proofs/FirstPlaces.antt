-- Lists of which no item passes a test, and the first place of one that does.
use Rattle.std.proofs.Common.{arith, ◌≡◌, ℕ, suc, ◌+◌, List, [], ◌∷◌, length, Some, None, Bool, true, false, ◌||◌, not, cond, nat_lt, position, All, ap, sym, ◌∙◌, refl}
use Rattle.std.specs.List.{list_any, position_or_len}
use Rattle.std.proofs.lemmas.Bool.{lt-ltb, le-ltb, ltb-true, ltb-false}
use Rattle.std.proofs.lemmas.List.Sums.{fails_before_first}

first_step : (b : Bool) (i n : ℕ) (c : Bool) → nat_lt i n ≡ c → nat_lt (cond (not b) (1 + i) 0) (suc n) ≡ (b || c)
first_step true i n c h = lt-ltb 0 (suc n) (omega arith)
first_step false i n true h = let k = ltb-true i n h in lt-ltb (1 + i) (suc n) (omega arith)
first_step false i n false h = let k = ltb-false i n h in le-ltb (1 + i) (suc n) (omega arith)

found_first : {X : Type 0} (p : X → Bool) (xs : List X) → nat_lt (position_or_len p xs) (length xs) ≡ list_any p xs
found_first p [] = refl
found_first p (x ∷ xs) = first_step (p x) (position_or_len p xs) (length xs) (list_any p xs) (found_first p xs)

-- where there is no place, none passes
pub none_found : {X : Type 0} (p : X → Bool) (xs : List X) → position p xs ≡ None → list_any p xs ≡ false
none_found p xs e = go (list_any p xs) (found_first p xs)
  where
    go : (b : Bool) → nat_lt (position_or_len p xs) (length xs) ≡ b → b ≡ false
    go false h = refl
    go true h = let z : position p xs ≡ Some (position_or_len p xs) = ap (λ (b : Bool). cond b (Some (position_or_len p xs)) None) h in let bad : None ≡ Some (position_or_len p xs) = sym e ∙ z in cc

-- .. and the other way
pub none_first : {X : Type 0} (p : X → Bool) (xs : List X) → list_any p xs ≡ false → position p xs ≡ None
none_first p xs e = ap (λ (b : Bool). cond b (Some (position_or_len p xs)) None) (found_first p xs ∙ e)

pub none_passes : {X : Type 0} (p : X → Bool) (xs : List X) → position p xs ≡ None → All (λ x. p x ≡ false) xs
none_passes p xs e = by (nat_lt (position_or_len p xs) (length xs)) refl e where
  by : (b : Bool) → nat_lt (position_or_len p xs) (length xs) ≡ b → cond b (Some (position_or_len p xs)) None ≡ None → All (λ x. p x ≡ false) xs
  by true z k = cc
  by false z k = λ i d lt. let le = ltb-false (position_or_len p xs) (length xs) z in fails_before_first p xs i d (omega (arith, le, lt))
