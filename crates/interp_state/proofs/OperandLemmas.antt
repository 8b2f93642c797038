-- Operands as a list with the topmost first.
use Rattle.std.proofs.Common.{arith, ◌≡◌, ℕ, zero, suc, ◌+◌, ◌-◌, ◌<◌, ◌≤◌, ◌⊎◌, inl, inr, List, [], ◌∷◌, ◌++◌, length, reverse, take, drop, get_or, slice_get, Some, None, refl, ap, sym, ◌∙◌}
use Rattle.std.proofs.lemmas.Bool.{cases_lt}
use Rattle.std.proofs.lemmas.List.{reverse-append, length-reverse, take-append-drop, length-drop, take_at, drop_at, take_all, drop_all, nil_from_length, get_or-reverse, take_more}
use Rattle.std.proofs.lemmas.Option.{slice_get-get_or, slice_get_within, get_or_from_slice_get}
use Rattle.std.proofs.Math.Seq.{take-length}
use Rattle.wa_types.specs.declared.values.Value.{Value}
use Rattle.wa_types.specs.declared.values.Value.TheVariants as V
use Rattle.wa_model.specs.Step.{keep}
use Rattle.wa_model.specs.Blocking.{value_of_results}

pub top_first : {A : Type 0} → (xs ys : List A) (v : A) → xs ≡ ys ++ v ∷ [] → reverse xs ≡ v ∷ reverse ys
top_first xs ys v e = ap reverse e ∙ reverse-append ys (v ∷ [])

parts : {A : Type 0} → (k : ℕ) (xs : List A) → reverse xs ≡ reverse (drop k xs) ++ reverse (take k xs)
parts k xs = ap reverse (sym (take-append-drop k xs)) ∙ reverse-append (take k xs) (drop k xs)

-- the topmost ones are the last ones
pub first_reversed : {A : Type 0} → (n : ℕ) (xs : List A) → take n (reverse xs) ≡ reverse (drop (length xs - n) xs)
first_reversed n xs = by_size (cases_lt n (length xs))
  where
    by_size : (n < length xs) ⊎ (length xs ≤ n) → take n (reverse xs) ≡ reverse (drop (length xs - n) xs)
    by_size (inl h) =
        let k = length xs - n in
        let len : length (reverse (drop k xs)) ≡ n = omega (arith, length-reverse (drop k xs), length-drop k xs) in
        ap (take n) (parts k xs) ∙ take_at (reverse (drop k xs)) (reverse (take k xs)) n len
    by_size (inr h) =
        let k : length xs - n ≡ 0 = omega arith in
        let m : length (reverse xs) ≤ n = omega (arith, length-reverse xs) in
        take_all n (reverse xs) m ∙ ap (λ i. reverse (drop i xs)) (sym k)

-- those below them are the first ones
pub rest_reversed : {A : Type 0} → (n : ℕ) (xs : List A) → drop n (reverse xs) ≡ reverse (take (length xs - n) xs)
rest_reversed n xs = by_size (cases_lt n (length xs))
  where
    by_size : (n < length xs) ⊎ (length xs ≤ n) → drop n (reverse xs) ≡ reverse (take (length xs - n) xs)
    by_size (inl h) =
        let k = length xs - n in
        let len : length (reverse (drop k xs)) ≡ n = omega (arith, length-reverse (drop k xs), length-drop k xs) in
        ap (drop n) (parts k xs) ∙ drop_at (reverse (drop k xs)) (reverse (take k xs)) n len
    by_size (inr h) =
        let k : length xs - n ≡ 0 = omega arith in
        let m : length (reverse xs) ≤ n = omega (arith, length-reverse xs) in
        drop_all n (reverse xs) m ∙ ap (λ i. reverse (take i xs)) (sym k)

-- the lowest ones
pub keep_is : (h : ℕ) (xs : List Value) → keep h (reverse xs) ≡ reverse (take h xs)
keep_is h xs = by_size (cases_lt h (length xs))
  where
    by_size : (h < length xs) ⊎ (length xs ≤ h) → keep h (reverse xs) ≡ reverse (take h xs)
    by_size (inl lt) =
        let n : length xs - (length (reverse xs) - h) ≡ h = omega (arith, length-reverse xs) in
        rest_reversed (length (reverse xs) - h) xs ∙ ap (λ i. reverse (take i xs)) n
    by_size (inr le) =
        let n : length (reverse xs) - h ≡ 0 = omega (arith, length-reverse xs) in
        ap (λ i. drop i (reverse xs)) n ∙ ap reverse (sym (take_all h xs le))

-- results that go to a caller, in place of what it gave
pub handed : (from to : List Value) (arity taken : ℕ) → reverse (take (length to - taken) to ++ drop (length from - arity) from) ≡ take arity (reverse from) ++ drop taken (reverse to)
handed from to arity taken =
    reverse-append (take (length to - taken) to) (drop (length from - arity) from)
    ∙ ap (λ v. v ++ reverse (take (length to - taken) to)) (sym (first_reversed arity from))
    ∙ ap (λ v. take arity (reverse from) ++ v) (sym (rest_reversed taken to))

-- the topmost one
pub last_is : (xs : List Value) → slice_get xs (length xs - 1) ≡ slice_get (reverse xs) 0
last_is xs = by_size (cases_lt 0 (length xs))
  where
    by_size : (0 < length xs) ⊎ (length xs ≤ 0) → slice_get xs (length xs - 1) ≡ slice_get (reverse xs) 0
    by_size (inl h) =
        let d = V.I32 0 in
        let below : length xs - 1 < length xs = omega arith in
        let there : 0 < length (reverse xs) = omega (arith, length-reverse xs) in
        let same : length xs - 1 - 0 ≡ length xs - 1 = omega arith in
        slice_get-get_or xs (length xs - 1) d below
        ∙ ap Some (sym (get_or-reverse xs 0 d h ∙ ap (λ i. get_or xs i d) same))
        ∙ sym (slice_get-get_or (reverse xs) 0 d there)
    by_size (inr h) =
        let none : length xs ≡ 0 = omega arith in
        let e : xs ≡ [] = nil_from_length xs none in
        ap (λ v. slice_get v (length v - 1)) e ∙ ap (λ v. slice_get (reverse v) 0) (sym e)

results_top : (n : ℕ) (ys : List Value) → value_of_results (take (suc n) ys) ≡ slice_get ys 0
results_top n [] = refl
results_top n (y ∷ ys) = refl

pub top_value : (xs : List Value) (n : ℕ) → (n ≡ 0 → ⊥) → slice_get xs (length xs - 1) ≡ value_of_results (take n (reverse xs))
top_value xs zero h = absurd (h refl)
top_value xs (suc n) h = last_is xs ∙ sym (results_top n (reverse xs))

-- the topmost one carried over the lowest ones
pub carried : (xs ys : List Value) (h : ℕ) (v : Value) → slice_get xs (length xs - 1) ≡ Some v → ys ≡ take h xs ++ v ∷ [] → reverse ys ≡ take 1 (reverse xs) ++ keep h (reverse xs)
carried xs ys h v ev ey =
    top_first ys (take h xs) v ey
    ∙ ap (λ w. v ∷ w) (sym (keep_is h xs))
    ∙ ap (λ w. w ++ keep h (reverse xs)) (sym (one_first (reverse xs) v (sym (last_is xs) ∙ ev)))
  where
    one_first : (zs : List Value) (v : Value) → slice_get zs 0 ≡ Some v → take 1 zs ≡ v ∷ []
    one_first [] v e = cc
    one_first (z ∷ zs) v e = let w : z ≡ v = cc in ap (λ x. x ∷ []) w

pub none_carried : (xs : List Value) (h : ℕ) → slice_get xs (length xs - 1) ≡ None → reverse xs ≡ take 1 (reverse xs) ++ keep h (reverse xs)
none_carried xs h e = nothing (reverse xs) (sym (last_is xs) ∙ e)
  where
    nothing : (zs : List Value) → slice_get zs 0 ≡ None → zs ≡ take 1 zs ++ keep h zs
    nothing [] e = sym (drop_all (0 - h) [] (omega arith))
    nothing (z ∷ zs) e = cc

-- a list without its last one, and that one
pub last_split : {A : Type 0} → (xs ys : List A) (x : A) → ys ≡ take (length xs - 1) xs → slice_get xs (length xs - 1) ≡ Some x → xs ≡ ys ++ x ∷ []
last_split xs ys x ey ex =
    let within = slice_get_within xs (length xs - 1) x ex in
    let all : length xs - 1 + 1 ≡ length xs = omega arith in
    sym (take-length xs)
    ∙ ap (λ n. take n xs) (sym all)
    ∙ take_more xs (length xs - 1) x within
    ∙ ap (λ v. v ++ get_or xs (length xs - 1) x ∷ []) (sym ey)
    ∙ ap (λ v. ys ++ v ∷ []) (get_or_from_slice_get xs (length xs - 1) x x ex)

-- a list with no last one
pub none_last : {A : Type 0} → (xs : List A) → slice_get xs (length xs - 1) ≡ None → xs ≡ []
none_last [] e = refl
none_last (x ∷ xs) e = let h : length (x ∷ xs) - 1 < length (x ∷ xs) = omega arith in cc (slice_get-get_or (x ∷ xs) (length (x ∷ xs) - 1) x h)

-- an answer in place of what a call took
pub answered_with : (xs : List Value) (taken : ℕ) (v : Value) (ys zs : List Value) → ys ≡ take (length xs - taken) xs → zs ≡ ys ++ v ∷ [] → reverse zs ≡ v ∷ drop taken (reverse xs)
answered_with xs taken v ys zs ey ez = top_first zs ys v ez ∙ ap (λ w. v ∷ w) (ap reverse ey ∙ sym (rest_reversed taken xs))

pub answered_without : (xs : List Value) (taken : ℕ) (ys : List Value) → ys ≡ take (length xs - taken) xs → reverse ys ≡ drop taken (reverse xs)
answered_without xs taken ys ey = ap reverse ey ∙ sym (rest_reversed taken xs)
