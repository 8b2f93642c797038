-- Vectors, entry by entry.
use Rattle.std.proofs.Common.{◌≡◌, ℕ, suc, ◌+◌, ◌<◌, ◌≤◌, List, [], ◌++◌, ap, sym, ◌∙◌, arith, add-one, append_assoc, append-nil, length, length-append, get_or, drop, drop-cons}
use Rattle.std.proofs.lemmas.List.{drop_all}
use Rattle.std.proofs.lemmas.List.Concat.{length-flat_map}
use Rattle.std.proofs.lemmas.List.Sums.{get_or-le-sum_by}
use Rattle.std.specs.List.{flat_map}
use Rattle.leb_numbers.specs.Leb.{shortest}
use Rattle.wa_types.specs.Encoding.{vector}

-- the entry at i, in front of those after it
pub entry_step : {X : Type 0} (f : X → List ℕ) (xs : List X) (i : ℕ) (x : X) → i < length xs → x ≡ get_or xs i x → flat_map f (drop i xs) ≡ f x ++ flat_map f (drop (i + 1) xs)
entry_step f xs i x h e = rw (add-one, drop-cons xs i x) (ap (λ y. f y ++ flat_map f (drop (suc i) xs)) (sym e))

pub entry_none : {X : Type 0} (f : X → List ℕ) (xs : List X) (i : ℕ) → length xs ≤ i → flat_map f (drop i xs) ≡ []
entry_none f xs i h = ap (flat_map f) (drop_all i xs h)

pub entry_length : {X : Type 0} (f : X → List ℕ) (xs : List X) (i : ℕ) (x : X) → i < length xs → x ≡ get_or xs i x
    → length (flat_map f (drop i xs)) ≡ length (f x) + length (flat_map f (drop (i + 1) xs))
entry_length f xs i x h e = ap length (entry_step f xs i x h e) ∙ length-append (f x) _

pub entry_none_length : {X : Type 0} (f : X → List ℕ) (xs : List X) (i : ℕ) → length xs ≤ i → length (flat_map f (drop i xs)) ≡ 0
entry_none_length f xs i h = ap length (entry_none f xs i h)

-- an entry is no longer than its vector
pub entry_le : {X : Type 0} (f : X → List ℕ) (xs : List X) (i : ℕ) (x : X) → i < length xs → x ≡ get_or xs i x → length (f x) ≤ length (vector f xs)
entry_le f xs i x h e =
    let whole : length (vector f xs) ≡ length (shortest (length xs)) + length (flat_map f xs) = length-append (shortest (length xs)) _ in
    let entry : length (f x) ≡ length (f (get_or xs i x)) = ap (λ y. length (f y)) e in
    omega (arith, whole, entry, length-flat_map f xs, get_or-le-sum_by (λ y. length (f y)) xs i x h)

-- what was written, with an entry more
pub put_step : {X : Type 0} (f : X → List ℕ) (xs : List X) (i : ℕ) (x : X) (old new whole : List ℕ) → i < length xs → x ≡ get_or xs i x → new ≡ old ++ f x
    → old ++ flat_map f (drop i xs) ≡ whole → new ++ flat_map f (drop (i + 1) xs) ≡ whole
put_step f xs i x old new whole h e put before =
    ap (λ s. s ++ flat_map f (drop (i + 1) xs)) put ∙ append_assoc old (f x) _ ∙ ap (λ s. old ++ s) (sym (entry_step f xs i x h e)) ∙ before

pub put_none : {X : Type 0} (f : X → List ℕ) (xs : List X) (i : ℕ) (new whole : List ℕ) → length xs ≤ i → new ++ flat_map f (drop i xs) ≡ whole → new ≡ whole
put_none f xs i new whole h before = sym (append-nil new) ∙ ap (λ s. new ++ s) (sym (entry_none f xs i h)) ∙ before

pub ruleset measuring = (entry_length, entry_none_length, entry_le)

pub ruleset putting = (put_step, put_none, entry_le)
