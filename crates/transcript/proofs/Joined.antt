-- Parts of a line, put one behind the other.
use Rattle.std.proofs.Common.{◌≡◌, ℕ, ◌+◌, ◌<◌, ◌≤◌, List, [], ◌∷◌, ◌++◌, length, get_or, drop, sym, ap, ◌∙◌, append_assoc, append-nil, add-one, drop-cons}
use Rattle.std.proofs.lemmas.List.{drop_all}

-- three parts, from an empty line on
pub three : (start x y z a b c : List ℕ) → start ≡ [] → x ≡ start ++ a → y ≡ x ++ b → z ≡ y ++ c → z ≡ a ++ b ++ c
three start x y z a b c none first second third = simp (third, second, first, none)

-- four parts, from an empty line on
pub four : (start x y z w a b c d : List ℕ) → start ≡ [] → x ≡ start ++ a → y ≡ x ++ b → z ≡ y ++ c → w ≡ z ++ d → w ≡ a ++ b ++ c ++ d
four start x y z w a b c d none first second third fourth = simp (fourth, third, second, first, none)

-- two parts of two, behind what stands in a line
pub two_pairs : (old x y a b c d : List ℕ) → x ≡ old ++ (a ++ b) → y ≡ x ++ (c ++ d) → y ≡ old ++ (a ++ b ++ c ++ d)
two_pairs old x y a b c d first second = simp (second, first, append_assoc)

-- what stands for the items of a list, one behind another: one more item
pub next_text : {A : Type 0} (f : List A → List ℕ) (g : A → List ℕ) → ((x : A) (xs : List A) → f (x ∷ xs) ≡ g x ++ f xs) → (old now whole : List ℕ) (xs : List A) (i : ℕ) (d : A)
    → i < length xs → now ≡ old ++ g (get_or xs i d) → old ++ f (drop i xs) ≡ whole → now ++ f (drop (i + 1) xs) ≡ whole
next_text f g one old now whole xs i d lt is before =
    let here : drop i xs ≡ get_or xs i d ∷ drop (i + 1) xs = drop-cons xs i d lt ∙ ap (λ (k : ℕ). get_or xs i d ∷ drop k xs) (sym (add-one i)) in
    ap (λ (t : List ℕ). t ++ f (drop (i + 1) xs)) is
    ∙ append_assoc old (g (get_or xs i d)) (f (drop (i + 1) xs))
    ∙ ap (λ (t : List ℕ). old ++ t) (sym (one (get_or xs i d) (drop (i + 1) xs)) ∙ ap f (sym here))
    ∙ before

-- and no item more
pub last_text : {A : Type 0} (f : List A → List ℕ) → f [] ≡ [] → (now whole : List ℕ) (xs : List A) (i : ℕ) → length xs ≤ i → now ++ f (drop i xs) ≡ whole → now ≡ whole
last_text f none now whole xs i le before = sym (append-nil now) ∙ ap (λ (t : List ℕ). now ++ t) (sym (ap f (drop_all i xs le) ∙ none)) ∙ before

-- an item in two parts
pub two_parts : (old mid now a b : List ℕ) → mid ≡ old ++ a → now ≡ mid ++ b → now ≡ old ++ (a ++ b)
two_parts old mid now a b first second = simp (second, first, append_assoc)
