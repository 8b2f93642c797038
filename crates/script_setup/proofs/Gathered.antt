-- Lists that are gathered item by item.
use Rattle.std.proofs.Common.{arith, ◌≡◌, ℕ, zero, suc, ◌+◌, ◌<◌, ◌≤◌, List, [], ◌∷◌, ◌++◌, length, map, get_or, take, drop, drop-cons, add-one, Option, ap, sym, ◌∙◌, refl}
use Rattle.std.specs.List.{filter_map}
use Rattle.std.proofs.lemmas.List.{map_more, map-append, take_all, take_more}
use Rattle.std.proofs.lemmas.List.Elements.{filter_map-append}

pub map_map : {X Y Z : Type 0} (g : Y → Z) (f : X → Y) (xs : List X) → map g (map f xs) ≡ map (λ x. g (f x)) xs
map_map g f [] = refl
map_map g f (x ∷ xs) = ap (λ z. g (f x) ∷ z) (map_map g f xs)

-- one more item on both sides
pub map_next : {X Y Z : Type 0} (f : X → Z) (g : Y → Z) (old new : List X) (x : X) (ys : List Y) (i : ℕ) (y : Y)
    → new ≡ old ++ x ∷ [] → f x ≡ g y → i < length ys → y ≡ get_or ys i y → map f old ≡ map g (take i ys) → map f new ≡ map g (take (i + 1) ys)
map_next f g old new x ys i y is e h at before =
    ap (map f) is ∙ map-append f old (x ∷ []) ∙ ap (λ z. z ++ f x ∷ []) before ∙ ap (λ z. map g (take i ys) ++ z ∷ []) (e ∙ ap g at) ∙ sym (map_more g ys i y h)

-- .. where one side is the list itself
pub list_next : {Y Z : Type 0} (g : Y → Z) (old new : List Z) (x : Z) (ys : List Y) (i : ℕ) (y : Y)
    → new ≡ old ++ x ∷ [] → x ≡ g y → i < length ys → y ≡ get_or ys i y → old ≡ map g (take i ys) → new ≡ map g (take (i + 1) ys)
list_next g old new x ys i y is e h at before =
    is ∙ ap (λ z. z ++ x ∷ []) before ∙ ap (λ z. map g (take i ys) ++ z ∷ []) (e ∙ ap g at) ∙ sym (map_more g ys i y h)

-- all items of a map of a map
pub map_all : {X Y Z : Type 0} (g : Y → Z) (f : X → Y) (a : List Z) (xs : List X) (i : ℕ) → length xs ≤ i → a ≡ map (λ x. g (f x)) (take i xs) → a ≡ map g (map f xs)
map_all g f a xs i h e = e ∙ ap (λ z. map (λ x. g (f x)) z) (take_all i xs h) ∙ sym (map_map g f xs)

-- one more item, where it is told
pub filter_next : {X Y : Type 0} (f : X → Option Y) (old new : List Y) (ys : List X) (i : ℕ) (y : X)
    → new ≡ old ++ filter_map f (y ∷ []) → i < length ys → y ≡ get_or ys i y → old ≡ filter_map f (take i ys) → new ≡ filter_map f (take (i + 1) ys)
filter_next f old new ys i y is h at before =
    is ∙ ap (λ z. z ++ filter_map f (y ∷ [])) before ∙ sym (filter_map-append f (take i ys) (y ∷ []))
    ∙ ap (λ z. filter_map f (take i ys ++ z ∷ [])) at ∙ ap (filter_map f) (sym (take_more ys i y h))

pub filter_all : {X Y : Type 0} (f : X → Option Y) (a : List Y) (xs : List X) (i : ℕ) → length xs ≤ i → a ≡ filter_map f (take i xs) → a ≡ filter_map f xs
filter_all f a xs i h e = e ∙ ap (filter_map f) (take_all i xs h)

-- ---- what is left of a list

-- the next item
pub front_is : {X : Type 0} (xs : List X) (i : ℕ) (x : X) → i < length xs → x ≡ get_or xs i x → drop i xs ≡ x ∷ drop (i + 1) xs
front_is xs i x lt e = drop-cons xs i x lt ∙ ap (λ y. y ∷ drop (suc i) xs) (sym e) ∙ ap (λ n. x ∷ drop n xs) (sym (add-one i))

pub all_gone : {X : Type 0} (xs : List X) (i : ℕ) → length xs ≤ i → drop i xs ≡ []
all_gone [] zero le = refl
all_gone [] (suc i) le = refl
all_gone (x ∷ xs) zero le = let no_way : ⊥ = omega (arith, le) in absurd no_way
all_gone (x ∷ xs) (suc i) le = all_gone xs i (omega (arith, le))
