-- Lists that are gathered item by item.
use Rattle.std.proofs.Common.{◌≡◌, ◌+◌, ◌<◌, ◌≤◌, ℕ, List, [], ◌∷◌, ◌++◌, length, map, get_or, take, ap, sym, ◌∙◌, append_assoc}
use Rattle.std.proofs.lemmas.List.{map_more, map-append, take_all}
use Rattle.script_setup.proofs.Gathered.{map_map}

-- one more item on both sides, read at a place that is there
pub made_next : {X Y Z : Type 0} (f : X → Z) (g : Y → Z) (old new : List X) (x : X) (ys : List Y) (i : ℕ) (d : Y)
    → new ≡ old ++ x ∷ [] → f x ≡ g (get_or ys i d) → i < length ys → map f old ≡ map g (take i ys) → map f new ≡ map g (take (i + 1) ys)
made_next f g old new x ys i d is e h before =
    ap (map f) is ∙ map-append f old (x ∷ []) ∙ ap (λ z. z ++ f x ∷ []) before ∙ ap (λ z. map g (take i ys) ++ z ∷ []) e ∙ sym (map_more g ys i d h)

-- one more item on both sides, behind others
pub put_next : {X Y Z : Type 0} (f : X → Z) (g : Y → Z) (first : List Z) (old new : List X) (x : X) (ys : List Y) (i : ℕ) (y : Y)
    → new ≡ old ++ x ∷ [] → f x ≡ g y → i < length ys → y ≡ get_or ys i y → map f old ≡ first ++ map g (take i ys) → map f new ≡ first ++ map g (take (i + 1) ys)
put_next f g first old new x ys i y is e h at before =
    ap (map f) is ∙ map-append f old (x ∷ []) ∙ ap (λ z. z ++ f x ∷ []) before ∙ append_assoc first (map g (take i ys)) (f x ∷ [])
    ∙ ap (λ z. first ++ (map g (take i ys) ++ z ∷ [])) (e ∙ ap g at) ∙ ap (λ z. first ++ z) (sym (map_more g ys i y h))

-- all items
pub put_all : {X Y Z : Type 0} (g : Y → Z) (f : X → Y) (first a : List Z) (xs : List X) (i : ℕ) → length xs ≤ i → a ≡ first ++ map (λ x. g (f x)) (take i xs) → a ≡ first ++ map g (map f xs)
put_all g f first a xs i h e = e ∙ ap (λ z. first ++ map (λ x. g (f x)) z) (take_all i xs h) ∙ ap (λ z. first ++ z) (sym (map_map g f xs))
