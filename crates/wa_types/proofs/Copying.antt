-- Lists copied item by item.
use Rattle.std.proofs.Common.{◌≡◌, ℕ, ◌+◌, ◌<◌, ◌≤◌, List, [], ◌∷◌, ◌++◌, map, refl, ap, sym, ◌∙◌, length, get_or, take}
use Rattle.std.proofs.lemmas.List.{take_more, take_all}

map_append_one : {X Y : Type 0} (f : X → Y) (xs : List X) (x : X) → map f (xs ++ x ∷ []) ≡ map f xs ++ f x ∷ []
map_append_one f [] x = refl
map_append_one f (y ∷ ys) x = ap (λ z. f y ∷ z) (map_append_one f ys x)

pub map_step : {X Y : Type 0} (f : X → Y) (xs ys new : List X) (i : ℕ) (x y : X) → new ≡ ys ++ y ∷ [] → f y ≡ f x → i < length xs → x ≡ get_or xs i x → map f ys ≡ map f (take i xs)
    → map f new ≡ map f (take (i + 1) xs)
map_step f xs ys new i x y e same h at before =
    ap (map f) e ∙ map_append_one f ys y ∙ (λ j. before j ++ (same ∙ ap f at) j ∷ []) ∙ sym (map_append_one f (take i xs) (get_or xs i x)) ∙ ap (map f) (sym (take_more xs i x h))

pub map_end : {X Y : Type 0} (f : X → Y) (xs ys : List X) (i : ℕ) → length xs ≤ i → map f ys ≡ map f (take i xs) → map f ys ≡ map f xs
map_end f xs ys i h e = e ∙ ap (map f) (take_all i xs h)

pub ruleset mapping = (map_step, map_end)
