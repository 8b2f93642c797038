-- What stands at a place of a list, and of lists beside each other.
use Rattle.std.proofs.Common.{arith, ◌≡◌, ◌<◌, ℕ, zero, suc, List, [], ◌∷◌, length, map, Some, All, slice_get, slice_set, refl, sym, ap, ◌∙◌, subst}
use Rattle.std.specs.List.{AllZip}
use Rattle.std.proofs.lemmas.List.{set-set}
use Rattle.std.proofs.lemmas.List.Elements.{All-head, All-tail}
use Rattle.std.proofs.lemmas.Option.{same_Some}
use Rattle.run_theory.specs.Growth.{Each}

module _ {X : Type 0} where
  pub item : (xs : List X) (i : ℕ) → i < length xs → (x : X) × (slice_get xs i ≡ Some x)
  item [] i within = absurd (omega (arith, within))
  item (x ∷ xs) zero within = (x, refl)
  item (x ∷ xs) (suc i) within = item xs i (omega (arith, within))

  pub set_here : (xs : List X) (i : ℕ) (x y : X) → slice_get xs i ≡ Some y → slice_get (slice_set xs i x) i ≡ Some x
  set_here [] i x y e = absurd cc
  set_here (z ∷ xs) zero x y e = refl
  set_here (z ∷ xs) (suc i) x y e = set_here xs i x y e

  pub set_there : (xs : List X) (i j : ℕ) (x : X) → (j ≡ i → ⊥) → slice_get (slice_set xs i x) j ≡ slice_get xs j
  set_there [] i j x other = refl
  set_there (z ∷ xs) zero zero x other = absurd (other refl)
  set_there (z ∷ xs) zero (suc j) x other = refl
  set_there (z ∷ xs) (suc i) zero x other = refl
  set_there (z ∷ xs) (suc i) (suc j) x other = set_there xs i j x (λ e. other (ap suc e))

  pub set_same : (xs : List X) (i : ℕ) (x : X) → slice_get xs i ≡ Some x → slice_set xs i x ≡ xs
  set_same [] i x e = absurd cc
  set_same (z ∷ xs) zero x e = let same : z ≡ x = cc in ap (λ y. y ∷ xs) (sym same)
  set_same (z ∷ xs) (suc i) x e = ap (λ l. z ∷ l) (set_same xs i x e)

  pub put_back : (xs : List X) (i : ℕ) (x y : X) → slice_get xs i ≡ Some y → xs ≡ slice_set (slice_set xs i x) i y
  put_back xs i x y e = sym (set-set xs i x y ∙ set_same xs i y e)

pub all_at : {X : Type 0} (P : X → Type 0) (xs : List X) (i : ℕ) (x : X) → All P xs → slice_get xs i ≡ Some x → P x
all_at P [] i x h e = cc
all_at P (a ∷ xs) zero x h e = subst P (same_Some a x e) (All-head P a xs h)
all_at P (a ∷ xs) (suc i) x h e = all_at P xs i x (All-tail P a xs h) e

pub map_at : {X Y : Type 0} (f : X → Y) (xs : List X) (i : ℕ) (x : X) → slice_get xs i ≡ Some x → slice_get (map f xs) i ≡ Some (f x)
map_at f [] i x e = cc
map_at {X} f (a ∷ xs) zero x e = ap (λ (z : X). Some (f z)) (same_Some a x e)
map_at f (a ∷ xs) (suc i) x e = map_at f xs i x e

pub of_map : {X Y : Type 0} (f : X → Y) (xs : List X) (i : ℕ) (y : Y) → slice_get (map f xs) i ≡ Some y → (x : X) × (slice_get xs i ≡ Some x) × (f x ≡ y)
of_map f [] i y e = cc
of_map f (a ∷ xs) zero y e = (a, refl, same_Some (f a) y e)
of_map f (a ∷ xs) (suc i) y e = of_map f xs i y e

module _ {X : Type 0} (P : X → Type 0) where
  pub each_at : (xs : List X) (i : ℕ) (x : X) → Each P xs → slice_get xs i ≡ Some x → P x
  each_at [] i x h e = cc
  each_at (a ∷ xs) zero x h e = subst P (same_Some a x e) h.0
  each_at (a ∷ xs) (suc i) x h e = each_at xs i x h.1 e

  pub each_set : (xs : List X) (i : ℕ) (x : X) → Each P xs → P x → Each P (slice_set xs i x)
  each_set [] i x h r = tt
  each_set (a ∷ xs) zero x h r = (r, h.1)
  each_set (a ∷ xs) (suc i) x h r = (h.0, each_set xs i x h.1 r)

module _ {X Y : Type 0} (R : X → Y → Type 0) where
  pub zip_at : (xs : List X) (ys : List Y) → AllZip R xs ys → (i : ℕ) (x : X) → slice_get xs i ≡ Some x → (y : Y) × (slice_get ys i ≡ Some y) × R x y
  zip_at [] [] h i x e = cc
  zip_at [] (b ∷ ys) h i x e = absurd h
  zip_at (a ∷ xs) [] h i x e = absurd h
  zip_at (a ∷ xs) (b ∷ ys) h zero x e = (b, refl, subst (λ (z : X). R z b) (same_Some a x e) h.0)
  zip_at (a ∷ xs) (b ∷ ys) h (suc i) x e = zip_at xs ys h.1 i x e

  pub zip_back : (xs : List X) (ys : List Y) → AllZip R xs ys → (i : ℕ) (y : Y) → slice_get ys i ≡ Some y → (x : X) × (slice_get xs i ≡ Some x) × R x y
  zip_back [] [] h i y e = cc
  zip_back [] (b ∷ ys) h i y e = absurd h
  zip_back (a ∷ xs) [] h i y e = absurd h
  zip_back (a ∷ xs) (b ∷ ys) h zero y e = (a, refl, subst (λ (z : Y). R a z) (same_Some b y e) h.0)
  zip_back (a ∷ xs) (b ∷ ys) h (suc i) y e = zip_back xs ys h.1 i y e

  pub zip_set : (xs : List X) (ys : List Y) → AllZip R xs ys → (i : ℕ) (x : X) (y : Y) → R x y → AllZip R (slice_set xs i x) (slice_set ys i y)
  zip_set [] [] h i x y r = tt
  zip_set [] (b ∷ ys) h i x y r = absurd h
  zip_set (a ∷ xs) [] h i x y r = absurd h
  zip_set (a ∷ xs) (b ∷ ys) h zero x y r = (r, h.1)
  zip_set (a ∷ xs) (b ∷ ys) h (suc i) x y r = (h.0, zip_set xs ys h.1 i x y r)

  pub zip_both : (xs : List X) (ys : List Y) → AllZip R xs ys → (i : ℕ) (x : X) (y : Y) → slice_get xs i ≡ Some x → slice_get ys i ≡ Some y → R x y
  zip_both xs ys h i x y ex ey = let r = zip_at xs ys h i x ex in subst (R x) (same_Some r.0 y (sym r.1 ∙ ey)) r.2

pub zipped : {X Y : Type 0} (R : X → Y → Type 0) (xs : List X) (ys : List Y) → length ys ≡ length xs → ((i : ℕ) (x : X) (y : Y) → slice_get xs i ≡ Some x → slice_get ys i ≡ Some y → R x y)
    → AllZip R xs ys
zipped R [] [] long each = tt
zipped R [] (y ∷ ys) long each = let never : ⊥ = omega (arith, long) in absurd never
zipped R (x ∷ xs) [] long each = let never : ⊥ = omega (arith, long) in absurd never
zipped R (x ∷ xs) (y ∷ ys) long each = (each 0 x y refl refl, zipped R xs ys (omega (arith, long)) (λ i. each (suc i)))
