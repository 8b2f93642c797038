-- Lists one behind another, and places in them.
use Rattle.std.proofs.Common.{arith, ◌≡◌, ◌<◌, ◌≤◌, ◌⊎◌, inl, inr, ℕ, zero, suc, ◌+◌, ◌-◌, List, [], ◌∷◌, ◌++◌, length, Some, None, refl, sym, ap, ◌∙◌, subst}
use Rattle.std.specs.Prelude.{slice_get, slice_set}
use Rattle.std.proofs.lemmas.Bool.{cases_lt}
use Rattle.strand_laws.specs.StrandWorld.{joined}

pub the_same : {A : Type 0} (x y : A) → Some x ≡ Some y → x ≡ y
the_same x y e = cc

pub none_is : {A : Type 0} {B : Type 0} (x : A) → None ≡ Some x → B
none_is x e = let no_way : ⊥ = cc in absurd no_way

-- how many stand in front of this list
abbrev pub offset : {A : Type 0} → ℕ → List (List A) → ℕ
offset zero bs = 0
offset (suc p) [] = 0
offset (suc p) (b ∷ bs) = length b + offset p bs

module _ {A : Type 0} where
  pub lies_within : (xs : List A) (k : ℕ) (x : A) → slice_get xs k ≡ Some x → k < length xs
  lies_within [] k x e = none_is x e
  lies_within (y ∷ xs) zero x e = omega arith
  lies_within (y ∷ xs) (suc k) x e = let lt = lies_within xs k x e in omega (arith, lt)

  get_front : (xs ys : List A) (k : ℕ) → k < length xs → slice_get (xs ++ ys) k ≡ slice_get xs k
  get_front [] ys k lt = let no_way : ⊥ = omega (arith, lt) in absurd no_way
  get_front (x ∷ xs) ys zero lt = refl
  get_front (x ∷ xs) ys (suc k) lt = get_front xs ys k (omega (arith, lt))

  get_back : (xs ys : List A) (n k : ℕ) → n ≡ length xs + k → slice_get (xs ++ ys) n ≡ slice_get ys k
  get_back [] ys n k e = let z : n ≡ k = omega (arith, e) in ap (slice_get ys) z
  get_back (x ∷ xs) ys zero k e = let no_way : ⊥ = omega (arith, e) in absurd no_way
  get_back (x ∷ xs) ys (suc n) k e = get_back xs ys n k (omega (arith, e))

  set_front : (xs ys : List A) (k : ℕ) (a : A) → k < length xs → slice_set (xs ++ ys) k a ≡ slice_set xs k a ++ ys
  set_front [] ys k a lt = let no_way : ⊥ = omega (arith, lt) in absurd no_way
  set_front (x ∷ xs) ys zero a lt = refl
  set_front (x ∷ xs) ys (suc k) a lt = ap (λ (zs : List A). x ∷ zs) (set_front xs ys k a (omega (arith, lt)))

  set_back : (xs ys : List A) (n k : ℕ) (a : A) → n ≡ length xs + k → slice_set (xs ++ ys) n a ≡ xs ++ slice_set ys k a
  set_back [] ys n k a e = let z : n ≡ k = omega (arith, e) in ap (λ m. slice_set ys m a) z
  set_back (x ∷ xs) ys zero k a e = let no_way : ⊥ = omega (arith, e) in absurd no_way
  set_back (x ∷ xs) ys (suc n) k a e = ap (λ (zs : List A). x ∷ zs) (set_back xs ys n k a (omega (arith, e)))

  pub joined_get : (bs : List (List A)) (p : ℕ) (b : List A) (k : ℕ) → slice_get bs p ≡ Some b → k < length b → slice_get (joined bs) (offset p bs + k) ≡ slice_get b k
  joined_get [] p b k e lt = none_is b e
  joined_get (c ∷ bs) zero b k e lt =
      let z : 0 + k ≡ k = omega arith in
      let same = the_same c b e in
      ap (slice_get (c ++ joined bs)) z ∙ get_front c (joined bs) k (subst (λ (d : List A). k < length d) (sym same) lt) ∙ ap (λ (d : List A). slice_get d k) same
  joined_get (c ∷ bs) (suc p) b k e lt = get_back c (joined bs) ((length c + offset p bs) + k) (offset p bs + k) (omega arith) ∙ joined_get bs p b k e lt

  pub joined_set : (bs : List (List A)) (p : ℕ) (b : List A) (k : ℕ) (a : A) → slice_get bs p ≡ Some b → k < length b
      → slice_set (joined bs) (offset p bs + k) a ≡ joined (slice_set bs p (slice_set b k a))
  joined_set [] p b k a e lt = none_is b e
  joined_set (c ∷ bs) zero b k a e lt =
      let z : 0 + k ≡ k = omega arith in
      let same = the_same c b e in
      ap (λ n. slice_set (c ++ joined bs) n a) z ∙ set_front c (joined bs) k a (subst (λ (d : List A). k < length d) (sym same) lt) ∙ ap (λ (d : List A). slice_set d k a ++ joined bs) same
  joined_set (c ∷ bs) (suc p) b k a e lt =
      set_back c (joined bs) ((length c + offset p bs) + k) (offset p bs + k) a (omega arith) ∙ ap (λ (zs : List A). c ++ zs) (joined_set bs p b k a e lt)

  -- in which list a place lies
  pub record Lies (bs : List (List A)) (j : ℕ) (a : A) : Type 0 where
    pub p : ℕ
    pub b : List A
    pub k : ℕ
    pub there : slice_get bs p ≡ Some b
    pub inside : slice_get b k ≡ Some a
    pub place : j ≡ offset p bs + k

  pub lies_in : (bs : List (List A)) (j : ℕ) (a : A) → slice_get (joined bs) j ≡ Some a → Lies bs j a
  lies_in [] j a e = none_is a e
  lies_in (c ∷ bs) j a e =
      by (λ m q. lies_in bs m a q) (cases_lt j (length c))
    where
      by : ((m : ℕ) → slice_get (joined bs) m ≡ Some a → Lies bs m a) → (j < length c) ⊎ (length c ≤ j) → Lies (c ∷ bs) j a
      by on (inl lt) = record { p = 0; b = c; k = j; there = refl; inside = sym (get_front c (joined bs) j lt) ∙ e; place = let z : j ≡ 0 + j = omega arith in z }
      by on (inr ge) =
          let l = on (j - length c) (sym (get_back c (joined bs) j (j - length c) (omega (arith, ge))) ∙ e) in
          let z = l.place in
          record { p = suc l.p; b = l.b; k = l.k; there = l.there; inside = l.inside; place = omega (arith, z, ge) }

  -- a list stands in front of the later ones
  pub before_later : (bs : List (List A)) (p q : ℕ) (b : List A) → p < q → slice_get bs p ≡ Some b → offset p bs + length b ≤ offset q bs
  before_later [] p q b lt e = none_is b e
  before_later (c ∷ bs) zero zero b lt e = let no_way : ⊥ = omega (arith, lt) in absurd no_way
  before_later (c ∷ bs) zero (suc q) b lt e = let z = ap length (the_same c b e) in omega (arith, z)
  before_later (c ∷ bs) (suc p) zero b lt e = let no_way : ⊥ = omega (arith, lt) in absurd no_way
  before_later (c ∷ bs) (suc p) (suc q) b lt e = let le = before_later bs p q b (omega (arith, lt)) e in omega (arith, le)

  pub set_get : (xs : List A) (i : ℕ) (x y : A) → slice_get xs i ≡ Some y → slice_get (slice_set xs i x) i ≡ Some x
  set_get [] i x y e = none_is y e
  set_get (z ∷ xs) zero x y e = refl
  set_get (z ∷ xs) (suc i) x y e = set_get xs i x y e

  pub set_other : (xs : List A) (i j : ℕ) (x : A) → (j ≡ i → ⊥) → slice_get (slice_set xs i x) j ≡ slice_get xs j
  set_other [] i j x ne = refl
  set_other (y ∷ xs) zero zero x ne = absurd (ne refl)
  set_other (y ∷ xs) zero (suc j) x ne = refl
  set_other (y ∷ xs) (suc i) zero x ne = refl
  set_other (y ∷ xs) (suc i) (suc j) x ne = set_other xs i j x (λ e. ne (ap suc e))

  pub set_length : (xs : List A) (i : ℕ) (x : A) → length (slice_set xs i x) ≡ length xs
  set_length [] i x = refl
  set_length (y ∷ xs) zero x = refl
  set_length (y ∷ xs) (suc i) x = ap suc (set_length xs i x)
