-- Strands that wait, side by side: each has ended in both, or hangs in both. What they have to spare adds up.
use Rattle.std.proofs.Common.{arith, ◌≡◌, ◌<◌, ◌≤◌, ℕ, zero, suc, ◌+◌, List, [], ◌∷◌, length, Option, Some, None, Bool, true, false, refl, ap, ◌∙◌, subst, sym}
use Rattle.std.specs.Prelude.{nat_lt, if◌then◌else◌}
use Rattle.wa_model.specs.Store.{Store}
use Rattle.strand_laws.specs.Woven.{Thread, Ready, first_ready, put, ready_if, sooner}

-- one more where there is one
abbrev pub counted : {S : Type 0} → Option S → ℕ → ℕ
counted None n = n
counted (Some s) n = suc n

-- how many strands haven't ended
abbrev pub unfinished : {S : Type 0} → List (Thread S) → ℕ
unfinished [] = 0
unfinished (t ∷ ts) = counted t.at (unfinished ts)

counted_few : {S : Type 0} (o : Option S) (a b : ℕ) → a ≤ b → counted o a ≤ suc b
counted_few None a b le = let z : a ≤ suc b = omega arith in z
counted_few (Some s) a b le = let z : suc a ≤ suc b = omega arith in z

counted_less : {S : Type 0} (o : Option S) (a b : ℕ) → suc a ≤ b → suc (counted o a) ≤ counted o b
counted_less None a b le = le
counted_less (Some s) a b le = let z : suc (suc a) ≤ suc b = omega arith in z

counted_one : {S : Type 0} (o : Option S) (s : S) (n : ℕ) → o ≡ Some s → suc n ≤ counted o n
counted_one o s n e = let z : suc n ≤ suc n = omega arith in subst (λ q. suc n ≤ counted q n) (sym e) z

pub unfinished_few : {S : Type 0} (ts : List (Thread S)) → unfinished ts ≤ length ts
unfinished_few [] = omega arith
unfinished_few (t ∷ ts) = counted_few t.at (unfinished ts) (length ts) (unfinished_few ts)

module _ {SA SB : Type 0} (Hang : (strand credit : ℕ) → SA → SB → Store → Type 0) where
  abbrev pub PairAt : Store → (strand credit : ℕ) → Option SA → Option SB → Type 0
  PairAt s i c None None = Unit {0}
  PairAt s i c (Some a) (Some b) = Hang i c a b s
  PairAt s i c None (Some b) = ⊥
  PairAt s i c (Some a) None = ⊥

  -- the first of these strands has this number, and all together have so much to spare
  abbrev pub AllHang : Store → (strand credit : ℕ) → List (Thread SA) → List (Thread SB) → Type 0
  AllHang s i c [] [] = Unit {0}
  AllHang s i c (t ∷ ts) (u ∷ us) = (t.due ≡ u.due) × (c1 : ℕ) × (c2 : ℕ) × (c1 + c2 ≤ c) × PairAt s i c1 t.at u.at × AllHang s (suc i) c2 ts us
  AllHang s i c [] (u ∷ us) = ⊥
  AllHang s i c (t ∷ ts) [] = ⊥

  pub hang_lengths : (s : Store) (i c : ℕ) (ts : List (Thread SA)) (us : List (Thread SB)) → AllHang s i c ts us → length ts ≡ length us
  hang_lengths s i c [] [] h = refl
  hang_lengths s i c (t ∷ ts) (u ∷ us) h = ap suc (hang_lengths s (suc i) h.2 ts us h.5)
  hang_lengths s i c [] (u ∷ us) h = absurd h
  hang_lengths s i c (t ∷ ts) [] h = absurd h

  pub hang_more : (s : Store) (k d e : ℕ) (xs : List (Thread SA)) (ys : List (Thread SB)) → d ≤ e → AllHang s k d xs ys → AllHang s k e xs ys
  hang_more s k d e [] [] le h = tt
  hang_more s k d e (t ∷ xs) (u ∷ ys) le h = let le2 = h.3 in (h.0, h.1, h.2, omega arith, h.4, h.5)
  hang_more s k d e [] (u ∷ ys) le h = absurd h
  hang_more s k d e (t ∷ xs) [] le h = absurd h

  -- one more hangs
  pub hang_put : (s : Store) (i j c c1 d : ℕ) (a : SA) (b : SB) (ts : List (Thread SA)) (us : List (Thread SB)) → AllHang s i c ts us → Hang (i + j) c1 a b s
      → AllHang s i (c1 + c) (put j d (Some a) ts) (put j d (Some b) us)
  hang_put s i j c c1 d a b [] [] h g = tt
  hang_put s i zero c c1 d a b (t ∷ ts) (u ∷ us) h g =
      let le = h.3 in let z : i + 0 ≡ i = omega arith in (refl, c1, h.2, omega arith, subst (λ k. Hang k c1 a b s) z g, h.5)
  hang_put s i (suc j) c c1 d a b (t ∷ ts) (u ∷ us) h g =
      let le = h.3 in
      let z : i + suc j ≡ suc i + j = omega arith in
      (h.0, h.1, c1 + h.2, omega arith, h.4, hang_put s (suc i) j h.2 c1 d a b ts us h.5 (subst (λ k. Hang k c1 a b s) z g))
  hang_put s i j c c1 d a b [] (u ∷ us) h g = absurd h
  hang_put s i j c c1 d a b (t ∷ ts) [] h g = absurd h

  -- they hang over another store that has kept their areas
  module _ (Kept : ℕ → Store → Store → Type 0) (hang_on : (i c : ℕ) (a : SA) (b : SB) (s s' : Store) → Hang i c a b s → Kept i s s' → Hang i c a b s') (s s' : Store) where
    pair_over : (i c : ℕ) (x : Option SA) (y : Option SB) → PairAt s i c x y → Kept i s s' → PairAt s' i c x y
    pair_over i c None None h k = tt
    pair_over i c (Some a) (Some b) h k = hang_on i c a b s s' h k
    pair_over i c None (Some b) h k = absurd h
    pair_over i c (Some a) None h k = absurd h

    pub all_over : (i c : ℕ) (ts : List (Thread SA)) (us : List (Thread SB)) → AllHang s i c ts us → ((m : ℕ) → i ≤ m → Kept m s s') → AllHang s' i c ts us
    all_over i c [] [] h k = tt
    all_over i c (t ∷ ts) (u ∷ us) h k = (h.0, h.1, h.2, h.3, pair_over i h.1 t.at u.at h.4 (k i (omega arith)), all_over (suc i) h.2 ts us h.5 (λ m le. k m (omega arith)))
    all_over i c [] (u ∷ us) h k = absurd h
    all_over i c (t ∷ ts) [] h k = absurd h

    pub others_over : (i j c d : ℕ) (ts : List (Thread SA)) (us : List (Thread SB)) → length ts ≡ length us → AllHang s i c (put j d None ts) (put j d None us)
        → ((m : ℕ) → (m ≡ i + j → ⊥) → Kept m s s')
        → AllHang s' i c (put j d None ts) (put j d None us)
    others_over i j c d [] [] same h k = tt
    others_over i zero c d (t ∷ ts) (u ∷ us) same h k = (h.0, h.1, h.2, h.3, tt, all_over (suc i) h.2 ts us h.5 (λ m le. k m (λ e. let no_way : ⊥ = omega arith in no_way)))
    others_over i (suc j) c d (t ∷ ts) (u ∷ us) same h k = (
      h.0,
      h.1,
      h.2,
      h.3,
      pair_over i h.1 t.at u.at h.4 (k i (λ e. let no_way : ⊥ = omega arith in no_way)),
      others_over (suc i) j h.2 d ts us (omega arith) h.5 (λ m ne. k m (λ e. ne (let z : m ≡ suc i + j = omega arith in z))),
    )
    others_over i j c d [] (u ∷ us) same h k = let no_way : ⊥ = omega arith in absurd no_way
    others_over i j c d (t ∷ ts) [] same h k = let no_way : ⊥ = omega arith in absurd no_way

  -- the first that is ready is the same in both
  pub data First (s : Store) (i c : ℕ) (ts : List (Thread SA)) (us : List (Thread SB)) : Option (Ready SA) → Option (Ready SB) → Type 0 where
    none_first : First s i c ts us None None
    one_first : (x : Ready SA) (y : Ready SB) (j c1 c2 : ℕ) → x.strand ≡ i + j → y.strand ≡ i + j → x.due ≡ y.due → j < length ts → c1 + c2 ≤ c → Hang (i + j) c1 x.at y.at s
        → AllHang s i c2 (put j x.due None ts) (put j x.due None us) → suc (unfinished (put j x.due None ts)) ≤ unfinished ts → suc (unfinished (put j x.due None us)) ≤ unfinished us
        → First s i c ts us (Some x) (Some y)

  abbrev Both : Option (Ready SA) → Option (Ready SB) → Type 0
  Both None None = Unit {0}
  Both (Some x) (Some y) = Unit {0}
  Both None (Some y) = ⊥
  Both (Some x) None = ⊥

  both : (s : Store) (i c : ℕ) (ts : List (Thread SA)) (us : List (Thread SB)) (o : Option (Ready SA)) (p : Option (Ready SB)) → First s i c ts us o p → Both o p
  both s i c ts us _ _ none_first = tt
  both s i c ts us _ _ (one_first x y j c1 c2 ex ey ed lt few hg rest less_a less_b) = tt

  later : (s : Store) (i c c1 c2 : ℕ) (t : Thread SA) (u : Thread SB) (ts : List (Thread SA)) (us : List (Thread SB)) → t.due ≡ u.due → PairAt s i c1 t.at u.at → c1 + c2 ≤ c
      → (o : Option (Ready SA)) (p : Option (Ready SB)) → First s (suc i) c2 ts us o p → First s i c (t ∷ ts) (u ∷ us) o p
  later s i c c1 c2 t u ts us e pair le _ _ none_first = none_first
  later s i c c1 c2 t u ts us e pair le _ _ (one_first x y j d1 d2 ex ey ed lt few hg rest less_a less_b) =
      let z : suc i + j ≡ i + suc j = omega arith in
      one_first x y (suc j) d1 (c1 + d2) (ex ∙ z) (ey ∙ z) ed (omega arith) (omega arith) (subst (λ k. Hang k d1 x.at y.at s) z hg) (e, c1, d2, omega arith, pair, rest)
      (counted_less t.at (unfinished (put j x.due None ts)) (unfinished ts) less_a) (counted_less u.at (unfinished (put j x.due None us)) (unfinished us) less_b)

  pub first_alike : (s : Store) (i c : ℕ) (ts : List (Thread SA)) (us : List (Thread SB)) → AllHang s i c ts us → First s i c ts us (first_ready i ts) (first_ready i us)
  first_alike s i c [] [] h = none_first
  first_alike s i c [] (u ∷ us) h = absurd h
  first_alike s i c (t ∷ ts) [] h = absurd h
  first_alike s i c (t ∷ ts) (u ∷ us) h = by_at t.at u.at h.4 refl refl (first_ready (suc i) ts) (first_ready (suc i) us) (first_alike s (suc i) h.2 ts us h.5)
    where
      pair : PairAt s i h.1 t.at u.at
      pair = h.4

      on_later : (o : Option (Ready SA)) (p : Option (Ready SB)) → First s (suc i) h.2 ts us o p → First s i c (t ∷ ts) (u ∷ us) o p
      on_later o p f = later s i c h.1 h.2 t u ts us h.0 pair h.3 o p f

      here : (a : SA) (b : SB) → Hang i h.1 a b s → t.at ≡ Some a → u.at ≡ Some b
          → First s i c (t ∷ ts) (u ∷ us) (Some (record { strand = i; due = t.due; at = a })) (Some (record { strand = i; due = u.due; at = b }))
      here a b g ea eb =
          let z : i ≡ i + 0 = omega arith in
          let le = h.3 in
          one_first _ _ 0 h.1 h.2 z z h.0 (omega arith) h.3 (subst (λ k. Hang k h.1 a b s) z g) (refl, 0, h.2, omega arith, tt, h.5)
          (counted_one t.at a (unfinished ts) ea) (counted_one u.at b (unfinished us) eb)

      by_at : (x : Option SA) (y : Option SB) → PairAt s i h.1 x y → t.at ≡ x → u.at ≡ y → (o : Option (Ready SA)) (p : Option (Ready SB)) → First s (suc i) h.2 ts us o p
          → First s i c (t ∷ ts) (u ∷ us) (sooner (ready_if i t.due x) o) (sooner (ready_if i u.due y) p)
      by_at None None g ea eb o p f = on_later o p f
      by_at (Some a) (Some b) g ea eb None None f = here a b g ea eb
      by_at (Some a) (Some b) g ea eb (Some x) (Some y) f = subst (λ d. First s i c (t ∷ ts) (u ∷ us) (if nat_lt x.due t.due then Some x else Some (record { strand = i; due = t.due; at = a }))
          (if d then Some y else Some (record { strand = i; due = u.due; at = b }))) (ap (λ d. nat_lt d t.due) (dues f) ∙ ap (λ d. nat_lt y.due d) h.0) (by_less (nat_lt x.due t.due))
        where
          dues : First s (suc i) h.2 ts us (Some x) (Some y) → x.due ≡ y.due
          dues (one_first _ _ j d1 d2 ex ey ed lt few hg rest less_a less_b) = ed

          by_less : (d : Bool) → First s i c (t ∷ ts) (u ∷ us) (if d then Some x else Some (record { strand = i; due = t.due; at = a }))
              (if d then Some y else Some (record { strand = i; due = u.due; at = b }))
          by_less true = on_later (Some x) (Some y) f
          by_less false = here a b g ea eb
      by_at (Some a) (Some b) g ea eb None (Some y) f = absurd (both s (suc i) h.2 ts us None (Some y) f)
      by_at (Some a) (Some b) g ea eb (Some x) None f = absurd (both s (suc i) h.2 ts us (Some x) None f)
      by_at None (Some b) g ea eb o p f = absurd g
      by_at (Some a) None g ea eb o p f = absurd g
