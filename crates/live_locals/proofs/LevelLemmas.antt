-- The worlds of loops, by level.
use Rattle.std.proofs.Common.{◌≡◌, ◌∙◌, ℕ, zero, suc, ◌+◌, ◌-◌, ◌*◌, ◌<◌, ◌≤◌, inl, inr, ◌^◌, List, [], ◌∷◌, ◌++◌, length, drop, get_or, set, take, min, max, Bool, true, false, ◌||◌, ◌&&◌, not, refl, sym, ap, arith, pow_pos}
use Rattle.std.specs.Prelude.{nat_eq, if◌then◌else◌}
use Rattle.std.specs.Int.{bit_at, bit_not, w64}
use Rattle.std.specs.Int.Bits.{bit_and, bit_or}
use Rattle.std.proofs.lemmas.Bool.{cases_eq, cases_lt, eq-eqb, ne_eqb}
use Rattle.std.proofs.lemmas.List.{get_or-set_same, get_or-set_other, get_or_past, map-append, take_more}
use Rattle.std.proofs.lemmas.Nat.{and_mask, le_or_l, le_or_r}
use Rattle.std.proofs.lemmas.Nat.Bits.{and_pow, bit_at-lt, bit_at_and, bit_at_lowest, bit_at_not, bit_at_or, bit_at-pow_same, bit_at-pow_other, same_from_bits}
use Rattle.live_locals.specs.Sets.{has}
use Rattle.live_locals.specs.Words.{bit, world, meets}
use Rattle.live_locals.proofs.WordLemmas.{bit_of_or, world_long, world_has}
use Rattle.live_locals.proofs.WordPasses.{put_back_words}

pub own_bits : (level w i : ℕ) → w ≡ 2 ^ suc level → bit i w ≡ nat_eq i (suc level)
own_bits level w i e = elim (cases_eq i (suc level)) [
  | inl q ↦ (λ j. nat_eq (bit_at (e j) (q j)) 1) ∙ ap (λ b. nat_eq b 1) (bit_at-pow_same (suc level)) ∙ sym (eq-eqb i (suc level) q)
  | inr ne ↦ ap (λ u. nat_eq (bit_at u i) 1) e ∙ ap (λ b. nat_eq b 1) (bit_at-pow_other (suc level) i ne) ∙ sym (ne_eqb i (suc level) ne)
]

-- ---- behind a loop's head

lowest : (w : ℕ) → bit_at w 0 ≡ bit_and w 1
lowest w = bit_at_lowest w ∙ sym (and_mask w 1)

lowest_none : (w : ℕ) → bit_and w 1 ≡ 0 → bit 0 w ≡ false
lowest_none w e = ap (λ b. nat_eq b 1) (lowest w ∙ e)

lowest_some : (w : ℕ) → (bit_and w 1 ≡ 0 → ⊥) → bit 0 w ≡ true
lowest_some w ne = let l = bit_at-lt w 0 in let e = lowest w in
    by (bit_at w 0) l (λ z. ne (sym e ∙ z))
  where
    by : (n : ℕ) → n < 2 → (n ≡ 0 → ⊥) → nat_eq n 1 ≡ true
    by zero l h = absurd (h refl)
    by (suc zero) l h = refl
    by (suc (suc n)) l h = absurd (omega (arith, l))

min_is : (m n : ℕ) → m < 2 → n < 2 → nat_eq (min m (1 - n)) 1 ≡ (if nat_eq n 1 then false else nat_eq m 1)
min_is zero zero l k = refl
min_is zero (suc zero) l k = refl
min_is (suc zero) zero l k = refl
min_is (suc zero) (suc zero) l k = refl
min_is (suc (suc m)) n l k = absurd (omega (arith, l))
min_is zero (suc (suc n)) l k = absurd (omega (arith, k))
min_is (suc zero) (suc (suc n)) l k = absurd (omega (arith, k))

pub left_none : (w own i : ℕ) → own < 2 ^ 64 → bit_and w 1 ≡ 0 → i < 64 → bit i (bit_and w (bit_not w64 own)) ≡ (if bit i own then bit 0 w else bit i w)
left_none w own i lo e il =
    ap (λ n. nat_eq n 1) (bit_at_and w (bit_not w64 own) i ∙ ap (min (bit_at w i)) (bit_at_not w64 own i lo il)) ∙ min_is (bit_at w i) (bit_at own i) (bit_at-lt w i) (bit_at-lt own i)
    ∙ ap (λ b. if bit i own then b else bit i w) (sym (lowest_none w e))

pub left_some : (w own i : ℕ) → (bit_and w 1 ≡ 0 → ⊥) → bit i (bit_or w own) ≡ (if bit i own then bit 0 w else bit i w)
left_some w own i ne = bit_of_or i w own ∙ by (bit i own) (bit i w) ∙ ap (λ b. if bit i own then b else bit i w) (sym (lowest_some w ne))
  where
    by : (o b : Bool) → (b || o) ≡ (if o then true else b)
    by true true = refl
    by true false = refl
    by false true = refl
    by false false = refl

-- What is known in the middle of this, word by word.
pub record Leaving (old : List ℕ) (own : ℕ) (new : List ℕ) (at : ℕ) : Type 0 where
  pub below : (x i : ℕ) → x < at → i < 64 → bit i (get_or new x 0) ≡ (if bit i own then bit 0 (get_or old x 0) else bit i (get_or old x 0))
  pub above : (x : ℕ) → at ≤ x → get_or new x 0 ≡ get_or old x 0

pub leaving_first : (old : List ℕ) (own : ℕ) → Leaving old own old 0
leaving_first old own = record { below = λ x i lt il. absurd (omega (arith, lt)); above = λ x le. refl }

pub leaving_more : (old : List ℕ) (own : ℕ) (new : List ℕ) (at v : ℕ) → Leaving old own new at → at < length new
    → ((i : ℕ) → i < 64 → bit i v ≡ (if bit i own then bit 0 (get_or new at 0) else bit i (get_or new at 0))) → Leaving old own (set new at v) (at + 1)
leaving_more old own new at v j lt h = record {
  below = λ x i l il. elim (cases_eq x at) [
    | inl q ↦ ap (λ y. bit i (get_or (set new at v) y 0)) q ∙ ap (bit i) (get_or-set_same new at v 0 lt) ∙ h i il
        ∙ ap (λ u. if bit i own then bit 0 u else bit i u) (j.above at (omega arith)) ∙ ap (λ y. if bit i own then bit 0 (get_or old y 0) else bit i (get_or old y 0)) (sym q)
    | inr ne ↦ ap (bit i) (get_or-set_other new at x v 0 ne) ∙ j.below x i (omega (arith, l, ne)) il
  ];
  above = λ x l. get_or-set_other new at x v 0 (λ q. absurd (omega (arith, q, l))) ∙ j.above x (omega (arith, l));
}

pub leaving_end : (old : List ℕ) (own : ℕ) (new : List ℕ) (at level : ℕ) → Leaving old own new at → length new ≡ length old → length old ≤ at
    → ((i : ℕ) → i < 64 → bit i own ≡ nat_eq i (suc level))
    → (i x : ℕ) → i < 64 → has (world i new) x ≡ (if nat_eq i (suc level) then has (world 0 old) x else has (world i old) x)
leaving_end old own new at level j n full bits i x il = elim (cases_lt x at) [
  | inl l ↦ world_has i new x ∙ j.below x i l il ∙ ap (λ b. if b then bit 0 (get_or old x 0) else bit i (get_or old x 0)) (bits i il)
      ∙ (λ k. if nat_eq i (suc level) then sym (world_has 0 old x) k else sym (world_has i old x) k)
  | inr g ↦
      let m = world_long i new in let a = world_long 0 old in let b = world_long i old in
      get_or_past (world i new) x false (omega (arith, m, n, full, g))
      ∙ both (nat_eq i (suc level)) (has (world 0 old) x) (has (world i old) x)
      (get_or_past (world 0 old) x false (omega (arith, a, full, g))) (get_or_past (world i old) x false (omega (arith, b, full, g)))
]
  where
    both : (c a b : Bool) → a ≡ false → b ≡ false → false ≡ (if c then a else b)
    both true a b e f = sym e
    both false a b e f = sym f

-- ---- a set in all worlds

pub cast_more : (i : ℕ) (words : List ℕ) (v : ℕ) (set : List Bool) (at : ℕ) (b : Bool) → world i words ≡ take at set → at < length set → b ≡ get_or set at false → bit i v ≡ b
    → world i (words ++ v ∷ []) ≡ take (at + 1) set
cast_more i words v set at b h lt e q =
    map-append (bit i) words (v ∷ []) ∙ (λ j. h j ++ (q ∙ e) j ∷ []) ∙ sym (take_more set at false lt)

-- ---- worlds that hold

and_or : (u k w : ℕ) → bit_and u (bit_or k w) ≡ bit_or (bit_and u k) (bit_and u w)
and_or u k w = same_from_bits (bit_and u (bit_or k w)) (bit_or (bit_and u k) (bit_and u w)) (λ i.
    bit_at_and u (bit_or k w) i ∙ ap (min (bit_at u i)) (bit_at_or k w i)
    ∙ spread (bit_at u i) (bit_at k i) (bit_at w i)
    ∙ sym (bit_at_or (bit_and u k) (bit_and u w) i ∙ (λ j. max (bit_at_and u k i j) (bit_at_and u w i j))))
  where
    spread : (a b c : ℕ) → min a (max b c) ≡ max (min a b) (min a c)
    spread a b c = omega arith

none_of_or : (m n : ℕ) → not (nat_eq (bit_or m n) 0) ≡ (not (nat_eq m 0) || not (nat_eq n 0))
none_of_or m n = let a = le_or_l m n in let b = le_or_r m n in elim (cases_eq m 0) [
  | inl e ↦ elim (cases_eq n 0) [
    | inl f ↦ (λ i. not (nat_eq (bit_or (e i) (f i)) 0)) ∙ (λ i. not (nat_eq (sym e i) 0) || not (nat_eq (sym f i) 0))
    | inr g ↦ ap not (ne_eqb (bit_or m n) 0 (λ z. g (omega (arith, b, z)))) ∙ (λ i. not (sym (eq-eqb m 0 e) i) || not (sym (ne_eqb n 0 g) i))
  ]
  | inr d ↦ ap not (ne_eqb (bit_or m n) 0 (λ z. d (omega (arith, a, z)))) ∙ (λ i. not (sym (ne_eqb m 0 d) i) || not (nat_eq n 0))
]

pub meets_bit : (u level w : ℕ) → w ≡ 2 ^ suc level → meets u w ≡ bit (suc level) u
meets_bit u level w e = ap (meets u) e ∙ ap (λ n. not (nat_eq n 0)) (and_pow u (suc level)) ∙ by (bit_at u (suc level)) (2 ^ suc level) (bit_at-lt u (suc level)) (some (suc level))
  where
    some : (k : ℕ) → 0 < 2 ^ k
    some k = search (arith, pow_pos)

    by : (n p : ℕ) → n < 2 → 0 < p → not (nat_eq (n * p) 0) ≡ nat_eq n 1
    by zero p l q = let z : 0 * p ≡ 0 = omega arith in ap (λ n. not (nat_eq n 0)) z
    by (suc zero) p l q = ap not (ne_eqb (1 * p) 0 (λ z. absurd (omega (arith, z, q))))
    by (suc (suc n)) p l q = absurd (omega (arith, l))

pub meets_more : (u k level w : ℕ) → w ≡ 2 ^ suc level → meets u (bit_or k w) ≡ (meets u k || bit (suc level) u)
meets_more u k level w e = ap (λ n. not (nat_eq n 0)) (and_or u k w) ∙ none_of_or (bit_and u k) (bit_and u w) ∙ ap (λ b. meets u k || b) (meets_bit u level w e)

-- of the local's word inside a loop
pub meets_entered : (u k v level w : ℕ) (b : Bool) → w ≡ 2 ^ suc level → v ≡ (if b then bit_or k w else k) → meets u v ≡ (meets u k || (b && bit (suc level) u))
meets_entered u k v level w true e f = ap (meets u) f ∙ meets_more u k level w e
meets_entered u k v level w false e f = ap (meets u) f ∙ none (meets u k)
  where
    none : (a : Bool) → a ≡ (a || false)
    none true = refl
    none false = refl

-- What is known in the middle of entering.
pub record Entering (old : List ℕ) (head : List Bool) (own : ℕ) (new : List ℕ) (at : ℕ) : Type 0 where
  pub below : (x : ℕ) → x < at → get_or new x 0 ≡ (if has head x then bit_or (get_or old x 0) own else get_or old x 0)
  pub above : (x : ℕ) → at ≤ x → get_or new x 0 ≡ get_or old x 0

pub entering_first : (old : List ℕ) (head : List Bool) (own : ℕ) → Entering old head own old 0
entering_first old head own = record { below = λ x lt. absurd (omega (arith, lt)); above = λ x le. refl }

module _ (old : List ℕ) (head : List Bool) (own : ℕ) (new : List ℕ) (at : ℕ) (j : Entering old head own new at) where
  pub entering_put : (v : ℕ) → at < length new → has head at ≡ true → v ≡ bit_or (get_or new at 0) own → Entering old head own (set new at v) (at + 1)
  entering_put v lt e f = record {
    below = λ x l. elim (cases_eq x at) [
      | inl q ↦ ap (λ y. get_or (set new at v) y 0) q ∙ get_or-set_same new at v 0 lt ∙ f ∙ ap (λ u. bit_or u own) (j.above at (omega arith))
          ∙ sym (ap (λ y. if has head y then bit_or (get_or old y 0) own else get_or old y 0) q ∙ ap (λ b. if b then bit_or (get_or old at 0) own else get_or old at 0) e)
      | inr ne ↦ get_or-set_other new at x v 0 ne ∙ j.below x (omega (arith, l, ne))
    ];
    above = λ x l. get_or-set_other new at x v 0 (λ q. absurd (omega (arith, q, l))) ∙ j.above x (omega (arith, l));
  }

  pub entering_left : has head at ≡ false → Entering old head own new (at + 1)
  entering_left e = record {
    below = λ x l. elim (cases_eq x at) [
      | inl q ↦ j.above x (omega (arith, q)) ∙ sym (ap (λ b. if b then bit_or (get_or old x 0) own else get_or old x 0) (ap (has head) q ∙ e))
      | inr ne ↦ j.below x (omega (arith, l, ne))
    ];
    above = λ x l. j.above x (omega (arith, l));
  }

-- ---- what is met

pub met_step : (old : List Bool) (words reach : List ℕ) (at : ℕ) (v : Bool) → ((x : ℕ) → x < at → has old x ≡ meets (get_or words x 0) (get_or reach x 0)) → at < length old
    → v ≡ meets (get_or words at 0) (get_or reach at 0) → (x : ℕ) → x < at + 1 → has (set old at v) x ≡ meets (get_or words x 0) (get_or reach x 0)
met_step old words reach at v h lt e x l = elim (cases_eq x at) [
  | inl q ↦ ap (has (set old at v)) q ∙ get_or-set_same old at v false lt ∙ e ∙ ap (λ y. meets (get_or words y 0) (get_or reach y 0)) (sym q)
  | inr ne ↦ get_or-set_other old at x v false ne ∙ h x (omega (arith, l, ne))
]

pub entered_is : (level own len : ℕ) (reach old lent new : List ℕ) (head : List Bool) → own ≡ 2 ^ suc level → old ≡ reach → lent ≡ old → length new ≡ length lent → length old ≡ len
    → ((x : ℕ) → x < length lent → get_or new x 0 ≡ (if has head x then bit_or (get_or lent x 0) own else get_or lent x 0))
    → (length (take len (new ++ drop (length new) old)) ≡ length reach)
    × ((x u : ℕ) → x < length reach → u < 2 ^ 64 → meets u (get_or (take len (new ++ drop (length new) old)) x 0) ≡ (meets u (get_or reach x 0) || (has head x && bit (suc level) u)))
entered_is level own len reach old lent new head e eo el n k h =
    let back : take len (new ++ drop (length new) old) ≡ new = put_back_words new old len (n ∙ ap length el) k in
    let m : length lent ≡ length reach = ap length (el ∙ eo) in (
      ap length back ∙ n ∙ m,
      λ x u lt ul. ap (λ s. meets u (get_or s x 0)) back
          ∙ meets_entered u (get_or reach x 0) (get_or new x 0) level own (has head x) e
          (h x (omega (arith, m, lt)) ∙ ap (λ s. if has head x then bit_or (get_or s x 0) own else get_or s x 0) (el ∙ eo)),
    )

-- the world of no loop alone
pub meets_first : (w : ℕ) → meets w 1 ≡ bit 0 w
meets_first w = ap (λ n. not (nat_eq n 0)) (sym (lowest w)) ∙ by (bit_at w 0) (bit_at-lt w 0)
  where
    by : (n : ℕ) → n < 2 → not (nat_eq n 0) ≡ nat_eq n 1
    by zero l = refl
    by (suc zero) l = refl
    by (suc (suc n)) l = absurd (omega (arith, l))
