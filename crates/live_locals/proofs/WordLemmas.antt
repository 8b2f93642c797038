-- Words: bits, reads, writes and joins, world by world.
use Rattle.std.proofs.Common.{◌≡◌, ◌∙◌, ℕ, zero, suc, ◌+◌, ◌-◌, ◌<◌, ◌≤◌, ◌⊎◌, inl, inr, ◌^◌, List, [], ◌∷◌, ◌++◌, length, map, reverse, get_or, set, min, max, Bool, true, false, ◌||◌, refl, sym, ap, arith, subst}
use Rattle.std.specs.Prelude.{Vec, nat_eq}
use Rattle.std.specs.Int.{bit_at}
use Rattle.std.specs.Int.Bits.{bit_or}
use Rattle.std.specs.declared.alloc.Global.{Global}
use Rattle.std.proofs.lemmas.Bool.{cases_eq, cases_lt}
use Rattle.std.proofs.lemmas.List.{get_or-map, get_or-set_same, get_or-set_other, get_or_past, get_or-reverse, length-map, length-reverse, map-set}
use Rattle.std.proofs.lemmas.Nat.Bits.{bit_at-lt, bit_at-zero, bit_at_ones, bit_at_or}
use Rattle.wa_types.specs.Syntax.{local_get, local_set, unreachable, done, plain}
use Rattle.wa_types.specs.Liveness.{told_at}
use Rattle.live_locals.specs.Sets.{has, told_of, TellsAnywhere}
use Rattle.live_locals.proofs.SetLemmas.{or_none, read_here, read_past, write_here, write_past, emptied, told_at_is, told_past}
use Rattle.live_locals.specs.Words.{bit, world, told_in, WordsTell, WordsJoined}

-- ---- bits

pub bit_max : (i : ℕ) → i < 64 → bit i (2 ^ 64 - 1) ≡ true
bit_max i lt = ap (λ b. nat_eq b 1) (bit_at_ones 64 i lt)

pub bit_none : (i : ℕ) → bit i 0 ≡ false
bit_none i = ap (λ b. nat_eq b 1) (bit_at-zero i)

max_is : (m n : ℕ) → m < 2 → n < 2 → nat_eq (max m n) 1 ≡ (nat_eq m 1 || nat_eq n 1)
max_is zero zero l k = refl
max_is zero (suc zero) l k = refl
max_is (suc zero) zero l k = refl
max_is (suc zero) (suc zero) l k = refl
max_is (suc (suc m)) n l k = absurd (omega (arith, l))
max_is zero (suc (suc n)) l k = absurd (omega (arith, k))
max_is (suc zero) (suc (suc n)) l k = absurd (omega (arith, k))

pub bit_of_or : (i a b : ℕ) → bit i (bit_or a b) ≡ (bit i a || bit i b)
bit_of_or i a b = ap (λ n. nat_eq n 1) (bit_at_or a b i) ∙ max_is (bit_at a i) (bit_at b i) (bit_at-lt a i) (bit_at-lt b i)

-- ---- the set of a world

pub world_long : (i : ℕ) (xs : List ℕ) → length (world i xs) ≡ length xs
world_long i xs = length-map xs (bit i)

pub world_has : (i : ℕ) (xs : List ℕ) (x : ℕ) → has (world i xs) x ≡ bit i (get_or xs x 0)
world_has i xs x = elim (cases_lt x (length xs)) [
  | inl l ↦ get_or-map (bit i) xs x 0 false l
  | inr g ↦ let n = world_long i xs in
      get_or_past (world i xs) x false (omega (arith, n, g)) ∙ sym (bit_none i) ∙ ap (bit i) (sym (get_or_past xs x 0 g))
]

world_set : (i : ℕ) (xs : List ℕ) (y v : ℕ) (b : Bool) → bit i v ≡ b → world i (set xs y v) ≡ set (world i xs) y b
world_set i xs y v b e = map-set (bit i) xs y v ∙ ap (set (world i xs) y) e

in_world : (i : ℕ) (xs : List ℕ) (y : ℕ) → y < length xs → y < length (world i xs)
in_world i xs y lt = let n = world_long i xs in omega (arith, n, lt)

not_in_world : (i : ℕ) (xs : List ℕ) (y : ℕ) → length xs ≤ y → length (world i xs) ≤ y
not_in_world i xs y le = let n = world_long i xs in omega (arith, n, le)

module _ (old : List ℕ) (y : ℕ) where
  pub words_read_here : y < length old → WordsTell old (set old y (2 ^ 64 - 1)) (plain (local_get y) done)
  words_read_here lt i il =
      subst (λ s. TellsAnywhere (world i old) s (plain (local_get y) done)) (sym (world_set i old y (2 ^ 64 - 1) true (bit_max i il))) (read_here (world i old) y (in_world i old y lt))

  pub words_read_past : length old ≤ y → WordsTell old old (plain (local_get y) done)
  words_read_past le i il = read_past (world i old) y (not_in_world i old y le)

  pub words_write_here : y < length old → WordsTell old (set old y 0) (plain (local_set y) done)
  words_write_here lt i il =
      subst (λ s. TellsAnywhere (world i old) s (plain (local_set y) done)) (sym (world_set i old y 0 false (bit_none i))) (write_here (world i old) y (in_world i old y lt))

  pub words_write_past : length old ≤ y → WordsTell old old (plain (local_set y) done)
  words_write_past le i il = write_past (world i old) y (not_in_world i old y le)

pub words_emptied : (old new : List ℕ) → length new ≡ length old → ((x : ℕ) → x < length new → get_or new x 0 ≡ 0) → WordsTell old new (plain unreachable done)
words_emptied old new n h i il =
    emptied (world i old) (world i new) (world_long i new ∙ n ∙ sym (world_long i old))
    (λ x lt. let m = world_long i new in world_has i new x ∙ ap (bit i) (h x (omega (arith, m, lt))) ∙ bit_none i)

-- ---- joins

-- What is known in the middle of a join of words.
pub record WordsJoining (old other new : List ℕ) (at : ℕ) : Type 0 where
  pub below : (x : ℕ) → x < at → get_or new x 0 ≡ bit_or (get_or old x 0) (get_or other x 0)
  pub above : (x : ℕ) → at ≤ x → get_or new x 0 ≡ get_or old x 0

pub words_joining_first : (old other : List ℕ) → WordsJoining old other old 0
words_joining_first old other = record { below = λ x lt. absurd (omega (arith, lt)); above = λ x le. refl }

pub words_joining_put : (old other new : List ℕ) (at v : ℕ) → WordsJoining old other new at → at < length new → v ≡ bit_or (get_or new at 0) (get_or other at 0)
    → WordsJoining old other (set new at v) (at + 1)
words_joining_put old other new at v j lt e = record {
  below = λ x l. elim (cases_eq x at) [
    | inl q ↦ ap (λ y. get_or (set new at v) y 0) q ∙ get_or-set_same new at v 0 lt ∙ e ∙ ap (λ w. bit_or w (get_or other at 0)) (j.above at (omega arith))
        ∙ ap (λ y. bit_or (get_or old y 0) (get_or other y 0)) (sym q)
    | inr ne ↦ get_or-set_other new at x v 0 ne ∙ j.below x (omega (arith, l, ne))
  ];
  above = λ x l. get_or-set_other new at x v 0 (λ q. absurd (omega (arith, q, l))) ∙ j.above x (omega (arith, l));
}

or_comm_bool : (a b : Bool) → (a || b) ≡ (b || a)
or_comm_bool true true = refl
or_comm_bool true false = refl
or_comm_bool false true = refl
or_comm_bool false false = refl

pub words_joining_end : (old other new : List ℕ) (at : ℕ) → WordsJoining old other new at → (length old ≤ at) ⊎ (length other ≤ at) → (i : ℕ) → i < 64 → (x : ℕ) → x < length old
    → has (world i new) x ≡ (has (world i other) x || has (world i old) x)
words_joining_end old other new at j full i il x lt = elim (cases_lt x at) [
  | inl l ↦ world_has i new x ∙ ap (bit i) (j.below x l) ∙ bit_of_or i (get_or old x 0) (get_or other x 0) ∙ or_comm_bool (bit i (get_or old x 0)) (bit i (get_or other x 0))
      ∙ (λ k. sym (world_has i other x) k || sym (world_has i old x) k)
  | inr g ↦ world_has i new x ∙ ap (bit i) (j.above x g) ∙ sym (world_has i old x) ∙ sym (ap (λ b. b || has (world i old) x) (world_has i other x ∙ ap (bit i) (get_or_past other x 0 (elim full [
    | inl a ↦ absurd (omega (arith, a, g, lt))
    | inr b ↦ omega (arith, b, g)
  ])) ∙ bit_none i))
]

-- What is known in the middle of a join of a set, in all worlds.
pub record SetJoining (old : List ℕ) (other : List Bool) (new : List ℕ) (at : ℕ) : Type 0 where
  pub below : (x i : ℕ) → x < at → i < 64 → bit i (get_or new x 0) ≡ (has other x || bit i (get_or old x 0))
  pub above : (x : ℕ) → at ≤ x → get_or new x 0 ≡ get_or old x 0

pub set_joining_first : (old : List ℕ) (other : List Bool) → SetJoining old other old 0
set_joining_first old other = record { below = λ x i lt il. absurd (omega (arith, lt)); above = λ x le. refl }

module _ (old : List ℕ) (other : List Bool) (new : List ℕ) (at : ℕ) (j : SetJoining old other new at) where
  pub set_joining_put : at < length new → has other at ≡ true → SetJoining old other (set new at (2 ^ 64 - 1)) (at + 1)
  set_joining_put lt e = record {
    below = λ x i l il. elim (cases_eq x at) [
      | inl q ↦ ap (λ y. bit i (get_or (set new at (2 ^ 64 - 1)) y 0)) q ∙ ap (bit i) (get_or-set_same new at (2 ^ 64 - 1) 0 lt) ∙ bit_max i il
          ∙ sym (ap (λ b. b || bit i (get_or old x 0)) (ap (has other) q ∙ e))
      | inr ne ↦ ap (bit i) (get_or-set_other new at x (2 ^ 64 - 1) 0 ne) ∙ j.below x i (omega (arith, l, ne)) il
    ];
    above = λ x l. get_or-set_other new at x (2 ^ 64 - 1) 0 (λ q. absurd (omega (arith, q, l))) ∙ j.above x (omega (arith, l));
  }

  pub set_joining_left : has other at ≡ false → SetJoining old other new (at + 1)
  set_joining_left e = record {
    below = λ x i l il. elim (cases_eq x at) [
      | inl q ↦ ap (bit i) (j.above x (omega (arith, q))) ∙ sym (ap (λ b. b || bit i (get_or old x 0)) (ap (has other) q ∙ e))
      | inr ne ↦ j.below x i (omega (arith, l, ne)) il
    ];
    above = λ x l. j.above x (omega (arith, l));
  }

  pub set_joining_end : (length old ≤ at) ⊎ (length other ≤ at) → (i : ℕ) → i < 64 → (x : ℕ) → x < length old → has (world i new) x ≡ (has other x || has (world i old) x)
  set_joining_end full i il x lt = elim (cases_lt x at) [
    | inl l ↦ world_has i new x ∙ j.below x i l il ∙ ap (λ b. has other x || b) (sym (world_has i old x))
    | inr g ↦ world_has i new x ∙ ap (bit i) (j.above x g) ∙ sym (world_has i old x) ∙ sym (ap (λ b. b || has (world i old) x) (get_or_past other x false (elim full [
      | inl a ↦ absurd (omega (arith, a, g, lt))
      | inr b ↦ omega (arith, b, g)
    ])))
  ]

-- ---- labels

in_front_told : (cs ds : List Bool) (l : ℕ) → l < length cs → told_at (cs ++ ds) l ≡ told_at cs l
in_front_told [] ds l lt = absurd (omega (arith, lt))
in_front_told (a ∷ cs) ds zero lt = refl
in_front_told (a ∷ cs) ds (suc l) lt = in_front_told cs ds l (omega (arith, lt))

behind_told : (cs ds : List Bool) (l : ℕ) → told_at (cs ++ ds) (length cs + l) ≡ told_at ds l
behind_told [] ds l = let z : 0 + l ≡ l = omega arith in ap (told_at ds) z
behind_told (a ∷ cs) ds l = let z : suc (length cs) + l ≡ suc (length cs + l) = omega arith in ap (told_at (a ∷ (cs ++ ds))) z ∙ behind_told cs ds l

some_told : (cs : List Bool) (l : ℕ) → l < length cs → told_at cs l ≡ get_or cs l false
some_told [] l lt = absurd (omega (arith, lt))
some_told (a ∷ cs) zero lt = refl
some_told (a ∷ cs) (suc l) lt = some_told cs l (omega (arith, lt))

module _ (i : ℕ) (outer : List (Vec Bool Global)) (inner : List (Vec ℕ Global)) (x : ℕ) where
  abbrev tell : Vec ℕ Global → Bool
  tell = λ (s : Vec ℕ Global). has (world i s.items) x

  inner_long : length (map tell (reverse inner)) ≡ length inner
  inner_long = length-map (reverse inner) tell ∙ length-reverse inner

  inner_told : (l : ℕ) (v : Vec ℕ Global) → l < length inner → v ≡ get_or inner (length inner - 1 - l) v → told_at (told_in i outer inner x) l ≡ has (world i v.items) x
  inner_told l v lt at =
      let n = length-reverse inner in let m = inner_long in
      in_front_told (map tell (reverse inner)) (told_of x outer) l (omega (arith, m, lt))
      ∙ some_told (map tell (reverse inner)) l (omega (arith, m, lt))
      ∙ get_or-map tell (reverse inner) l v false (omega (arith, n, lt)) ∙ ap tell (get_or-reverse inner l v lt ∙ sym at)

  outer_told : (l : ℕ) → length inner ≤ l → told_at (told_in i outer inner x) l ≡ told_at (told_of x outer) (l - length inner)
  outer_told l le =
      let m = inner_long in
      let z : l ≡ length (map tell (reverse inner)) + (l - length inner) = omega (arith, m, le) in
      ap (told_at (told_in i outer inner x)) z ∙ behind_told (map tell (reverse inner)) (told_of x outer) (l - length inner)

module _ (outer : List (Vec Bool Global)) (inner : List (Vec ℕ Global)) (l : ℕ) (old new : List ℕ) where
  pub words_joined_inner : (v : Vec ℕ Global) → l < length inner → v ≡ get_or inner (length inner - 1 - l) v → length new ≡ length old
      → ((i : ℕ) → i < 64 → (x : ℕ) → x < length old → has (world i new) x ≡ (has (world i v.items) x || has (world i old) x)) → WordsJoined outer inner (l ∷ []) old new
  words_joined_inner v lt at n h i il = record {
    size = world_long i new ∙ n ∙ sym (world_long i old);
    each = λ x k. let m = world_long i old in
        h i il x (omega (arith, m, k)) ∙ sym (ap (λ b. b || has (world i old) x) (or_none (told_at (told_in i outer inner x) l) ∙ inner_told i outer inner x l v lt at));
  }

  pub words_joined_outer : (v : Vec Bool Global) → length inner ≤ l → l - length inner < length outer → v ≡ get_or outer (length outer - 1 - (l - length inner)) v → length new ≡ length old
      → ((i : ℕ) → i < 64 → (x : ℕ) → x < length old → has (world i new) x ≡ (has v.items x || has (world i old) x)) → WordsJoined outer inner (l ∷ []) old new
  words_joined_outer v le lt at n h i il = record {
    size = world_long i new ∙ n ∙ sym (world_long i old);
    each = λ x k. let m = world_long i old in
        h i il x (omega (arith, m, k))
        ∙ sym (ap (λ b. b || has (world i old) x) (or_none (told_at (told_in i outer inner x) l) ∙ outer_told i outer inner x l le ∙ told_at_is x outer (l - length inner) v lt at));
  }

  pub words_joined_past : length inner ≤ l → length outer ≤ l - length inner → WordsJoined outer inner (l ∷ []) old old
  words_joined_past le past i il = record {
    size = refl;
    each = λ x k. sym (ap (λ b. b || has (world i old) x) (or_none (told_at (told_in i outer inner x) l) ∙ outer_told i outer inner x l le ∙ told_past x outer (l - length inner) past));
  }

-- ---- where a walk over two sets ends

pub one_is_full : (n a b at : ℕ) → n ≡ min a b → n ≤ at → (a ≤ at) ⊎ (b ≤ at)
one_is_full n a b at e le = elim (cases_lt at a) [
  | inl l ↦ inr (omega (arith, e, le, l))
  | inr g ↦ inl g
]
