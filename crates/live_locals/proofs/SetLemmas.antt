-- Sets of locals: reads, writes, joins, and branches to labels.
use Rattle.std.proofs.Common.{◌≡◌, ◌∙◌, ℕ, ◌+◌, ◌-◌, ◌<◌, ◌≤◌, ◌⊎◌, List, [], ◌∷◌, ◌++◌, length, map, reverse, get_or, take, drop, set, Some, Bool, true, false, not, ◌&&◌, ◌||◌, inl, inr, refl, sym, ap, arith, subst}
use Rattle.std.specs.Prelude.{nat_eq, replicate, Vec}
use Rattle.std.specs.declared.alloc.Global.{Global}
use Rattle.std.specs.List.{list_any}
use Rattle.std.specs.Option.{option_map}
use Rattle.std.proofs.lemmas.Bool.{cases_eq, cases_lt, eq-eqb, ne_eqb}
use Rattle.std.proofs.lemmas.List.{drop_more, drop_all, get_or-set_same, get_or-set_other, get_or_past, get_or-reverse, length-set, length-map, length-reverse, reverse-append, get_or-replicate, length-replicate}
use Rattle.std.proofs.lemmas.Option.{slice_get-map, slice_get-get_or, slice_get_past}
use Rattle.std.proofs.Math.Seq.{take-append_seam}
use Rattle.wa_types.specs.Pausing.{is_told}
use Rattle.wa_types.specs.Syntax.{local_get, local_set, br, br_if, br_table, unreachable, Code, done, plain, nest, branch}
use Rattle.wa_types.specs.Liveness.{live, live_plain, shape_live, told_at}
use Rattle.run_theory.specs.Flat.{followed_by}
use Rattle.live_locals.specs.Sets.{has, told_of, told_by, TellsBefore, TellsAnywhere, Joined}

-- ---- booleans

pub or_turn : (a b c : Bool) → ((a || b) || c) ≡ (a || (b || c))
or_turn true b c = refl
or_turn false b c = refl

pub or_none : (a : Bool) → (a || false) ≡ a
or_none true = refl
or_none false = refl

-- ---- code behind code

pub live_followed : (x : ℕ) (tos : List Bool) (out : Bool) (k l : Code) → live x tos out (followed_by k l) ≡ live x tos (live x tos out l) k
unfolding live followed_by
live_followed x tos out done l = refl
live_followed x tos out (plain p rest) l = ap (live_plain x tos p) (live_followed x tos out rest l)
live_followed x tos out (nest s r body rest) l = ap (λ k. live x (shape_live s k ∷ tos) k body) (live_followed x tos out rest l)
live_followed x tos out (branch r a b rest) l = ap (λ k. live x (k ∷ tos) k a || live x (k ∷ tos) k b) (live_followed x tos out rest l)

module _ (tos : ℕ → List Bool) where
  -- what is told behind code, and what before it
  pub tells_then : (behind mid before : List Bool) (k l : Code) → TellsBefore tos behind mid l → TellsBefore tos mid before k → TellsBefore tos behind before (followed_by k l)
  tells_then behind mid before k l g h = record {
    size = h.size ∙ g.size;
    each = λ x lt. let n = g.size in h.each x (omega (arith, n, lt)) ∙ ap (λ o. live x (tos x) o k) (g.each x lt) ∙ sym (live_followed x (tos x) (has behind x) k l);
  }

  pub tells_as : (behind before : List Bool) (k l : Code) → k ≡ l → TellsBefore tos behind before k → TellsBefore tos behind before l
  tells_as behind before k l e h = subst (TellsBefore tos behind before) e h

  pub tells_none : (a : List Bool) → TellsBefore tos a a done
  unfolding live
  tells_none a = record { size = refl; each = λ x lt. refl }

-- ---- one local

module _ (old : List Bool) (y : ℕ) where
  read_each : (x : ℕ) → y < length old → has (set old y true) x ≡ (nat_eq x y || has old x)
  read_each x lt = elim (cases_eq x y) [
    | inl e ↦ ap (has (set old y true)) e ∙ get_or-set_same old y true false lt ∙ sym (ap (λ b. b || has old x) (eq-eqb x y e))
    | inr ne ↦ get_or-set_other old y x true false ne ∙ sym (ap (λ b. b || has old x) (ne_eqb x y ne))
  ]

  write_each : (x : ℕ) → y < length old → has (set old y false) x ≡ (not (nat_eq x y) && has old x)
  write_each x lt = elim (cases_eq x y) [
    | inl e ↦ ap (has (set old y false)) e ∙ get_or-set_same old y false false lt ∙ sym (ap (λ b. not b && has old x) (eq-eqb x y e))
    | inr ne ↦ get_or-set_other old y x false false ne ∙ sym (ap (λ b. not b && has old x) (ne_eqb x y ne))
  ]

  pub read_here : y < length old → TellsAnywhere old (set old y true) (plain (local_get y) done)
  unfolding live
  read_here lt tos = record { size = length-set old y true; each = λ x l. read_each x lt }

  pub read_past : length old ≤ y → TellsAnywhere old old (plain (local_get y) done)
  unfolding live
  read_past le tos = record { size = refl; each = λ x l. sym (ap (λ b. b || has old x) (ne_eqb x y (λ e. absurd (omega (arith, e, le, l))))) }

  pub write_here : y < length old → TellsAnywhere old (set old y false) (plain (local_set y) done)
  unfolding live
  write_here lt tos = record { size = length-set old y false; each = λ x l. write_each x lt }

  pub write_past : length old ≤ y → TellsAnywhere old old (plain (local_set y) done)
  unfolding live
  write_past le tos = record { size = refl; each = λ x l. sym (ap (λ b. not b && has old x) (ne_eqb x y (λ e. absurd (omega (arith, e, le, l))))) }

-- nothing is told where control doesn't go on
pub emptied : (old new : List Bool) → length new ≡ length old → ((x : ℕ) → x < length new → has new x ≡ false) → TellsAnywhere old new (plain unreachable done)
unfolding live
emptied old new n h tos = record { size = n; each = λ x lt. h x (omega (arith, n, lt)) }

-- ---- joins

-- what is known in the middle of a join
pub record Joining (old other new : List Bool) (at : ℕ) : Type 0 where
  pub size : length new ≡ length old
  pub below : (x : ℕ) → x < at → has new x ≡ (has other x || has old x)
  pub above : (x : ℕ) → at ≤ x → has new x ≡ has old x

pub joining_first : (old other : List Bool) → Joining old other old 0
joining_first old other = record { size = refl; below = λ x lt. absurd (omega (arith, lt)); above = λ x le. refl }

module _ (old other new : List Bool) (at : ℕ) (j : Joining old other new at) where
  pub joining_put : at < length new → has other at ≡ true → Joining old other (set new at true) (at + 1)
  joining_put lt e = record {
    size = length-set new at true ∙ j.size;
    below = λ x l. elim (cases_eq x at) [
      | inl q ↦ ap (has (set new at true)) q ∙ get_or-set_same new at true false lt ∙ sym (ap (λ b. b || has old x) (ap (has other) q ∙ e))
      | inr ne ↦ get_or-set_other new at x true false ne ∙ j.below x (omega (arith, l, ne))
    ];
    above = λ x l. get_or-set_other new at x true false (λ q. absurd (omega (arith, q, l))) ∙ j.above x (omega (arith, l));
  }

  pub joining_left : has other at ≡ false → Joining old other new (at + 1)
  joining_left e = record {
    size = j.size;
    below = λ x l. elim (cases_eq x at) [
      | inl q ↦ j.above x (omega (arith, q)) ∙ sym (ap (λ b. b || has old x) (ap (has other) q ∙ e))
      | inr ne ↦ j.below x (omega (arith, l, ne))
    ];
    above = λ x l. j.above x (omega (arith, l));
  }

  pub joining_end : (length old ≤ at) ⊎ (length other ≤ at) → (x : ℕ) → x < length old → has new x ≡ (has other x || has old x)
  joining_end full x lt = elim (cases_lt x at) [
    | inl l ↦ j.below x l
    | inr g ↦ j.above x g ∙ sym (ap (λ b. b || has old x) (get_or_past other x false (elim full [
      | inl a ↦ absurd (omega (arith, a, g, lt))
      | inr b ↦ omega (arith, b, g)
    ])))
  ]

-- ---- labels

-- the set of a label's target
pub told_at_is : (x : ℕ) (tos : List (Vec Bool Global)) (l : ℕ) (v : Vec Bool Global) → l < length tos → v ≡ get_or tos (length tos - 1 - l) v → told_at (told_of x tos) l ≡ has v.items x
told_at_is x tos l v lt at =
    let tell : Vec Bool Global → Bool = λ (s : Vec Bool Global). has s.items x in
    let n = length-reverse tos in
    ap is_told (slice_get-map tell (reverse tos) l ∙ ap (option_map tell) (slice_get-get_or (reverse tos) l v (omega (arith, n, lt)) ∙ ap Some (get_or-reverse tos l v lt ∙ sym at)))

pub told_past : (x : ℕ) (tos : List (Vec Bool Global)) (l : ℕ) → length tos ≤ l → told_at (told_of x tos) l ≡ false
told_past x tos l le =
    let tell : Vec Bool Global → Bool = λ (s : Vec Bool Global). has s.items x in
    let n = length-reverse tos in let k = length-map (reverse tos) tell in
    ap is_told (slice_get_past (map tell (reverse tos)) l (omega (arith, n, k, le)))

-- one more label
pub told_more : (x : ℕ) (tos : List (Vec Bool Global)) (v : Vec Bool Global) → told_of x (tos ++ v ∷ []) ≡ has v.items x ∷ told_of x tos
told_more x tos v = ap (map (λ (s : Vec Bool Global). has s.items x)) (reverse-append tos (v ∷ []))

module _ (tos : List (Vec Bool Global)) where
  pub joined_label : (l : ℕ) (v : Vec Bool Global) (old new : List Bool) → l < length tos → v ≡ get_or tos (length tos - 1 - l) v → length new ≡ length old
      → ((x : ℕ) → x < length old → has new x ≡ (has v.items x || has old x)) → Joined (told_by tos) (l ∷ []) old new
  joined_label l v old new lt at n h = record {
    size = n;
    each = λ x k. h x k ∙ sym (ap (λ b. b || has old x) (or_none (told_at (told_of x tos) l) ∙ told_at_is x tos l v lt at));
  }

  pub joined_past : (l : ℕ) (old : List Bool) → length tos ≤ l → Joined (told_by tos) (l ∷ []) old old
  joined_past l old le = record {
    size = refl;
    each = λ x k. sym (ap (λ b. b || has old x) (or_none (told_at (told_of x tos) l) ∙ told_past x tos l le));
  }

module _ (tos : ℕ → List Bool) where
  pub joined_nothing : (old : List Bool) (ls : List ℕ) → Joined tos (drop (length ls) ls) old old
  joined_nothing old ls = subst (λ qs. Joined tos qs old old) (sym (drop_all (length ls) ls (omega arith))) (record { size = refl; each = λ x k. refl })

  pub joined_on : (l : ℕ) (ls : List ℕ) (old mid new : List Bool) → Joined tos ls old mid → Joined tos (l ∷ []) mid new → Joined tos (l ∷ ls) old new
  joined_on l ls old mid new g h = record {
    size = h.size ∙ g.size;
    each = λ x k. let n = g.size in
        h.each x (omega (arith, n, k)) ∙ ap (λ b. b || has mid x) (or_none (told_at (tos x) l)) ∙ ap (λ b. told_at (tos x) l || b) (g.each x k)
        ∙ sym (or_turn (told_at (tos x) l) (list_any (told_at (tos x)) ls) (has old x));
  }

  -- the label before those that are joined
  pub joined_before : (ls : List ℕ) (left l : ℕ) (old mid new : List Bool) → 0 < left → left ≤ length ls → l ≡ get_or ls (left - 1) l → Joined tos (drop left ls) old mid
      → Joined tos (l ∷ []) mid new → Joined tos (drop (left - 1) ls) old new
  joined_before ls left l old mid new some within at g h =
      let next : left - 1 + 1 ≡ left = omega arith in
      let e : drop (left - 1) ls ≡ l ∷ drop left ls = drop_more ls (left - 1) l (omega arith) ∙ (λ i. sym at i ∷ drop (next i) ls) in
      subst (λ qs. Joined tos qs old new) (sym e) (joined_on l (drop left ls) old mid new g h)

  -- ---- branches

  pub to_label : (l : ℕ) (old mid new : List Bool) → TellsBefore tos old mid (plain unreachable done) → Joined tos (l ∷ []) mid new → TellsBefore tos old new (plain (br l) done)
  unfolding live
  to_label l old mid new g h = record {
    size = h.size ∙ g.size;
    each = λ x k. let n = g.size in
        h.each x (omega (arith, n, k)) ∙ ap (λ b. (told_at (tos x) l || false) || b) (g.each x k) ∙ or_none (told_at (tos x) l || false) ∙ or_none (told_at (tos x) l);
  }

  pub maybe_to_label : (l : ℕ) (old new : List Bool) → Joined tos (l ∷ []) old new → TellsBefore tos old new (plain (br_if l) done)
  unfolding live
  maybe_to_label l old new h = record { size = h.size; each = λ x k. h.each x k ∙ ap (λ b. b || has old x) (or_none (told_at (tos x) l)) }

  pub to_labels : (ls : List ℕ) (l : ℕ) (old mid more new : List Bool) → TellsBefore tos old mid (plain unreachable done) → Joined tos ls mid more → Joined tos (l ∷ []) more new
      → TellsBefore tos old new (plain (br_table ls l) done)
  unfolding live
  to_labels ls l old mid more new g h j =
      let both = joined_on l ls mid more new h j in record {
        size = both.size ∙ g.size;
        each = λ x k. let n = g.size in
            both.each x (omega (arith, n, k)) ∙ ap (λ b. list_any (told_at (tos x)) (l ∷ ls) || b) (g.each x k) ∙ or_none (list_any (told_at (tos x)) (l ∷ ls));
      }

-- ---- the set of a vector that was lent

pub put_back : (new old : List Bool) (len : ℕ) → length new ≡ length old → length old ≡ len → take len (new ++ drop (length new) old) ≡ new
put_back new old len e k = let z : len ≡ length new = omega (arith, e, k) in ap (λ n. take n (new ++ drop (length new) old)) z ∙ take-append_seam new (drop (length new) old)

pub none_has : (n x : ℕ) → has (replicate n false) x ≡ false
none_has n x = elim (cases_lt x n) [
  | inl l ↦ get_or-replicate n x false false l
  | inr g ↦ let m = length-replicate n false in get_or_past (replicate n false) x false (omega (arith, m, g))
]
