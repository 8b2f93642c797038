-- Sets of locals, made again from the calls that keep each local.
use Rattle.std.proofs.Common.{◌≡◌, ◌∙◌, ℕ, zero, suc, ◌+◌, ◌-◌, ◌<◌, ◌≤◌, ◌⊎◌, inl, inr, List, [], ◌∷◌, ◌++◌, length, get_or, take, Bool, true, false, ◌&&◌, ◌||◌, nat_eq, All, refl, sym, ap, subst, arith, get_or-set_same, get_or-set_other, length-set}
use Rattle.std.specs.Prelude.{if◌then◌else◌, nat_lt, replicate, slice_set, Vec}
use Rattle.std.specs.List.{list_any}
use Rattle.std.specs.declared.alloc.Global.{Global}
use Rattle.std.proofs.lemmas.Bool.{cases_eq, cases_lt, eq-eqb, ne_eqb, le-ltb, lt-ltb}
use Rattle.std.proofs.lemmas.List.{append-nil, append_assoc, ext_get_or, get_or-map, get_or-take, length-map, length-replicate, length-take-le, map_more, take_all}
use Rattle.std.proofs.lemmas.List.Folds.{list_any-append}
use Rattle.call_frames.specs.CallTests.{CallRow}
use Rattle.call_frames.specs.CallRows.{counted, numbers_in, row_view, row_views, upto}
use Rattle.call_frames.specs.Classes.{MadeAgain, Noted, SizedAbove, set_has, set_keepers}
use Rattle.call_frames.specs.Views.{sets_of}
use Rattle.call_frames.specs.declared.rows.Row.{Row}

or_true : (b : Bool) → true ≡ (b || true)
or_true true = refl
or_true false = refl

or_false : (b : Bool) → b ≡ (b || false)
or_false true = refl
or_false false = refl

and_false : (b : Bool) → false ≡ (b && false)
and_false true = refl
and_false false = refl

both_told : (b f g e : Bool) → ((b || (f && e)) || (g && e)) ≡ (b || ((f || g) && e))
both_told true f g e = refl
both_told false true g true = refl
both_told false true true false = refl
both_told false true false false = refl
both_told false false g e = refl

-- ---- numbers in a row

pub upto_counted : (k n : ℕ) → upto k n ≡ counted k (suc n)
upto_counted k zero = refl
upto_counted k (suc n) = ap (λ ks. k ∷ ks) (upto_counted (suc k) n)

pub counted_more : (k n : ℕ) → counted k (n + 1) ≡ counted k n ++ (k + n) ∷ []
counted_more k zero = let z : 0 + 1 ≡ 1 = omega arith in let y : k ≡ k + 0 = omega arith in ap (counted k) z ∙ ap (λ j. j ∷ []) y
counted_more k (suc n) =
    let z : suc n + 1 ≡ suc (n + 1) = omega arith in
    let y : suc k + n ≡ k + suc n = omega arith in
    ap (counted k) z ∙ ap (λ ks. k ∷ ks) (counted_more (suc k) n ∙ ap (λ j. counted (suc k) n ++ j ∷ []) y)

none_behind : (k first n : ℕ) → k < first → list_any (nat_eq k) (counted first n) ≡ false
none_behind k first zero lt = refl
none_behind k first (suc n) lt =
    ap (λ b. b || list_any (nat_eq k) (counted (suc first) n)) (ne_eqb k first (λ e. omega (arith, e, lt))) ∙ none_behind k (suc first) n (omega (arith, lt))

-- a call among the first of them, or before others
any_short : (k first n m : ℕ) → n ≤ m → (n ≡ m) ⊎ (k < first + n) → list_any (nat_eq k) (counted first n) ≡ list_any (nat_eq k) (counted first m)
any_short k first zero zero le h = refl
any_short k first zero (suc m) le (inl e) = absurd (omega (arith, e))
any_short k first zero (suc m) le (inr lt) = sym (none_behind k first (suc m) (omega (arith, lt)))
any_short k first (suc n) zero le h = absurd (omega (arith, le))
any_short k first (suc n) (suc m) le (inl e) = ap (λ b. nat_eq k first || b) (any_short k (suc first) n m (omega (arith, le)) (inl (omega (arith, e))))
any_short k first (suc n) (suc m) le (inr lt) = ap (λ b. nat_eq k first || b) (any_short k (suc first) n m (omega (arith, le)) (inr (omega (arith, lt))))

-- ---- sets with a local more

set_at : (sets : List (Vec Bool Global)) (k : ℕ) (d : Vec Bool Global) → k < length sets → get_or (sets_of sets) k [] ≡ (get_or sets k d).items
set_at sets k d lt = get_or-map (λ (s : Vec Bool Global). s.items) sets k d [] lt

module _ (x : ℕ) where
  pub noted_none : (old : List (Vec Bool Global)) → Noted (λ k. false) x old old
  noted_none old = record { size = refl; sized = λ n h. h; each = λ k y lt. or_false (set_has old k y) }

  pub noted_as : (f g : ℕ → Bool) (old new : List (Vec Bool Global)) → ((k : ℕ) → k < length old → f k ≡ g k) → Noted f x old new → Noted g x old new
  noted_as f g old new e h = record {
    size = h.size;
    sized = h.sized;
    each = λ k y lt. h.each k y lt ∙ ap (λ b. set_has old k y || (b && nat_eq y x)) (e k lt);
  }

  pub noted_then : (f g : ℕ → Bool) (old mid new : List (Vec Bool Global)) → Noted f x old mid → Noted g x mid new → Noted (λ k. f k || g k) x old new
  noted_then f g old mid new h j = record {
    size = j.size ∙ h.size;
    sized = λ n a. j.sized n (h.sized n a);
    each = λ k y lt. let s = h.size in
        j.each k y (omega (arith, s, lt)) ∙ ap (λ b. b || (g k && nat_eq y x)) (h.each k y lt) ∙ both_told (set_has old k y) (f k) (g k) (nat_eq y x);
  }

  pub above_still : (f : ℕ → Bool) (old new : List (Vec Bool Global)) → Noted f x old new → SizedAbove x old → SizedAbove x new
  above_still f old new h a = (a.0, a.1, h.sized a.0 a.2)

  pub low_at : (call : ℕ) (old : List (Vec Bool Global)) (d : Vec Bool Global) → call < length old → SizedAbove x old → x < length (get_or old call d).items
  low_at call old d within above = let n = above.2 call d within in let l = above.1 in omega (arith, n, l)

  module _ (call : ℕ) (old : List (Vec Bool Global)) (d v : Vec Bool Global) (within : call < length old) (above : SizedAbove x old)
      (is : v.items ≡ slice_set (get_or old call d).items x true) where
    abbrev own : List Bool
    own = (get_or old call d).items

    abbrev new : List (Vec Bool Global)
    new = slice_set old call v

    low : x < length own
    low = low_at call old d within above

    own_long : length v.items ≡ length own
    own_long = ap length is ∙ length-set own x true

    -- the set of this call
    here : (y : ℕ) → get_or v.items y false ≡ (get_or own y false || nat_eq y x)
    here y = elim (cases_eq y x) [
      | inl e ↦
          ap (λ s. get_or s y false) is ∙ ap (λ z. get_or (slice_set own x true) z false) e ∙ get_or-set_same own x true false low
          ∙ or_true (get_or own y false) ∙ ap (λ b. get_or own y false || b) (sym (eq-eqb y x e))
      | inr ne ↦
          ap (λ s. get_or s y false) is ∙ get_or-set_other own x y true false ne
          ∙ or_false (get_or own y false) ∙ ap (λ b. get_or own y false || b) (sym (ne_eqb y x ne))
    ]

    pub noted_one : Noted (nat_eq call) x old new
    noted_one = record {
      size = length-set old call v;
      sized = λ n h k e lt. elim (cases_eq k call) [
        | inl q ↦
            ap (λ (s : Vec Bool Global). length s.items) (ap (λ j. get_or new j e) q ∙ get_or-set_same old call v e within) ∙ own_long ∙ h call d within
        | inr ne ↦
            ap (λ (s : Vec Bool Global). length s.items) (get_or-set_other old call k v e ne)
            ∙ h k e (let s = length-set old call v in omega (arith, s, lt))
      ];
      each = λ k y lt. let s = length-set old call v in
          elim (cases_eq k call) [
            | inl q ↦
                ap (λ b. get_or b y false) (set_at new k d (omega (arith, s, lt)) ∙ ap (λ (z : Vec Bool Global). z.items) (ap (λ j. get_or new j d) q ∙ get_or-set_same old call v d within))
                ∙ here y ∙ ap (λ b. get_or b y false || nat_eq y x) (ap (λ j. (get_or old j d).items) (sym q) ∙ sym (set_at old k d lt))
                ∙ ap (λ c. set_has old k y || (c && nat_eq y x)) (sym (eq-eqb call k (sym q)))
            | inr ne ↦
                ap (λ b. get_or b y false) (set_at new k d (omega (arith, s, lt)) ∙ ap (λ (z : Vec Bool Global). z.items) (get_or-set_other old call k v d ne) ∙ sym (set_at old k d lt))
                ∙ or_false (set_has old k y) ∙ ap (λ c. set_has old k y || (c && nat_eq y x)) (sym (ne_eqb call k (λ e. ne (sym e))))
          ];
    }

  -- ---- a row

  pub row_first : (first : ℕ) (old : List (Vec Bool Global)) → Noted (λ k. list_any (nat_eq k) (counted first 0)) x old old
  row_first first old = noted_none old

  pub row_next : (first step : ℕ) (old mid new : List (Vec Bool Global)) → Noted (λ k. list_any (nat_eq k) (counted first step)) x old mid → Noted (nat_eq (first + step)) x mid new
      → Noted (λ k. list_any (nat_eq k) (counted first (step + 1))) x old new
  row_next first step old mid new h j =
      noted_as (λ k. list_any (nat_eq k) (counted first step) || nat_eq (first + step) k) (λ k. list_any (nat_eq k) (counted first (step + 1))) old new
      (λ k lt. ap (λ b. list_any (nat_eq k) (counted first step) || b) (turned (first + step) k ∙ or_false (nat_eq k (first + step)))
      ∙ sym (list_any-append (nat_eq k) (counted first step) ((first + step) ∷ [])) ∙ ap (list_any (nat_eq k)) (sym (counted_more first step)))
      (noted_then (λ k. list_any (nat_eq k) (counted first step)) (nat_eq (first + step)) old mid new h j)
    where
      turned : (a b : ℕ) → nat_eq a b ≡ nat_eq b a
      turned a b = elim (cases_eq a b) [
        | inl e ↦ eq-eqb a b e ∙ sym (eq-eqb b a (sym e))
        | inr ne ↦ ne_eqb a b ne ∙ sym (ne_eqb b a (λ e. ne (sym e)))
      ]

  pub row_end : (row : Row) (count step : ℕ) (old new : List (Vec Bool Global)) → step ≤ count → count ≤ step → count ≤ row.more + 1 → (count ≡ row.more + 1) ⊎ (count ≡ length old - row.first)
      → Noted (λ k. list_any (nat_eq k) (counted row.first step)) x old new → Noted (λ k. list_any (nat_eq k) (upto row.first row.more)) x old new
  row_end row count step old new le ge short one h =
      noted_as (λ k. list_any (nat_eq k) (counted row.first step)) (λ k. list_any (nat_eq k) (upto row.first row.more)) old new
      (λ k lt. any_short k row.first step (suc row.more) (omega (arith, le, short)) (elim one [
        | inl e ↦ inl (omega (arith, e, le, ge))
        | inr e ↦ inr (omega (arith, e, ge, lt))
      ]) ∙ ap (list_any (nat_eq k)) (sym (upto_counted row.first row.more))) h

  -- ---- rows

  numbers_more : (rs : List CallRow) (r : CallRow) → numbers_in (rs ++ r ∷ []) ≡ numbers_in rs ++ upto r.first r.more
  numbers_more [] r = append-nil (upto r.first r.more)
  numbers_more (s ∷ rs) r = ap (λ ns. upto s.first s.more ++ ns) (numbers_more rs r) ∙ sym (append_assoc (upto s.first s.more) (numbers_in rs) (upto r.first r.more))

  pub rows_next : (rows : List Row) (at : ℕ) (d : Row) (old mid new : List (Vec Bool Global)) → at < length rows → Noted (λ k. list_any (nat_eq k) (numbers_in (row_views (take at rows)))) x old mid
      → Noted (λ k. list_any (nat_eq k) (upto (get_or rows at d).first (get_or rows at d).more)) x mid new
      → Noted (λ k. list_any (nat_eq k) (numbers_in (row_views (take (at + 1) rows)))) x old new
  rows_next rows at d old mid new lt h j =
      let r = get_or rows at d in
      let e : numbers_in (row_views (take (at + 1) rows)) ≡ numbers_in (row_views (take at rows)) ++ upto r.first r.more =
      ap numbers_in (map_more row_view rows at d lt) ∙ numbers_more (row_views (take at rows)) (row_view r) in
      noted_as (λ k. list_any (nat_eq k) (numbers_in (row_views (take at rows))) || list_any (nat_eq k) (upto r.first r.more))
      (λ k. list_any (nat_eq k) (numbers_in (row_views (take (at + 1) rows)))) old new
      (λ k l. sym (list_any-append (nat_eq k) (numbers_in (row_views (take at rows))) (upto r.first r.more)) ∙ ap (list_any (nat_eq k)) (sym e))
      (noted_then (λ k. list_any (nat_eq k) (numbers_in (row_views (take at rows)))) (λ k. list_any (nat_eq k) (upto r.first r.more)) old mid new h j)

  pub rows_end : (rows : List Row) (at : ℕ) (old new : List (Vec Bool Global)) → length rows ≤ at → Noted (λ k. list_any (nat_eq k) (numbers_in (row_views (take at rows)))) x old new
      → Noted (λ k. list_any (nat_eq k) (numbers_in (row_views rows))) x old new
  rows_end rows at old new le h = subst (λ rs. Noted (λ k. list_any (nat_eq k) (numbers_in (row_views rs))) x old new) (take_all at rows le) h

-- ---- all locals

-- Of the locals below this one, what the first sets have.
pub record NotedBelow (kept_by : List (List ℕ)) (count local : ℕ) (made : List (Vec Bool Global)) : Type 0 where
  pub many : length made ≡ count
  pub sized : All (λ (set : Vec Bool Global). length set.items ≡ length kept_by) made
  pub each : (k x : ℕ) → k < count → set_has made k x ≡ (nat_lt x local && list_any (nat_eq k) (get_or kept_by x []))

pub below_first : (kept_by : List (List ℕ)) (count locals : ℕ) (made : List (Vec Bool Global)) → locals ≡ length kept_by → length made ≡ count
    → All (λ (set : Vec Bool Global). set.items ≡ replicate locals false) made → NotedBelow kept_by count 0 made
below_first kept_by count locals made el n h = record {
  many = n;
  sized = λ k d lt. ap length (h k d lt) ∙ length-replicate locals false ∙ el;
  each = λ k x lt. has_none made k x h ∙ ap (λ b. b && list_any (nat_eq k) (get_or kept_by x [])) (sym (le-ltb x 0 (omega arith)));
}
  where
    none : (m x : ℕ) → get_or (replicate m false) x false ≡ false
    none zero x = refl
    none (suc m) zero = refl
    none (suc m) (suc x) = none m x

    has_none : (sets : List (Vec Bool Global)) (k x : ℕ) → All (λ (set : Vec Bool Global). set.items ≡ replicate locals false) sets → set_has sets k x ≡ false
    has_none [] k x a = refl
    has_none (s ∷ sets) zero x a = ap (λ b. get_or b x false) (a 0 s (omega arith)) ∙ none locals x
    has_none (s ∷ sets) (suc k) x a = has_none sets k x (λ j d lt. a (suc j) d (omega (arith, lt)))

abbrev any_kept : List (List ℕ) → (k x : ℕ) → Bool
any_kept kept_by k x = list_any (nat_eq k) (get_or kept_by x [])

pub below_next : (kept_by : List (List ℕ)) (count local : ℕ) (ks : List ℕ) (old new : List (Vec Bool Global)) → ks ≡ get_or kept_by local [] → NotedBelow kept_by count local old
    → Noted (λ k. list_any (nat_eq k) ks) local old new → NotedBelow kept_by count (local + 1) new
below_next kept_by count local ks old new e h j = record {
  many = j.size ∙ h.many;
  sized = j.sized (length kept_by) h.sized;
  each = λ k x lt. let n = h.many in
      j.each k x (omega (arith, n, lt)) ∙ ap (λ b. b || (list_any (nat_eq k) ks && nat_eq x local)) (h.each k x lt)
      ∙ ap (λ js. (nat_lt x local && list_any (nat_eq k) (get_or kept_by x [])) || (list_any (nat_eq k) js && nat_eq x local)) e ∙ told k x;
}
  where
    at_it : (b : Bool) → ((false && b) || (b && true)) ≡ (true && b)
    at_it true = refl
    at_it false = refl

    below : (b c : Bool) → ((true && b) || (c && false)) ≡ (true && b)
    below true c = refl
    below false true = refl
    below false false = refl

    above : (b c : Bool) → ((false && b) || (c && false)) ≡ (false && b)
    above b true = refl
    above b false = refl

    told : (k x : ℕ) → ((nat_lt x local && any_kept kept_by k x) || (any_kept kept_by k local && nat_eq x local)) ≡ (nat_lt x (local + 1) && any_kept kept_by k x)
    told k x = elim (cases_eq x local) [
      | inl q ↦
          (λ i. (le-ltb x local (omega (arith, q)) i && any_kept kept_by k x) || (any_kept kept_by k (sym q i) && eq-eqb x local q i)) ∙ at_it (any_kept kept_by k x)
          ∙ ap (λ b. b && any_kept kept_by k x) (sym (lt-ltb x (local + 1) (omega (arith, q))))
      | inr ne ↦ elim (cases_lt x local) [
        | inl l ↦
            (λ i. (lt-ltb x local l i && any_kept kept_by k x) || (any_kept kept_by k local && ne_eqb x local ne i)) ∙ below (any_kept kept_by k x) (any_kept kept_by k local)
            ∙ ap (λ b. b && any_kept kept_by k x) (sym (lt-ltb x (local + 1) (omega (arith, l))))
        | inr g ↦
            (λ i. (le-ltb x local g i && any_kept kept_by k x) || (any_kept kept_by k local && ne_eqb x local ne i)) ∙ above (any_kept kept_by k x) (any_kept kept_by k local)
            ∙ ap (λ b. b && any_kept kept_by k x) (sym (le-ltb x (local + 1) (omega (arith, g, ne))))
      ]
    ]

-- ---- they are the sets

-- later calls are none of these
none_later : (x j k : ℕ) (sets : List (List Bool)) → k < j → list_any (nat_eq k) (set_keepers x j sets) ≡ false
none_later x j k [] lt = refl
none_later x j k (s ∷ sets) lt =
    list_any-append (nat_eq k) (if get_or s x false then j ∷ [] else []) (set_keepers x (suc j) sets)
    ∙ ap (λ b. list_any (nat_eq k) (if get_or s x false then j ∷ [] else []) || b) (none_later x (suc j) k sets (omega (arith, lt))) ∙ own (get_or s x false)
  where
    own : (b : Bool) → (list_any (nat_eq k) (if b then j ∷ [] else []) || false) ≡ false
    own true = ap (λ c. (c || false) || false) (ne_eqb k j (λ e. omega (arith, e, lt)))
    own false = refl

keeper_told : (x j k : ℕ) (sets : List (List Bool)) → list_any (nat_eq (j + k)) (set_keepers x j sets) ≡ get_or (get_or sets k []) x false
keeper_told x j k [] = refl
keeper_told x j zero (s ∷ sets) =
    list_any-append (nat_eq (j + 0)) (if get_or s x false then j ∷ [] else []) (set_keepers x (suc j) sets)
    ∙ ap (λ b. list_any (nat_eq (j + 0)) (if get_or s x false then j ∷ [] else []) || b) (none_later x (suc j) (j + 0) sets (omega arith)) ∙ own (get_or s x false)
  where
    own : (b : Bool) → (list_any (nat_eq (j + 0)) (if b then j ∷ [] else []) || false) ≡ b
    own true = ap (λ c. (c || false) || false) (eq-eqb (j + 0) j (omega arith))
    own false = refl
keeper_told x j (suc k) (s ∷ sets) =
    let z : j + suc k ≡ suc j + k = omega arith in
    list_any-append (nat_eq (j + suc k)) (if get_or s x false then j ∷ [] else []) (set_keepers x (suc j) sets)
    ∙ ap (λ b. b || list_any (nat_eq (j + suc k)) (set_keepers x (suc j) sets)) (own (get_or s x false)) ∙ ap (λ n. list_any (nat_eq n) (set_keepers x (suc j) sets)) z
    ∙ keeper_told x (suc j) k sets
  where
    own : (b : Bool) → list_any (nat_eq (j + suc k)) (if b then j ∷ [] else []) ≡ false
    own true = ap (λ c. c || false) (ne_eqb (j + suc k) j (λ e. omega (arith, e)))
    own false = refl

pub made_again : (kept_by : List (List ℕ)) (count local : ℕ) (made : List (Vec Bool Global)) → length kept_by ≤ local → NotedBelow kept_by count local made → MadeAgain kept_by count made
made_again kept_by count local made le h = record {
  many = h.many;
  sized = h.sized;
  same = λ calls sets kept within.
      let n = h.many in
      let all = kept.many in
      let long : length (sets_of made) ≡ count = length-map made (λ (s : Vec Bool Global). s.items) ∙ n in
      let cut : length (take count sets) ≡ count = length-take-le count sets (omega (arith, within, all)) in
      ext_get_or [] (sets_of made) (take count sets) (long ∙ sym cut)
      (λ k lt.
      let l : k < count = omega (arith, long, lt) in
      let size : length (get_or (sets_of made) k []) ≡ length kept_by = of_list made k h.sized (omega (arith, n, l)) in
      let there : length (get_or sets k []) ≡ length kept_by = kept.sized k [] (omega (arith, l, within, all)) in
      let is : get_or (take count sets) k [] ≡ get_or sets k [] = get_or-take count sets k [] l in
      ext_get_or false (get_or (sets_of made) k []) (get_or (take count sets) k []) (size ∙ sym there ∙ ap length (sym is))
      (λ x lx.
      let low : x < length kept_by = omega (arith, size, lx) in
      let z : k ≡ 0 + k = omega arith in
      h.each k x l ∙ ap (λ b. b && list_any (nat_eq k) (get_or kept_by x [])) (lt-ltb x local (omega (arith, low, le)))
      ∙ ap (list_any (nat_eq k)) (kept.keepers.each x low) ∙ ap (λ m. list_any (nat_eq m) (set_keepers x 0 sets)) z ∙ keeper_told x 0 k sets
      ∙ ap (λ s. get_or s x false) (sym is)));
}
  where
    of_list : (sets : List (Vec Bool Global)) (k : ℕ) → All (λ (set : Vec Bool Global). length set.items ≡ length kept_by) sets → k < length sets
        → length (get_or (sets_of sets) k []) ≡ length kept_by
    of_list [] k a lt = absurd (omega (arith, lt))
    of_list (s ∷ sets) zero a lt = a 0 s (omega arith)
    of_list (s ∷ sets) (suc k) a lt = of_list sets k (λ j d l. a (suc j) d (omega (arith, l))) (omega (arith, lt))
