-- The calls that keep each local, as they are told.
use Rattle.std.proofs.Common.{◌≡◌, ◌∙◌, ℕ, zero, suc, ◌+◌, ◌-◌, ◌<◌, ◌≤◌, inl, inr, List, [], ◌∷◌, ◌++◌, length, get_or, take, Bool, true, false, ◌&&◌, ◌||◌, not, nat_eq, refl, sym, ap, subst, arith, get_or-set_same, get_or-set_other, length-set}
use Rattle.std.specs.Prelude.{if◌then◌else◌, nat_lt, slice_set}
use Rattle.std.specs.List.{list_any}
use Rattle.std.proofs.lemmas.Bool.{cases_eq, eq-eqb, eqb-true, lt-ltb, ltb-true, ne_eqb}
use Rattle.std.proofs.lemmas.List.{get_or_default, take_all}
use Rattle.std.proofs.lemmas.List.Folds.{list_any_more}
use Rattle.call_frames.specs.CallRows.{counted, upto}
use Rattle.live_locals.specs.Keeping.{AllOpen, CallKept, CallPut, Holds, IsSettled, Settles, Stands, calls_kept, kept_on}
use Rattle.live_locals.specs.Sets.{has}
use Rattle.live_locals.specs.declared.keeping.Keeping.{Keeping}

or_false : (b : Bool) → (b || false) ≡ b
or_false true = refl
or_false false = refl

or_true : (b : Bool) → (b || true) ≡ true
or_true true = refl
or_true false = refl

-- a second test that fails
or_out : (b c : Bool) → c ≡ false → (b || c) ≡ b
or_out b c e = ap (λ d. b || d) e ∙ or_false b

and_out : (b c : Bool) → c ≡ true → (b && not c) ≡ false
and_out true c e = ap not e
and_out false c e = refl

left_true : (b c : Bool) → (b || c) ≡ true → c ≡ false → b ≡ true
left_true true c e f = refl
left_true false true e f = cc
left_true false false e f = cc

both_false : (b c : Bool) → (b || c) ≡ false → (b ≡ false) × (c ≡ false)
both_false true c e = cc
both_false false c e = (refl, e)

-- ---- numbers

pub upto_is : (k n : ℕ) → upto k n ≡ k ∷ counted (suc k) n
upto_is k zero = refl
upto_is k (suc n) = ap (λ ks. k ∷ ks) (upto_is (suc k) n)

counted_open : (k s : ℕ) → suc k ≤ s → counted k (s - k) ≡ k ∷ counted (suc k) (s - suc k)
counted_open k s le = let e : s - k ≡ suc (s - suc k) = omega (arith, le) in ap (counted k) e

kept_settled : (k s : ℕ) (b : Bool) (rows : List ℕ) → s ≡ k → kept_on k s b rows ≡ rows
kept_settled k s true rows e = let z : s - k ≡ 0 = omega (arith, e) in ap (λ n. counted k n ++ rows) z
kept_settled k s false rows e = refl

-- what is told of calls up to an end
pub told_nothing : (k s : ℕ) (rows : List ℕ) → s ≤ k → rows ≡ (if true then counted k (s - k) else []) ++ rows
told_nothing k s rows le = let z : s - k ≡ 0 = omega (arith, le) in sym (ap (λ n. counted k n ++ rows) z)

pub told_some : (k s : ℕ) (rows : List ℕ) → k < s → upto k (s - k - 1) ++ rows ≡ (if true then counted k (s - k) else []) ++ rows
told_some k s rows lt =
    let z : s - k - 1 ≡ s - suc k = omega arith in
    ap (λ ks. ks ++ rows) (upto_is k (s - k - 1) ∙ ap (λ n. k ∷ counted (suc k) n) z ∙ sym (counted_open k s (omega (arith, lt))))

-- an entry that is there, at any default
pub any_default : (xs : List (List ℕ)) (i : ℕ) (d e : List ℕ) → i < length xs → get_or xs i d ≡ get_or xs i e
any_default xs i d e lt = get_or_default xs i d e lt

-- ---- calls that are told

pub kept_any : (st : Keeping) (a b : List Bool) (x : ℕ) → IsSettled st x → calls_kept st a x ≡ calls_kept st b x
kept_any st a b x e =
    let rows = get_or st.rows.items x [] in
    let s = get_or st.since.items x 0 in kept_settled st.left s (has a x) rows e ∙ sym (kept_settled st.left s (has b x) rows e)

-- they are all there are
pub kept_told : (st : Keeping) (set : List Bool) (x : ℕ) → IsSettled st x → calls_kept st set x ≡ get_or st.rows.items x []
kept_told st set x e = kept_settled st.left (get_or st.since.items x 0) (has set x) (get_or st.rows.items x []) e

-- a set that has a local where another does
pub kept_same : (st : Keeping) (a b : List Bool) (x : ℕ) → has a x ≡ has b x → calls_kept st a x ≡ calls_kept st b x
kept_same st a b x e = ap (λ c. kept_on st.left (get_or st.since.items x 0) c (get_or st.rows.items x [])) e

module _ (set : List Bool) where
  pub settles_none : (test : ℕ → Bool) (st : Keeping) → Stands (length set) st → ((x : ℕ) → x < length set → test x ≡ true → ⊥) → Settles set test st st
  settles_none test st h none = record { left = refl; stands = h; same = λ x lt. refl; still = λ x lt e. e; told = λ x lt e. absurd (none x lt e) }

  pub settles_weaker : (f g : ℕ → Bool) (old new : Keeping) → ((x : ℕ) → x < length set → g x ≡ true → f x ≡ true) → Settles set f old new → Settles set g old new
  settles_weaker f g old new w h = record { left = h.left; stands = h.stands; same = h.same; still = h.still; told = λ x lt e. h.told x lt (w x lt e) }

  pub settles_then : (f g : ℕ → Bool) (old mid new : Keeping) → Settles set f old mid → Settles set g mid new → Settles set (λ x. f x || g x) old new
  settles_then f g old mid new h j = record {
    left = j.left ∙ h.left;
    stands = j.stands;
    same = λ x lt. j.same x lt ∙ h.same x lt;
    still = λ x lt e. j.still x lt (h.still x lt e);
    told = λ x lt. by x lt (f x) refl;
  }
    where
      by : (x : ℕ) → x < length set → (b : Bool) → f x ≡ b → (b || g x) ≡ true → IsSettled new x
      by x lt true e t = j.still x lt (h.told x lt e)
      by x lt false e t = j.told x lt t

  -- a local past the set
  pub settles_past : (at : ℕ) (st : Keeping) → length set ≤ at → Stands (length set) st → Settles set (λ x. nat_eq x at) st st
  settles_past at st le h = settles_none (λ x. nat_eq x at) st h (λ x lt e. let q = eqb-true x at e in omega (arith, q, le, lt))

  module _ (at : ℕ) (old new : Keeping) (ks : List ℕ) (within : at < length set) (h : Stands (length set) old) (el : new.left ≡ old.left)
      (es : new.since.items ≡ slice_set old.since.items at old.left) (er : new.rows.items ≡ slice_set old.rows.items at ks) where
    since_here : get_or new.since.items at 0 ≡ old.left
    since_here = ap (λ ys. get_or ys at 0) es ∙ get_or-set_same old.since.items at old.left 0 (let n = h.sinces in omega (arith, n, within))

    since_there : (x : ℕ) → (x ≡ at → ⊥) → get_or new.since.items x 0 ≡ get_or old.since.items x 0
    since_there x ne = ap (λ ys. get_or ys x 0) es ∙ get_or-set_other old.since.items at x old.left 0 ne

    rows_here : get_or new.rows.items at [] ≡ ks
    rows_here = ap (λ ys. get_or ys at []) er ∙ get_or-set_same old.rows.items at ks [] (let n = h.rows in omega (arith, n, within))

    rows_there : (x : ℕ) → (x ≡ at → ⊥) → get_or new.rows.items x [] ≡ get_or old.rows.items x []
    rows_there x ne = ap (λ ys. get_or ys x []) er ∙ get_or-set_other old.rows.items at x ks [] ne

    settled_here : (x : ℕ) → x ≡ at → IsSettled new x
    settled_here x e = ap (λ y. get_or new.since.items y 0) e ∙ since_here ∙ sym el

    settled_still : (x : ℕ) → IsSettled old x → IsSettled new x
    settled_still x s = elim (cases_eq x at) [
      | inl e ↦ settled_here x e
      | inr ne ↦ since_there x ne ∙ s ∙ sym el
    ]

    stands_on : Stands (length set) new
    stands_on = record {
      sinces = ap length es ∙ length-set old.since.items at old.left ∙ h.sinces;
      rows = ap length er ∙ length-set old.rows.items at ks ∙ h.rows;
      later = λ x lt. elim (cases_eq x at) [
        | inl e ↦ (let s = settled_here x e in omega (arith, s))
        | inr ne ↦ (let s = since_there x ne in let l = h.later x lt in omega (arith, s, l, el))
      ];
    }

    pub settled_one : ks ≡ kept_on old.left (get_or old.since.items at 0) (has set at) (get_or old.rows.items at []) → Settles set (λ x. nat_eq x at) old new
    settled_one ek = record {
      left = el;
      stands = stands_on;
      same = λ x lt. elim (cases_eq x at) [
        | inl e ↦
            kept_settled new.left (get_or new.since.items x 0) (has set x) (get_or new.rows.items x []) (settled_here x e) ∙ ap (λ y. get_or new.rows.items y []) e ∙ rows_here ∙ ek
            ∙ ap (calls_kept old set) (sym e)
        | inr ne ↦ (λ i. kept_on (el i) (since_there x ne i) (has set x) (rows_there x ne i))
      ];
      still = λ x lt s. settled_still x s;
      told = λ x lt e. settled_here x (eqb-true x at e);
    }

  -- ---- one call more

  pub holds_first : (st : Keeping) → Stands (length set) st → Holds set (λ x. false) st st
  holds_first st h = record { left = refl; stands = h; held = λ x lt e. cc; rest = λ x lt e. (refl, refl) }

  pub holds_as : (f g : ℕ → Bool) (old new : Keeping) → ((x : ℕ) → x < length set → f x ≡ g x) → Holds set f old new → Holds set g old new
  holds_as f g old new e h = record {
    left = h.left;
    stands = h.stands;
    held = λ x lt t. h.held x lt (e x lt ∙ t);
    rest = λ x lt t. h.rest x lt (e x lt ∙ t);
  }

  module _ (test : ℕ → Bool) (start : Keeping) (open_all : AllOpen (length set) start) where
    -- no further local is told
    held_same : (at : ℕ) (now : Keeping) → ((x : ℕ) → x < length set → (nat_eq x at && not (has set x)) ≡ false) → Holds set test start now
        → Holds set (λ x. test x || (nat_eq x at && not (has set x))) start now
    held_same at now none h = holds_as test (λ x. test x || (nat_eq x at && not (has set x))) start now (λ x lt. sym (or_out (test x) (nat_eq x at && not (has set x)) (none x lt))) h

    pub held_past : (at : ℕ) (now : Keeping) → length set ≤ at → Holds set test start now → Holds set (λ x. test x || (nat_eq x at && not (has set x))) start now
    held_past at now le h = held_same at now (λ x lt. ap (λ b. b && not (has set x)) (ne_eqb x at (λ e. omega (arith, e, le, lt)))) h

    -- one that the set has
    pub held_on : (at : ℕ) (now : Keeping) → has set at ≡ true → Holds set test start now → Holds set (λ x. test x || (nat_eq x at && not (has set x))) start now
    held_on at now t h =
        held_same at now
        (λ x lt. elim (cases_eq x at) [
          | inl e ↦ and_out (nat_eq x at) (has set x) (ap (has set) e ∙ t)
          | inr ne ↦ ap (λ b. b && not (has set x)) (ne_eqb x at ne)
        ]) h

    -- it's told if its calls aren't open
    told_before : (at : ℕ) (now : Keeping) → at < length set → get_or now.since.items at 0 ≤ now.left → Holds set test start now → test at ≡ true
    told_before at now lt le h = by (test at) refl
      where
        by : (b : Bool) → test at ≡ b → test at ≡ true
        by true e = e
        by false e = let s = (h.rest at lt e).0 in let o = open_all at lt in let l = h.left in absurd (omega (arith, s, o, l, le))

    pub held_again : (at : ℕ) (now : Keeping) → at < length set → get_or now.since.items at 0 ≤ now.left → Holds set test start now
        → Holds set (λ x. test x || (nat_eq x at && not (has set x))) start now
    held_again at now lt le h =
        let t = told_before at now lt le h in
        holds_as test (λ x. test x || (nat_eq x at && not (has set x))) start now
        (λ x l. elim (cases_eq x at) [
          | inl e ↦ ap test e ∙ t ∙ sym (ap (λ b. b || (nat_eq x at && not (has set x))) (ap test e ∙ t))
          | inr ne ↦ sym (or_out (test x) (nat_eq x at && not (has set x)) (ap (λ b. b && not (has set x)) (ne_eqb x at ne)))
        ]) h

    module _ (at : ℕ) (mid new : Keeping) (ks : List ℕ) (within : at < length set) (el : new.left ≡ mid.left)
        (es : new.since.items ≡ slice_set mid.since.items at mid.left) (er : new.rows.items ≡ slice_set mid.rows.items at ks)
        (less : mid.left < get_or mid.since.items at 0) (hasn't : has set at ≡ false)
        (ek : ks ≡ mid.left ∷ get_or mid.rows.items at []) (h : Holds set test start mid) where
      untold : test at ≡ false
      untold = by (test at) refl
        where
          by : (b : Bool) → test at ≡ b → test at ≡ false
          by true e = let s = (h.held at within e).0 in absurd (omega (arith, s, less))
          by false e = e

      as_before : (get_or mid.since.items at 0 ≡ get_or start.since.items at 0) × (get_or mid.rows.items at [] ≡ get_or start.rows.items at [])
      as_before = h.rest at within untold

      new_row : ks ≡ start.left ∷ kept_on (suc start.left) (get_or start.since.items at 0) (has set at) (get_or start.rows.items at [])
      new_row =
          ek ∙ (λ i. h.left i ∷ as_before.1 i)
          ∙ ap (λ b. start.left ∷ kept_on (suc start.left) (get_or start.since.items at 0) b (get_or start.rows.items at [])) (sym hasn't)

      pub held_one : Holds set (λ x. test x || (nat_eq x at && not (has set x))) start new
      held_one = record {
        left = el ∙ h.left;
        stands = stands_on at mid new ks within h.stands el es er;
        held = λ x lt t. elim (cases_eq x at) [
          | inl e ↦ (
            settled_here at mid new ks within h.stands el es er x e,
            ap (λ y. get_or new.rows.items y []) e ∙ rows_here at mid new ks within h.stands el es er ∙ new_row
                ∙ ap (λ y. start.left ∷ kept_on (suc start.left) (get_or start.since.items y 0) (has set y) (get_or start.rows.items y [])) (sym e),
          )
          | inr ne ↦ (
              let own = h.held x lt (left_true (test x) (nat_eq x at && not (has set x)) t (ap (λ b. b && not (has set x)) (ne_eqb x at ne))) in (
                settled_still at mid new ks within h.stands el es er x own.0,
                rows_there at mid new ks within h.stands el es er x ne ∙ own.1,
              )
              )
        ];
        rest = λ x lt t.
            let both = both_false (test x) (nat_eq x at && not (has set x)) t in
            let own = h.rest x lt both.0 in
            let ne : x ≡ at → ⊥ = λ e. true_false ((λ i. sym (eq-eqb x at e) i && not (sym (ap (has set) e ∙ hasn't) i)) ∙ both.1) in (
              since_there at mid new ks within h.stands el es er x ne ∙ own.0,
              rows_there at mid new ks within h.stands el es er x ne ∙ own.1,
            );
      }
        where
          true_false : true ≡ false → ⊥
          true_false e = cc

  -- ---- a call

  -- it has no number
  pub call_none : (numbered : Bool) (stack : List ℕ) (st : Keeping) → numbered ≡ false → Stands (length set) st → CallKept numbered set stack st st
  call_none numbered stack st e h = record {
    left = ap (λ b. st.left + (if b then 1 else 0)) e ∙ omega arith;
    stands = h;
    kept = λ x lt. sym (ap (λ b. (if b && (list_any (nat_eq x) stack || has set x) then st.left ∷ [] else []) ++ calls_kept st set x) e);
  }

  -- all calls are told of what it takes
  pub call_taken : (numbered : Bool) (stack taken : List ℕ) (old mid new : Keeping) → CallKept numbered set stack old mid → Settles set (λ x. list_any (nat_eq x) taken) mid new
      → CallPut numbered set stack taken old new
  call_taken numbered stack taken old mid new h j = record {
    keeps = record {
      left = ap (λ n. n + (if numbered then 1 else 0)) j.left ∙ h.left;
      stands = j.stands;
      kept = λ x lt.
          j.same x lt ∙ h.kept x lt
          ∙ ap (λ n. (if numbered && (list_any (nat_eq x) stack || has set x) then n ∷ [] else []) ++ calls_kept old set x) (sym j.left);
    };
    told = j.told;
  }

  module _ (stack : List ℕ) (old start new : Keeping) (el : start.left + 1 ≡ old.left) (es : start.since.items ≡ old.since.items) (er : start.rows.items ≡ old.rows.items) where
    pub open_after : Stands (length set) old → AllOpen (length set) start
    open_after h = λ x lt. let l = h.later x lt in let s = ap (λ ys. get_or ys x 0) es in omega (arith, l, s, el)

    pub stands_after : Stands (length set) old → Stands (length set) start
    stands_after h = record {
      sinces = ap length es ∙ h.sinces;
      rows = ap length er ∙ h.rows;
      later = λ x lt. let l = h.later x lt in let s = ap (λ ys. get_or ys x 0) es in omega (arith, l, s, el);
    }

    abbrev told_now : ℕ → Bool
    told_now x = list_any (nat_eq x) stack && not (has set x)

    pub call_held : (numbered : Bool) → numbered ≡ true → Stands (length set) old → Holds set told_now start new → CallKept numbered set stack old new
    call_held numbered e stands h = record {
      left = ap (λ b. new.left + (if b then 1 else 0)) e ∙ (let l = h.left in omega (arith, l, el));
      stands = h.stands;
      kept = λ x lt. by x lt (list_any (nat_eq x) stack) (has set x) refl refl
          ∙ sym (ap (λ b. (if b && (list_any (nat_eq x) stack || has set x) then new.left ∷ [] else []) ++ calls_kept old set x) e);
    }
      where
        next : suc start.left ≡ old.left
        next = omega (arith, el)

        own : (x s : ℕ) (c : Bool) (rows : List ℕ) → suc start.left ≤ s → kept_on start.left s c rows ≡ (if c then start.left ∷ [] else []) ++ kept_on (suc start.left) s c rows
        own x s true rows le = ap (λ ks. ks ++ rows) (counted_open start.left s le)
        own x s false rows le = refl

        -- it isn't told of the local
        as_set : (x : ℕ) → x < length set → told_now x ≡ false → calls_kept new set x ≡ (if has set x then new.left ∷ [] else []) ++ calls_kept old set x
        as_set x lt t =
            let k = h.rest x lt t in
            (λ i. kept_on (h.left i) (k.0 i) (has set x) (k.1 i)) ∙ own x (get_or start.since.items x 0) (has set x) (get_or start.rows.items x []) (open_after stands x lt)
            ∙ (λ i. (if has set x then sym h.left i ∷ [] else []) ++ kept_on (next i) (get_or (es i) x 0) (has set x) (get_or (er i) x []))

        by : (x : ℕ) → x < length set → (b c : Bool) → list_any (nat_eq x) stack ≡ b → has set x ≡ c
            → calls_kept new set x ≡ (if true && (list_any (nat_eq x) stack || has set x) then new.left ∷ [] else []) ++ calls_kept old set x
        by x lt true false t f =
            let k = h.held x lt (λ i. t i && not (f i)) in
            kept_settled new.left (get_or new.since.items x 0) (has set x) (get_or new.rows.items x []) k.0 ∙ k.1
            ∙ (λ i. sym h.left i ∷ kept_on (next i) (get_or (es i) x 0) (has set x) (get_or (er i) x []))
            ∙ ap (λ b. (if b || has set x then new.left ∷ [] else []) ++ calls_kept old set x) (sym t)
        by x lt true true t f =
            as_set x lt (λ i. t i && not (f i)) ∙ ap (λ b. (if b then new.left ∷ [] else []) ++ calls_kept old set x) f
            ∙ ap (λ b. (if b || has set x then new.left ∷ [] else []) ++ calls_kept old set x) (sym t)
        by x lt false c t f =
            as_set x lt (ap (λ b. b && not (has set x)) t) ∙ ap (λ b. (if b || has set x then new.left ∷ [] else []) ++ calls_kept old set x) (sym t)

  -- ---- loops

  module _ {X : Type 0} (test : ℕ → X → Bool) where
    pub settles_begin : (xs : List X) (st : Keeping) → Stands (length set) st → Settles set (λ x. list_any (test x) (take 0 xs)) st st
    settles_begin xs st h = settles_none (λ x. list_any (test x) (take 0 xs)) st h (λ x lt e. cc)

    pub settles_next : (xs : List X) (at : ℕ) (d : X) (old mid new : Keeping) → at < length xs → Settles set (λ x. list_any (test x) (take at xs)) old mid
        → Settles set (λ x. test x (get_or xs at d)) mid new → Settles set (λ x. list_any (test x) (take (at + 1) xs)) old new
    settles_next xs at d old mid new lt h j =
        settles_weaker (λ x. list_any (test x) (take at xs) || test x (get_or xs at d)) (λ x. list_any (test x) (take (at + 1) xs)) old new
        (λ x l e. sym (list_any_more (test x) xs at d lt) ∙ e) (settles_then (λ x. list_any (test x) (take at xs)) (λ x. test x (get_or xs at d)) old mid new h j)

    pub settles_end : (xs : List X) (at : ℕ) (old new : Keeping) → length xs ≤ at → Settles set (λ x. list_any (test x) (take at xs)) old new → Settles set (λ x. list_any (test x) xs) old new
    settles_end xs at old new le h = subst (λ ys. Settles set (λ x. list_any (test x) ys) old new) (take_all at xs le) h

  pub all_begin : (st : Keeping) → Stands (length set) st → Settles set (λ x. nat_lt x 0) st st
  all_begin st h = settles_none (λ x. nat_lt x 0) st h (λ x lt e. let l = ltb-true x 0 e in omega (arith, l))

  pub all_next : (at : ℕ) (old mid new : Keeping) → Settles set (λ x. nat_lt x at) old mid → Settles set (λ x. nat_eq x at) mid new → Settles set (λ x. nat_lt x (at + 1)) old new
  all_next at old mid new h j =
      settles_weaker (λ x. nat_lt x at || nat_eq x at) (λ x. nat_lt x (at + 1)) old new (λ x l e. either x (ltb-true x (at + 1) e))
      (settles_then (λ x. nat_lt x at) (λ x. nat_eq x at) old mid new h j)
    where
      either : (x : ℕ) → x < at + 1 → (nat_lt x at || nat_eq x at) ≡ true
      either x lt = elim (cases_eq x at) [
        | inl e ↦ ap (λ b. nat_lt x at || b) (eq-eqb x at e) ∙ or_true (nat_lt x at)
        | inr ne ↦ ap (λ b. b || nat_eq x at) (lt-ltb x at (omega (arith, lt, ne)))
      ]

  pub all_end : (at : ℕ) (old new : Keeping) → length set ≤ at → Settles set (λ x. nat_lt x at) old new → Settles set (λ x. true) old new
  all_end at old new le h = settles_weaker (λ x. nat_lt x at) (λ x. true) old new (λ x lt e. lt-ltb x at (omega (arith, lt, le))) h

  pub holds_next : (xs : List ℕ) (at d : ℕ) (old new : Keeping) → at < length xs
      → Holds set (λ x. (list_any (nat_eq x) (take at xs) && not (has set x)) || (nat_eq x (get_or xs at d) && not (has set x))) old new
      → Holds set (λ x. list_any (nat_eq x) (take (at + 1) xs) && not (has set x)) old new
  holds_next xs at d old new lt h =
      holds_as (λ x. (list_any (nat_eq x) (take at xs) && not (has set x)) || (nat_eq x (get_or xs at d) && not (has set x)))
      (λ x. list_any (nat_eq x) (take (at + 1) xs) && not (has set x)) old new
      (λ x l. either (list_any (nat_eq x) (take at xs)) (nat_eq x (get_or xs at d)) (not (has set x)) ∙ ap (λ b. b && not (has set x)) (sym (list_any_more (nat_eq x) xs at d lt))) h
    where
      either : (a b c : Bool) → ((a && c) || (b && c)) ≡ ((a || b) && c)
      either true b true = refl
      either true true false = refl
      either true false false = refl
      either false b c = refl

  pub holds_end : (xs : List ℕ) (at : ℕ) (old new : Keeping) → length xs ≤ at → Holds set (λ x. list_any (nat_eq x) (take at xs) && not (has set x)) old new
      → Holds set (λ x. list_any (nat_eq x) xs && not (has set x)) old new
  holds_end xs at old new le h = subst (λ ys. Holds set (λ x. list_any (nat_eq x) ys && not (has set x)) old new) (take_all at xs le) h
