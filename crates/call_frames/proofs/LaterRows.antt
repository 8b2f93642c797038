-- Calls as rows: calls in a row before them, and rows of which the first stands last.
use Rattle.std.proofs.Common.{◌≡◌, ◌∙◌, ℕ, zero, suc, ◌+◌, ◌<◌, ◌^◌, List, [], ◌∷◌, ◌++◌, length, reverse, take, get_or, Bool, true, false, nat_eq, refl, sym, ap, subst, arith, eq-eqb, eqb-true}
use Rattle.std.specs.Prelude.{if◌then◌else◌, slice_set}
use Rattle.std.proofs.lemmas.List.{append_assoc, reverse-append}
use Rattle.call_frames.specs.CallTests.{CallRow}
use Rattle.call_frames.specs.PlainFrames.{onto_rows, rows_of}
use Rattle.call_frames.specs.CallRows.{AreRows, RowsFit, numbers_in, row_view, row_views, upto}
use Rattle.call_frames.specs.declared.rows.Row.{Row}

-- ---- calls in a row before others

-- rows behind a row: the first of them joins it where it follows that
abbrev before : (k m : ℕ) → List CallRow → List CallRow
before k m [] = record { first = k; more = m } ∷ []
before k m (r ∷ rs) = if nat_eq r.first (suc (k + m)) then record { first = k; more = suc (m + r.more) } ∷ rs else record { first = k; more = m } ∷ r ∷ rs

one_before : (k : ℕ) (rs : List CallRow) → onto_rows k rs ≡ before k 0 rs
one_before k [] = refl
one_before k (r ∷ rs) =
    let z : k ≡ k + 0 = omega arith in
    let y : r.more ≡ 0 + r.more = omega arith in
    ap (λ n. if nat_eq r.first (suc n) then record { first = k; more = suc r.more } ∷ rs else record { first = k; more = 0 } ∷ r ∷ rs) z
    ∙ ap (λ n. if nat_eq r.first (suc (k + 0)) then record { first = k; more = suc n } ∷ rs else record { first = k; more = 0 } ∷ r ∷ rs) y

same_number : (n : ℕ) → nat_eq n n ≡ true
same_number n = eq-eqb n n refl

-- a call, those of a row behind it, and another row, which may join
abbrev together : (k m : ℕ) → CallRow → List CallRow → Bool → List CallRow
together k m r rs b = if b then record { first = k; more = suc (suc (m + r.more)) } ∷ rs else record { first = k; more = suc m } ∷ r ∷ rs

-- one call more before them
onto_before : (k m : ℕ) (rs : List CallRow) → onto_rows k (before (suc k) m rs) ≡ before k (suc m) rs
onto_before k m [] = ap (λ b. if b then record { first = k; more = suc m } ∷ [] else record { first = k; more = 0 } ∷ record { first = suc k; more = m } ∷ []) (same_number (suc k))
onto_before k m (r ∷ rs) =
    let z : suc k + m ≡ k + suc m = omega arith in
    by (nat_eq r.first (suc (suc k + m))) ∙ ap (λ n. together k m r rs (nat_eq r.first (suc n))) z ∙ more (nat_eq r.first (suc (k + suc m)))
  where
    by : (b : Bool) → onto_rows k (if b then record { first = suc k; more = suc (m + r.more) } ∷ rs else record { first = suc k; more = m } ∷ r ∷ rs) ≡ together k m r rs b
    by true = ap (λ c. if c then record { first = k; more = suc (suc (m + r.more)) } ∷ rs else record { first = k; more = 0 } ∷ record { first = suc k; more = suc (m + r.more) } ∷ rs) (same_number (suc k))
    by false = ap (λ c. if c then record { first = k; more = suc m } ∷ r ∷ rs else record { first = k; more = 0 } ∷ record { first = suc k; more = m } ∷ r ∷ rs) (same_number (suc k))

    more : (b : Bool) → together k m r rs b ≡ (if b then record { first = k; more = suc (suc m + r.more) } ∷ rs else record { first = k; more = suc m } ∷ r ∷ rs)
    more true = let y : suc (m + r.more) ≡ suc m + r.more = omega arith in ap (λ n. record { first = k; more = suc n } ∷ rs) y
    more false = refl

rows_before : (k m : ℕ) (ns : List ℕ) → rows_of (upto k m ++ ns) ≡ before k m (rows_of ns)
rows_before k zero ns = one_before k (rows_of ns)
rows_before k (suc m) ns = ap (onto_rows k) (rows_before (suc k) m ns) ∙ onto_before k m (rows_of ns)

upto_then : (k m j : ℕ) → upto k (m + suc j) ≡ upto k m ++ upto (suc (k + m)) j
upto_then k zero j =
    let z : 0 + suc j ≡ suc j = omega arith in
    let y : suc k ≡ suc (k + 0) = omega arith in
    ap (upto k) z ∙ ap (λ n. k ∷ upto n j) y
upto_then k (suc m) j =
    let z : suc m + suc j ≡ suc (m + suc j) = omega arith in
    let y : suc (suc k + m) ≡ suc (k + suc m) = omega arith in
    ap (upto k) z ∙ ap (λ ns. k ∷ ns) (upto_then (suc k) m j ∙ ap (λ n. upto (suc k) m ++ upto n j) y)

row_is : (x : Row) (k m : ℕ) → x.first ≡ k → x.more ≡ m → row_view x ≡ record { first = k; more = m }
row_is x k m ef em = ap (λ n. record { first = n; more = x.more }) ef ∙ ap (λ n. record { first = k; more = n }) em

-- ---- the first row joins calls that it follows

module _ (k m : ℕ) (r x : Row) (rest : List Row) (ef : x.first ≡ k) (em : x.more ≡ m + 1 + r.more) (at : nat_eq r.first (suc (k + m)) ≡ true) where
  is : row_view x ≡ record { first = k; more = suc (m + r.more) }
  is = row_is x k (suc (m + r.more)) ef (let z : m + 1 + r.more ≡ suc (m + r.more) = omega arith in em ∙ z)

  pub joined_numbers : numbers_in (row_views (x ∷ rest)) ≡ upto k m ++ numbers_in (row_views (r ∷ rest))
  joined_numbers =
      let z : suc (m + r.more) ≡ m + suc r.more = omega arith in
      ap (λ v. numbers_in (v ∷ row_views rest)) is ∙ ap (λ n. upto k n ++ numbers_in (row_views rest)) z
      ∙ ap (λ ns. ns ++ numbers_in (row_views rest)) (upto_then k m r.more ∙ ap (λ n. upto k m ++ upto n r.more) (sym (eqb-true r.first (suc (k + m)) at)))
      ∙ append_assoc (upto k m) (upto r.first r.more) (numbers_in (row_views rest))

  pub joined_rows : AreRows (r ∷ rest) → AreRows (x ∷ rest)
  joined_rows h = record {
    long =
        ap rows_of joined_numbers ∙ rows_before k m (numbers_in (row_views (r ∷ rest))) ∙ ap (before k m) h.long
        ∙ ap (λ b. if b then record { first = k; more = suc (m + r.more) } ∷ row_views rest else record { first = k; more = m } ∷ row_view r ∷ row_views rest) at
        ∙ ap (λ v. v ∷ row_views rest) (sym is);
    fit = (let f = h.fit.0 in let q = eqb-true r.first (suc (k + m)) at in omega (arith, f, q, ef, em), h.fit.1);
  }

-- ---- a row of its own

-- The first of these rows doesn't follow these calls.
abbrev pub NoneNext : (k m : ℕ) → List Row → Type 0
NoneNext k m [] = Unit {0}
NoneNext k m (r ∷ rs) = nat_eq r.first (suc (k + m)) ≡ false

apart_views : (k m : ℕ) (rs : List Row) → NoneNext k m rs → before k m (row_views rs) ≡ record { first = k; more = m } ∷ row_views rs
apart_views k m [] h = refl
apart_views k m (r ∷ rs) h = ap (λ b. if b then record { first = k; more = suc (m + r.more) } ∷ row_views rs else record { first = k; more = m } ∷ row_view r ∷ row_views rs) h

pub apart_rows : (k m : ℕ) (rs : List Row) → NoneNext k m rs → k + m < 2 ^ 32 → AreRows rs → AreRows (record { first = k; more = m } ∷ rs)
apart_rows k m rs none small h = record {
  long = rows_before k m (numbers_in (row_views rs)) ∙ ap (before k m) h.long ∙ apart_views k m rs none;
  fit = (small, h.fit);
}

-- ---- the first row stands last

pub last_first : (rs : List Row) (i : ℕ) (d : Row) → i + 1 ≡ length rs → reverse rs ≡ get_or rs i d ∷ reverse (take i rs)
last_first [] i d e = absurd (omega (arith, e))
last_first (r ∷ []) zero d e = refl
last_first (r ∷ []) (suc i) d e = absurd (omega (arith, e))
last_first (r ∷ s ∷ rs) zero d e = absurd (omega (arith, e))
last_first (r ∷ s ∷ rs) (suc i) d e =
    reverse-append (r ∷ []) (s ∷ rs) ∙ ap (λ xs. xs ++ r ∷ []) (last_first (s ∷ rs) i d (omega (arith, e)))
    ∙ ap (λ xs. get_or (s ∷ rs) i d ∷ xs) (sym (reverse-append (r ∷ []) (take i (s ∷ rs))))

pub last_set : (rs : List Row) (i : ℕ) (x : Row) → i + 1 ≡ length rs → reverse (slice_set rs i x) ≡ x ∷ reverse (take i rs)
last_set [] i x e = absurd (omega (arith, e))
last_set (r ∷ []) zero x e = refl
last_set (r ∷ []) (suc i) x e = absurd (omega (arith, e))
last_set (r ∷ s ∷ rs) zero x e = absurd (omega (arith, e))
last_set (r ∷ s ∷ rs) (suc i) x e =
    reverse-append (r ∷ []) (slice_set (s ∷ rs) i x) ∙ ap (λ xs. xs ++ r ∷ []) (last_set (s ∷ rs) i x (omega (arith, e)))
    ∙ ap (λ xs. x ∷ xs) (sym (reverse-append (r ∷ []) (take i (s ∷ rs))))

pub last_put : (rs : List Row) (x : Row) → reverse (rs ++ x ∷ []) ≡ x ∷ reverse rs
last_put rs x = reverse-append rs (x ∷ [])

-- what the last row tells of those in their order
module _ (rs : List Row) (i k m : ℕ) (d x : Row) (e : i + 1 ≡ length rs) where
  pub last_fits : AreRows (reverse rs) → (get_or rs i d).first + (get_or rs i d).more < 2 ^ 32
  last_fits h = (subst RowsFit (last_first rs i d e) h.fit).0

  pub none_next : nat_eq (get_or rs i d).first (suc (k + m)) ≡ false → NoneNext k m (reverse rs)
  none_next f = subst (NoneNext k m) (sym (last_first rs i d e)) f

  module _ (ef : x.first ≡ k) (em : x.more ≡ m + 1 + (get_or rs i d).more) (at : nat_eq (get_or rs i d).first (suc (k + m)) ≡ true) where
    pub longer_numbers : numbers_in (row_views (reverse (slice_set rs i x))) ≡ upto k m ++ numbers_in (row_views (reverse rs))
    longer_numbers =
        ap (λ ys. numbers_in (row_views ys)) (last_set rs i x e) ∙ joined_numbers k m (get_or rs i d) x (reverse (take i rs)) ef em at
        ∙ ap (λ ys. upto k m ++ numbers_in (row_views ys)) (sym (last_first rs i d e))

    pub longer_rows : AreRows (reverse rs) → AreRows (reverse (slice_set rs i x))
    longer_rows h =
        subst AreRows (sym (last_set rs i x e)) (joined_rows k m (get_or rs i d) x (reverse (take i rs)) ef em at (subst AreRows (last_first rs i d e) h))

pub none_at_all : (k m : ℕ) (rs : List Row) → length rs ≡ 0 → NoneNext k m (reverse rs)
none_at_all k m [] e = tt
none_at_all k m (r ∷ rs) e = absurd (omega (arith, e))
