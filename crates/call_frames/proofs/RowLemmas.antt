-- Calls as rows: one more call behind them, how many there are, and whether they are the same.
use Rattle.std.proofs.Common.{◌≡◌, ◌∙◌, ℕ, zero, suc, ◌+◌, ◌-◌, ◌<◌, ◌^◌, ◌≤◌, List, [], ◌∷◌, ◌++◌, length, drop, take, get_or, Bool, true, false, nat_eq, refl, sym, ap, arith, eq-eqb, eqb-true, ne_eqb}
use Rattle.std.specs.Prelude.{if◌then◌else◌, slice_set}
use Rattle.std.specs.Cmp.Lexicographic.{other_text, same_text}
use Rattle.std.proofs.lemmas.List.{append-nil, append_assoc, drop_all, drop_more, length-append, length-map, map_more, take_all}
use Rattle.call_frames.specs.CallTests.{CallRow, row_size}
use Rattle.call_frames.specs.PlainFrames.{joined_size, onto_rows, rows_of}
use Rattle.call_frames.specs.CallParts.{same_calls}
use Rattle.call_frames.specs.CallRows.{AreRows, RowsFit, numbers_in, row_view, row_views, upto}
use Rattle.call_frames.specs.declared.rows.Row.{Row}

-- ---- one call more

upto_more : (k n : ℕ) → upto k n ++ suc (k + n) ∷ [] ≡ upto k (suc n)
upto_more k zero = let z : suc (k + 0) ≡ suc k = omega arith in ap (λ j. k ∷ j ∷ []) z
upto_more k (suc n) = let z : suc (k + suc n) ≡ suc (suc k + n) = omega arith in ap (λ j. k ∷ (upto (suc k) n ++ j ∷ [])) z ∙ ap (λ js. k ∷ js) (upto_more (suc k) n)

-- a call behind rows: it joins the last where it follows that
abbrev behind : (call : ℕ) → List CallRow → List CallRow
behind k [] = record { first = k; more = 0 } ∷ []
behind k (r ∷ []) = if nat_eq k (suc (r.first + r.more)) then record { first = r.first; more = suc r.more } ∷ [] else r ∷ record { first = k; more = 0 } ∷ []
behind k (r ∷ s ∷ rs) = r ∷ behind k (s ∷ rs)

-- in front of rows or behind them, in either order
onto_behind : (j k : ℕ) (rs : List CallRow) → onto_rows j (behind k rs) ≡ behind k (onto_rows j rs)
onto_behind j k [] = let z : j ≡ j + 0 = omega arith in ap (λ n. if nat_eq k (suc n) then record { first = j; more = 1 } ∷ [] else record { first = j; more = 0 } ∷ record { first = k; more = 0 } ∷ []) z
onto_behind j k (r ∷ []) = by (nat_eq r.first (suc j)) (nat_eq k (suc (r.first + r.more))) refl refl
  where
    by : (c b : Bool) → nat_eq r.first (suc j) ≡ c → nat_eq k (suc (r.first + r.more)) ≡ b
        → onto_rows j (if b then record { first = r.first; more = suc r.more } ∷ [] else r ∷ record { first = k; more = 0 } ∷ [])
        ≡ behind k (if c then record { first = j; more = suc r.more } ∷ [] else record { first = j; more = 0 } ∷ r ∷ [])
    by true true ec eb =
        let f = eqb-true r.first (suc j) ec in
        let z : j + suc r.more ≡ r.first + r.more = omega (arith, f) in
        ap (λ x. if x then record { first = j; more = suc (suc r.more) } ∷ [] else record { first = j; more = 0 } ∷ record { first = r.first; more = suc r.more } ∷ []) ec
        ∙ sym (ap (λ x. if x then record { first = j; more = suc (suc r.more) } ∷ [] else record { first = j; more = suc r.more } ∷ record { first = k; more = 0 } ∷ []) (ap (λ n. nat_eq k (suc n)) z ∙ eb))
    by true false ec eb =
        let f = eqb-true r.first (suc j) ec in
        let z : j + suc r.more ≡ r.first + r.more = omega (arith, f) in
        ap (λ x. if x then record { first = j; more = suc r.more } ∷ record { first = k; more = 0 } ∷ [] else record { first = j; more = 0 } ∷ r ∷ record { first = k; more = 0 } ∷ []) ec
        ∙ sym (ap (λ x. if x then record { first = j; more = suc (suc r.more) } ∷ [] else record { first = j; more = suc r.more } ∷ record { first = k; more = 0 } ∷ []) (ap (λ n. nat_eq k (suc n)) z ∙ eb))
    by false true ec eb =
        ap (λ x. if x then record { first = j; more = suc (suc r.more) } ∷ [] else record { first = j; more = 0 } ∷ record { first = r.first; more = suc r.more } ∷ []) ec
        ∙ sym (ap (λ x. record { first = j; more = 0 } ∷ (if x then record { first = r.first; more = suc r.more } ∷ [] else r ∷ record { first = k; more = 0 } ∷ [])) eb)
    by false false ec eb =
        ap (λ x. if x then record { first = j; more = suc r.more } ∷ record { first = k; more = 0 } ∷ [] else record { first = j; more = 0 } ∷ r ∷ record { first = k; more = 0 } ∷ []) ec
        ∙ sym (ap (λ x. record { first = j; more = 0 } ∷ (if x then record { first = r.first; more = suc r.more } ∷ [] else r ∷ record { first = k; more = 0 } ∷ [])) eb)
onto_behind j k (r ∷ s ∷ rs) = by (nat_eq r.first (suc j))
  where
    by : (c : Bool) → (if c then record { first = j; more = suc r.more } ∷ behind k (s ∷ rs) else record { first = j; more = 0 } ∷ r ∷ behind k (s ∷ rs))
        ≡ behind k (if c then record { first = j; more = suc r.more } ∷ s ∷ rs else record { first = j; more = 0 } ∷ r ∷ s ∷ rs)
    by true = refl
    by false = refl

rows_behind : (ks : List ℕ) (k : ℕ) → rows_of (ks ++ k ∷ []) ≡ behind k (rows_of ks)
rows_behind [] k = refl
rows_behind (j ∷ ks) k = ap (onto_rows j) (rows_behind ks k) ∙ onto_behind j k (rows_of ks)

-- ---- one row more, or another one

set_fits : (rs : List Row) (i : ℕ) (x : Row) → RowsFit rs → x.first + x.more < 2 ^ 32 → RowsFit (slice_set rs i x)
set_fits [] i x h lt = tt
set_fits (r ∷ rs) zero x h lt = (lt, h.1)
set_fits (r ∷ rs) (suc i) x h lt = (h.0, set_fits rs i x h.1 lt)

more_fit : (rs : List Row) (x : Row) → RowsFit rs → x.first + x.more < 2 ^ 32 → RowsFit (rs ++ x ∷ [])
more_fit [] x h lt = (lt, tt)
more_fit (r ∷ rs) x h lt = (h.0, more_fit rs x h.1 lt)

pub fits_at : (rs : List Row) (i : ℕ) (d : Row) → i < length rs → RowsFit rs → (get_or rs i d).first + (get_or rs i d).more < 2 ^ 32
fits_at [] i d lt h = absurd (omega (arith, lt))
fits_at (r ∷ rs) zero d lt h = h.0
fits_at (r ∷ rs) (suc i) d lt h = fits_at rs i d (omega (arith, lt)) h.1

one_longer : (r x : Row) → x.first ≡ r.first → x.more ≡ suc r.more → row_view x ≡ record { first = r.first; more = suc r.more }
one_longer r x ef em = ap (λ n. record { first = n; more = x.more }) ef ∙ ap (λ n. record { first = r.first; more = n }) em

pub longer_numbers : (rs : List Row) (i k : ℕ) (d x : Row) → i + 1 ≡ length rs → x.first ≡ (get_or rs i d).first → x.more ≡ suc (get_or rs i d).more
    → nat_eq k (suc ((get_or rs i d).first + (get_or rs i d).more)) ≡ true → numbers_in (row_views (slice_set rs i x)) ≡ numbers_in (row_views rs) ++ k ∷ []
longer_numbers [] i k d x e ef em f = absurd (omega (arith, e))
longer_numbers (r ∷ []) zero k d x e ef em f =
    ap (λ v. numbers_in (v ∷ [])) (one_longer r x ef em) ∙ append-nil (upto r.first (suc r.more)) ∙ sym (upto_more r.first r.more)
    ∙ ap (λ n. upto r.first r.more ++ n ∷ []) (sym (eqb-true k (suc (r.first + r.more)) f)) ∙ ap (λ ns. ns ++ k ∷ []) (sym (append-nil (upto r.first r.more)))
longer_numbers (r ∷ []) (suc i) k d x e ef em f = absurd (omega (arith, e))
longer_numbers (r ∷ s ∷ rs) zero k d x e ef em f = absurd (omega (arith, e))
longer_numbers (r ∷ s ∷ rs) (suc i) k d x e ef em f =
    ap (λ ns. upto r.first r.more ++ ns) (longer_numbers (s ∷ rs) i k d x (omega (arith, e)) ef em f) ∙ sym (append_assoc (upto r.first r.more) (numbers_in (row_views (s ∷ rs))) (k ∷ []))

longer_views : (rs : List Row) (i k : ℕ) (d x : Row) → i + 1 ≡ length rs → x.first ≡ (get_or rs i d).first → x.more ≡ suc (get_or rs i d).more
    → nat_eq k (suc ((get_or rs i d).first + (get_or rs i d).more)) ≡ true → behind k (row_views rs) ≡ row_views (slice_set rs i x)
longer_views [] i k d x e ef em f = absurd (omega (arith, e))
longer_views (r ∷ []) zero k d x e ef em f =
    ap (λ b. if b then record { first = r.first; more = suc r.more } ∷ [] else row_view r ∷ record { first = k; more = 0 } ∷ []) f ∙ ap (λ v. v ∷ []) (sym (one_longer r x ef em))
longer_views (r ∷ []) (suc i) k d x e ef em f = absurd (omega (arith, e))
longer_views (r ∷ s ∷ rs) zero k d x e ef em f = absurd (omega (arith, e))
longer_views (r ∷ s ∷ []) (suc zero) k d x e ef em f = ap (λ vs. row_view r ∷ vs) (longer_views (s ∷ []) zero k d x refl ef em f)
longer_views (r ∷ s ∷ []) (suc (suc i)) k d x e ef em f = absurd (omega (arith, e))
longer_views (r ∷ s ∷ t ∷ rs) (suc i) k d x e ef em f = ap (λ vs. row_view r ∷ vs) (longer_views (s ∷ t ∷ rs) i k d x (omega (arith, e)) ef em f)

pub longer_rows : (rs : List Row) (i k : ℕ) (d x : Row) → i + 1 ≡ length rs → x.first ≡ (get_or rs i d).first → x.more ≡ suc (get_or rs i d).more
    → nat_eq k (suc ((get_or rs i d).first + (get_or rs i d).more)) ≡ true → k < 2 ^ 32 → AreRows rs → AreRows (slice_set rs i x)
longer_rows rs i k d x e ef em f small h =
    let q = eqb-true k (suc ((get_or rs i d).first + (get_or rs i d).more)) f in record {
      long = ap rows_of (longer_numbers rs i k d x e ef em f) ∙ rows_behind (numbers_in (row_views rs)) k ∙ ap (behind k) h.long ∙ longer_views rs i k d x e ef em f;
      fit = set_fits rs i x h.fit (omega (arith, q, ef, em, small));
    }

-- a row of its own
pub apart_numbers : (rs : List Row) (k : ℕ) → numbers_in (row_views (rs ++ record { first = k; more = 0 } ∷ [])) ≡ numbers_in (row_views rs) ++ k ∷ []
apart_numbers [] k = refl
apart_numbers (r ∷ rs) k = ap (λ ns. upto r.first r.more ++ ns) (apart_numbers rs k) ∙ sym (append_assoc (upto r.first r.more) (numbers_in (row_views rs)) (k ∷ []))

-- No last row is followed by this call.
abbrev pub NoneFollowed : (rs : List Row) → (k : ℕ) → Type 0
NoneFollowed [] k = Unit {0}
NoneFollowed (r ∷ []) k = nat_eq k (suc (r.first + r.more)) ≡ false
NoneFollowed (r ∷ s ∷ rs) k = NoneFollowed (s ∷ rs) k

pub none_last : (rs : List Row) (i k : ℕ) (d : Row) → i + 1 ≡ length rs → nat_eq k (suc ((get_or rs i d).first + (get_or rs i d).more)) ≡ false → NoneFollowed rs k
none_last [] i k d e f = absurd (omega (arith, e))
none_last (r ∷ []) zero k d e f = f
none_last (r ∷ []) (suc i) k d e f = absurd (omega (arith, e))
none_last (r ∷ s ∷ rs) zero k d e f = absurd (omega (arith, e))
none_last (r ∷ s ∷ rs) (suc i) k d e f = none_last (s ∷ rs) i k d (omega (arith, e)) f

pub none_there : (rs : List Row) (k : ℕ) → length rs ≡ 0 → NoneFollowed rs k
none_there [] k e = tt
none_there (r ∷ rs) k e = absurd (omega (arith, e))

apart_views : (rs : List Row) (k : ℕ) → NoneFollowed rs k → behind k (row_views rs) ≡ row_views (rs ++ record { first = k; more = 0 } ∷ [])
apart_views [] k h = refl
apart_views (r ∷ []) k h = ap (λ b. if b then record { first = r.first; more = suc r.more } ∷ [] else row_view r ∷ record { first = k; more = 0 } ∷ []) h
apart_views (r ∷ s ∷ rs) k h = ap (λ vs. row_view r ∷ vs) (apart_views (s ∷ rs) k h)

pub apart_rows : (rs : List Row) (k : ℕ) → NoneFollowed rs k → k < 2 ^ 32 → AreRows rs → AreRows (rs ++ record { first = k; more = 0 } ∷ [])
apart_rows rs k n small h = record {
  long = ap rows_of (apart_numbers rs k) ∙ rows_behind (numbers_in (row_views rs)) k ∙ ap (behind k) h.long ∙ apart_views rs k n;
  fit = more_fit rs (record { first = k; more = 0 }) h.fit (omega (arith, small));
}

-- ---- how many calls

upto_length : (k n : ℕ) → length (upto k n) ≡ suc n
upto_length k zero = refl
upto_length k (suc n) = ap suc (upto_length (suc k) n)

-- what is left of a number, behind the rows that were counted
abbrev pub Left : (rows : List Row) → (at count left : ℕ) → Type 0
Left rows at count left = nat_eq (length (numbers_in (row_views (drop at rows)))) left ≡ nat_eq (length (numbers_in (row_views rows))) count

count_next : (rows : List Row) (at : ℕ) (d : Row) → at < length rows
    → length (numbers_in (row_views (drop at rows))) ≡ suc (get_or rows at d).more + length (numbers_in (row_views (drop (at + 1) rows)))
count_next rows at d lt =
    let r = get_or rows at d in
    let e = ap (λ rs. length (numbers_in (row_views rs))) (drop_more rows at d lt) in
    let l = length-append (upto r.first r.more) (numbers_in (row_views (drop (at + 1) rows))) in
    let u = upto_length r.first r.more in
    omega (arith, e, l, u)

pub too_many : (rows : List Row) (at count left : ℕ) (d : Row) → at < length rows → left < (get_or rows at d).more + 1 → Left rows at count left
    → false ≡ nat_eq (length (numbers_in (row_views rows))) count
too_many rows at count left d lt less h =
    let n = count_next rows at d lt in
    sym (ne_eqb (length (numbers_in (row_views (drop at rows)))) left (λ e. omega (arith, n, e, less))) ∙ h

pub left_next : (rows : List Row) (at count left : ℕ) (d : Row) → at < length rows → (get_or rows at d).more + 1 ≤ left → Left rows at count left
    → Left rows (at + 1) count (left - ((get_or rows at d).more + 1))
left_next rows at count left d lt le h = by (nat_eq rest (left - m)) refl ∙ h
  where
    m : ℕ
    m = (get_or rows at d).more + 1

    rest : ℕ
    rest = length (numbers_in (row_views (drop (at + 1) rows)))

    n : length (numbers_in (row_views (drop at rows))) ≡ suc (get_or rows at d).more + rest
    n = count_next rows at d lt

    by : (b : Bool) → nat_eq rest (left - m) ≡ b → b ≡ nat_eq (length (numbers_in (row_views (drop at rows)))) left
    by true e = let q = eqb-true rest (left - m) e in sym (eq-eqb (length (numbers_in (row_views (drop at rows)))) left (omega (arith, q, n, le)))
    by false e = sym (ne_eqb (length (numbers_in (row_views (drop at rows)))) left (λ q. not_both e (eq-eqb rest (left - m) (omega (arith, q, n, le)))))
      where
        not_both : {b : Bool} → b ≡ false → b ≡ true → ⊥
        not_both f t = cc

pub left_last : (rows : List Row) (at count left : ℕ) → length rows ≤ at → Left rows at count left → nat_eq left 0 ≡ nat_eq (length (numbers_in (row_views rows))) count
left_last rows at count left le h = by left ∙ ap (λ rs. nat_eq (length (numbers_in (row_views rs))) left) (sym (drop_all at rows le)) ∙ h
  where
    by : (n : ℕ) → nat_eq n 0 ≡ nat_eq 0 n
    by zero = refl
    by (suc n) = ne_eqb (suc n) 0 (λ e. omega (arith, e)) ∙ sym (ne_eqb 0 (suc n) (λ e. omega (arith, e)))

-- ---- the same rows

pub views_at : (xs ys : List Row) (i : ℕ) (d e : Row) → i < length xs → i < length ys → row_views xs ≡ row_views ys → row_view (get_or xs i d) ≡ row_view (get_or ys i e)
views_at [] ys i d e lx ly h = absurd (omega (arith, lx))
views_at (x ∷ xs) [] i d e lx ly h = absurd (omega (arith, ly))
views_at (x ∷ xs) (y ∷ ys) zero d e lx ly h = ap (λ vs. get_or vs 0 (row_view d)) h
views_at (x ∷ xs) (y ∷ ys) (suc i) d e lx ly h = views_at xs ys i d e (omega (arith, lx)) (omega (arith, ly)) (ap (drop 1) h)

pub views_length : (xs ys : List Row) → row_views xs ≡ row_views ys → length xs ≡ length ys
views_length xs ys h = sym (length-map xs row_view) ∙ ap length h ∙ length-map ys row_view

pub views_more : (xs ys : List Row) (i : ℕ) (d e : Row) → i < length xs → i < length ys → (get_or xs i d).first ≡ (get_or ys i e).first → (get_or xs i d).more ≡ (get_or ys i e).more
    → row_views (take i xs) ≡ row_views (take i ys) → row_views (take (i + 1) xs) ≡ row_views (take (i + 1) ys)
views_more xs ys i d e lx ly ef em h =
    let x = get_or xs i d in
    let y = get_or ys i e in
    map_more row_view xs i d lx ∙ ap (λ vs. vs ++ row_view x ∷ []) h
    ∙ ap (λ v. row_views (take i ys) ++ v ∷ []) (ap (λ n. record { first = n; more = x.more }) ef ∙ ap (λ n. record { first = y.first; more = n }) em)
    ∙ sym (map_more row_view ys i e ly)

pub views_end : (xs ys : List Row) (i : ℕ) → length xs ≤ i → length ys ≤ i → row_views (take i xs) ≡ row_views (take i ys) → row_views xs ≡ row_views ys
views_end xs ys i lx ly h = ap row_views (sym (take_all i xs lx)) ∙ h ∙ ap row_views (take_all i ys ly)

-- rows are the same where the calls are
pub same_told : (xs ys : List Row) (told : Bool) → AreRows xs → AreRows ys → (told ≡ true → row_views xs ≡ row_views ys) → (row_views xs ≡ row_views ys → told ≡ true)
    → told ≡ same_calls (numbers_in (row_views xs)) (numbers_in (row_views ys))
same_told xs ys told hx hy to from = by told (same_calls (numbers_in (row_views xs)) (numbers_in (row_views ys))) refl refl
  where
    by : (b c : Bool) → told ≡ b → same_calls (numbers_in (row_views xs)) (numbers_in (row_views ys)) ≡ c → b ≡ c
    by true true e f = refl
    by false false e f = refl
    by true false e f = absurd (other_text (numbers_in (row_views xs)) (numbers_in (row_views ys)) (sym f) (ap numbers_in (to e)))
    by false true e f =
        let q = same_text (numbers_in (row_views xs)) (numbers_in (row_views ys)) (sym f) in
        let t = from (sym hx.long ∙ ap rows_of q ∙ hy.long) in cc

-- ---- how long tests are

pub joined_next : (rs : List Row) (i : ℕ) (d : Row) → i < length rs → joined_size (row_views (drop i rs)) ≡ row_size (row_view (get_or rs i d)) + 1 + joined_size (row_views (drop (i + 1) rs))
joined_next rs i d lt = ap (λ xs. joined_size (row_views xs)) (drop_more rs i d lt)
