-- What rows of calls add, told at their ends, loop by loop.
use Rattle.std.proofs.Common.{◌≡◌, ℕ, zero, suc, ◌+◌, ◌-◌, ◌%◌, ◌^◌, ◌<◌, ◌≤◌, List, [], ◌∷◌, ◌++◌, length, drop, get_or, get_or-set_same, get_or-set_other, length-set, set, Bool, true, false, nat_eq, refl, sym, ap, ◌∙◌, subst, arith, eq-eqb, eqb-true, ne_eqb, leb-true, leb-false}
use Rattle.std.specs.Prelude.{◌||◌, nat_le, replicate, if◌then◌else◌}
use Rattle.std.proofs.lemmas.Bool.{eqb-false}
use Rattle.std.proofs.lemmas.List.{drop_all, drop_more}
use Rattle.call_frames.specs.CallTests.{CallRow}
use Rattle.call_frames.specs.CallRows.{numbers_in, row_views, upto}
use Rattle.call_frames.specs.PlainFrames.{is_one_of}
use Rattle.call_frames.specs.declared.rows.Row.{Row}
use Rattle.live_frames.specs.declared.digits.OwnSize.{OwnSize}
use Rattle.live_frames.specs.Digits.{no_size, size_in, Sums}
use Rattle.live_frames.proofs.DigitSteps.{got_same}
use Rattle.live_frames.specs.Ends.{Added, EndSums, first_sum, Rising, up_to}

-- ---- sums of first numbers

sum_before : (es : List ℕ) (i v n : ℕ) → n ≤ i → first_sum n (set es i v) ≡ first_sum n es
sum_before [] i v n le = refl
sum_before (e ∷ es) zero v zero le = refl
sum_before (e ∷ es) zero v (suc n) le = absurd (omega (arith, le))
sum_before (e ∷ es) (suc i) v zero le = refl
sum_before (e ∷ es) (suc i) v (suc n) le = ap (λ m. e + m) (sum_before es i v n (omega (arith, le)))

sum_behind : (es : List ℕ) (i v n d : ℕ) → i < length es → i < n → first_sum n (set es i v) + get_or es i d ≡ first_sum n es + v
sum_behind [] i v n d lt le = absurd (omega (arith, lt))
sum_behind (e ∷ es) i v zero d lt le = absurd (omega (arith, le))
sum_behind (e ∷ es) zero v (suc n) d lt le = omega arith
sum_behind (e ∷ es) (suc i) v (suc n) d lt le = let ih = sum_behind es i v n d (omega (arith, lt)) (omega (arith, le)) in omega (arith, ih)

sum_next : (es : List ℕ) (n d : ℕ) → n < length es → first_sum (suc n) es ≡ first_sum n es + get_or es n d
sum_next [] n d lt = absurd (omega (arith, lt))
sum_next (e ∷ []) zero d lt = omega arith
sum_next (e ∷ f ∷ es) zero d lt = omega arith
sum_next (e ∷ es) (suc n) d lt = let ih = sum_next es n d (omega (arith, lt)) in omega (arith, ih)

sum_none : (n k : ℕ) → first_sum k (replicate n 0) ≡ 0
sum_none zero k = refl
sum_none (suc n) zero = refl
sum_none (suc n) (suc k) = let ih = sum_none n k in omega (arith, ih)

-- ---- one place

pub before_place : (es : List ℕ) (i v k : ℕ) → k < i → up_to k (set es i v) ≡ up_to k es
before_place es i v k lt = sum_before es i v (suc k) (omega (arith, lt))

pub behind_place : (es : List ℕ) (i v k d bytes : ℕ) → i < length es → v ≡ (get_or es i d + bytes) % 2 ^ 32 → i ≤ k → up_to k (set es i v) % 2 ^ 32 ≡ (up_to k es + bytes) % 2 ^ 32
behind_place es i v k d bytes lt is le = let s = sum_behind es i v (suc k) d lt (omega (arith, le)) in omega (arith, s, is)

-- ---- which calls a row has

row_low : (f m k : ℕ) → k < f → is_one_of (upto f m) k ≡ false
row_low f zero k lt = ap (λ b. b || false) (ne_eqb k f (λ e. omega (arith, e, lt)))
row_low f (suc m) k lt = ap (λ b. b || is_one_of (upto (suc f) m) k) (ne_eqb k f (λ e. omega (arith, e, lt))) ∙ row_low (suc f) m k (omega (arith, lt))

row_high : (f m k : ℕ) → f + m < k → is_one_of (upto f m) k ≡ false
row_high f zero k lt = ap (λ b. b || false) (ne_eqb k f (λ e. omega (arith, e, lt)))
row_high f (suc m) k lt = ap (λ b. b || is_one_of (upto (suc f) m) k) (ne_eqb k f (λ e. omega (arith, e, lt))) ∙ row_high (suc f) m k (omega (arith, lt))

row_has : (f m k : ℕ) → f ≤ k → k ≤ f + m → is_one_of (upto f m) k ≡ true
row_has f zero k low high = ap (λ b. b || false) (eq-eqb k f (omega (arith, low, high)))
row_has f (suc m) k low high = by (nat_eq k f) refl (λ le. row_has (suc f) m k le (omega (arith, high)))
  where
    by : (b : Bool) → nat_eq k f ≡ b → (suc f ≤ k → is_one_of (upto (suc f) m) k ≡ true) → (nat_eq k f || is_one_of (upto (suc f) m) k) ≡ true
    by true e ih = ap (λ b. b || is_one_of (upto (suc f) m) k) e
    by false e ih = ap (λ b. b || is_one_of (upto (suc f) m) k) e ∙ ih (let n = eqb-false k f e in omega (arith, low, n))

-- a row's calls have more
pub row_added : (old mid new : List ℕ) (f m bytes less : ℕ) → bytes < 2 ^ 32 → less ≡ (4294967295 - bytes + 1) % 2 ^ 32
    → ((k : ℕ) → k < f → up_to k mid ≡ up_to k old) → ((k : ℕ) → f ≤ k → up_to k mid % 2 ^ 32 ≡ (up_to k old + bytes) % 2 ^ 32)
    → ((k : ℕ) → k < f + m + 1 → up_to k new ≡ up_to k mid) → ((k : ℕ) → f + m + 1 ≤ k → up_to k new % 2 ^ 32 ≡ (up_to k mid + less) % 2 ^ 32)
    → (k : ℕ) → up_to k new % 2 ^ 32 ≡ (up_to k old + (if is_one_of (upto f m) k then bytes else 0)) % 2 ^ 32
row_added old mid new f m bytes less small el b1 a1 b2 a2 k = by (nat_le f k) (nat_le k (f + m)) refl refl
  where
    is : (b : Bool) (n : ℕ) → is_one_of (upto f m) k ≡ b → (if b then bytes else 0) ≡ n → up_to k new % 2 ^ 32 ≡ (up_to k old + n) % 2 ^ 32
        → up_to k new % 2 ^ 32 ≡ (up_to k old + (if is_one_of (upto f m) k then bytes else 0)) % 2 ^ 32
    is b n e h q = q ∙ ap (λ x. (up_to k old + x) % 2 ^ 32) (sym h ∙ ap (λ c. if c then bytes else 0) (sym e))

    by : (a b : Bool) → nat_le f k ≡ a → nat_le k (f + m) ≡ b → up_to k new % 2 ^ 32 ≡ (up_to k old + (if is_one_of (upto f m) k then bytes else 0)) % 2 ^ 32
    by false b ea eb =
        let lt = leb-false f k ea in
        let x = b1 k lt in
        let y = b2 k (omega (arith, lt)) in
        is false 0 (row_low f m k lt) refl (omega (arith, x, y))
    by true true ea eb =
        let low = leb-true f k ea in
        let high = leb-true k (f + m) eb in
        let x = a1 k low in
        let y = b2 k (omega (arith, high)) in
        is true bytes (row_has f m k low high) refl (omega (arith, x, y))
    by true false ea eb =
        let low = leb-true f k ea in
        let lt = leb-false k (f + m) eb in
        let x = a1 k low in
        let y = a2 k (omega (arith, lt)) in
        is false 0 (row_high f m k lt) refl (omega (arith, x, y, el, small))

-- ---- rows that rise

either_of : (xs ys : List ℕ) (k : ℕ) → is_one_of (xs ++ ys) k ≡ (is_one_of xs k || is_one_of ys k)
either_of [] ys k = refl
either_of (x ∷ xs) ys k = ap (λ b. nat_eq k x || b) (either_of xs ys k) ∙ by (nat_eq k x)
  where
    by : (b : Bool) → (b || (is_one_of xs k || is_one_of ys k)) ≡ ((b || is_one_of xs k) || is_one_of ys k)
    by true = refl
    by false = refl

rising_below : (n : ℕ) (rs : List CallRow) (k : ℕ) → k < n → Rising n rs → is_one_of (numbers_in rs) k ≡ false
rising_below n [] k lt h = refl
rising_below n (r ∷ rs) k lt h =
    let low : k < r.first = let le = h.0 in omega (arith, lt, le) in
    either_of (upto r.first r.more) (numbers_in rs) k ∙ ap (λ b. b || is_one_of (numbers_in rs) k) (row_low r.first r.more k low)
    ∙ rising_below (suc (r.first + r.more)) rs k (omega (arith, low)) h.1

rising_at : (n : ℕ) (rows : List Row) (i : ℕ) (d : Row) → i < length rows → Rising n (row_views rows)
    → Rising (suc ((get_or rows i d).first + (get_or rows i d).more)) (row_views (drop (suc i) rows))
rising_at n [] i d lt h = absurd (omega (arith, lt))
rising_at n (r ∷ rs) zero d lt h = h.1
rising_at n (r ∷ rs) (suc i) d lt h = rising_at (suc (r.first + r.more)) rs i d (omega (arith, lt)) h.1

-- What is known of rows from a place on, where those in front rise up to an end.
abbrev pub Rises : (rows : List Row) → (at end : ℕ) → Type 0
Rises rows at end = Rising end (row_views (drop at rows)) → Rising 0 (row_views rows)

pub rises_next : (rows : List Row) (at end next : ℕ) (d : Row) → at < length rows → end ≤ (get_or rows at d).first → next ≡ suc ((get_or rows at d).first + (get_or rows at d).more)
    → Rises rows at end → Rises rows (at + 1) next
rises_next rows at end next d lt le is h g =
    h (subst (λ rs. Rising end (row_views rs)) (sym (drop_more rows at d lt)) (le, subst (λ n. Rising n (row_views (drop (at + 1) rows))) is g))

pub rises_end : (rows : List Row) (at end : ℕ) → length rows ≤ at → Rises rows at end → Rising 0 (row_views rows)
rises_end rows at end le h = h (subst (λ rs. Rising end (row_views rs)) (sym (drop_all at rows le)) tt)

-- the sums with what the rows from a place on add
abbrev pub with_rows : (sums : ℕ → ℕ) → (rows : List Row) → (bytes at : ℕ) → ℕ → ℕ
with_rows sums rows bytes at k = sums k + (if is_one_of (numbers_in (row_views (drop at rows))) k then bytes else 0)

pub rows_first : (sums : ℕ → ℕ) (rows : List Row) (bytes n : ℕ) (ends : List ℕ) → n ≡ length rows → EndSums sums ends → EndSums (with_rows sums rows bytes n) ends
rows_first sums rows bytes n ends e h k =
    let z : sums k ≡ sums k + 0 = omega arith in
    h k ∙ ap (λ x. x % 2 ^ 32) (z ∙ ap (λ rs. sums k + (if is_one_of (numbers_in (row_views rs)) k then bytes else 0)) (sym (drop_all n rows (omega (arith, e)))))

pub rows_next : (sums : ℕ → ℕ) (rows : List Row) (bytes left : ℕ) (d : Row) (old new : List ℕ) → 0 < left → left ≤ length rows → Rising 0 (row_views rows)
    → ((k : ℕ) → up_to k new % 2 ^ 32 ≡ (up_to k old + (if is_one_of (upto (get_or rows (left - 1) d).first (get_or rows (left - 1) d).more) k then bytes else 0)) % 2 ^ 32)
    → EndSums (with_rows sums rows bytes left) old → EndSums (with_rows sums rows bytes (left - 1)) new
rows_next sums rows bytes left d old new some le rise more h k = by (is_one_of own k) (is_one_of rest k) refl refl
  where
    lt : left - 1 < length rows
    lt = omega (arith, some, le)

    next : suc (left - 1) ≡ left
    next = omega (arith, some)

    plus : left - 1 + 1 ≡ left
    plus = omega (arith, some)

    r : Row
    r = get_or rows (left - 1) d

    own : List ℕ
    own = upto r.first r.more

    rest : List ℕ
    rest = numbers_in (row_views (drop left rows))

    split : is_one_of (numbers_in (row_views (drop (left - 1) rows))) k ≡ (is_one_of own k || is_one_of rest k)
    split = ap (λ rs. is_one_of (numbers_in (row_views rs)) k) (drop_more rows (left - 1) d lt) ∙ ap (λ n. is_one_of (own ++ numbers_in (row_views (drop n rows))) k) plus ∙ either_of own rest k

    apart : Rising (suc (r.first + r.more)) (row_views (drop left rows))
    apart = subst (λ n. Rising (suc (r.first + r.more)) (row_views (drop n rows))) next (rising_at 0 rows (left - 1) d lt rise)

    goal_is : (c : Bool) (n : ℕ) → (is_one_of own k || is_one_of rest k) ≡ c → (if c then bytes else 0) ≡ n → up_to k new % 2 ^ 32 ≡ (sums k + n) % 2 ^ 32
        → up_to k new % 2 ^ 32 ≡ with_rows sums rows bytes (left - 1) k % 2 ^ 32
    goal_is c n e q g = g ∙ ap (λ x. (sums k + x) % 2 ^ 32) (sym q ∙ ap (λ b. if b then bytes else 0) (sym (split ∙ e)))

    by : (a b : Bool) → is_one_of own k ≡ a → is_one_of rest k ≡ b → up_to k new % 2 ^ 32 ≡ with_rows sums rows bytes (left - 1) k % 2 ^ 32
    by true b ea eb =
        let past = inside (nat_le k (r.first + r.more)) refl ea in
        let none = rising_below (suc (r.first + r.more)) (row_views (drop left rows)) k past apart in
        let m = more k ∙ ap (λ c. (up_to k old + (if c then bytes else 0)) % 2 ^ 32) ea in
        let g = h k ∙ ap (λ c. (sums k + (if c then bytes else 0)) % 2 ^ 32) none in
        goal_is true bytes (ap (λ c. c || is_one_of rest k) ea) refl (omega (arith, m, g))
      where
        inside : (c : Bool) → nat_le k (r.first + r.more) ≡ c → is_one_of own k ≡ true → k < suc (r.first + r.more)
        inside true e q = let l = leb-true k (r.first + r.more) e in omega (arith, l)
        inside false e q = let l = leb-false k (r.first + r.more) e in let f = row_high r.first r.more k l in cc
    by false true ea eb =
        let m = more k ∙ ap (λ c. (up_to k old + (if c then bytes else 0)) % 2 ^ 32) ea in
        let g = h k ∙ ap (λ c. (sums k + (if c then bytes else 0)) % 2 ^ 32) eb in
        goal_is true bytes (ap (λ c. c || is_one_of rest k) ea ∙ eb) refl (omega (arith, m, g))
    by false false ea eb =
        let m = more k ∙ ap (λ c. (up_to k old + (if c then bytes else 0)) % 2 ^ 32) ea in
        let g = h k ∙ ap (λ c. (sums k + (if c then bytes else 0)) % 2 ^ 32) eb in
        goal_is false 0 (ap (λ c. c || is_one_of rest k) ea ∙ eb) refl (omega (arith, m, g))

pub rows_last : (sums : ℕ → ℕ) (rows : List Row) (bytes left : ℕ) (ends : List ℕ) → left ≡ 0 → EndSums (with_rows sums rows bytes left) ends
    → EndSums (λ k. sums k + (if is_one_of (numbers_in (row_views rows)) k then bytes else 0)) ends
rows_last sums rows bytes left ends z h = subst (λ n. EndSums (with_rows sums rows bytes n) ends) z h

-- ---- both together

pub added_begin : (sums : ℕ → ℕ) (sizes : List OwnSize) (ends : List ℕ) (n : ℕ) → ends ≡ replicate n 0 → ((k : ℕ) → sums k ≡ 0) → Sums sums 0 sizes → Added sums 0 sizes ends
added_begin sums sizes ends n e none h = record {
  own = sums;
  more = λ k. 0;
  slow = h;
  fast = λ k. let s = ap (up_to k) e ∙ sum_none n (suc k) in ap (λ x. x % 2 ^ 32) s;
  are = λ k. omega arith;
}

-- told otherwise
pub added_same : (sums sums2 : ℕ → ℕ) (last next : ℕ) (sizes : List OwnSize) (ends : List ℕ) → ((k : ℕ) → sums k ≡ sums2 k) → last ≤ next → Added sums last sizes ends → Added sums2 next sizes ends
added_same sums sums2 last next sizes ends same le h = record {
  own = h.own;
  more = h.more;
  slow = record { size = h.slow.size; within = λ k. let w = h.slow.within k in omega (arith, le, w) };
  fast = h.fast;
  are = λ k. h.are k ∙ same k;
}

-- at ends
pub added_fast : (sums plus : ℕ → ℕ) (last next : ℕ) (sizes : List OwnSize) (old new : List ℕ) → last ≤ next → ((f : ℕ → ℕ) → EndSums f old → EndSums (λ k. f k + plus k) new)
    → Added sums last sizes old → Added (λ k. sums k + plus k) next sizes new
added_fast sums plus last next sizes old new le step h = record {
  own = h.own;
  more = λ k. h.more k + plus k;
  slow = record { size = h.slow.size; within = λ k. let w = h.slow.within k in omega (arith, le, w) };
  fast = step h.more h.fast;
  are = λ k. let e = h.are k in omega (arith, e);
}

-- call by call
pub added_slow : (sums plus : ℕ → ℕ) (last next : ℕ) (old new : List OwnSize) (ends : List ℕ) → ((f : ℕ → ℕ) → Sums f last old → Sums (λ k. f k + plus k) next new)
    → Added sums last old ends → Added (λ k. sums k + plus k) next new ends
added_slow sums plus last next old new ends step h = record {
  own = λ k. h.own k + plus k;
  more = h.more;
  slow = step h.own h.slow;
  fast = h.fast;
  are = λ k. let e = h.are k in omega (arith, e);
}

pub added_end : (sums weights : ℕ → ℕ) (last : ℕ) (old new : List OwnSize) (ends : List ℕ) (k : ℕ) → sums k ≡ weights k → size_in new k ≡ (size_in old k + up_to k ends) % 2 ^ 32
    → Added sums last old ends → size_in new k ≡ weights k % 2 ^ 32
added_end sums weights last old new ends k same is h =
    let s = h.slow.size k in let f = h.fast k in let e = h.are k in omega (arith, same, is, s, f, e)

-- ---- summed up

-- What has been summed up so far: of the calls below this one.
pub record SummedUp (old : List OwnSize) (ends : List ℕ) (call more : ℕ) (new : List OwnSize) : Type 0 where
  pub length_is : length new ≡ length old
  pub told : more ≡ first_sum call ends % 2 ^ 32
  pub done : (k : ℕ) → k < call → size_in new k ≡ (size_in old k + up_to k ends) % 2 ^ 32
  pub rest : (k : ℕ) → call ≤ k → size_in new k ≡ size_in old k

zero_sum : (es : List ℕ) → first_sum 0 es ≡ 0
zero_sum [] = refl
zero_sum (e ∷ es) = refl

pub summed_first : (old : List OwnSize) (ends : List ℕ) → SummedUp old ends 0 0 old
summed_first old ends = record {
  length_is = refl;
  told = let z = zero_sum ends in omega (arith, z);
  done = λ k lt. absurd (omega (arith, lt));
  rest = λ k le. refl;
}

pub summed_next : (old : List OwnSize) (ends : List ℕ) (call more next : ℕ) (new : List OwnSize) (size d : OwnSize) (e : ℕ) → call < length old → length old ≤ length ends
    → next ≡ (more + get_or ends call e) % 2 ^ 32 → size.bytes ≡ ((get_or new call d).bytes + next) % 2 ^ 32 → SummedUp old ends call more new
    → SummedUp old ends (call + 1) next (set new call size)
summed_next old ends call more next new size d e lt within more_is is h = record {
  length_is = length-set new call size ∙ h.length_is;
  told = omega (arith, now, plus_is);
  done = λ k below. at k below (nat_eq k call) refl;
  rest = λ k le. other k (let n : (k ≡ call → ⊥) = (λ q. omega (arith, q, le)) in ne_eqb k call n) ∙ h.rest k (omega (arith, le));
}
  where
    there : call < length new
    there = let n = h.length_is in omega (arith, n, lt)

    now : next ≡ first_sum (suc call) ends % 2 ^ 32
    now = let t = h.told in let n = sum_next ends call e (omega (arith, lt, within)) in omega (arith, more_is, t, n)

    plus_is : first_sum (call + 1) ends ≡ first_sum (suc call) ends
    plus_is = let z : call + 1 ≡ suc call = omega arith in ap (λ n. first_sum n ends) z

    other : (k : ℕ) → nat_eq k call ≡ false → size_in (set new call size) k ≡ size_in new k
    other k q = ap (λ (s : OwnSize). s.bytes) (get_or-set_other new call k size no_size (eqb-false k call q))

    own : size.bytes ≡ (size_in old call + up_to call ends) % 2 ^ 32
    own =
        let g = ap (λ (s : OwnSize). s.bytes) (got_same new call d no_size there) in
        let r = h.rest call (omega arith) in omega (arith, is, g, r, now)

    at : (k : ℕ) → k < call + 1 → (b : Bool) → nat_eq k call ≡ b → size_in (set new call size) k ≡ (size_in old k + up_to k ends) % 2 ^ 32
    at k below true q =
        ap (λ j. size_in (set new call size) j) (eqb-true k call q) ∙ ap (λ (s : OwnSize). s.bytes) (get_or-set_same new call size no_size there) ∙ own
        ∙ ap (λ j. (size_in old j + up_to j ends) % 2 ^ 32) (sym (eqb-true k call q))
    at k below false q = let n = eqb-false k call q in other k q ∙ h.done k (omega (arith, below, n))

pub summed_end : (old : List OwnSize) (ends : List ℕ) (call more : ℕ) (new : List OwnSize) → length old ≤ call → SummedUp old ends call more new
    → (k : ℕ) → k < length old → size_in new k ≡ (size_in old k + up_to k ends) % 2 ^ 32
summed_end old ends call more new le h k lt = h.done k (omega (arith, le, lt))
