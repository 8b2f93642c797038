-- Sizes that are added up call by call, and the calls of their binary digits, loop by loop.
use Rattle.std.proofs.Common.{◌≡◌, ℕ, zero, suc, ◌+◌, ◌-◌, ◌*◌, ◌/◌, ◌%◌, ◌^◌, ◌<◌, ◌≤◌, List, [], ◌∷◌, ◌++◌, length, drop, get_or, set, Bool, true, false, nat_eq, refl, sym, ap, ◌∙◌, subst, arith, eq-eqb, eqb-true, get_or-set_same, get_or-set_other, append_assoc, append-nil, pow_mono}
use Rattle.std.specs.Prelude.{◌||◌, replicate, if◌then◌else◌}
use Rattle.std.specs.Int.{bit_at}
use Rattle.std.proofs.lemmas.Bool.{eqb-false, ne_eqb}
use Rattle.std.proofs.lemmas.Nat.Bits.{bit_at_cat_low}
use Rattle.std.proofs.Math.Nat.{div-add-mod', mod-eq_of_lt}
use Rattle.call_frames.specs.PlainFrames.{by_digits, calls_with, digits_of, is_one_of, planes, test_size, WeighedCalls, weight_at, weights_end, weights_size, with_weight}
use Rattle.call_frames.proofs.PlainBounds.{calls_less, test_few}
use Rattle.live_frames.specs.declared.digits.OwnSize.{OwnSize}
use Rattle.call_frames.specs.CallRows.{upto}
use Rattle.live_frames.proofs.WordSteps.{row_front}
use Rattle.live_frames.specs.Digits.{HoldSums, no_size, size_in, summed, Sums}

-- ---- sums

none_at : (n k : ℕ) → get_or (replicate n no_size) k no_size ≡ no_size
none_at zero k = refl
none_at (suc n) zero = refl
none_at (suc n) (suc k) = none_at n k

-- nothing is added yet
pub sums_begin : (sums : ℕ → ℕ) (sizes : List OwnSize) (n : ℕ) → sizes ≡ replicate n no_size → ((k : ℕ) → sums k ≡ 0) → Sums sums 0 sizes
sums_begin sums sizes n e none = record {
  size = λ k. ap (λ (xs : List OwnSize). size_in xs k) e ∙ ap (λ (s : OwnSize). s.bytes) (none_at n k) ∙ ap (λ x. x % 2 ^ 32) (sym (none k));
  within = λ k. let z = ap (λ (xs : List OwnSize). (get_or xs k no_size).part) e ∙ ap (λ (s : OwnSize). s.part) (none_at n k) in omega (arith, z);
}

pub sums_later : (sums : ℕ → ℕ) (last next : ℕ) (sizes : List OwnSize) → last ≤ next → Sums sums last sizes → Sums sums next sizes
sums_later sums last next sizes le h = record { size = h.size; within = λ k. let w = h.within k in omega (arith, le, w) }

-- none of a part's calls has its bytes yet
pub holds_begin : (sums : ℕ → ℕ) (bytes last part : ℕ) (sizes : List OwnSize) → last < part → Sums sums last sizes → HoldSums sums bytes part [] sizes
holds_begin sums bytes last part sizes lt h = record {
  size = λ k. let z : sums k ≡ sums k + 0 = omega arith in h.size k ∙ ap (λ x. x % 2 ^ 32) z;
  told = λ k. let w = h.within k in ne_eqb (get_or sizes k no_size).part part (λ e. omega (arith, lt, w, e));
  within = λ k. let w = h.within k in omega (arith, lt, w);
}

pub holds_end : (sums : ℕ → ℕ) (bytes part : ℕ) (named : List ℕ) (sizes : List OwnSize) → HoldSums sums bytes part named sizes
    → Sums (λ k. sums k + (if is_one_of named k then bytes else 0)) part sizes
holds_end sums bytes part named sizes h = record { size = h.size; within = h.within }

pub got_same : (xs : List OwnSize) (i : ℕ) (d e : OwnSize) → i < length xs → get_or xs i d ≡ get_or xs i e
got_same [] i d e lt = absurd (omega (arith, lt))
got_same (x ∷ xs) zero d e lt = refl
got_same (x ∷ xs) (suc i) d e lt = got_same xs i d e (omega (arith, lt))

-- A size with a part's bytes, by whether they are in it.
pub record IsSummed (sum more number : ℕ) (new : OwnSize) : Type 0 where
  pub size : new.bytes ≡ (sum + more) % 2 ^ 32
  pub told : nat_eq new.part number ≡ true
  pub within : new.part ≤ number

summed_is : (sum bytes part : ℕ) (size : OwnSize) (told : Bool) → size.bytes ≡ (sum + (if told then bytes else 0)) % 2 ^ 32 → nat_eq size.part part ≡ told → size.part ≤ part
    → IsSummed sum bytes part (summed bytes part size)
summed_is sum bytes part size true is told within =
    subst (λ (s : OwnSize). IsSummed sum bytes part s) (ap (λ b. if b then size else record { bytes = (size.bytes + bytes) % 2 ^ 32; part = part }) (sym told))
    (record { size = is; told = told; within = within })
summed_is sum bytes part size false is told within =
    subst (λ (s : OwnSize). IsSummed sum bytes part s) (ap (λ b. if b then size else record { bytes = (size.bytes + bytes) % 2 ^ 32; part = part }) (sym told))
    (record { size = omega (arith, is); told = eq-eqb part part refl; within = omega arith })

-- one more of the part's calls
pub holds_next : (sums : ℕ → ℕ) (bytes part : ℕ) (named : List ℕ) (sizes : List OwnSize) (call : ℕ) (size d : OwnSize) → call < length sizes → size ≡ summed bytes part (get_or sizes call d)
    → HoldSums sums bytes part named sizes → HoldSums sums bytes part (call ∷ named) (set sizes call size)
holds_next sums bytes part named sizes call size d lt is h = record {
  size = λ k. size_at k (nat_eq k call) refl;
  told = λ k. told_at k (nat_eq k call) refl;
  within = λ k. within_at k (nat_eq k call) refl;
}
  where
    new : IsSummed (sums call) bytes part size
    new = subst (λ (s : OwnSize). IsSummed (sums call) bytes part s) (sym (is ∙ ap (summed bytes part) (got_same sizes call d no_size lt)))
        (summed_is (sums call) bytes part (get_or sizes call no_size) (is_one_of named call) (h.size call) (h.told call) (h.within call))

    same : (k : ℕ) → nat_eq k call ≡ true → size ≡ get_or (set sizes call size) k no_size
    same k e = sym (ap (λ j. get_or (set sizes call size) j no_size) (eqb-true k call e) ∙ get_or-set_same sizes call size no_size lt)

    other : (k : ℕ) → nat_eq k call ≡ false → get_or sizes k no_size ≡ get_or (set sizes call size) k no_size
    other k e = sym (get_or-set_other sizes call k size no_size (eqb-false k call e))

    size_at : (k : ℕ) (b : Bool) → nat_eq k call ≡ b → size_in (set sizes call size) k ≡ (sums k + (if b || is_one_of named k then bytes else 0)) % 2 ^ 32
    size_at k true e =
        ap (λ (s : OwnSize). s.bytes) (sym (same k e)) ∙ new.size ∙ ap (λ j. (sums j + bytes) % 2 ^ 32) (sym (eqb-true k call e))
    size_at k false e = ap (λ (s : OwnSize). s.bytes) (sym (other k e)) ∙ h.size k

    told_at : (k : ℕ) (b : Bool) → nat_eq k call ≡ b → nat_eq (get_or (set sizes call size) k no_size).part part ≡ (b || is_one_of named k)
    told_at k true e = ap (λ (s : OwnSize). nat_eq s.part part) (sym (same k e)) ∙ new.told
    told_at k false e = ap (λ (s : OwnSize). nat_eq s.part part) (sym (other k e)) ∙ h.told k

    within_at : (k : ℕ) (b : Bool) → nat_eq k call ≡ b → (get_or (set sizes call size) k no_size).part ≤ part
    within_at k true e = subst (λ (s : OwnSize). s.part ≤ part) (same k e) new.within
    within_at k false e = subst (λ (s : OwnSize). s.part ≤ part) (other k e) (h.within k)

-- one more of a row's calls
pub holds_front : (sums : ℕ → ℕ) (bytes part : ℕ) (k n left : ℕ) (others : List ℕ) (sizes : List OwnSize) (size d : OwnSize) → 0 < left → left ≤ n + 1 → k + (left - 1) < length sizes
    → size ≡ summed bytes part (get_or sizes (k + (left - 1)) d) → HoldSums sums bytes part (drop left (upto k n) ++ others) sizes
    → HoldSums sums bytes part (drop (left - 1) (upto k n) ++ others) (set sizes (k + (left - 1)) size)
holds_front sums bytes part k n left others sizes size d some le lt is h =
    subst (λ ks. HoldSums sums bytes part ks (set sizes (k + (left - 1)) size)) (row_front k n left others some le)
    (holds_next sums bytes part (drop left (upto k n) ++ others) sizes (k + (left - 1)) size d lt is h)

-- ---- the calls of a digit

pub calls_next : (number : ℕ → ℕ) (d k n : ℕ) → calls_with number d k (suc n) ≡ calls_with number d k n ++ (if nat_eq (bit_at (number (k + n)) d) 1 then (k + n) ∷ [] else [])
calls_next number d k zero =
    let z : k ≡ k + 0 = omega arith in append-nil (if nat_eq (bit_at (number k) d) 1 then k ∷ [] else []) ∙ ap (λ j. if nat_eq (bit_at (number j) d) 1 then j ∷ [] else []) z
calls_next number d k (suc n) =
    let own : List ℕ = if nat_eq (bit_at (number k) d) 1 then k ∷ [] else [] in
    let z : suc k + n ≡ k + suc n = omega arith in
    let last : List ℕ = if nat_eq (bit_at (number (k + suc n)) d) 1 then (k + suc n) ∷ [] else [] in
    ap (λ ks. own ++ ks) (calls_next number d (suc k) n ∙ ap (λ j. calls_with number d (suc k) n ++ (if nat_eq (bit_at (number j) d) 1 then j ∷ [] else [])) z)
    ∙ sym (append_assoc own (calls_with number d (suc k) n) last)

-- one more call is looked at
pub calls_step : (sizes : List OwnSize) (digit i : ℕ) (d : OwnSize) (told : Bool) (old new : List ℕ) → i < length sizes → told ≡ nat_eq (bit_at (get_or sizes i d).bytes digit) 1
    → old ≡ calls_with (size_in sizes) digit 0 i → new ≡ old ++ (if told then i ∷ [] else []) → new ≡ calls_with (size_in sizes) digit 0 (i + 1)
calls_step sizes digit i d told old new lt is before more =
    let next : suc i ≡ i + 1 = omega arith in
    let z : i ≡ 0 + i = omega arith in
    let t : told ≡ nat_eq (bit_at (size_in sizes i) digit) 1 = is ∙ ap (λ (s : OwnSize). nat_eq (bit_at s.bytes digit) 1) (got_same sizes i d no_size lt) in
    more ∙ ap (λ ks. ks ++ (if told then i ∷ [] else [])) before ∙ ap (λ b. calls_with (size_in sizes) digit 0 i ++ (if b then i ∷ [] else [])) t
    ∙ ap (λ j. calls_with (size_in sizes) digit 0 i ++ (if nat_eq (bit_at (size_in sizes j) digit) 1 then j ∷ [] else [])) z
    ∙ sym (calls_next (size_in sizes) digit 0 i) ∙ ap (calls_with (size_in sizes) digit 0) next

-- ---- digits

front_split : (ks : List ℕ) (n : ℕ) (xs ys : List WeighedCalls) → with_weight ks n (xs ++ ys) ≡ with_weight ks n xs ++ ys
front_split [] n xs ys = refl
front_split (k ∷ ks) n xs ys = refl

pub planes_next : (number : ℕ → ℕ) (end d n : ℕ) → planes number end d (suc n) ≡ planes number end d n ++ with_weight (calls_with number (d + n) 0 end) (2 ^ (d + n)) []
planes_next number end d zero = let z : d ≡ d + 0 = omega arith in ap (λ i. with_weight (calls_with number i 0 end) (2 ^ i) []) z
planes_next number end d (suc n) =
    let ks = calls_with number d 0 end in
    let z : suc d + n ≡ d + suc n = omega arith in
    ap (with_weight ks (2 ^ d)) (planes_next number end (suc d) n ∙ ap (λ i. planes number end (suc d) n ++ with_weight (calls_with number i 0 end) (2 ^ i) []) z)
    ∙ front_split ks (2 ^ d) (planes number end (suc d) n) (with_weight (calls_with number (d + suc n) 0 end) (2 ^ (d + suc n)) [])

-- one more digit
pub planes_step : (number : ℕ → ℕ) (end i bytes : ℕ) (calls : List ℕ) (old new : List WeighedCalls) → calls ≡ calls_with number i 0 end → bytes ≡ 2 ^ i → old ≡ planes number end 0 i
    → new ≡ old ++ with_weight calls bytes [] → new ≡ planes number end 0 (i + 1)
planes_step number end i bytes calls old new is power before more =
    let next : suc i ≡ i + 1 = omega arith in
    let z : i ≡ 0 + i = omega arith in
    more ∙ ap (λ ws. ws ++ with_weight calls bytes []) before ∙ ap (λ ks. planes number end 0 i ++ with_weight ks bytes []) is
    ∙ ap (λ n. planes number end 0 i ++ with_weight (calls_with number i 0 end) n []) power
    ∙ ap (λ j. planes number end 0 i ++ with_weight (calls_with number j 0 end) (2 ^ j) []) z ∙ sym (planes_next number end 0 i) ∙ ap (planes number end 0) next

pub power_of : (i : ℕ) → i < 32 → 1 * 2 ^ i % 2 ^ 32 ≡ 2 ^ i
power_of i lt =
    let le : i ≤ 31 = omega (arith, lt) in
    let p : 2 ^ i ≤ 2 ^ 31 = pow_mono le in
    let z : 1 * 2 ^ i ≡ 2 ^ i = omega arith in
    ap (λ n. n % 2 ^ 32) z ∙ mod-eq_of_lt (omega (arith, p))

low_digit : (x i : ℕ) → i < 32 → bit_at (x % 2 ^ 32) i ≡ bit_at x i
low_digit x i lt = sym (bit_at_cat_low (x / 2 ^ 32) 32 (x % 2 ^ 32) i lt) ∙ ap (λ y. bit_at y i) (div-add-mod' x (2 ^ 32))

calls_same : (f g : ℕ → ℕ) (d k n : ℕ) → d < 32 → ((j : ℕ) → j < k + n → f j ≡ g j % 2 ^ 32) → calls_with f d k n ≡ calls_with g d k n
calls_same f g d k zero lt h = refl
calls_same f g d k (suc n) lt h =
    let bit : bit_at (f k) d ≡ bit_at (g k) d = ap (λ x. bit_at x d) (h k (omega arith)) ∙ low_digit (g k) d lt in
    ap (λ b. (if nat_eq b 1 then k ∷ [] else []) ++ calls_with f d (suc k) n) bit
    ∙ ap (λ ks. (if nat_eq (bit_at (g k) d) 1 then k ∷ [] else []) ++ ks) (calls_same f g d (suc k) n lt (λ j below. h j (omega (arith, below))))

planes_same : (f g : ℕ → ℕ) (end d n : ℕ) → d + n ≤ 32 → ((j : ℕ) → j < end → f j ≡ g j % 2 ^ 32) → planes f end d n ≡ planes g end d n
planes_same f g end d zero le h = refl
planes_same f g end d (suc n) le h =
    ap (λ ks. with_weight ks (2 ^ d) (planes f end (suc d) n)) (calls_same f g d 0 end (omega (arith, le)) (λ j below. h j (omega (arith, below))))
    ∙ ap (with_weight (calls_with g d 0 end) (2 ^ d)) (planes_same f g end (suc d) n (omega (arith, le)) h)

-- all digits of the sums below 2 ^ 32 are those of the sums
pub digits_same : (sizes : List OwnSize) (ws : List WeighedCalls) (end : ℕ) → end ≡ weights_end ws → ((k : ℕ) → k < end → size_in sizes k ≡ weight_at k ws % 2 ^ 32)
    → planes (size_in sizes) end 0 32 ≡ digits_of ws
unfolding by_digits
digits_same sizes ws end e h = planes_same (size_in sizes) (λ k. weight_at k ws) end 0 32 (omega arith) h ∙ ap (λ n. planes (λ k. weight_at k ws) n 0 32) e

pub digits_made : (got sizes : List OwnSize) (ws xs : List WeighedCalls) (end : ℕ) → got ≡ sizes → length sizes ≡ end → end ≡ weights_end ws
    → ((k : ℕ) → k < end → size_in sizes k ≡ weight_at k ws % 2 ^ 32) → xs ≡ planes (size_in got) (length got) 0 32 → xs ≡ digits_of ws
digits_made got sizes ws xs end e n m h is =
    is ∙ ap (λ (ys : List OwnSize). planes (size_in ys) (length ys) 0 32) e ∙ digits_same sizes ws (length sizes) (n ∙ m) (λ k lt. h k (omega (arith, lt, n)))

-- ---- how many instructions they have

length_if : (b : Bool) (k n : ℕ) (ks : List ℕ) → length ks ≤ n → length ((if b then k ∷ [] else []) ++ ks) ≤ suc n
length_if true k n ks le = omega (arith, le)
length_if false k n ks le = omega (arith, le)

length_with : (number : ℕ → ℕ) (d k n : ℕ) → length (calls_with number d k n) ≤ n
length_with number d k zero = omega arith
length_with number d k (suc n) = length_if (nat_eq (bit_at (number k) d) 1) k n (calls_with number d (suc k) n) (length_with number d (suc k) n)

front_size : (ks : List ℕ) (n : ℕ) (ws : List WeighedCalls) → weights_size (with_weight ks n ws) ≤ 4 * length ks + 2 + weights_size ws
front_size [] n ws = omega arith
front_size (k ∷ ks) n ws =
    let a = calls_less (k ∷ ks) in
    let b : test_size (k ∷ ks) + 1 ≤ 4 * length (k ∷ ks) = test_few (k ∷ ks) (omega arith) in
    omega (arith, a, b)

planes_few : (number : ℕ → ℕ) (end d n : ℕ) → end ≤ 4294967296 → weights_size (planes number end d n) ≤ 17179869186 * n
planes_few number end d zero le = omega arith
planes_few number end d (suc n) le =
    let ih = planes_few number end (suc d) n le in
    let f = front_size (calls_with number d 0 end) (2 ^ d) (planes number end (suc d) n) in
    let l = length_with number d 0 end in
    omega (arith, ih, f, l, le)

pub digits_few : (ws : List WeighedCalls) → weights_end ws ≤ 4294967296 → weights_size (digits_of ws) < 2 ^ 64
unfolding by_digits
digits_few ws le = let f = planes_few (λ k. weight_at k ws) (weights_end ws) 0 32 le in omega (arith, f)
