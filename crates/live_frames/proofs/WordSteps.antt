-- What tests by words are made of, loop by loop.
use Rattle.std.proofs.Common.{◌≡◌, ℕ, zero, suc, ◌+◌, ◌-◌, ◌*◌, ◌^◌, ◌<◌, ◌≤◌, List, [], ◌∷◌, ◌++◌, length, drop, get_or, set, subst, Bool, true, false, nat_eq, ◌&&◌}
use Rattle.std.proofs.Common.{refl, sym, ap, ◌∙◌, arith, eqb-true, leb-true, leb-false, le-leb, get_or-set_same, get_or-set_other, pow_mono}
use Rattle.std.specs.Prelude.{◌||◌, nat_le, replicate, if◌then◌else◌}
use Rattle.std.proofs.lemmas.Bool.{eqb-false, lt-leb}
use Rattle.std.proofs.lemmas.List.{drop_all, drop_more}
use Rattle.wa_types.specs.declared.instrs.Instr.{Instr}
use Rattle.wa_types.specs.declared.instrs.Instr.TheVariants.{Select}
use Rattle.wa_types.specs.declared.operators.NumOp.TheVariants.{I32LtU}
use Rattle.wa_types.specs.declared.values.Value.TheVariants as V
use Rattle.wa_types.specs.Syntax.{const, num, select, basic, local_get, Code, plain}
use Rattle.wa_types.specs.View.{in_front, onto}
use Rattle.local_spill.specs.Putting.{Puts}
use Rattle.call_frames.specs.CallRows.{numbers_in, row_views, upto}
use Rattle.call_frames.specs.declared.rows.Row.{Row}
use Rattle.live_frames.specs.Rows.{Tells}
use Rattle.call_frames.specs.CallWords.{at_words, bit_taken, bits_from, word_of, words_chosen}
use Rattle.call_frames.specs.PlainFrames.{at_calls, at_rows, by_words, calls_end, calls_test, is_one_of, rows_of, words_behind}
use Rattle.call_frames.proofs.PlainBounds.{words_are_few}
use Rattle.call_frames.proofs.WordsTold.{bits_small}

-- ---- the choice

pub words_few : (calls : List ℕ) → by_words calls ≡ true → words_behind calls ≤ 1000
words_few calls e = words_are_few calls e

pub words_put : (old new : List Instr) (index : ℕ) (calls : List ℕ) → by_words calls ≡ true → Puts old new (at_words index (is_one_of calls) (words_behind calls)) → Puts old new (at_calls index calls)
words_put old new index calls e h rest = h rest ∙ ap (λ b. onto old (calls_test b index calls rest)) (sym e)

pub rows_put : (old new : List Instr) (index : ℕ) (calls : List ℕ) → by_words calls ≡ false → Puts old new (at_rows index (rows_of calls)) → Puts old new (at_calls index calls)
rows_put old new index calls e h rest = h rest ∙ ap (λ b. onto old (calls_test b index calls rest)) (sym e)

-- many words
pub many_words : (calls : List ℕ) (n : ℕ) → n ≡ words_behind calls → 1000 < n → false ≡ by_words calls
many_words calls n e lt = sym (ap (λ b. b && nat_le (2 * words_behind calls + 2) (length (rows_of calls))) (lt-leb (words_behind calls) 1000 (omega (arith, e, lt))))

-- few words, and so many rows
pub few_words : (calls : List ℕ) (n : ℕ) → n ≡ words_behind calls → n ≤ 1000 → nat_le (2 * n + 2) (length (rows_of calls)) ≡ by_words calls
few_words calls n e le =
    ap (λ k. nat_le (2 * k + 2) (length (rows_of calls))) e
    ∙ sym (ap (λ b. b && nat_le (2 * words_behind calls + 2) (length (rows_of calls))) (le-leb (words_behind calls) 1000 (omega (arith, e, le))))

-- ---- the end of calls

pub end_first : (rows : List Row) (n : ℕ) → n ≡ length rows → 0 ≡ calls_end (numbers_in (row_views (drop n rows)))
end_first rows n e = sym (ap (λ rs. calls_end (numbers_in (row_views rs))) (drop_all n rows (omega (arith, e))))

-- a row in front of other calls
row_end : (k n : ℕ) (ks : List ℕ) → calls_end (upto k n ++ ks) ≡ (if nat_le (calls_end ks) (k + n) then suc (k + n) else calls_end ks)
row_end k zero ks = let z : k ≡ k + 0 = omega arith in ap (λ m. if nat_le (calls_end ks) m then suc m else calls_end ks) z
row_end k (suc n) ks =
    let z : suc k + n ≡ k + suc n = omega arith in
    let e = calls_end (upto (suc k) n ++ ks) in
    let ih = row_end (suc k) n ks in
    let above = by (nat_le (calls_end ks) (suc k + n)) refl in
    ap (λ b. if b then suc k else e) (lt-leb e k (omega (arith, ih, above))) ∙ ih ∙ ap (λ m. if nat_le (calls_end ks) m then suc m else calls_end ks) z
  where
    by : (b : Bool) → nat_le (calls_end ks) (suc k + n) ≡ b → k < (if b then suc (suc k + n) else calls_end ks)
    by true e = omega arith
    by false e = let lt = leb-false (calls_end ks) (suc k + n) e in omega (arith, lt)

pub end_next : (rows : List Row) (left end : ℕ) (d : Row) → 0 < left → left ≤ length rows → end ≡ calls_end (numbers_in (row_views (drop left rows)))
    → (if nat_le end ((get_or rows (left - 1) d).first + (get_or rows (left - 1) d).more) then suc ((get_or rows (left - 1) d).first + (get_or rows (left - 1) d).more) else end)
    ≡ calls_end (numbers_in (row_views (drop (left - 1) rows)))
end_next rows left end d some le e =
    let lt : left - 1 < length rows = omega (arith, some, le) in
    let back : left ≡ (left - 1) + 1 = omega (arith, some) in
    let r = get_or rows (left - 1) d in
    let others = numbers_in (row_views (drop (left - 1 + 1) rows)) in
    ap (λ x. if nat_le x (r.first + r.more) then suc (r.first + r.more) else x) (e ∙ ap (λ n. calls_end (numbers_in (row_views (drop n rows)))) back)
    ∙ sym (row_end r.first r.more others) ∙ sym (ap (λ rs. calls_end (numbers_in (row_views rs))) (drop_more rows (left - 1) d lt))

pub end_last : (rows : List Row) (n end : ℕ) → n ≡ 0 → end ≡ calls_end (numbers_in (row_views (drop n rows))) → end ≡ calls_end (numbers_in (row_views rows))
end_last rows n end z e = e ∙ ap (λ k. calls_end (numbers_in (row_views (drop k rows)))) z

-- .. ends below all of them
row_below : (k n : ℕ) (ks : List ℕ) → (k + n < calls_end (upto k n ++ ks)) × (calls_end ks ≤ calls_end (upto k n ++ ks))
row_below k n ks = let e = row_end k n ks in let b = by (nat_le (calls_end ks) (k + n)) refl in (omega (arith, e, b.0), omega (arith, e, b.1))
  where
    by : (b : Bool) → nat_le (calls_end ks) (k + n) ≡ b → (k + n < (if b then suc (k + n) else calls_end ks)) × (calls_end ks ≤ (if b then suc (k + n) else calls_end ks))
    by true e = let le = leb-true (calls_end ks) (k + n) e in (omega arith, omega (arith, le))
    by false e = let lt = leb-false (calls_end ks) (k + n) e in (omega (arith, lt), omega arith)

pub rows_below : (rows : List Row) (i : ℕ) (d : Row) → i < length rows → (get_or rows i d).first + (get_or rows i d).more < calls_end (numbers_in (row_views rows))
rows_below [] i d lt = absurd (omega (arith, lt))
rows_below (r ∷ rs) zero d lt = (row_below r.first r.more (numbers_in (row_views rs))).0
rows_below (r ∷ rs) (suc i) d lt =
    let ih = rows_below rs i d (omega (arith, lt)) in
    let t = (row_below r.first r.more (numbers_in (row_views rs))).1 in omega (arith, ih, t)

-- ---- which calls

none_told : (n j : ℕ) → get_or (replicate n false) j false ≡ false
none_told zero j = refl
none_told (suc n) zero = refl
none_told (suc n) (suc j) = none_told n j

pub tells_first : (told : List Bool) (rows : List Row) (count n : ℕ) → told ≡ replicate count false → n ≡ length rows → Tells told (numbers_in (row_views (drop n rows)))
tells_first told rows count n e m j =
    ap (λ t. get_or t j false) e ∙ none_told count j ∙ sym (ap (λ rs. is_one_of (numbers_in (row_views rs)) j) (drop_all n rows (omega (arith, m))))

tells_more : (told : List Bool) (call : ℕ) (calls : List ℕ) → call < length told → Tells told calls → Tells (set told call true) (call ∷ calls)
tells_more told call calls within h j = by (nat_eq j call) refl
  where
    by : (b : Bool) → nat_eq j call ≡ b → get_or (set told call true) j false ≡ (b || is_one_of calls j)
    by true e = ap (λ n. get_or (set told call true) n false) (eqb-true j call e) ∙ get_or-set_same told call true false within
    by false e = get_or-set_other told call j true false (eqb-false j call e) ∙ h j

-- the numbers of a row from a place on, and one more in front
upto_front : (k n i : ℕ) → i ≤ n → drop i (upto k n) ≡ (k + i) ∷ drop (suc i) (upto k n)
upto_front k zero zero le = let z : k ≡ k + 0 = omega arith in ap (λ j. j ∷ []) z
upto_front k zero (suc i) le = absurd (omega (arith, le))
upto_front k (suc n) zero le = let z : k ≡ k + 0 = omega arith in ap (λ j. j ∷ upto (suc k) n) z
upto_front k (suc n) (suc i) le = let z : suc k + i ≡ k + suc i = omega arith in upto_front (suc k) n i (omega (arith, le)) ∙ ap (λ j. j ∷ drop (suc i) (upto (suc k) n)) z

pub row_front : (k n left : ℕ) (others : List ℕ) → 0 < left → left ≤ n + 1 → (k + (left - 1)) ∷ (drop left (upto k n) ++ others) ≡ drop (left - 1) (upto k n) ++ others
row_front k n left others some le =
    let back : suc (left - 1) ≡ left = omega (arith, some) in
    ap (λ i. (k + (left - 1)) ∷ (drop i (upto k n) ++ others)) (sym back) ∙ ap (λ js. js ++ others) (sym (upto_front k n (left - 1) (omega (arith, some, le))))

upto_size : (k n : ℕ) → length (upto k n) ≡ suc n
upto_size k zero = refl
upto_size k (suc n) = ap suc (upto_size (suc k) n)

-- nothing of a row, and all of it
pub row_none : (k n : ℕ) (others : List ℕ) → others ≡ drop (n + 1) (upto k n) ++ others
row_none k n others = let l = upto_size k n in ap (λ js. js ++ others) (sym (drop_all (n + 1) (upto k n) (omega (arith, l))))

pub row_whole : (k n left : ℕ) (others : List ℕ) → left ≡ 0 → drop left (upto k n) ++ others ≡ upto k n ++ others
row_whole k n left others z = ap (λ i. drop i (upto k n) ++ others) z

pub tells_next : (told : List Bool) (k n left : ℕ) (others : List ℕ) → 0 < left → left ≤ n + 1 → k + (left - 1) < length told → Tells told (drop left (upto k n) ++ others)
    → Tells (set told (k + (left - 1)) true) (drop (left - 1) (upto k n) ++ others)
tells_next told k n left others some le within h =
    subst (Tells (set told (k + (left - 1)) true)) (row_front k n left others some le) (tells_more told (k + (left - 1)) (drop left (upto k n) ++ others) within h)

-- the rows from a place on, and one more in front
pub rows_front : (rows : List Row) (left : ℕ) (d : Row) → 0 < left → left ≤ length rows
    → upto (get_or rows (left - 1) d).first (get_or rows (left - 1) d).more ++ numbers_in (row_views (drop left rows)) ≡ numbers_in (row_views (drop (left - 1) rows))
rows_front rows left d some le =
    let lt : left - 1 < length rows = omega (arith, some, le) in
    let back : left ≡ (left - 1) + 1 = omega (arith, some) in
    let r = get_or rows (left - 1) d in
    ap (λ n. upto r.first r.more ++ numbers_in (row_views (drop n rows))) back ∙ ap (λ rs. numbers_in (row_views rs)) (sym (drop_more rows (left - 1) d lt))

pub rows_whole : (rows : List Row) (left : ℕ) → left ≡ 0 → numbers_in (row_views (drop left rows)) ≡ numbers_in (row_views rows)
rows_whole rows left z = ap (λ n. numbers_in (row_views (drop n rows))) z

-- ---- words

pub bits_next : (calls : ℕ → Bool) (first left word b : ℕ) (told : Bool) → 0 < left → left ≤ 64 → word ≡ bits_from calls (first + left) (64 - left) → told ≡ calls (first + (left - 1))
    → b ≡ (if told then 1 else 0) → 2 * word + b ≡ bits_from calls (first + (left - 1)) (64 - (left - 1))
bits_next calls first left word b told some le e is eb =
    let at : first + left ≡ suc (first + (left - 1)) = omega (arith, some) in
    let many : 64 - (left - 1) ≡ suc (64 - left) = omega (arith, some, le) in
    let w : word ≡ bits_from calls (suc (first + (left - 1))) (64 - left) = e ∙ ap (λ k. bits_from calls k (64 - left)) at in
    let bit : b ≡ (if calls (first + (left - 1)) then 1 else 0) = eb ∙ ap (λ t. if t then 1 else 0) is in
    let sum : 2 * word + b ≡ bits_from calls (first + (left - 1)) (suc (64 - left)) = omega (arith, w, bit) in
    sum ∙ ap (bits_from calls (first + (left - 1))) (sym many)

-- fewer bits are below half of 2 ^ 64
pub half_below : (calls : ℕ → Bool) (k n m : ℕ) → n ≤ 63 → m ≡ bits_from calls k n → 2 * m < 2 ^ 64
half_below calls k n m le e = let s = bits_small calls k n in let p : 2 ^ n ≤ 2 ^ 63 = pow_mono le in omega (arith, s, p, e)

-- so many bits are below 2 ^ 64
pub bits_below : (calls : ℕ → Bool) (k n m : ℕ) → n ≤ 64 → m ≡ bits_from calls k n → m < 2 ^ 64
bits_below calls k n m le e = let s = bits_small calls k n in let p : 2 ^ n ≤ 2 ^ 64 = pow_mono le in omega (arith, s, p, e)

pub bits_last : (calls : ℕ → Bool) (q left word : ℕ) → left ≡ 0 → word ≡ bits_from calls (64 * q + left) (64 - left) → word ≡ word_of calls q
unfolding word_of
bits_last calls q left word z e =
    let at : 64 * q + left ≡ 64 * q = omega (arith, z) in
    let many : 64 - left ≡ 64 = omega (arith, z) in
    e ∙ ap (λ k. bits_from calls k (64 - left)) at ∙ ap (bits_from calls (64 * q)) many

-- the word of what is told is that of the calls
pub word_is : (told : List Bool) (calls : List ℕ) (q word : ℕ) → Tells told calls → word ≡ word_of (λ j. get_or told j false) q → word ≡ word_of (is_one_of calls) q
word_is told calls q word h e = e ∙ ap (λ (f : ℕ → Bool). word_of f q) (λ i j. h j i)

pub select_is : (rest : Code) → in_front Select rest ≡ plain (basic select) rest
unfolding in_front
select_is rest = refl

-- What is put, with so many words from this one on, is the first word and all others.
abbrev pub OwesWords : (old new : List Instr) → (index : ℕ) → (calls : List ℕ) → (word left : ℕ) → Type 0
OwesWords old new index calls q left =
    (rest : Code) → onto new (words_chosen index (is_one_of calls) q left rest)
    ≡ onto old (plain (basic (const (V.I64 (word_of (is_one_of calls) 0)))) (words_chosen index (is_one_of calls) 1 (words_behind calls) rest))

pub words_first : (old new : List Instr) (index : ℕ) (calls : List ℕ) (word left : ℕ) → word ≡ word_of (is_one_of calls) 0 → left ≡ words_behind calls
    → Puts old new (λ c. plain (basic (const (V.I64 word))) c) → OwesWords old new index calls 1 left
words_first old new index calls word left e n h rest =
    h (words_chosen index (is_one_of calls) 1 left rest)
    ∙ ap (λ w. onto old (plain (basic (const (V.I64 w))) (words_chosen index (is_one_of calls) 1 left rest))) e
    ∙ ap (λ k. onto old (plain (basic (const (V.I64 (word_of (is_one_of calls) 0)))) (words_chosen index (is_one_of calls) 1 k rest))) n

pub words_next : (old mid new : List Instr) (index : ℕ) (calls : List ℕ) (q left word : ℕ) → 0 < left → word ≡ word_of (is_one_of calls) q
    → Puts mid new (λ c. plain (basic (const (V.I64 word))) (plain (local_get index) (plain (basic (const (V.I32 (64 * q)))) (plain (basic (num I32LtU)) (plain (basic select) c)))))
    → OwesWords old mid index calls q left → OwesWords old new index calls (q + 1) (left - 1)
words_next old mid new index calls q zero word some e h o rest = absurd (omega (arith, some))
words_next old mid new index calls q (suc left) word some e h o rest =
    let next : q + 1 ≡ suc q = omega arith in
    let w : ℕ → Code → Code = λ v c. plain (basic (const (V.I64 v))) (plain (local_get index) (plain (basic (const (V.I32 (64 * q)))) (plain (basic (num I32LtU)) (plain (basic select) c)))) in
    let back : suc left - 1 ≡ left = omega arith in
    ap (λ n. onto new (words_chosen index (is_one_of calls) (q + 1) n rest)) back ∙ h (words_chosen index (is_one_of calls) (q + 1) left rest)
    ∙ ap (λ k. onto mid (w word (words_chosen index (is_one_of calls) k left rest))) next
    ∙ ap (λ v. onto mid (w v (words_chosen index (is_one_of calls) (suc q) left rest))) e
    ∙ o rest

pub words_last : (old mid new : List Instr) (index : ℕ) (calls : List ℕ) (q left : ℕ) → left ≡ 0 → Puts mid new (bit_taken index) → OwesWords old mid index calls q left
    → Puts old new (at_words index (is_one_of calls) (words_behind calls))
words_last old mid new index calls q left z h o rest =
    h rest ∙ ap (λ n. onto mid (words_chosen index (is_one_of calls) q n (bit_taken index rest))) (sym z) ∙ o (bit_taken index rest)
