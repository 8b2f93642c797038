-- Numbers as words spell them.
use Rattle.std.proofs.Common.{arith, rules, ◌≡◌, ◌≢◌, ℕ, ◌-◌, ◌^◌, ◌<◌, ◌==◌, Bool, true, false, not, ◌&&◌, nat_le, nat_lt, Option, Some, None, Result, Ok, Err, List, [], ◌∷◌, length, get_or, sym, ap, ◌∙◌, eqb-true, refl, if◌then◌else◌, inl, inr, ◌⊎◌}
use Rattle.std.specs.List.{list_all}
use Rattle.std.specs.Result.{OkIff, result_ok}
use Rattle.std.specs.Str.{bytes_eq}
use Rattle.std.specs.Str.Parse.{ParsesUnsigned}
use Rattle.std.specs.Fmt.{decimal}
use Rattle.std.proofs.lemmas.Bool.{false≢true, le-leb, lt-leb, ltb-true, ltb-false, and_from, and_left, and_right, not-false, eq-eqb, cases_eq}
use Rattle.std.proofs.lemmas.Str.Parse.{IsNumeralModel, numerals_by_fold, parse_plain}
use Rattle.std.proofs.lemmas.Fmt.{decimal-digits_value, first_decimal, decimal_digit}
use Rattle.std.proofs.lemmas.Slice.Eq.{bytes_eq-Decides}
use Rattle.script_model.specs.ScriptLines.{is_digit, digits_value, if_within, number_within, integer_in, negative}
use Rattle.script_reader.specs.Reading.{begins_plainly}

own : IsNumeralModel (λ ds. list_all is_digit ds ≡ true) (digits_value 0)
own = numerals_by_fold _ (search rules) digits_value (search rules)

abbrev most : ℕ
most = 2 ^ 64 - 1

-- a number, where a test of its spelling tells so
abbrev told_by : Bool → ℕ → Option ℕ
told_by t n = if_within 0 most (if t then Some n else None)

abbrev kept : ℕ → Bool → Option ℕ
kept n t = if t then Some n else None

too_great : (t : Bool) (n : ℕ) → most < n → told_by t n ≡ None
too_great true n h = ap (kept n) (and_right (nat_le 0 n) (nat_le n most) (lt-leb n most h))
too_great false n h = refl

small_enough : (n : ℕ) → n < 2 ^ 64 → told_by true n ≡ Some n
small_enough n h = ap (kept n) (and_from (nat_le 0 n) (nat_le n most) (le-leb 0 n (omega arith)) (le-leb n most (omega arith)))

abbrev spelled : List ℕ → Bool
spelled w = bytes_eq (decimal (digits_value 0 w)) w

-- a word that begins plainly, as `parse` reads it
module _ (w : List ℕ) (some : 0 < length w) (plus : get_or w 0 0 ≢ 43) (zero : get_or w 0 0 ≡ 48 → length w ≡ 1) where
  good : (x : ℕ) → list_all is_digit w ≡ true → digits_value 0 w < 2 ^ 64 → x ≡ digits_value 0 w → Some x ≡ number_within 0 most w
  good x d l e =
      ap (λ (n : ℕ). Some n) e
      ∙ sym (ap (λ t. told_by t (digits_value 0 w)) (and_from (list_all is_digit w) (spelled w) d ((bytes_eq-Decides (decimal (digits_value 0 w)) w).1 (decimal-digits_value own w d some zero l)))
      ∙ small_enough (digits_value 0 w) l)

  bad : ((list_all is_digit w ≡ true) × (0 < length w) × (digits_value 0 w < 2 ^ 64) → ⊥) → (t u : Bool) → list_all is_digit w ≡ t → nat_lt (digits_value 0 w) (2 ^ 64) ≡ u
      → None ≡ number_within 0 most w
  bad h false u a b = sym (ap (λ t. told_by t (digits_value 0 w)) (and_left (list_all is_digit w) (spelled w) a))
  bad h true true a b = absurd (h (a, some, ltb-true _ _ b))
  bad h true false a b =
      let l : most < digits_value 0 w = omega (arith, ltb-false _ _ b) in
      sym (too_great (list_all is_digit w && spelled w) (digits_value 0 w) l)

  by_result : {E : Type 0} (r : Result ℕ E) → OkIff r ((list_all is_digit w ≡ true) × (0 < length w) × (digits_value 0 w < 2 ^ 64)) (digits_value 0 w) → result_ok r ≡ number_within 0 most w
  by_result (Ok x) q = good x q.0.0 q.0.2 q.1
  by_result (Err e) q = bad q (list_all is_digit w) (nat_lt (digits_value 0 w) (2 ^ 64)) refl refl

  read_plainly : {E : Type 0} (r : Result ℕ E) → ParsesUnsigned 64 10 w r → result_ok r ≡ number_within 0 most w
  read_plainly r h = by_result r (parse_plain own 64 w r h plus)

abbrev plain_first : List ℕ → ℕ → Bool
plain_first cs c = if c == 48 then length cs == 0 else not (c == 43)

pub parsed : {E : Type 0} (w : List ℕ) (r : Result ℕ E) → begins_plainly w ≡ true → ParsesUnsigned 64 10 w r → result_ok r ≡ number_within 0 most w
parsed [] r b h = absurd (false≢true b)
parsed (c ∷ cs) r b h =
    read_plainly (c ∷ cs) (omega arith)
    (λ e. false≢true (ap (plain_first cs) (sym e) ∙ b))
    (λ e. let none : length cs ≡ 0 = eqb-true (length cs) 0 (ap (plain_first cs) (sym e) ∙ b) in omega (arith, none))
    r h

-- a word that doesn't, and is no number
zero_first : (cs : List ℕ) → (length cs == 0) ≡ false → (t u : Bool) → spelled (48 ∷ cs) ≡ t → nat_lt (digits_value 0 (48 ∷ cs)) (2 ^ 64) ≡ u → None ≡ number_within 0 most (48 ∷ cs)
zero_first cs b false u a l = sym (ap (λ t. told_by t (digits_value 0 (48 ∷ cs))) (and_right (list_all is_digit (48 ∷ cs)) (spelled (48 ∷ cs)) a))
zero_first cs b true false a l =
    let g : most < digits_value 0 (48 ∷ cs) = omega (arith, ltb-false _ _ l) in
    sym (too_great (list_all is_digit (48 ∷ cs) && spelled (48 ∷ cs)) (digits_value 0 (48 ∷ cs)) g)
zero_first cs b true true a l = absurd (by_value (cases_eq (digits_value 0 (48 ∷ cs)) 0)) where
  printed : decimal (digits_value 0 (48 ∷ cs)) ≡ 48 ∷ cs
  printed = (bytes_eq-Decides (decimal (digits_value 0 (48 ∷ cs))) (48 ∷ cs)).0 a

  small : digits_value 0 (48 ∷ cs) < 2 ^ 64
  small = ltb-true _ _ l

  by_value : (digits_value 0 (48 ∷ cs) ≡ 0) ⊎ (digits_value 0 (48 ∷ cs) ≡ 0 → ⊥) → ⊥
  by_value (inl e) =
      let one = ap (λ (ds : List ℕ). length ds) (sym (decimal_digit 0 (omega arith)) ∙ ap decimal (sym e) ∙ printed) in
      let none : length cs ≡ 0 = omega (arith, one) in
      false≢true (sym b ∙ eq-eqb (length cs) 0 none)
  by_value (inr n) =
      let f = first_decimal (digits_value 0 (48 ∷ cs)) (omega (arith, n)) small in
      let g : get_or (decimal (digits_value 0 (48 ∷ cs))) 0 0 ≡ 48 = ap (λ (ds : List ℕ). get_or ds 0 0) printed in
      omega (arith, f, g)

plus_first : (cs : List ℕ) → None ≡ number_within 0 most (43 ∷ cs)
plus_first cs = refl

empty_word : (t : Bool) → spelled [] ≡ t → None ≡ number_within 0 most []
empty_word true a =
    let one = ap (λ (ds : List ℕ). length ds) (sym (decimal_digit 0 (omega arith)) ∙ (bytes_eq-Decides (decimal 0) []).0 a) in
    let no : ⊥ = omega (arith, one) in
    absurd no
empty_word false a = sym (ap (λ t. told_by t 0) a)

pub not_parsed : (w : List ℕ) → begins_plainly w ≡ false → None ≡ number_within 0 most w
not_parsed [] b = empty_word (spelled []) refl
not_parsed (c ∷ cs) b = by_zero (c == 48) refl where
  by_zero : (t : Bool) → (c == 48) ≡ t → None ≡ number_within 0 most (c ∷ cs)
  by_zero true e =
      let z : c ≡ 48 = eqb-true c 48 e in
      zero_first cs (ap (plain_first cs) (sym z) ∙ b) (spelled (48 ∷ cs)) (nat_lt (digits_value 0 (48 ∷ cs)) (2 ^ 64)) refl refl ∙ ap (λ (x : ℕ). number_within 0 most (x ∷ cs)) (sym z)
  by_zero false e =
      let p : c ≡ 43 = eqb-true c 43 (not-false (c == 43) (ap (λ (t : Bool). if t then length cs == 0 else not (c == 43)) (sym e) ∙ b)) in
      plus_first cs ∙ ap (λ (x : ℕ). number_within 0 most (x ∷ cs)) (sym p)

-- ---- integers

none_in : (least great : ℕ) (t : Bool) → spelled [] ≡ t → number_within least great [] ≡ None
none_in least great true a =
    let one = ap (λ (ds : List ℕ). length ds) (sym (decimal_digit 0 (omega arith)) ∙ (bytes_eq-Decides (decimal 0) []).0 a) in
    let no : ⊥ = omega (arith, one) in
    absurd no
none_in least great false a = ap (λ t. if_within least great (kept 0 t)) a

pub unsigned_is : (width : ℕ) (w : List ℕ) → ((rest : List ℕ) → w ≡ 45 ∷ rest → ⊥) → number_within 0 (2 ^ width - 1) w ≡ integer_in width w
unsigned_is width [] h = none_in 0 (2 ^ width - 1) (spelled []) refl
unsigned_is width (c ∷ cs) h = by_sign (c == 45) refl where
  by_sign : (t : Bool) → (c == 45) ≡ t → number_within 0 (2 ^ width - 1) (c ∷ cs) ≡ integer_in width (c ∷ cs)
  by_sign true e = absurd (h cs (ap (λ (x : ℕ). x ∷ cs) (eqb-true c 45 e)))
  by_sign false e = ap (λ (t : Bool). if t then negative width (number_within 1 (2 ^ (width - 1)) cs) else number_within 0 (2 ^ width - 1) (c ∷ cs)) (sym e)
