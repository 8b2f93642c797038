-- Words, whose escapes are read from left to right.
use Rattle.std.proofs.Common.{arith, ◌≡◌, ℕ, ◌<◌, ◌==◌, Bool, true, false, Option, Some, None, Result, Ok, Err, List, [], ◌∷◌, ◌++◌, length, sym, ap, ◌∙◌, append_assoc, eqb-true, refl, append-nil, get_or, take, drop, ◌-◌, ◌≤◌}
use Rattle.std.specs.Bool.{if◌then◌else◌}
use Rattle.std.specs.Option.{option_map}
use Rattle.std.specs.Str.{IsUtf8, is_utf8}
use Rattle.std.specs.List.{slice_split, onto_first}
use Rattle.std.proofs.lemmas.List.{take_all}
use Rattle.std.proofs.lemmas.Str.{IsUtf8-from_is_utf8, is_utf8-from_IsUtf8}
use Rattle.std.proofs.lemmas.List.Splits.{slice_split-cons_yes, slice_split-cons_no}
use Rattle.script_model.specs.ScriptLines.{hex_value, joined_digits, behind_byte, both, all_escaped, unescaped_parts, if_utf8}
use Rattle.script_reader.specs.Reading.{or_breaks}

-- ---- UTF-8

pub text_told : (bs name : List ℕ) → IsUtf8 bs → name ≡ bs → or_breaks 1 (if_utf8 (Some bs)) ≡ Ok name
text_told bs name h e =
    let read : Bool → Result (List ℕ) ℕ = λ t. or_breaks 1 (if t then Some bs else None) in
    let ok : List ℕ → Result (List ℕ) ℕ = λ t. Ok t in
    ap read (is_utf8-from_IsUtf8 bs h) ∙ ap ok (sym e)

pub is_no_utf8 : (bs : List ℕ) → (IsUtf8 bs → ⊥) → is_utf8 bs ≡ false
is_no_utf8 bs h = by_test (is_utf8 bs) refl where
  by_test : (t : Bool) → is_utf8 bs ≡ t → is_utf8 bs ≡ false
  by_test true e = absurd (h (IsUtf8-from_is_utf8 bs e))
  by_test false e = e

pub text_refused : (bs : List ℕ) → (IsUtf8 bs → ⊥) → or_breaks 1 (if_utf8 (Some bs)) ≡ Err 1
text_refused bs h =
    let read : Bool → Result (List ℕ) ℕ = λ t. or_breaks 1 (if t then Some bs else None) in
    ap read (is_no_utf8 bs h)

-- ---- escapes

abbrev is_percent : ℕ → Bool
is_percent b = b == 37

abbrev pub unescaped : List ℕ → Option (List ℕ)
unescaped word = unescaped_parts (slice_split is_percent word)

abbrev one_byte : Option ℕ → Option (List ℕ)
one_byte j = option_map (λ b. b ∷ []) j

both_assoc : (x y : List ℕ) (o : Option (List ℕ)) → both (Some x) (both (Some y) o) ≡ both (Some (x ++ y)) o
both_assoc x y None = refl
both_assoc x y (Some z) = ap (λ (t : List ℕ). Some t) (sym (append_assoc x y z))

both_none : (o : Option (List ℕ)) → both (Some []) o ≡ o
both_none None = refl
both_none (Some z) = refl

joined_none : (x : Option ℕ) → joined_digits x None ≡ None
joined_none None = refl
joined_none (Some x) = refl

plain_first : (c : ℕ) (parts : List (List ℕ)) → unescaped_parts (onto_first c parts) ≡ both (Some (c ∷ [])) (unescaped_parts parts)
plain_first c [] = refl
plain_first c (part ∷ more) = sym (both_assoc (c ∷ []) part (all_escaped more))

escape_first : (h l : ℕ) (parts : List (List ℕ)) (j : Option ℕ) → joined_digits (hex_value h) (hex_value l) ≡ j
    → all_escaped (onto_first h (onto_first l parts)) ≡ both (one_byte j) (unescaped_parts parts)
escape_first h l [] j e = ap (λ (k : Option ℕ). both (behind_byte [] k) (Some [])) e ∙ by_joined j where
  by_joined : (k : Option ℕ) → both (behind_byte [] k) (Some []) ≡ both (one_byte k) (Some [])
  by_joined None = refl
  by_joined (Some b) = refl
escape_first h l (part ∷ more) j e = ap (λ (k : Option ℕ). both (behind_byte part k) (all_escaped more)) e ∙ by_joined j where
  by_joined : (k : Option ℕ) → both (behind_byte part k) (all_escaped more) ≡ both (one_byte k) (both (Some part) (all_escaped more))
  by_joined None = refl
  by_joined (Some b) = sym (both_assoc (b ∷ []) part (all_escaped more))

-- a byte other than `%` stands for itself
pub plain_byte : (text new : List ℕ) (c : ℕ) (rest : List ℕ) (whole : Option (List ℕ)) → is_percent c ≡ false → new ≡ text ++ c ∷ [] → both (Some text) (unescaped (c ∷ rest)) ≡ whole
    → both (Some new) (unescaped rest) ≡ whole
plain_byte text new c rest whole e n h =
    ap (λ (t : List ℕ). both (Some t) (unescaped rest)) n ∙ sym (both_assoc text (c ∷ []) (unescaped rest))
    ∙ ap (both (Some text)) (sym (plain_first c (slice_split is_percent rest)) ∙ ap unescaped_parts (sym (slice_split-cons_no is_percent c rest e))) ∙ h

-- `%` and two bytes
pub escape_step : (h l : ℕ) (more : List ℕ) → unescaped (37 ∷ h ∷ l ∷ more) ≡ both (one_byte (joined_digits (hex_value h) (hex_value l))) (unescaped more)
escape_step h l more = by_tests (is_percent h) (is_percent l) refl refl where
  none_high : h ≡ 37 → joined_digits (hex_value h) (hex_value l) ≡ None
  none_high e = ap (λ (x : ℕ). joined_digits (hex_value x) (hex_value l)) e

  none_low : l ≡ 37 → joined_digits (hex_value h) (hex_value l) ≡ None
  none_low e = ap (λ (x : ℕ). joined_digits (hex_value h) (hex_value x)) e ∙ joined_none (hex_value h)

  by_tests : (a b : Bool) → is_percent h ≡ a → is_percent l ≡ b → unescaped (37 ∷ h ∷ l ∷ more) ≡ both (one_byte (joined_digits (hex_value h) (hex_value l))) (unescaped more)
  by_tests true b eh el =
      both_none _ ∙ ap all_escaped (slice_split-cons_yes is_percent h (l ∷ more) eh)
      ∙ ap (λ (j : Option ℕ). both (one_byte j) (unescaped more)) (sym (none_high (eqb-true h 37 eh)))
  by_tests false true eh el =
      both_none _ ∙ ap all_escaped (slice_split-cons_no is_percent h (l ∷ more) eh ∙ ap (onto_first h) (slice_split-cons_yes is_percent l more el))
      ∙ ap (λ (j : Option ℕ). both (one_byte j) (unescaped more)) (sym (none_low (eqb-true l 37 el)))
  by_tests false false eh el =
      both_none _
      ∙ ap all_escaped (slice_split-cons_no is_percent h (l ∷ more) eh ∙ ap (onto_first h) (slice_split-cons_no is_percent l more el))
      ∙ escape_first h l (slice_split is_percent more) _ refl

-- an escape that stands for a byte
pub escaped_byte : (text new : List ℕ) (h l b : ℕ) (more : List ℕ) (whole : Option (List ℕ)) → Some b ≡ joined_digits (hex_value h) (hex_value l) → new ≡ text ++ b ∷ []
    → both (Some text) (unescaped (37 ∷ h ∷ l ∷ more)) ≡ whole → both (Some new) (unescaped more) ≡ whole
escaped_byte text new h l b more whole e n w =
    ap (λ (t : List ℕ). both (Some t) (unescaped more)) n ∙ sym (both_assoc text (b ∷ []) (unescaped more))
    ∙ ap (both (Some text)) (ap (λ (j : Option ℕ). both (one_byte j) (unescaped more)) e ∙ sym (escape_step h l more)) ∙ w

-- and one that stands for none
pub escaped_none : (text : List ℕ) (h l : ℕ) (more : List ℕ) (whole : Option (List ℕ)) → None ≡ joined_digits (hex_value h) (hex_value l)
    → both (Some text) (unescaped (37 ∷ h ∷ l ∷ more)) ≡ whole → whole ≡ None
escaped_none text h l more whole e w =
    sym w ∙ ap (both (Some text)) (escape_step h l more ∙ ap (λ (j : Option ℕ). both (one_byte j) (unescaped more)) (sym e))

abbrev cut_parts : ℕ → Bool → List (List ℕ)
cut_parts h true = [] ∷ [] ∷ []
cut_parts h false = (h ∷ []) ∷ []

-- a `%` with fewer than two bytes behind it
pub escape_cut : (text rest : List ℕ) (whole : Option (List ℕ)) → length rest < 2 → both (Some text) (unescaped (37 ∷ rest)) ≡ whole → whole ≡ None
escape_cut text [] whole l w = sym w
escape_cut text (h ∷ []) whole l w = sym w ∙ ap (λ (ps : List (List ℕ)). both (Some text) (both (Some []) (all_escaped ps))) (by_test (is_percent h) refl) ∙ by_parts (is_percent h) where
  by_test : (t : Bool) → is_percent h ≡ t → slice_split is_percent (h ∷ []) ≡ cut_parts h t
  by_test true e = slice_split-cons_yes is_percent h [] e
  by_test false e = slice_split-cons_no is_percent h [] e

  by_parts : (t : Bool) → both (Some text) (both (Some []) (all_escaped (cut_parts h t))) ≡ None
  by_parts true = refl
  by_parts false = refl
escape_cut text (h ∷ k ∷ rest) whole l w = absurd (omega arith)

-- ---- the same, of what is left of a word

abbrev behind_first : List ℕ → List ℕ
behind_first rest = take (length rest - 1) (drop 1 rest)

behind_is : (c : ℕ) (cs : List ℕ) → behind_first (c ∷ cs) ≡ cs
behind_is c cs = take_all (length (c ∷ cs) - 1) cs (omega arith)

behind_two : (h l : ℕ) (more : List ℕ) → take (length (h ∷ l ∷ more) - 2) (drop 2 (h ∷ l ∷ more)) ≡ more
behind_two h l more = take_all (length (h ∷ l ∷ more) - 2) more (omega arith)

abbrev pair_at : List ℕ → Option ℕ
pair_at behind = joined_digits (hex_value (get_or behind 0 0)) (hex_value (get_or behind 1 0))

byte_behind : (text new : List ℕ) (b : ℕ) (behind : List ℕ) (whole : Option (List ℕ)) → 2 ≤ length behind → Some b ≡ pair_at behind → new ≡ text ++ b ∷ []
    → both (Some text) (unescaped (37 ∷ behind)) ≡ whole → both (Some new) (unescaped (take (length behind - 2) (drop 2 behind))) ≡ whole
byte_behind text new b [] whole l e n w = absurd (omega arith)
byte_behind text new b (h ∷ []) whole l e n w = absurd (omega arith)
byte_behind text new b (h ∷ k ∷ more) whole l e n w =
    ap (λ (t : List ℕ). both (Some new) (unescaped t)) (behind_two h k more) ∙ escaped_byte text new h k b more whole e n w

none_behind : (text : List ℕ) (behind : List ℕ) (whole : Option (List ℕ)) → 2 ≤ length behind → None ≡ pair_at behind
    → both (Some text) (unescaped (37 ∷ behind)) ≡ whole → whole ≡ None
none_behind text [] whole l e w = absurd (omega arith)
none_behind text (h ∷ []) whole l e w = absurd (omega arith)
none_behind text (h ∷ k ∷ more) whole l e w = escaped_none text h k more whole e w

percent_first : (text rest : List ℕ) (whole : Option (List ℕ)) → 1 ≤ length rest → get_or rest 0 0 ≡ 37 → both (Some text) (unescaped rest) ≡ whole
    → both (Some text) (unescaped (37 ∷ behind_first rest)) ≡ whole
percent_first text [] whole l e w = absurd (omega arith)
percent_first text (c ∷ cs) whole l e w =
    ap (λ (t : List ℕ). both (Some text) (unescaped t)) (ap (λ (t : List ℕ). 37 ∷ t) (behind_is c cs) ∙ ap (λ (x : ℕ). x ∷ cs) (sym e)) ∙ w

pub byte_read : (text new : List ℕ) (b : ℕ) (rest : List ℕ) (whole : Option (List ℕ)) → 1 ≤ length rest → get_or rest 0 0 ≡ 37 → 2 ≤ length (behind_first rest)
    → Some b ≡ pair_at (behind_first rest) → new ≡ text ++ b ∷ [] → both (Some text) (unescaped rest) ≡ whole
    → both (Some new) (unescaped (take (length (behind_first rest) - 2) (drop 2 (behind_first rest)))) ≡ whole
byte_read text new b rest whole some first two e n w = byte_behind text new b (behind_first rest) whole two e n (percent_first text rest whole some first w)

pub none_read : (text : List ℕ) (rest : List ℕ) (whole : Option (List ℕ)) → 1 ≤ length rest → get_or rest 0 0 ≡ 37 → 2 ≤ length (behind_first rest)
    → None ≡ pair_at (behind_first rest) → both (Some text) (unescaped rest) ≡ whole → or_breaks 1 whole ≡ Err 1
none_read text rest whole some first two e w = ap (λ (o : Option (List ℕ)). or_breaks 1 o) (none_behind text (behind_first rest) whole two e (percent_first text rest whole some first w))

pub plain_read : (text new rest : List ℕ) (whole : Option (List ℕ)) → 1 ≤ length rest → is_percent (get_or rest 0 0) ≡ false → new ≡ text ++ get_or rest 0 0 ∷ []
    → both (Some text) (unescaped rest) ≡ whole → both (Some new) (unescaped (behind_first rest)) ≡ whole
plain_read text new [] whole l e n w = absurd (omega arith)
plain_read text new (c ∷ cs) whole l e n w = ap (λ (t : List ℕ). both (Some new) (unescaped t)) (behind_is c cs) ∙ plain_byte text new c cs whole e n w

pub cut_read : (text rest : List ℕ) (whole : Option (List ℕ)) → 1 ≤ length rest → get_or rest 0 0 ≡ 37 → length (behind_first rest) < 2
    → both (Some text) (unescaped rest) ≡ whole → or_breaks 1 whole ≡ Err 1
cut_read text rest whole some first few w = ap (λ (o : Option (List ℕ)). or_breaks 1 o) (escape_cut text (behind_first rest) whole few (percent_first text rest whole some first w))

pub all_read : (text rest : List ℕ) (whole : Option (List ℕ)) → length rest < 1 → both (Some text) (unescaped rest) ≡ whole → or_breaks 1 whole ≡ Ok text
all_read text [] whole none w =
    let ok : List ℕ → Result (List ℕ) ℕ = λ t. Ok t in
    ap (λ (o : Option (List ℕ)). or_breaks 1 o) (sym w) ∙ ap ok (append-nil text)
all_read text (c ∷ cs) whole none w = absurd (omega arith)
