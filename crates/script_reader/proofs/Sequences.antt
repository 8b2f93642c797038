-- Lists of things that words spell, read one behind another.
use Rattle.std.proofs.Common.{arith, ◌≡◌, ℕ, ◌-◌, ◌<◌, ◌≤◌, Option, Some, None, Result, Ok, Err, List, [], ◌∷◌, ◌++◌, length, drop, take, get_or, sym, ap, ◌∙◌, append_assoc, append-nil, ◌==◌, false}
use Rattle.std.proofs.lemmas.Bool.{false≢true}
use Rattle.std.proofs.lemmas.List.{take_all}
use Rattle.script_model.specs.ScriptLines.{onto, hex_value, joined_digits, hex_bytes}
use Rattle.script_reader.specs.declared.word_fault.LineFault.{LineFault}
use Rattle.script_reader.specs.declared.word_fault.LineFault.TheVariants.{Memory, Rule}
use Rattle.script_reader.specs.Reading.{Blames, or_breaks}

-- what is read behind what was
abbrev pub appended : {A : Type 0} → List A → Option (List A) → Option (List A)
appended xs None = None
appended xs (Some ys) = Some (xs ++ ys)

some_or : {A : Type 0} → A → Option A → A
some_or d None = d
some_or d (Some x) = x

pub told_some : {A : Type 0} (read : Option A) (x : A) → or_breaks 4 read ≡ Ok x → read ≡ Some x
told_some None x e = let d : ◌≡◌ {A = Result _ ℕ} (Err 4) (Ok x) = e in cc
told_some (Some y) x e = let d : ◌≡◌ {A = Result _ ℕ} (Ok y) (Ok x) = e in cc

pub one_more : {A : Type 0} (xs new : List A) (x : A) (read : Option A) (o whole : Option (List A)) → read ≡ Some x → new ≡ xs ++ x ∷ [] → appended xs (onto read o) ≡ whole → appended new o ≡ whole
one_more xs new x read None whole e n h = sym (ap (λ r. appended xs (onto r None)) e) ∙ h
one_more xs new x read (Some ys) whole e n h =
    ap (λ (l : List _). Some (l ++ ys)) n ∙ ap (λ (l : List _). Some l) (append_assoc xs (x ∷ []) ys) ∙ sym (ap (λ r. appended xs (onto r (Some ys))) e) ∙ h

pub none_more : {A : Type 0} (xs : List A) (read : Option A) (o whole : Option (List A)) → read ≡ None → appended xs (onto read o) ≡ whole → or_breaks 4 whole ≡ Err 4
none_more xs read o whole e h = ap (or_breaks 4) (sym h ∙ ap (λ r. appended xs (onto r o)) e)

rule_of : {A : Type 0} → Result A ℕ → ℕ
rule_of (Ok x) = 0
rule_of (Err rule) = rule

pub four_is : {A : Type 0} (rule : ℕ) → ◌≡◌ {A = Result A ℕ} (Err 4) (Err rule) → 4 ≡ rule
unfolding rule_of
four_is rule e = ap rule_of e

pub fails : {A : Type 0} (fault : LineFault) (xs : List A) (read : Option A) (o whole : Option (List A)) → Blames fault (or_breaks 4 read) → appended xs (onto read o) ≡ whole
    → Blames fault (or_breaks 4 whole)
unfolding rule_of
fails Memory xs read o whole b h = tt
fails {A} (Rule rule) xs None o whole b h =
    let same : 4 ≡ rule = ap rule_of b in
    ap (or_breaks 4) (sym h) ∙ ap (λ (r : ℕ). Err r) same
fails (Rule rule) xs (Some x) o whole b h = let d : ◌≡◌ {A = Result _ ℕ} (Ok x) (Err rule) = b in cc

pub no_more : {A : Type 0} (xs : List A) (whole : Option (List A)) → appended xs (Some []) ≡ whole → or_breaks 4 whole ≡ Ok xs
no_more xs whole h = ap (or_breaks 4) (sym h ∙ ap (λ (l : List _). Some l) (append-nil xs))

-- ---- bytes

abbrev pair_at : List ℕ → Option ℕ
pair_at rest = joined_digits (hex_value (get_or rest 0 0)) (hex_value (get_or rest 1 0))

pub byte_step : (old new : List ℕ) (b : ℕ) (rest : List ℕ) (whole : Option (List ℕ)) → 2 ≤ length rest → Some b ≡ pair_at rest → new ≡ old ++ b ∷ [] → appended old (hex_bytes rest) ≡ whole
    → appended new (hex_bytes (take (length rest - 2) (drop 2 rest))) ≡ whole
byte_step old new b [] whole l e n h = absurd (omega arith)
byte_step old new b (x ∷ []) whole l e n h = absurd (omega arith)
byte_step old new b (x ∷ y ∷ more) whole l e n h =
    ap (λ (t : List ℕ). appended new (hex_bytes t)) (take_all (length (x ∷ y ∷ more) - 2) more (omega arith))
    ∙ one_more old new b (joined_digits (hex_value x) (hex_value y)) (hex_bytes more) whole (sym e) n h

-- two digits that stand for no byte
pub no_byte : (old rest : List ℕ) (whole : Option (List ℕ)) → 2 ≤ length rest → None ≡ pair_at rest → appended old (hex_bytes rest) ≡ whole → or_breaks 4 whole ≡ Err 4
no_byte old [] whole l e h = absurd (omega arith)
no_byte old (x ∷ []) whole l e h = absurd (omega arith)
no_byte old (x ∷ y ∷ more) whole l e h = none_more old (joined_digits (hex_value x) (hex_value y)) (hex_bytes more) whole (sym e) h

-- one digit is left
pub one_digit : (old rest : List ℕ) (whole : Option (List ℕ)) → length rest < 2 → (length rest == 0) ≡ false → appended old (hex_bytes rest) ≡ whole → or_breaks 4 whole ≡ Err 4
one_digit old [] whole l some h = absurd (false≢true (sym some))
one_digit old (x ∷ []) whole l some h = ap (or_breaks 4) (sym h)
one_digit old (x ∷ y ∷ more) whole l some h = absurd (omega arith)

-- none is left
pub no_digit : (old rest : List ℕ) (whole : Option (List ℕ)) → length rest ≡ 0 → appended old (hex_bytes rest) ≡ whole → or_breaks 4 whole ≡ Ok old
no_digit old [] whole none h = no_more old whole h
no_digit old (x ∷ rest) whole none h = absurd (omega arith)
