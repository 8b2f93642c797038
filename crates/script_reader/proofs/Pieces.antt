-- The words among the pieces of a line, read one after another.
use Rattle.std.proofs.Common.{arith, ◌≡◌, ℕ, ◌+◌, ◌<◌, Bool, true, false, Option, Some, None, Result, Ok, Err, List, [], ◌∷◌, ◌++◌, length, drop, get_or, sym, ap, ◌∙◌, subst, append_assoc, append-nil, cond, filter, map, suc, refl, IsErrAnd, Vec, Global}
use Rattle.std.specs.List.{slice_split}
use Rattle.std.specs.Bool.{if◌then◌else◌}
use Rattle.std.specs.Str.{IsUtf8}
use Rattle.std.proofs.lemmas.Str.{is_utf8-from_IsUtf8}
use Rattle.wa_types.specs.declared.names.Name.{Name}
use Rattle.script_reader.proofs.Texts.{is_no_utf8}
use Rattle.std.proofs.lemmas.List.{drop_all}
use Rattle.std.proofs.Math.Seq.{drop-cons}
use Rattle.script_model.specs.ScriptLines.{has_bytes, word_text, is_blank, is_comment, line_words, onto, all_told}
use Rattle.script_reader.specs.declared.word_fault.LineFault.{LineFault}
use Rattle.script_reader.specs.declared.word_fault.LineFault.TheVariants.{Memory, Rule}
use Rattle.script_reader.specs.Reading.{Reads, Blames, or_breaks, told_words, behind_words}

-- a fault is handed on
pub handed_on : {X Y : Type 0} (view : X → Y) (r : Result X LineFault) (fault : LineFault) (said : Result Y ℕ) → IsErrAnd r (λ f. f ≡ fault) → Blames fault said → Reads view r said
handed_on view (Ok x) fault said h b = absurd h
handed_on view (Err f) fault said h b = subst (λ g. Blames g said) (sym h) b

abbrev pub joined : Option (List (List ℕ)) → Option (List (List ℕ)) → Option (List (List ℕ))
joined None more = None
joined (Some words) more = behind_words words more

behind_none : (o : Option (List (List ℕ))) → behind_words [] o ≡ o
behind_none None = refl
behind_none (Some ws) = refl

behind_both : (a b : List (List ℕ)) (o : Option (List (List ℕ))) → behind_words (a ++ b) o ≡ behind_words a (behind_words b o)
behind_both a b None = refl
behind_both a b (Some ws) = ap (λ (l : List (List ℕ)). Some l) (append_assoc a b ws)

one_word : (word : Option (List ℕ)) (more : Option (List (List ℕ))) → onto word more ≡ joined (onto word (Some [])) more
one_word None more = refl
one_word (Some w) None = refl
one_word (Some w) (Some ws) = refl

abbrev kept_piece : Bool → List ℕ → List (List ℕ) → Option (List (List ℕ))
kept_piece t piece rest = all_told (map word_text (cond t (piece ∷ filter has_bytes rest) (filter has_bytes rest)))

first_piece : (piece : List ℕ) (rest : List (List ℕ)) → told_words (piece ∷ rest) ≡ joined (told_words (piece ∷ [])) (told_words rest)
first_piece piece rest = by_test (has_bytes piece) refl where
  by_test : (t : Bool) → has_bytes piece ≡ t → told_words (piece ∷ rest) ≡ joined (told_words (piece ∷ [])) (told_words rest)
  by_test true e =
      ap (λ t. kept_piece t piece rest) e ∙ one_word (word_text piece) (told_words rest)
      ∙ sym (ap (λ t. joined (kept_piece t piece []) (told_words rest)) e)
  by_test false e =
      ap (λ t. kept_piece t piece rest) e ∙ sym (behind_none (told_words rest))
      ∙ sym (ap (λ t. joined (kept_piece t piece []) (told_words rest)) e)

ok_value : List (List ℕ) → Result (List (List ℕ)) ℕ → List (List ℕ)
ok_value other (Ok x) = x
ok_value other (Err e) = other

word_put : (old new : List (List ℕ)) (word rest whole : Option (List (List ℕ))) → or_breaks 1 (behind_words old word) ≡ Ok new → behind_words old (joined word rest) ≡ whole
    → behind_words new rest ≡ whole
unfolding ok_value
word_put old new None rest whole e h = let d : ◌≡◌ {A = Result (List (List ℕ)) ℕ} (Err 1) (Ok new) = e in cc
word_put old new (Some w) rest whole e h =
    let n : old ++ w ≡ new = ap (ok_value []) e in
    ap (λ (l : List (List ℕ)). behind_words l rest) (sym n) ∙ behind_both old w rest ∙ h

word_fails : (old : List (List ℕ)) (fault : LineFault) (word rest whole : Option (List (List ℕ))) → Blames fault (or_breaks 1 (behind_words old word))
    → behind_words old (joined word rest) ≡ whole → Blames fault (or_breaks 1 whole)
word_fails old Memory word rest whole b h = tt
word_fails old (Rule rule) None rest whole b h = ap (or_breaks 1) (sym h) ∙ b
word_fails old (Rule rule) (Some w) rest whole b h = let d : ◌≡◌ {A = Result (List (List ℕ)) ℕ} (Ok (old ++ w)) (Err rule) = b in cc

module _ (parts : List (List ℕ)) (k : ℕ) (piece : List ℕ) (lt : k < length parts) (at : piece ≡ get_or parts k piece) (old : List (List ℕ)) (whole : Option (List (List ℕ)))
    (before : behind_words old (told_words (drop k parts)) ≡ whole) where
  next : k + 1 ≡ suc k
  next = omega arith

  turn : behind_words old (joined (told_words (piece ∷ [])) (told_words (drop (k + 1) parts))) ≡ whole
  turn =
      ap (behind_words old) (sym (first_piece piece (drop (k + 1) parts))
      ∙ ap told_words (ap (λ (p : List ℕ). p ∷ drop (k + 1) parts) at ∙ ap (λ (j : ℕ). get_or parts k piece ∷ drop j parts) next ∙ sym (drop-cons parts k piece lt)))
      ∙ before

  pub piece_read : (new : List (List ℕ)) → or_breaks 1 (behind_words old (told_words (piece ∷ []))) ≡ Ok new → behind_words new (told_words (drop (k + 1) parts)) ≡ whole
  piece_read new e = word_put old new (told_words (piece ∷ [])) (told_words (drop (k + 1) parts)) whole e turn

  pub piece_fails : (fault : LineFault) → Blames fault (or_breaks 1 (behind_words old (told_words (piece ∷ [])))) → Blames fault (or_breaks 1 whole)
  piece_fails fault b = word_fails old fault (told_words (piece ∷ [])) (told_words (drop (k + 1) parts)) whole b turn

pub pieces_read : (parts : List (List ℕ)) (k : ℕ) (words : List (List ℕ)) (whole : Option (List (List ℕ))) → k ≡ length parts → behind_words words (told_words (drop k parts)) ≡ whole
    → or_breaks 1 whole ≡ Ok words
pieces_read parts k words whole e h = ap (or_breaks 1)
    (sym h ∙ ap (λ (l : List (List ℕ)). behind_words words (told_words l)) (drop_all k parts (omega (arith, e))) ∙ ap (λ (l : List (List ℕ)). Some l) (append-nil words))

-- ---- lines

abbrev text_line : Bool → List ℕ → Option (List (List ℕ))
text_line t line = if t then (if is_comment line then Some [] else told_words (slice_split is_blank line)) else None

pub line_read : (r : Result (Vec Name Global) LineFault) (line : List ℕ) → IsUtf8 line → Reads (λ (words : Vec Name Global). words.items) r (or_breaks 1 (text_line true line))
    → Reads (λ (words : Vec Name Global). words.items) r (or_breaks 1 (line_words line))
line_read r line h b = subst (λ t. Reads (λ (words : Vec Name Global). words.items) r (or_breaks 1 (text_line t line))) (sym (is_utf8-from_IsUtf8 line h)) b

pub line_refused : (line : List ℕ) → (IsUtf8 line → ⊥) → or_breaks 1 (line_words line) ≡ Err 1
line_refused line h = ap (λ t. or_breaks 1 (text_line t line)) (is_no_utf8 line h)
