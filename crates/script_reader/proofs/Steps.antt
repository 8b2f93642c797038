-- One line more of a text.
use Rattle.std.proofs.Common.{◌≡◌, ℕ, suc, ◌+◌, Result, Ok, Err, List, ◌∷◌, sym, ap, ◌∙◌, subst, add-one, IsErrAnd}
use Rattle.std.specs.Str.Lines.{lines}
use Rattle.script_model.specs.Script.{Script as PlainScript, ScriptFault as PlainFault, breaks, too_many}
use Rattle.script_model.specs.ScriptLines.{line_says}
use Rattle.script_reader.specs.declared.faults.ScriptFault.{ScriptFault}
use Rattle.script_reader.specs.declared.faults.ScriptFault.TheVariants.{Memory, Rule, TooMany}
use Rattle.script_reader.specs.Drafts.{Reading, with_line, and_then, read_on}
use Rattle.script_reader.specs.Views.{Blames, Reads}

-- a fault is handed on
pub handed_on : {X Y : Type 0} (view : X → Y) (r : Result X ScriptFault) (fault : ScriptFault) (told : Result Y PlainFault) → IsErrAnd r (λ f. f ≡ fault) → Blames fault told → Reads view r told
handed_on view (Ok x) fault told h b = absurd h
handed_on view (Err f) fault told h b = subst (λ g. Blames g told) (sym h) b

module _ (line : ℕ) (text first rest : List ℕ) (cut : lines text ≡ first ∷ lines rest) (old : Reading) (whole : Result PlainScript PlainFault)
    (before : read_on (suc line) (lines text) old ≡ whole) where
  line_on : and_then (with_line (line + 1) (line_says first) old) (read_on (suc (suc line)) (lines rest)) ≡ whole
  line_on =
      ap (λ (j : ℕ). and_then (with_line j (line_says first) old) (read_on (suc (suc line)) (lines rest))) (add-one line)
      ∙ sym (ap (λ (ls : List (List ℕ)). read_on (suc line) ls old) cut) ∙ before

  pub line_read : (new : Reading) → with_line (line + 1) (line_says first) old ≡ Ok new → read_on (suc (line + 1)) (lines rest) new ≡ whole
  line_read new e =
      ap (λ (j : ℕ). read_on (suc j) (lines rest) new) (add-one line)
      ∙ sym (ap (λ r. and_then r (read_on (suc (suc line)) (lines rest))) e) ∙ line_on

  stops : (f : PlainFault) → with_line (line + 1) (line_says first) old ≡ Err f → whole ≡ Err f
  stops f e = sym line_on ∙ ap (λ r. and_then r (read_on (suc (suc line)) (lines rest))) e

  pub line_fails : (fault : ScriptFault) → Blames fault (with_line (line + 1) (line_says first) old) → Blames fault whole
  line_fails Memory b = tt
  line_fails (Rule n rule) b = stops (breaks n rule) b
  line_fails (TooMany found) b = stops (too_many found) b
