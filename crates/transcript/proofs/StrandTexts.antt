-- The first strand's line is its program's.
use Rattle.std.proofs.Common.{◌≡◌, ℕ, List, [], ◌++◌, ap, ◌∙◌, append_assoc}
use Rattle.std.specs.Prelude.{codes}
use Rattle.std.specs.Fmt.{decimal}
use Rattle.wa_model.specs.Outside.{Line}
use Rattle.script_model.specs.Transcript.{Names, event_line, event_text, line_end}
use Rattle.transcript.specs.StrandLines.{strand_event_line, strand_number}

no_number : (k : ℕ) → k ≡ 0 → strand_number k ≡ []
no_number k first = ap strand_number first

-- a number in the midst of a line
abbrev with_number : (tick program number text : List ℕ) → List ℕ
with_number tick program number text = tick ++ (codes " " ++ program ++ number ++ codes " ") ++ text ++ line_end

without : (tick program text : List ℕ) → with_number tick program [] text ≡ tick ++ codes " " ++ program ++ codes " " ++ text ++ line_end
without tick program text = simp (append_assoc)

pub of_program : (names : Names) (l : Line) (k : ℕ) → k ≡ 0 → strand_event_line names l k ≡ event_line names l
unfolding event_line strand_event_line
of_program names l k first =
    ap (λ (n : List ℕ). with_number (decimal l.tick) (decimal l.program) n (event_text names l.tick l.event)) (no_number k first)
    ∙ without (decimal l.tick) (decimal l.program) (event_text names l.tick l.event)
