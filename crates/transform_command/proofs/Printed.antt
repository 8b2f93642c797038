-- What was printed, piece after piece.
use Rattle.std.proofs.Common.{ℕ, List, Option, Some, None, refl, sym, ◌∙◌, ◌≡◌, ◌⊎◌, inl, inr, arith}
use Rattle.vault_port.specs.Told.{Becomes, WhereTold}
use Rattle.script_model.specs.Transcript.{refusal_line, read_fault}
use Rattle.transcript.specs.Refused.{status_of, EndsInMemory, Prints}
use Rattle.transcript.proofs.Printed.{memory_alone}
use Rattle.transform_command.specs.Ends.{IsRefusal}
use Rattle.transform_command.specs.Transforms.{HasCause, PrintsRefusal, RunsOutOfMemory}
use Rattle.transform_command.specs.Sources.{Cause, malformed, float, deep, limit, reserved, invalid, rewritten_locals, long_output, IsRefusedIn, refusal_for}
use Rattle.vault_port.specs.Files.{Files, bytes_of}
use Rattle.script_model.specs.Command.{Manner}

-- the line on memory alone, where any line might have been begun
pub memory_any : (how : Manner) (files files' : Option Files) (input output : List ℕ) (p p' : ℕ) (old new : Option (List ℕ)) → Becomes old new (EndsInMemory p p')
    → Becomes old new (RunsOutOfMemory how files files' input output p p')
memory_any how files files' input output p p' None None h = tt
memory_any how files files' input output p p' (Some x) (Some y) h =
    (refusal_line None (read_fault input), inr (inl refl), memory_alone (refusal_line None (read_fault input)) p p' (Some x) (Some y) h)
memory_any how files files' input output p p' None (Some y) h = h
memory_any how files files' input output p p' (Some x) None h = h

pub never_nine : (cause : Cause) → 9 ≡ status_of (refusal_for cause) → ⊥
never_nine (malformed at) e = absurd (omega (arith, e))
never_nine (float at) e = absurd (omega (arith, e))
never_nine (deep at) e = absurd (omega (arith, e))
never_nine (limit what found) e = absurd (omega (arith, e))
never_nine (reserved name) e = absurd (omega (arith, e))
never_nine (invalid func rule at) e = absurd (omega (arith, e))
never_nine (rewritten_locals found) e = absurd (omega (arith, e))
never_nine (long_output found) e = absurd (omega (arith, e))

-- a refusal's status is that of its cause
pub refused_has_cause : (how : Manner) (files : Option Files) (input : List ℕ) (status : ℕ) (cause : Cause)
    → (status ≡ status_of (refusal_for cause)) ⊎ (status ≡ 9) → IsRefusal status → WhereTold files (λ all. IsRefusedIn how (bytes_of all input) cause)
    → HasCause how files input status
refused_has_cause how files input status cause e h told = elim e [
  | inl a ↦ (cause, a, told)
  | inr n ↦ absurd (never_nine h.0 (sym n ∙ h.1))
]

printed_with : (how : Manner) (files : Option Files) (input : List ℕ) (status : ℕ) (cause : Cause) (faults faults' : ℕ) (old new : Option (List ℕ)) → status ≡ status_of (refusal_for cause)
    → WhereTold files (λ all. IsRefusedIn how (bytes_of all input) cause) → Becomes old new (Prints (refusal_line None (refusal_for cause)) faults faults')
    → Becomes old new (PrintsRefusal how files input status faults faults')
printed_with how files input status cause faults faults' None None e told h = tt
printed_with how files input status cause faults faults' (Some x) (Some y) e told h = (cause, e, told, h)
printed_with how files input status cause faults faults' None (Some y) e told h = h
printed_with how files input status cause faults faults' (Some x) None e told h = h

-- a refusal's line is that of its cause
pub refusal_printed : (how : Manner) (files : Option Files) (input : List ℕ) (status : ℕ) (cause : Cause) (faults faults' : ℕ) (old new : Option (List ℕ))
    → (status ≡ status_of (refusal_for cause)) ⊎ (status ≡ 9) → IsRefusal status → WhereTold files (λ all. IsRefusedIn how (bytes_of all input) cause)
    → (status ≡ status_of (refusal_for cause) → Becomes old new (Prints (refusal_line None (refusal_for cause)) faults faults'))
    → Becomes old new (PrintsRefusal how files input status faults faults')
refusal_printed how files input status cause faults faults' old new e h told printed = elim e [
  | inl a ↦ printed_with how files input status cause faults faults' old new a told (printed a)
  | inr n ↦ absurd (never_nine h.0 (sym n ∙ h.1))
]
