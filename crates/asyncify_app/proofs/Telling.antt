-- What becomes of files and of what is printed, where they are told.
use Rattle.std.proofs.Common.{◌≡◌, ℕ, List, Option, Some, None, refl, sym, ap, ◌∙◌, subst, inl, inr, length, arith}
use Rattle.std.proofs.lemmas.List.{take_all}
use Rattle.vault_port.specs.Files.{Files, ChangesOnly, HoldsFrontAtMost}
use Rattle.vault_port.specs.Taken.{Appends, AppendsLess}
use Rattle.vault_port.specs.Told.{Becomes}
use Rattle.wa_types.specs.Encoding.{Enc}
use Rattle.wa_types.specs.Syntax.{Module}
use Rattle.script_model.specs.Transcript.{refusal_line, write_fault}
use Rattle.transcript.specs.Refused.{EndsInMemory, PrintsMemory}
use Rattle.transcript.proofs.Printed.{memory_alone}
use Rattle.gen_module.specs.Generated.{generated}
use Rattle.asyncify_app.specs.Playing.{PlaysGenerated}
use Rattle.asyncify_app.specs.Printed.{PrintsGenerated, PrintsLess, RunsOutOfMemory, three_lines}

-- a file that is as before
pub nothing_held : (name bytes : List ℕ) (old new : Option Files) → new ≡ old → Becomes old new (HoldsFrontAtMost name bytes)
nothing_held name bytes None None e = tt
nothing_held name bytes (Some x) (Some y) e =
    let same : y ≡ x = cc in
    record { changed = inr (ap (λ (files : Files). files name) same); others = λ other differs. ap (λ (files : Files). files other) same }
nothing_held name bytes None (Some y) e = cc
nothing_held name bytes (Some x) None e = cc

-- all bytes are first bytes
pub all_held : (name bytes : List ℕ) (old new : Option Files) → Becomes old new (ChangesOnly name bytes) → Becomes old new (HoldsFrontAtMost name bytes)
all_held name bytes None None h = tt
all_held name bytes (Some x) (Some y) h = record { changed = inl (length bytes, h.changed ∙ ap (λ (b : List ℕ). Some b) (sym (take_all (length bytes) bytes (omega arith)))); others = h.others }
all_held name bytes None (Some y) h = h
all_held name bytes (Some x) None h = h

pub held_as : (n : ℕ) (m : Module) (name : List ℕ) (old new : Option Files) → m ≡ generated n → Becomes old new (ChangesOnly name (Enc m)) → Becomes old new (HoldsFrontAtMost name (Enc (generated n)))
held_as n m name old new e h = subst (λ (z : Module). Becomes old new (HoldsFrontAtMost name (Enc z))) e (all_held name (Enc m) old new h)

-- the line on memory alone, where any line might have been begun
pub memory_any : (n : ℕ) (output : List ℕ) (f f' : ℕ) (old new : Option (List ℕ)) → Becomes old new (EndsInMemory f f') → Becomes old new (RunsOutOfMemory n output f f')
memory_any n output f f' None None h = tt
memory_any n output f f' (Some x) (Some y) h = (refusal_line None (write_fault output), inr refl, memory_alone (refusal_line None (write_fault output)) f f' (Some x) (Some y) h)
memory_any n output f f' None (Some y) h = h
memory_any n output f f' (Some x) None h = h

-- lines of what was written and run
pub lines_printed : (n bytes used value : ℕ) (old new : Option (List ℕ)) → bytes ≡ length (Enc (generated n)) → PlaysGenerated n used value
    → Becomes old new (Appends (three_lines n bytes used value)) → Becomes old new (PrintsGenerated n)
lines_printed n bytes used value None None b p h = tt
lines_printed n bytes used value (Some x) (Some y) b p h = (three_lines n bytes used value, (used, value, p, ap (λ k. three_lines n k used value) b), h)
lines_printed n bytes used value None (Some y) b p h = h
lines_printed n bytes used value (Some x) None b p h = h

pub lines_less : (n bytes used value : ℕ) (old new : Option (List ℕ)) → bytes ≡ length (Enc (generated n)) → PlaysGenerated n used value
    → Becomes old new (AppendsLess (three_lines n bytes used value)) → Becomes old new (PrintsLess n)
lines_less n bytes used value None None b p h = tt
lines_less n bytes used value (Some x) (Some y) b p h = (three_lines n bytes used value, (used, value, p, ap (λ k. three_lines n k used value) b), h)
lines_less n bytes used value None (Some y) b p h = h
lines_less n bytes used value (Some x) None b p h = h

pub lines_memory : (n bytes used value : ℕ) (output : List ℕ) (f f' : ℕ) (old new : Option (List ℕ)) → bytes ≡ length (Enc (generated n)) → PlaysGenerated n used value
    → Becomes old new (PrintsMemory (three_lines n bytes used value) f f')
    → Becomes old new (RunsOutOfMemory n output f f')
lines_memory n bytes used value output f f' None None b p h = tt
lines_memory n bytes used value output f f' (Some x) (Some y) b p h = (three_lines n bytes used value, inl (used, value, p, ap (λ k. three_lines n k used value) b), h)
lines_memory n bytes used value output f f' None (Some y) b p h = h
lines_memory n bytes used value output f f' (Some x) None b p h = h

-- the refusal's line
pub refusal_memory : (n : ℕ) (output : List ℕ) (f f' : ℕ) (old new : Option (List ℕ)) → Becomes old new (PrintsMemory (refusal_line None (write_fault output)) f f')
    → Becomes old new (RunsOutOfMemory n output f f')
refusal_memory n output f f' None None h = tt
refusal_memory n output f f' (Some x) (Some y) h = (refusal_line None (write_fault output), inr refl, h)
refusal_memory n output f f' None (Some y) h = h
refusal_memory n output f f' (Some x) None h = h
