-- What holds of the front of a script that was read holds of the file; what is told of a module.
use Rattle.std.proofs.Common.{◌≡◌, inl, inr, ℕ, List, Option, Some, None, subst, take, arith, Result, Ok, Err}
use Rattle.std.specs.Prelude.{IsSome}
use Rattle.std.specs.Result.{IfErr}
use Rattle.std.proofs.lemmas.List.{take_all, length-take}
use Rattle.vault_port.specs.Files.{Files, bytes_of}
use Rattle.vault_port.specs.Told.{WhereTold}
use Rattle.wa_types.specs.ModuleBounds.{prepared_bounds}
use Rattle.wa_types.specs.Syntax.{Module}
use Rattle.script_model.specs.Script as T
use Rattle.script_model.specs.Transcript.{Refusal, usage, out_of_memory, malformed, float, nesting, invalid, limit, reserved, script, read_fault, write_fault, snapshot_limit, snapshot_refused}
use Rattle.transcript.specs.Printing.{refusal_of}
use Rattle.wasm_reader.specs.Held.{Holds}
use Rattle.wasm_reader.proofs.Held.{holds_own}
use Rattle.wasm_reader.specs.Answers.{IsAccepted}
use Rattle.module_files.specs.Faults.{IsFaultOf, IsInvalid, IsToldFault, IsUnread}
use Rattle.module_files.specs.declared.fault.FileFault.{FileFault}
use Rattle.module_files.specs.declared.fault.FileFault.TheVariants.{Memory, Read, Refused}
use Rattle.script_setup.specs.Prepared.{IsContentFault, IsOfContent, IsUnprepared}
use Rattle.script_setup.specs.Scripts.{IsScript, IsNoScript, HasFault}

-- ---- scripts

script_whole : (bytes : List ℕ) (s : T.Script) → IsScript (take 1048577 bytes) s → IsScript bytes s
script_whole bytes s h = subst (λ b. IsScript b s) (take_all 1048577 bytes (omega (arith, length-take 1048577 bytes, h.few))) h

no_script_whole : (bytes : List ℕ) (r : Refusal) → IsNoScript (take 1048577 bytes) r → IsNoScript bytes r
no_script_whole bytes r h = elim h [
  | inl long ↦ inl (omega (arith, long.0, length-take 1048577 bytes), long.1)
  | inr f ↦ inr (f.0, subst (λ b. HasFault b f.0) (take_all 1048577 bytes (omega (arith, length-take 1048577 bytes, f.1.few))) f.1, f.2)
]

pub script_of_file : (name bytes : List ℕ) (files : Option Files) (s : T.Script) → WhereTold files (λ all. bytes ≡ take 1048577 (bytes_of all name)) → WhereTold files (λ all. IsSome (all name))
    → IsScript bytes s
    → (whole : List ℕ) × Holds files name whole × IsScript whole s
script_of_file name bytes None s read there h = (bytes, tt, h)
script_of_file name bytes (Some all) s read there h = (bytes_of all name, holds_own all name there, script_whole (bytes_of all name) s (subst (λ b. IsScript b s) read h))

pub no_script_of : (name bytes : List ℕ) (files : Option Files) (fault : FileFault) → WhereTold files (λ all. bytes ≡ take 1048577 (bytes_of all name)) → WhereTold files (λ all. IsSome (all name))
    → IsFaultOf (IsNoScript bytes) fault → IsToldFault IsNoScript files name fault
no_script_of name bytes files Memory read there h = tt
no_script_of name bytes files Read read there h = absurd h
no_script_of name bytes None (Refused kind) read there h = (bytes, tt, h)
no_script_of name bytes (Some all) (Refused kind) read there h =
    (bytes_of all name, holds_own all name there, no_script_whole (bytes_of all name) (refusal_of kind) (subst (λ b. IsNoScript b (refusal_of kind)) read h))

-- ---- modules

-- what reading or validity refuses
pub unread_unprepared : (bytes : List ℕ) (r : Refusal) → IsUnread prepared_bounds bytes r → IsUnprepared bytes r
unread_unprepared bytes (malformed at) h = h
unread_unprepared bytes (float at) h = h
unread_unprepared bytes (nesting at) h = h
unread_unprepared bytes (limit what found) h = h
unread_unprepared bytes _ h = absurd h

pub invalid_unprepared : (bytes : List ℕ) (m : Module) → IsAccepted prepared_bounds bytes m → (r : Refusal) → IsInvalid m r → IsUnprepared bytes r
invalid_unprepared bytes m read (invalid func rule at) h = (m, read, h)
invalid_unprepared bytes m read _ h = absurd h

content_of : (bytes : List ℕ) (r : Refusal) → IsUnprepared bytes r → IsOfContent r
content_of bytes (malformed at) h = tt
content_of bytes (float at) h = tt
content_of bytes (nesting at) h = tt
content_of bytes (limit what found) h = tt
content_of bytes (invalid func rule at) h = tt
content_of bytes (reserved name) h = tt
content_of bytes (script line rule) h = tt
content_of bytes usage h = h
content_of bytes out_of_memory h = h
content_of bytes (read_fault name) h = h
content_of bytes (write_fault name) h = h
content_of bytes (snapshot_limit found) h = h
content_of bytes snapshot_refused h = h

pub content_told : (name : List ℕ) (files : Option Files) (fault : FileFault) → IsToldFault IsUnprepared files name fault → IsContentFault fault
content_told name files Memory h = tt
content_told name files Read h = tt
content_told name files (Refused kind) h = content_of h.0 (refusal_of kind) h.2

pub if_err_weaker : {T E : Type 0} (r : Result T E) (P Q : E → Type 0) → ((e : E) → P e → Q e) → IfErr r P → IfErr r Q
if_err_weaker (Ok x) P Q f h = tt
if_err_weaker (Err e) P Q f h = f e h
