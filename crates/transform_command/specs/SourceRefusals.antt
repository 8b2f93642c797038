-- What a refusal of a source says.
use Rattle.std.specs.Prelude.{◌≡◌, List, ℕ}
use Rattle.wa_types.specs.declared.bounds.LimitKind.TheVariants.{Locals as some_locals, Output as an_output}
use Rattle.module_rewrite.specs.declared.fault.RewriteFault.{RewriteFault}
use Rattle.module_rewrite.specs.declared.fault.RewriteFault.TheVariants.{Memory as rewrite_memory, Locals as rewrite_locals, Reserved as rewrite_reserved}
use Rattle.module_rewrite.specs.declared.byte_fault.EmitFault.{EmitFault}
use Rattle.module_rewrite.specs.declared.byte_fault.EmitFault.TheVariants.{Memory as emit_memory, Locals as emit_locals, TooLong as emit_too_long}
use Rattle.transcript.specs.declared.refusals.RefusalKind.TheVariants.{Limit}
use Rattle.module_files.specs.declared.fault.FileFault.{FileFault}
use Rattle.module_files.specs.declared.fault.FileFault.TheVariants.{Memory, Refused}
use Rattle.script_model.specs.Command.{Manner}
use Rattle.script_model.specs.Transcript.{Refusal}
use Rattle.transform_command.specs.Sources.{Cause, IsRefusedIn, IsUnwritten, refusal_for}

-- the bytes are refused for a cause, of which this is told
abbrev pub IsRefusedAs : Manner → List ℕ → Refusal → Type 0
IsRefusedAs how bytes r = (cause : Cause) × IsRefusedIn how bytes cause × (r ≡ refusal_for cause)

-- .. before anything is written
abbrev pub IsRefusedUnwritten : Manner → List ℕ → Refusal → Type 0
IsRefusedUnwritten how bytes r = (cause : Cause) × IsRefusedIn how bytes cause × IsUnwritten cause × (r ≡ refusal_for cause)

-- the fault of a source that wasn't rewritten
abbrev pub IsOfRewrite : RewriteFault → FileFault → Type 0
IsOfRewrite rewrite_memory fault = fault ≡ Memory
IsOfRewrite (rewrite_locals func count) fault = fault ≡ Refused (Limit some_locals count)
IsOfRewrite (rewrite_reserved at) fault = ⊥

-- the fault of a source whose rewritten module wasn't written
abbrev pub IsOfEmit : EmitFault → FileFault → Type 0
IsOfEmit emit_memory fault = fault ≡ Memory
IsOfEmit (emit_locals func count) fault = fault ≡ Refused (Limit some_locals count)
IsOfEmit (emit_too_long len) fault = fault ≡ Refused (Limit an_output len)

-- no name is reserved
abbrev pub IsUnreserved : RewriteFault → Type 0
IsUnreserved (rewrite_reserved at) = ⊥
IsUnreserved _ = Unit {0}
