-- What lines name, and refusals, as plain data.
use Rattle.std.specs.Prelude.{ℕ, List, []}
use Rattle.script_model.specs.Transcript as T
use Rattle.transcript.specs.declared.events.Names.{Names}
use Rattle.transcript.specs.declared.refusals.RefusalKind.{RefusalKind}
use Rattle.transcript.specs.declared.refusals.RefusalKind.TheVariants.{Usage, Malformed, Float, Invalid, Limit, Nesting, Reserved, Script, OutOfMemory, ReadFault, WriteFault, LimitSnapshot, SnapshotRefused}

-- the names of a program's lines
abbrev pub names_of : Names → T.Names
names_of n = record { imports = n.imports.items; entries = n.entries.items; len = n.len }

-- names of imports alone
abbrev pub of_imports : List (List ℕ) → T.Names
of_imports imports = record { imports = imports; entries = []; len = 0 }

-- a refusal
abbrev pub refusal_of : RefusalKind → T.Refusal
refusal_of Usage = T.usage
refusal_of (Malformed at) = T.malformed at
refusal_of (Float at) = T.float at
refusal_of (Invalid func rule at) = T.invalid func rule at
refusal_of (Limit what found) = T.limit what found
refusal_of (Nesting at) = T.nesting at
refusal_of (Reserved name) = T.reserved name
refusal_of (Script line rule) = T.script line rule
refusal_of OutOfMemory = T.out_of_memory
refusal_of (ReadFault name) = T.read_fault name
refusal_of (WriteFault name) = T.write_fault name
refusal_of (LimitSnapshot found) = T.snapshot_limit found
refusal_of SnapshotRefused = T.snapshot_refused
