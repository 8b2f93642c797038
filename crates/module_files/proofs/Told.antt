-- A file is refused for what its bytes are.
use Rattle.std.proofs.Common.{ℕ, List, Option}
use Rattle.vault_port.specs.Files.{Files}
use Rattle.script_model.specs.Transcript.{Refusal}
use Rattle.transcript.specs.Printing.{refusal_of}
use Rattle.wasm_reader.specs.Held.{Holds}
use Rattle.module_files.specs.declared.fault.FileFault.{FileFault}
use Rattle.module_files.specs.declared.fault.FileFault.TheVariants.{Memory, Read, Refused}
use Rattle.module_files.specs.Faults.{IsFaultOf, IsToldFault}

pub told_fault : (R : List ℕ → Refusal → Type 0) (files : Option Files) (name bytes : List ℕ) (fault : FileFault) → Holds files name bytes → IsFaultOf (R bytes) fault → IsToldFault R files name fault
told_fault R files name bytes Memory holds h = tt
told_fault R files name bytes Read holds h = tt
told_fault R files name bytes (Refused kind) holds h = (bytes, holds, h)

-- what is said of bytes in other words
pub told_so : (R S : List ℕ → Refusal → Type 0) (files : Option Files) (name : List ℕ) (fault : FileFault) → ((bytes : List ℕ) (r : Refusal) → R bytes r → S bytes r) → IsToldFault R files name fault
    → IsToldFault S files name fault
told_so R S files name Memory by h = tt
told_so R S files name Read by h = tt
told_so R S files name (Refused kind) by h = (h.0, h.1, by h.0 (refusal_of kind) h.2)

pub fault_so : (P Q : Refusal → Type 0) (fault : FileFault) → ((r : Refusal) → P r → Q r) → IsFaultOf P fault → IsFaultOf Q fault
fault_so P Q Memory by h = tt
fault_so P Q Read by h = h
fault_so P Q (Refused kind) by h = by (refusal_of kind) h
