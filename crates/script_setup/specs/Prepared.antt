-- Which modules a host takes as they are, and why others are refused.
use Rattle.std.specs.Prelude.{ℕ, List}
use Rattle.wa_types.specs.ModuleBounds.{prepared_bounds}
use Rattle.wa_types.specs.FirstFault.{FirstFault}
use Rattle.wa_types.specs.Syntax.{Module}
use Rattle.wa_types.specs.Validity.{Valid}
use Rattle.script_model.specs.Transcript.{Refusal, usage, out_of_memory, malformed, float, nesting, limit, invalid, read_fault, write_fault, snapshot_limit, snapshot_refused}
use Rattle.wasm_reader.specs.declared.read_fault.ReadFault.TheVariants.{Malformed, Float, Deep, Limit}
use Rattle.wasm_reader.specs.Answers.{IsAccepted, IsRefused}
use Rattle.transcript.specs.Printing.{refusal_of}
use Rattle.module_files.specs.declared.fault.FileFault.{FileFault}
use Rattle.module_files.specs.declared.fault.FileFault.TheVariants.{Refused}

-- The bytes spell this module, without a float and within the limits of a prepared module, and it is valid. No name is reserved.
pub record IsPrepared (bytes : List ℕ) (m : Module) : Type 0 where
  pub read : IsAccepted prepared_bounds bytes m
  pub valid : Valid m

-- the bytes are refused for this: for what reading refuses, or for the first fault of a module that isn't valid
abbrev pub IsUnprepared : List ℕ → Refusal → Type 0
IsUnprepared bytes (malformed at) = IsRefused prepared_bounds bytes (Malformed at)
IsUnprepared bytes (float at) = IsRefused prepared_bounds bytes (Float at)
IsUnprepared bytes (nesting at) = IsRefused prepared_bounds bytes (Deep at)
IsUnprepared bytes (limit what found) = IsRefused prepared_bounds bytes (Limit what found)
IsUnprepared bytes (invalid func rule at) = (m : Module) × IsAccepted prepared_bounds bytes m × FirstFault m func rule at
IsUnprepared bytes _ = ⊥

-- a refusal of what a script's or a module's file holds
abbrev pub IsOfContent : Refusal → Type 0
IsOfContent usage = ⊥
IsOfContent out_of_memory = ⊥
IsOfContent (read_fault name) = ⊥
IsOfContent (write_fault name) = ⊥
IsOfContent (snapshot_limit found) = ⊥
IsOfContent snapshot_refused = ⊥
IsOfContent _ = Unit {0}

-- .. where the fault is one
abbrev pub IsContentFault : FileFault → Type 0
IsContentFault (Refused kind) = IsOfContent (refusal_of kind)
IsContentFault _ = Unit {0}
