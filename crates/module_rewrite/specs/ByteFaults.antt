-- Faults of flattening and of writing, as those of emitting.
use Rattle.flatten.specs.declared.fault.FlatFault.{FlatFault}
use Rattle.flatten.specs.declared.fault.FlatFault.TheVariants as F
use Rattle.wasm_encode.specs.declared.EncodeFault.{EncodeFault}
use Rattle.wasm_encode.specs.declared.EncodeFault.TheVariants as E
use Rattle.module_rewrite.specs.declared.byte_fault.EmitFault.{EmitFault}
use Rattle.module_rewrite.specs.declared.byte_fault.EmitFault.TheVariants.{Memory, Locals, TooLong}

-- a fault of flattening
abbrev pub of_flat : FlatFault → EmitFault
of_flat F.Memory = Memory
of_flat (F.Locals func count) = Locals func count

-- a fault of writing bytes
abbrev pub of_encode : EncodeFault → EmitFault
of_encode E.Memory = Memory
of_encode (E.TooLong len) = TooLong len
