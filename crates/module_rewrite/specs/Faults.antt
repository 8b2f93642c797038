-- Faults of flattening, as those of rewriting.
use Rattle.flatten.specs.declared.fault.FlatFault.{FlatFault}
use Rattle.flatten.specs.declared.fault.FlatFault.TheVariants as F
use Rattle.module_rewrite.specs.declared.fault.RewriteFault.{RewriteFault}
use Rattle.module_rewrite.specs.declared.fault.RewriteFault.TheVariants.{Memory, Locals}

-- a fault of flattening
abbrev pub of_flat : FlatFault → RewriteFault
of_flat F.Memory = Memory
of_flat (F.Locals func count) = Locals func count
