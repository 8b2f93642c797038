use Rattle.std.proofs.Common.{◌≡◌, take}
use Rattle.call_frames.specs.Views.{fields_in, fields_of}
use Rattle.call_frames.proofs.keeping.kept_locals.Given as goal

abbrev pub invariant-loop-local : goal.invariant-loop-local
invariant-loop-local l = fields_of l.kept.items ≡ fields_in 0 (take l.local l.set) l.types
