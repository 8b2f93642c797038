use Rattle.std.proofs.Common.{◌≡◌, drop, slice_get}
use Rattle.wa_types.specs.Modules.{declared_locals}
use Rattle.validate_bodies.proofs.context.gone_through.Given as goal

abbrev pub invariant-loop-run : goal.invariant-loop-run
invariant-loop-run l = slice_get (declared_locals (drop l.run-index l.runs)) l.left ≡ slice_get (declared_locals l.runs) l.x
