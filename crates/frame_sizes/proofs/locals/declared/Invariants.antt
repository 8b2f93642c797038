use Rattle.std.proofs.Common.{◌≡◌, take}
use Rattle.wa_types.specs.Modules.{declared_locals}
use Rattle.frame_sizes.proofs.locals.declared.Given as goal

abbrev pub invariant-loop-run : goal.invariant-loop-run
invariant-loop-run l = l.types.items ≡ declared_locals (take l.run-index l.runs)
