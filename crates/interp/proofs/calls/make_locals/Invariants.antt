use Rattle.std.proofs.Common.{◌≡◌, ◌++◌, map, take}
use Rattle.wa_types.specs.Modules.{declared_locals}
use Rattle.wa_model.specs.Step.{zero_of}
use Rattle.interp.proofs.calls.make_locals.Given as goal

abbrev pub invariant-loop-run : goal.invariant-loop-run
invariant-loop-run l = l.locals.items ≡ l.args ++ map zero_of (declared_locals (take l.run-index l.runs))
