use Rattle.std.proofs.Common.{◌≡◌, drop}
use Rattle.wa_model.specs.Step.{same_types}
use Rattle.interp_state.proofs.program.same_types.Given as goal

abbrev pub invariant-loop-i : goal.invariant-loop-i
invariant-loop-i l = same_types (drop l.i l.these) (drop l.i l.those) ≡ same_types l.these l.those
