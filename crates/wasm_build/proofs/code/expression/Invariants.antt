use Rattle.std.proofs.Common.{◌≤◌, length}
use Rattle.wasm_build.specs.BuildsLevels.{Running}
use Rattle.wasm_build.proofs.code.expression.Given as goal

abbrev pub invariant-loop-body : goal.invariant-loop-body
invariant-loop-body l = record {
  left : length l.input.left ≤ length l.fn.input.left;
  running : Running l.fn.input l.levels.items l.body.items l.input;
}

abbrev pub decreases-loop-body : goal.decreases-loop-body
decreases-loop-body l = length l.input.left
