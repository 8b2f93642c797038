use Rattle.std.proofs.Common.{◌-◌, ◌≤◌}
use Rattle.wasm_grammar.specs.Passing.{Passes}
use Rattle.wasm_grammar.proofs.short.pass_short.Given as goal

abbrev pub invariant-loop-end : goal.invariant-loop-end
invariant-loop-end l = record {
  ahead : l.at ≤ l.place;
  passes : Passes l.bytes.all l.at l.place l.stop;
}

abbrev pub decreases-loop-end : goal.decreases-loop-end
decreases-loop-end l = l.stop - l.place
