use Rattle.std.proofs.Common.{◌-◌, ◌≤◌, length}
use Rattle.wasm_grammar.specs.Machine.{Stands}
use Rattle.wasm_grammar.specs.Passing.{Below}
use Rattle.wasm_grammar.proofs.machine.Machine.pass.Given as goal

abbrev pub invariant-loop : goal.invariant-loop
invariant-loop l = record {
  stands : Stands l.bounds l.self.marks l.bytes.all l.self.at l.self.goals;
  below : Below l.stop l.self.goals;
  ahead : l.fn.self.at ≤ l.self.at;
}

abbrev pub decreases-loop : goal.decreases-loop
decreases-loop l = length l.bytes.all - l.self.at
