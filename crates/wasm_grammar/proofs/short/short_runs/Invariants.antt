use Rattle.wasm_grammar.specs.Passing.{PassesRuns}
use Rattle.wasm_grammar.proofs.short.short_runs.Given as goal

abbrev pub invariant-loop-index : goal.invariant-loop-index
invariant-loop-index l = PassesRuns l.bytes.all l.n l.at l.index l.stop
