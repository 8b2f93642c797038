use Rattle.wasm_grammar.specs.Goals.{kind_of}
use Rattle.wasm_grammar.specs.Passing.{PassesEntries}
use Rattle.wasm_grammar.proofs.short.short_entries.Given as goal

abbrev pub invariant-loop-index : goal.invariant-loop-index
invariant-loop-index l = PassesEntries l.bytes.all (kind_of l.kind) l.n l.at l.index l.stop
