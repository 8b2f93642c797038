use Rattle.std.proofs.Common.{◌≡◌, ℕ, List, take}
use Rattle.call_graph.specs.Entries.{any_names}
use Rattle.call_graph.specs.Index.{indexed}
use Rattle.call_graph.proofs.imports.Index.of_list.Given as goal

abbrev pub invariant-loop-entry : goal.invariant-loop-entry
invariant-loop-entry l = (name : List ℕ) → indexed l.index name ≡ any_names (take l.entry-index l.entry-items) name
