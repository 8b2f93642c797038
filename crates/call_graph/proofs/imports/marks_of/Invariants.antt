use Rattle.std.proofs.Common.{◌≡◌, ℕ, List, take}
use Rattle.std.specs.List.{filter_map}
use Rattle.wa_types.specs.declared.syntax.Import.{Import}
use Rattle.wa_types.specs.Modules.{imported_func}
use Rattle.wa_types.specs.Pausing.{Choice, is_listed, listed_import}
use Rattle.call_graph.specs.Index.{indexed}
use Rattle.call_graph.proofs.imports.marks_of.Given as goal

abbrev pub invariant-loop-import : goal.invariant-loop-import
invariant-loop-import l =
    (k : Choice) → ((name : List ℕ) → indexed l.index name ≡ is_listed k name)
    → l.marks.items ≡ filter_map (λ (i : Import). listed_import k i (imported_func i.kind)) (take l.import-index l.imports)
