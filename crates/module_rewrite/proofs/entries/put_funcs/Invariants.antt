use Rattle.std.proofs.Common.{◌≡◌, ◌≤◌, ◌++◌, List, ℕ, drop, length}
use Rattle.module_rewrite.specs.Entries.{value_entries, PutsEntries}
use Rattle.module_rewrite.proofs.entries.put_funcs.Given as goal

abbrev pub invariant-loop-index : goal.invariant-loop-index
invariant-loop-index l = record {
  put : (done : List ℕ) × PutsEntries done l.fn.out l.out × (done ++ value_entries (drop l.index l.funcs) ≡ value_entries (drop l.from l.funcs));
  left : length (value_entries (drop l.index l.funcs)) ≤ length (value_entries (drop l.from l.funcs));
}
