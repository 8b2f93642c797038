use Rattle.std.proofs.Common.{◌≤◌, length}
use Rattle.wasm_build.proofs.Betweens.{Gotten}
use Rattle.wasm_build.proofs.entry.fill.Given as goal

abbrev pub invariant-loop-index : goal.invariant-loop-index
invariant-loop-index g l = record {
  left : length l.input.left ≤ length l.fn.input.left;
  gotten : Gotten g.E.Entry.view g.E.Entry.spelled l.count l.fn.input l.fn.items.items l.items.items l._index l.input;
}
