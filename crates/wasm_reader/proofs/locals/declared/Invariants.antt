use Rattle.std.proofs.Common.{◌≡◌, ◌*◌, ◌+◌, ◌≤◌, drop}
use Rattle.wasm_reader.specs.Locals.{counts_of}
use Rattle.wasm_reader.proofs.locals.declared.Given as goal

abbrev pub invariant-loop-run : goal.invariant-loop-run
invariant-loop-run l = (l.count + counts_of (drop l.run-index l.runs) ≡ counts_of l.runs) × (l.count ≤ l.run-index * 4294967295)
