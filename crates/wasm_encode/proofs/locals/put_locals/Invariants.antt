use Rattle.std.proofs.Common.{◌≡◌, ◌-◌, ◌≤◌, ◌++◌, length, drop}
use Rattle.std.specs.List.{flat_map}
use Rattle.wa_types.specs.Encoding.{vector, merged, run_bytes}
use Rattle.wasm_encode.proofs.locals.put_locals.Given as goal

abbrev pub invariant-loop-run : goal.invariant-loop-run
invariant-loop-run l = record {
  within : l.at ≤ length l.runs;
  put : l.out.items ++ flat_map run_bytes (merged (drop l.at l.runs)) ≡ l.fn.out.items ++ vector run_bytes (merged l.runs);
}

abbrev pub decreases-loop-run : goal.decreases-loop-run
decreases-loop-run l = length l.runs - l.at
