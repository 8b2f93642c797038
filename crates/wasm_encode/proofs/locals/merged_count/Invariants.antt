use Rattle.std.proofs.Common.{◌≡◌, ◌+◌, ◌-◌, ◌≤◌, length, drop}
use Rattle.wa_types.specs.Encoding.{merged}
use Rattle.wasm_encode.proofs.locals.merged_count.Given as goal

abbrev pub invariant-loop-run : goal.invariant-loop-run
invariant-loop-run l = record {
  within : l.at ≤ length l.runs;
  few : l.count ≤ l.at;
  counted : l.count + length (merged (drop l.at l.runs)) ≡ length (merged l.runs);
}

abbrev pub decreases-loop-run : goal.decreases-loop-run
decreases-loop-run l = length l.runs - l.at
