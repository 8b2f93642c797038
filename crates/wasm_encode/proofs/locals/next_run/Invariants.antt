use Rattle.std.proofs.Common.{◌≡◌, ◌≢◌, ◌+◌, ◌-◌, ◌<◌, ◌≤◌, length, drop}
use Rattle.wa_types.specs.Encoding.{merged}
use Rattle.wasm_encode.specs.Locals.{local_count, in_front_of}
use Rattle.wasm_encode.proofs.locals.next_run.Given as goal

abbrev pub invariant-loop-at : goal.invariant-loop-at
invariant-loop-at l = record {
  within : l.at ≤ length l.runs;
  from : l.fn.at ≤ l.at;
  moved : l.run.count ≢ 0 → l.fn.at < l.at;
  total : l.run.count + local_count (drop l.at l.runs) ≤ local_count l.runs;
  merges : in_front_of l.run (merged (drop l.at l.runs)) ≡ merged (drop l.fn.at l.runs);
}

abbrev pub decreases-loop-at : goal.decreases-loop-at
decreases-loop-at l = length l.runs - l.at
