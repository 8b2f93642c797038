use Rattle.std.proofs.Common.{◌≡◌, ◌≤◌, max, drop}
use Rattle.wa_types.specs.View.{code}
use Rattle.wa_types.specs.Counts.{count_of, depth_of}
use Rattle.wa_types.proofs.measures.+depth.Given as goal

abbrev pub invariant-depth-loop-instr : goal.invariant-depth-loop-instr
invariant-depth-loop-instr l =
    (max l.deepest (depth_of (code (drop l.instr-index l.body))) ≡ depth_of (code l.body)) × (count_of (code (drop l.instr-index l.body)) ≤ count_of (code l.body))
