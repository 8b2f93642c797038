use Rattle.std.proofs.Common.{◌≡◌, ◌+◌, ◌≤◌, max, drop}
use Rattle.wa_types.specs.View.{code, module_of}
use Rattle.wa_types.specs.Counts.{count_of}
use Rattle.run_theory.specs.Heights.{most_operands}
use Rattle.interp_state.proofs.rooms.+most.Given as goal

abbrev pub invariant-most_operands-loop-instr : goal.invariant-most_operands-loop-instr
invariant-most_operands-loop-instr l = record {
  whole : max l.most (most_operands (module_of l.source) (code (drop l.instr-index l.body)) l.here) ≡ most_operands (module_of l.source) (code l.body) l.height;
  reached : l.here ≤ l.most;
  fits : l.here + count_of (code (drop l.instr-index l.body)) ≤ l.height + count_of (code l.body);
}
