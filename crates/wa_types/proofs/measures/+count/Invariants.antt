use Rattle.std.proofs.Common.{◌≡◌, ◌+◌, drop}
use Rattle.wa_types.specs.View.{code}
use Rattle.wa_types.specs.Counts.{count_of}
use Rattle.wa_types.proofs.measures.+count.Given as goal

abbrev pub invariant-count-loop-instr : goal.invariant-count-loop-instr
invariant-count-loop-instr l = l.n + count_of (code (drop l.instr-index l.body)) ≡ count_of (code l.body)
