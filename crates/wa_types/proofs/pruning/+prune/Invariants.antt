use Rattle.std.proofs.Common.{◌≡◌, drop}
use Rattle.wa_types.specs.View.{code, onto}
use Rattle.wa_types.specs.Pruned.{pruned}
use Rattle.wa_types.proofs.pruning.+prune.Given as goal

abbrev pub invariant-prune-loop-instr : goal.invariant-prune-loop-instr
invariant-prune-loop-instr l = onto l.out.items (pruned (code (drop l.instr-index l.body))) ≡ pruned (code l.body)
