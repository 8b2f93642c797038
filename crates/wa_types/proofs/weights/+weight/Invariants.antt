use Rattle.std.proofs.Common.{◌≡◌, ◌+◌, drop}
use Rattle.wa_types.specs.View.{code, module_of}
use Rattle.wa_types.specs.Pruned.{pruned}
use Rattle.wa_types.specs.Bounds.{code_weight}
use Rattle.wa_types.proofs.weights.+weight.Given as goal

abbrev pub invariant-body_weight-loop-instr : goal.invariant-body_weight-loop-instr
invariant-body_weight-loop-instr l =
    l.n + code_weight (module_of l.module) (pruned (code (drop l.instr-index l.body))) ≡ code_weight (module_of l.module) (pruned (code l.body))
