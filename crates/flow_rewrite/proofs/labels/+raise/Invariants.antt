use Rattle.std.proofs.Common.{◌≡◌, drop}
use Rattle.wa_types.specs.View.{code, onto}
use Rattle.guard_form.specs.Guarded.{raised}
use Rattle.flow_rewrite.proofs.labels.+raise.Given as goal

abbrev pub invariant-raise_onto-loop-instr : goal.invariant-raise_onto-loop-instr
invariant-raise_onto-loop-instr l = onto l.out.items (raised l.inside l.by (code (drop l.instr-index l.body))) ≡ onto l.fn.out.items (raised l.inside l.by (code l.body))
