use Rattle.std.proofs.Common.{ap, sym, subst, ◌∙◌, ◌<◌, ◌^◌, map}
use Rattle.std.specs.Prelude.{All}
use Rattle.std.proofs.lemmas.Result.{IfOk-weaker}
use Rattle.guard_form.specs.Guarded.{raise}
use Rattle.flow_rewrite.proofs.RaiseLemmas.{raised_br, raised_br_if, raised_table, raised_other, small_br, small_br_if, small_table}
use Rattle.flow_rewrite.proofs.labels.raised_leaf.Goals as goal

pub raise-requires : goal.raise-requires
raise-requires c = (small_br c.args.inside c.args.by c.in-Br.label c.args.instr.now c.in-Br.is c.requires.raisable, c.requires.raisable.few)

pub raise-requires-in-BrIf : goal.raise-requires-in-BrIf
raise-requires-in-BrIf c = (small_br_if c.args.inside c.args.by c.in-BrIf.label c.args.instr.now c.in-BrIf.is c.requires.raisable, c.requires.raisable.few)

pub raise_each-requires : goal.raise_each-requires
raise_each-requires c = (
  subst (λ xs. All (λ l. l < 2 ^ 31) xs) (sym c.deref.ensures.value)
      (small_table c.args.inside c.args.by c.in-BrTable.labels c.in-BrTable.last c.args.instr.now c.in-BrTable.is c.requires.raisable).0,
  c.requires.raisable.few,
)

pub raise-requires-in-BrTable : goal.raise-requires-in-BrTable
raise-requires-in-BrTable c = ((small_table c.args.inside c.args.by c.in-BrTable.labels c.in-BrTable.last c.args.instr.now c.in-BrTable.is c.requires.raisable).1, c.requires.raisable.few)

pub returns-in-Br : goal.returns-in-Br
returns-in-Br c = raised_br c.args.inside c.args.by c.in-Br.label c.raise.result c.args.instr.now c.in-Br.is c.raise.ensures

pub returns-in-BrIf : goal.returns-in-BrIf
returns-in-BrIf c = raised_br_if c.args.inside c.args.by c.in-BrIf.label c.raise-in-BrIf.result c.args.instr.now c.in-BrIf.is c.raise-in-BrIf.ensures

pub returns-in_ok-raise_each-in-BrTable : goal.returns-in_ok-raise_each-in-BrTable
returns-in_ok-raise_each-in-BrTable c =
    raised_table c.args.inside c.args.by c.in-BrTable.labels c.in_ok-raise_each-in-BrTable.field-0 c.in-BrTable.last c.raise-in-BrTable.result c.args.instr.now c.in-BrTable.is
    (c.in_ok-raise_each-in-BrTable.ensures ∙ ap (map (raise c.args.inside c.args.by)) c.deref.ensures.value) c.raise-in-BrTable.ensures

pub returns-in_default : goal.returns-in_default
returns-in_default c = IfOk-weaker c.copy_leaf.result _ _
    (λ y same. raised_other c.args.inside c.args.by c.args.instr.now y c.requires.leaf c.in_default.not-Br c.in_default.not-BrIf c.in_default.not-BrTable same) c.copy_leaf.ensures
