use Rattle.std.proofs.Common.{ap, length, map, ◌∙◌, ◌-◌}
use Rattle.std.proofs.lemmas.List.{take_rest}
use Rattle.std.proofs.lemmas.Result.{IfOk-weaker}
use Rattle.wa_types.specs.Syntax.{done}
use Rattle.wa_types.specs.View.{in_front}
use Rattle.wa_model.specs.declared.flat.Operand.TheVariants.{Local}
use Rattle.run_theory.specs.Flat.{last_of}
use Rattle.slim_rewrite.proofs.BranchLemmas.{call_stepped}
use Rattle.slim_rewrite.proofs.branches.put_free_call.Goals as goal

pub returns : goal.returns
returns c =
    IfOk-weaker c.keep_told.result _ _
    (λ put kept e. call_stepped c.args.at.now c.take.new.at c.keep_told.new.at c.deref.result.now c.requires.good
    (c.in_ok-take.ensures c.if-not-branch.false) c.put_copy.new.out (in_front c.args.op.now done) (last_of c.args.args c.args.stack.now) c.args.to
    (c.deref.ensures.value ∙ c.in_ok-slots.ensures ∙ ap (map Local) (take_rest c.args.stack.now (length c.args.stack.now - c.args.args)))
    c.requires.call c.in_ok-put_copy.ensures (kept e))
    c.keep_told.ensures
