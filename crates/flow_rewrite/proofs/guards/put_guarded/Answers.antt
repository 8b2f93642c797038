use Rattle.std.proofs.Common.{ap, sym, ◌∙◌, ◌≡◌}
use Rattle.wa_types.specs.Syntax.{done}
use Rattle.wa_types.specs.View.{onto, code}
use Rattle.guard_form.specs.Guarded.{by_state}
use Rattle.flow_rewrite.specs.Emitting.{indices}
use Rattle.wa_types.proofs.ViewLemmas.{code_none}
use Rattle.flow_rewrite.proofs.GuardLemmas.{length_none, length_some, guarded_none, guarded_some}
use Rattle.flow_rewrite.proofs.guards.put_guarded.Goals as goal

pub returns-then-is_empty : goal.returns-then-is_empty
returns-then-is_empty c = λ rest. ap (onto c.args.out.now.items) (sym (guarded_none (indices c.args.guards.now) c.args.piece.now rest (length_none _ _ c.is_empty.ensures c.if-is_empty.true)))

pub returns : goal.returns
returns c = λ rest.
    c.in_ok-put_test.ensures rest
    ∙ (λ j. onto c.args.out.now.items (by_state c.args.guards.now.state (none_code j) (c.in_ok-inside.ensures j) rest))
    ∙ ap (onto c.args.out.now.items) (sym (guarded_some (indices c.args.guards.now) c.args.piece.now rest (length_some _ _ c.is_empty.ensures c.if-is_empty.false)))
  where
    none_code : code c.new.result.items ≡ done
    none_code = ap code c.new.ensures.items ∙ code_none
