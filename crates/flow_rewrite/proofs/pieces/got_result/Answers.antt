use Rattle.std.proofs.Common.{ap, sym, ◌∙◌}
use Rattle.wa_types.specs.Syntax.{done, local_get, plain}
use Rattle.wa_types.specs.View.{code, onto}
use Rattle.wa_types.proofs.ViewLemmas.{code_none, onto_done, onto_none}
use Rattle.run_theory.specs.Flat.{result_got}
use Rattle.flow_rewrite.proofs.PutLemmas.{get_is, put_one}
use Rattle.flow_rewrite.proofs.pieces.got_result.Goals as goal

pub returns-in-None : goal.returns-in-None
returns-in-None c = ap code c.new-out.ensures.items ∙ code_none ∙ ap result_got (sym c.in-None.is)

pub returns-in_ok-push-in-Some : goal.returns-in_ok-push-in-Some
returns-in_ok-push-in-Some c =
    let x = c.in-Some.x in
    sym (onto_done c.push.new.self.items) ∙ put_one _ _ _ (plain (local_get x)) c.in_ok-push-in-Some.ensures.items (get_is x) done
    ∙ ap (λ xs. onto xs (plain (local_get x) done)) c.new-out.ensures.items ∙ onto_none _ ∙ ap result_got (sym c.in-Some.is)
