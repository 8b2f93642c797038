use Rattle.std.proofs.Common.{sym, ◌∙◌}
use Rattle.std.proofs.lemmas.Result.{IfOk-weaker}
use Rattle.flow_rewrite.proofs.PutLemmas.{put_one, set_is}
use Rattle.slim_rewrite.proofs.MoveLemmas.{kept_assigned, set_assigned}
use Rattle.slim_rewrite.proofs.moves.put_set.Goals as goal

pub returns-then-is_slot : goal.returns-then-is_slot
returns-then-is_slot c = IfOk-weaker c.keep.result _ _ (λ put kept e. kept_assigned c.args.at.now c.keep.new.at c.args.to c.requires (kept e)) c.keep.ensures

pub returns : goal.returns
returns c = λ e.
    set_assigned c.args.at.now c.push.new.self c.args.to c.requires (sym c.is_slot.ensures ∙ c.if-is_slot.false) (put_one _ _ _ _ c.in_ok-push.ensures.items (set_is c.args.to))
