use Rattle.std.proofs.Common.{sym, ◌∙◌}
use Rattle.flow_rewrite.proofs.PutLemmas.{put_one}
use Rattle.slim_rewrite.proofs.MoveLemmas.{tee_is, tee_stepped}
use Rattle.slim_rewrite.proofs.moves.move_again.Goals as goal

pub returns : goal.returns
returns c = λ e.
    tee_stepped c.args.at.now c.push.new.self c.args.to c.args.from c.requires.good c.requires.slot (sym c.is_slot.ensures ∙ c.if-is_slot.false) (c.is_kept_top.ensures c.if-not-is_kept_top.false)
    (put_one _ _ _ _ c.in_ok-push.ensures.items (tee_is c.args.to))
