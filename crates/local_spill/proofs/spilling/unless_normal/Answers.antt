use Rattle.std.proofs.Common.{ap, refl, ◌∙◌}
use Rattle.wa_types.specs.View.{onto, in_front}
use Rattle.wa_types.specs.declared.instrs.Instr.TheVariants.{GlobalGet}
use Rattle.local_spill.proofs.PutLemmas.{put_first, if_is, no_code}
use Rattle.local_spill.proofs.spilling.unless_normal.Goals as goal

pub returns : goal.returns
unfolding onto in_front
returns c =
    put_first _ _ _ c.new-out.ensures.items (λ rest. c.in_ok-put_all.ensures rest
    ∙ ap (λ k. onto c.new-out.result.items (in_front (GlobalGet c.args.state) k)) (if_is _ _ _ _ refl (no_code _ c.new.ensures.items) rest))
