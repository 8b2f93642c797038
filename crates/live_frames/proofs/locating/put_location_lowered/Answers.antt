use Rattle.std.proofs.Common.{ap, ◌∙◌}
use Rattle.std.proofs.lemmas.Result.{on_ok_weaker}
use Rattle.wa_types.specs.declared.instrs.Instr.TheVariants.{GlobalGet, LocalGet}
use Rattle.wa_types.specs.View.{onto, in_front}
use Rattle.live_frames.proofs.locating.put_location_lowered.Goals as goal

pub returns : goal.returns
unfolding onto in_front
returns c = on_ok_weaker c.put_all.result (λ h rest. h rest ∙ ap (onto c.args.out.now.items) (ap (λ k. in_front (GlobalGet c.args.address) (in_front (LocalGet c.args.scratch) k)) (c.store_of.ensures rest))) c.put_all.ensures
