use Rattle.std.proofs.Common.{ap}
use Rattle.wa_types.specs.declared.instrs.Instr.TheVariants.{LocalGet}
use Rattle.wa_types.specs.View.{onto, in_front}
use Rattle.local_spill.proofs.PutLemmas.{put_as}
use Rattle.local_spill.proofs.putting.put_stored.Goals as goal

pub returns : goal.returns
unfolding onto in_front
returns c = put_as c.put_all.result _ _ _ _ (λ rest. ap (λ k. in_front (LocalGet c.args.scratch) (in_front (LocalGet c.args.place.local) k)) (c.store_of.ensures rest)) c.put_all.ensures
