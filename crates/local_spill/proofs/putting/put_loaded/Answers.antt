use Rattle.std.proofs.Common.{ap}
use Rattle.wa_types.specs.declared.instrs.Instr.TheVariants.{LocalGet}
use Rattle.wa_types.specs.View.{onto, in_front}
use Rattle.local_spill.proofs.PutLemmas.{put_as}
use Rattle.local_spill.proofs.putting.put_loaded.Goals as goal

pub returns : goal.returns
unfolding onto in_front
returns c = put_as c.put_all.result _ _ _ _ (λ rest. ap (in_front (LocalGet c.args.scratch)) (c.load_of.ensures _)) c.put_all.ensures
