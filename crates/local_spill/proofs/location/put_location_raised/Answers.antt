use Rattle.std.proofs.Common.{ap}
use Rattle.wa_types.specs.declared.instrs.Instr.TheVariants.{Const, GlobalGet, LocalGet, Num}
use Rattle.wa_types.specs.declared.operators.NumOp.TheVariants.{I32Add}
use Rattle.wa_types.specs.declared.values.Value.TheVariants as V
use Rattle.wa_types.specs.View.{onto, in_front}
use Rattle.local_spill.proofs.PutLemmas.{put_as}
use Rattle.local_spill.proofs.location.put_location_raised.Goals as goal

pub returns : goal.returns
unfolding onto in_front
returns c =
    put_as c.put_all.result _ _ _ _
    (λ rest. ap (λ k. in_front (GlobalGet c.args.address) (in_front (LocalGet c.args.scratch) (in_front (Const (V.I32 c.args.size)) (in_front (Num I32Add) k)))) (c.store_of.ensures rest))
    c.put_all.ensures
