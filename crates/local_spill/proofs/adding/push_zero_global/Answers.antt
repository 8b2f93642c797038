use Rattle.std.proofs.Common.{true, ap}
use Rattle.wa_types.specs.declared.values.ValType.TheVariants.{I32}
use Rattle.wa_types.specs.View.{global_of}
use Rattle.wa_types.specs.Syntax.{GlobalDef}
use Rattle.local_spill.proofs.Bodies.{map_one, zero_code}
use Rattle.local_spill.proofs.adding.push_zero_global.Goals as goal

pub returns : goal.returns
returns c =
    map_one global_of _ _ _ _ c.in_ok-push.ensures.items
    (ap (λ k. let g : GlobalDef = record { ty = I32; mutable = true; init = k } in g) (zero_code _ c.in_ok-vec.ensures.items))
