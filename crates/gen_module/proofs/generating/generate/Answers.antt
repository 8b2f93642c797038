-- One more function.
use Rattle.std.proofs.Common.{[], ◌∷◌, refl}
use Rattle.wa_types.specs.View.{func_of}
use Rattle.std.proofs.lemmas.List.{map-append}
use Rattle.gen_module.proofs.GeneratedTypes.{next_funcs}
use Rattle.gen_module.proofs.generating.generate.Goals as goal

pub loop-i-preserved : goal.loop-i-preserved
loop-i-preserved c = rw (
  c.in_ok-push.ensures.items,
  next_funcs c.loop-i.i,
  map-append func_of c.loop-i.funcs.items (c.in_ok-generated_func.field-0 ∷ []),
  c.loop-i.invariant,
  c.in_ok-generated_func.ensures,
) refl
