-- The five functions, one behind another.
use Rattle.std.proofs.Common.{[], ◌∷◌, ◌+◌, ◌++◌, map, ap, ◌∙◌}
use Rattle.std.proofs.lemmas.Result.{on_ok_weaker}
use Rattle.wa_types.specs.View.{func_of}
use Rattle.wa_types.specs.Runtime.{runtime_func}
use Rattle.local_spill.proofs.Bodies.{five_behind, state_code_is}
use Rattle.local_spill.proofs.adding.push_funcs.Goals as goal

pub returns : goal.returns
returns c =
    on_ok_weaker c.push_func.result
    (λ h. five_behind _ _ _ _ _ _ _ _ _ _ _ c.in_ok-push_start.ensures c.in_ok-push_stop.ensures c.in_ok-push_start-2.ensures c.in_ok-push_stop-2.ensures
    (h ∙ ap (λ k. map func_of c.push_stop-2.new.funcs.items ++ runtime_func (c.args.first_type + 2) k ∷ []) (state_code_is _ _ c.in_ok-vec.ensures.items)))
    c.push_func.ensures
