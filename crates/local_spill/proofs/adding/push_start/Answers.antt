use Rattle.std.proofs.Common.{[], ◌∷◌, ◌++◌, map, ap, ◌∙◌}
use Rattle.std.proofs.lemmas.Result.{on_ok_weaker}
use Rattle.wa_types.specs.Runtime.{runtime_func, test_code}
use Rattle.wa_types.specs.View.{func_of, onto, in_front}
use Rattle.local_spill.proofs.adding.push_start.Goals as goal

pub returns : goal.returns
unfolding onto in_front
returns c =
    on_ok_weaker c.push_func.result
    (λ h. h ∙ ap (λ k. map func_of c.args.funcs.now.items ++ runtime_func c.args.sort k ∷ [])
    (c.in_ok-with_test.ensures ∙ ap (λ xs. onto xs (test_code c.args.ids.address)) c.in_ok-set.ensures.items))
    c.push_func.ensures
