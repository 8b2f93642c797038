use Rattle.wasm_validate.proofs.rules.limits_fit.Goals as goal

pub returns : goal.returns
returns c = rw (c.deref.ensures.value, c.deref-2.ensures.value, c.deref-3.ensures.value) at c.all_limits_fit.ensures
