use Rattle.std.proofs.Common.{List, ap, sym, ◌∙◌}
use Rattle.wa_types.specs.declared.syntax.FuncType.{FuncType}
use Rattle.frame_sizes.proofs.TypeLemmas.{params_at, params_there, no_params}
use Rattle.frame_sizes.proofs.locals.params_of.Goals as goal

pub returns-in-Some : goal.returns-in-Some
returns-in-Some c =
    c.deref-in-Some.ensures.value ∙ sym (params_there c.deref.result.now c.args.sort c.in-Some.ty.now c.in-Some.ensures.lookup.3.0 c.in-Some.ensures.lookup.1)
    ∙ ap (λ (ts : List FuncType). params_at ts c.args.sort) c.deref.ensures.value

pub returns-in-None : goal.returns-in-None
returns-in-None c =
    sym (no_params c.deref.result.now c.args.sort c.in-None.ensures.lookup.3) ∙ ap (λ (ts : List FuncType). params_at ts c.args.sort) c.deref.ensures.value
