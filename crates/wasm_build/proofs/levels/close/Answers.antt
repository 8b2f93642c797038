use Rattle.std.proofs.Common.{[], ◌∷◌, ◌++◌, ap, ◌∙◌}
use Rattle.wa_types.specs.View.{code, onto}
use Rattle.wa_types.proofs.ViewLemmas.{onto_append}
use Rattle.wasm_build.specs.BuildsLevels.{closed}
use Rattle.wasm_build.proofs.levels.close.Goals as goal

pub returns-clause-body : goal.returns-clause-body
returns-clause-body c = λ rest.
    ap (λ s. onto s rest) (c.in_ok-push.ensures.items ∙ ap (λ (v : _). v.items ++ c.construct.result ∷ []) c.replace-inner.ensures.after)
    ∙ onto_append c.args.level.before.items c.construct.result rest
    ∙ ap (onto c.args.level.before.items) (c.construct.ensures rest
    ∙ ap (λ xs. closed c.args.level.opened c.args.level.ty (code xs) rest) (c.shrink_to_fit.ensures.items ∙ ap (λ (v : _). v.items) c.replace-inner.ensures.value))
