use Rattle.std.proofs.Common.{ap, sym, ◌∙◌, ◌++◌, ◌∷◌, []}
use Rattle.wa_types.specs.Typing.{Around}
use Rattle.wa_types.specs.View.{module_of}
use Rattle.wasm_validate.specs.Walk.{around_or}
use Rattle.wasm_validate.proofs.Walks.{start_is}
use Rattle.wasm_validate.proofs.walk.Typing.start.Goals as goal

pub returns : goal.returns
returns c = λ f e.
    let g = sym c.defined-func.ensures.same ∙ e in
    start_is c.args.valid.now c.defined-func.result c.push.new.self.items c.result.result c.new.result.items f g (c.in_ok-push.ensures.items
    ∙ ap (λ z. z ++ c.result.result ∷ []) c.new-labels.ensures.items)
    (c.result.ensures ∙ ap (λ (a : Around). a.result) (c.context.ensures ∙ ap (around_or (module_of c.args.valid.now)) g)) c.new.ensures.items
