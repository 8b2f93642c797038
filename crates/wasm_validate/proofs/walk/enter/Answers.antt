use Rattle.std.proofs.Common.{ap, ◌∙◌, ◌++◌, ◌∷◌, []}
use Rattle.wasm_validate.proofs.Walks.{enter_is}
use Rattle.wasm_validate.proofs.walk.enter.Goals as goal

pub returns : goal.returns
returns c =
    enter_is c.walk.inside.valid.now c.walk.inside.func c.walk.inside.labels.items c.walk.inside.types.items c.walk.inside.base c.args.walk.now c.walk.view_is c.push.new.self.items
    c.args.label c.in_ok-types.types.items c.args.below.now
    (c.in_ok-push.ensures.items ∙ ap (λ z. z ++ c.args.label ∷ []) (c.in_ok-labels.ensures.items ∙ c.deref.ensures.value)) c.in_ok-types.ensures.items
