use Rattle.std.proofs.Common.{◌∙◌, ◌||◌, Bool, false, ap, ap₂}
use Rattle.std.proofs.lemmas.Result.{IfOk-weaker}
use Rattle.clap.specs.Simple.{app_of, with_rule}
use Rattle.command_words.proofs.shapes.with_places.Goals as goal

pub returns-clause-shape : goal.returns-clause-shape
returns-clause-shape c =
    let first = c.in_ok-line.ensures.shape ∙ ap (with_rule (app_of c.args.line)) c.placed_arg.ensures.rule in
    IfOk-weaker c.with_arg-2.result _ _ (λ r h. h ∙ ap₂ with_rule first c.placed_arg-2.ensures.rule) c.with_arg-2.ensures.shape

pub returns-clause-local : goal.returns-clause-local
returns-clause-local c = IfOk-weaker c.with_arg-2.result _ _ (λ r h. h ∙ ap (λ (x : Bool). x || false) c.in_ok-line.ensures.local) c.with_arg-2.ensures.local
