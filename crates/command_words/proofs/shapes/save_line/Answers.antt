-- A `save` has a script, a number and a snapshot.
use Rattle.std.proofs.Common.{◌∙◌, ◌||◌, Bool, false, ap, ap₂, codes}
use Rattle.std.proofs.lemmas.Result.{IfOk-weaker}
use Rattle.clap.specs.Simple.{App, with_rule}
use Rattle.command_words.specs.Grammar.{placed_rule}
use Rattle.command_words.proofs.shapes.save_line.Goals as goal

pub returns-clause-shape : goal.returns-clause-shape
returns-clause-shape c =
    let first = c.in_ok-line.ensures.shape ∙ ap₂ with_rule c.new.ensures.app c.placed_arg.ensures.rule in
    IfOk-weaker c.with_places.result _ _
    (λ r h. ap (λ (a : App). a.top) (h ∙ ap (λ (a : App). with_rule (with_rule a (placed_rule (codes "events"))) (placed_rule (codes "snapshot"))) first)) c.with_places.ensures.shape

pub returns-clause-local : goal.returns-clause-local
returns-clause-local c =
    let first = c.in_ok-line.ensures.local ∙ ap (λ (x : Bool). x || false) c.new.ensures.local in
    IfOk-weaker c.with_places.result _ _ (λ r h. h ∙ ap (λ (x : Bool). (x || false) || false) first) c.with_places.ensures.local
