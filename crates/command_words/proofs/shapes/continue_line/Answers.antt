-- A `continue` has a script and a snapshot.
use Rattle.std.proofs.Common.{◌∙◌, ◌||◌, Bool, false, ap, codes}
use Rattle.std.proofs.lemmas.Result.{IfOk-weaker}
use Rattle.clap.specs.Simple.{App, with_rule}
use Rattle.command_words.specs.Grammar.{placed_rule}
use Rattle.command_words.proofs.shapes.continue_line.Goals as goal

pub returns-clause-shape : goal.returns-clause-shape
returns-clause-shape c =
    IfOk-weaker c.with_places.result _ _
    (λ r h. ap (λ (a : App). a.top) (h ∙ ap (λ (a : App). with_rule (with_rule a (placed_rule (codes "script"))) (placed_rule (codes "snapshot"))) c.new.ensures.app)) c.with_places.ensures.shape

pub returns-clause-local : goal.returns-clause-local
returns-clause-local c = IfOk-weaker c.with_places.result _ _ (λ r h. h ∙ ap (λ (x : Bool). (x || false) || false) c.new.ensures.local) c.with_places.ensures.local
