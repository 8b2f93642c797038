-- A `gen` has a number and a file.
use Rattle.std.proofs.Common.{◌∙◌, ◌||◌, Bool, false, ap, codes}
use Rattle.std.proofs.lemmas.Result.{IfOk-weaker}
use Rattle.clap.specs.Simple.{App, with_rule}
use Rattle.command_words.specs.Grammar.{placed_rule}
use Rattle.command_words.proofs.shapes.gen_line.Goals as goal

pub returns-clause-shape : goal.returns-clause-shape
returns-clause-shape c =
    IfOk-weaker c.with_places.result _ _
    (λ r h. ap (λ (a : App). a.top) (h ∙ ap (λ (a : App). with_rule (with_rule a (placed_rule (codes "number"))) (placed_rule (codes "output"))) c.new.ensures.app)) c.with_places.ensures.shape

pub returns-clause-local : goal.returns-clause-local
returns-clause-local c = IfOk-weaker c.with_places.result _ _ (λ r h. h ∙ ap (λ (x : Bool). (x || false) || false) c.new.ensures.local) c.with_places.ensures.local
