-- A `transform` has two options, three flags and two files.
use Rattle.std.proofs.Common.{◌∙◌, ◌||◌, Bool, false, ap, ap₂, codes}
use Rattle.std.proofs.lemmas.Result.{IfOk-weaker}
use Rattle.clap.specs.Simple.{App, with_rule}
use Rattle.command_words.specs.Grammar.{placed_rule}
use Rattle.command_words.proofs.shapes.transform_line.Goals as goal

pub returns-clause-shape : goal.returns-clause-shape
returns-clause-shape c =
    let first = c.in_ok-line.ensures.shape ∙ ap₂ with_rule c.new.ensures.app c.option_arg.ensures.rule in
    let second = c.in_ok-line-2.ensures.shape ∙ ap₂ with_rule first c.flag_arg.ensures.rule in
    let third = c.in_ok-line-3.ensures.shape ∙ ap₂ with_rule second c.flag_arg-2.ensures.rule in
    let fourth = c.in_ok-line-4.ensures.shape ∙ ap₂ with_rule third c.flag_arg-3.ensures.rule in
    let fifth = c.in_ok-line-5.ensures.shape ∙ ap₂ with_rule fourth c.option_arg-2.ensures.rule in
    IfOk-weaker c.with_places.result _ _ (λ r h. ap (λ (a : App). a.top) (h ∙ ap (λ (a : App). with_rule (with_rule a (placed_rule (codes "input"))) (placed_rule (codes "output"))) fifth))
    c.with_places.ensures.shape

pub returns-clause-local : goal.returns-clause-local
returns-clause-local c =
    let or_not = λ (x : Bool). x || false in
    let first = c.in_ok-line.ensures.local ∙ ap or_not c.new.ensures.local in
    let third = c.in_ok-line-3.ensures.local ∙ ap or_not (c.in_ok-line-2.ensures.local ∙ ap or_not first) in
    let fourth = c.in_ok-line-4.ensures.local ∙ ap or_not third in
    let fifth = c.in_ok-line-5.ensures.local ∙ ap or_not fourth in
    IfOk-weaker c.with_places.result _ _ (λ r h. h ∙ ap (λ (x : Bool). (x || false) || false) fifth) c.with_places.ensures.local
