use Rattle.std.proofs.Common.{ap, arith, length, ◌∙◌, ◌≡◌, ◌||◌, ℕ, false}
use Rattle.wa_types.specs.declared.values.ValType.{ValType}
use Rattle.std.specs.List.{list_any}
use Rattle.wa_types.specs.Frames.{pair_of, same_pair}
use Rattle.wa_types.specs.View.{code}
use Rattle.flatten.specs.declared.survey.Found.{Found}
use Rattle.flatten.specs.Numbers.{is_marked, pairs_in, Locals}
use Rattle.flatten.proofs.FindLemmas.{slots_are, results_are, no_marks}
use Rattle.flatten.proofs.find.find_names.Goals as goal

pub returns-clause-names : goal.returns-clause-names
returns-clause-names c =
    let w = c.args.typing in
    let k = code c.args.body.now in
    let a : Found = record { slots = c.new.result; results = c.visit_result.new.results } in
    let b = c.survey_body.new.found in
    let marked : (d : ℕ) (t : ValType) → is_marked c.visit_result.new.results.items d t
    ≡ (list_any (same_pair d t) (pair_of 0 c.args.given) || false) = (λ d t. c.in_ok-visit_result.ensures.marked d t
    ∙ ap (λ z. list_any (same_pair d t) (pair_of 0 c.args.given) || z) (no_marks c.new-2.result.items d t c.new-2.ensures.items)) in
    let slots = ap (λ (z : Locals). z.pairs) c.in_ok-slots.ensures ∙ ap (pairs_in 0) c.deref.ensures.value
    ∙ slots_are w c.survey_body.new.typing c.args.given k a b c.new.ensures.items marked c.in_ok-survey_body.ensures c.requires.own c.requires.under c.requires.labels in
    let results = ap (λ (z : Locals). z.pairs) c.in_ok-results.ensures ∙ ap (pairs_in 0) c.deref-2.ensures.value
    ∙ results_are w c.survey_body.new.typing c.args.given k a b c.new.ensures.items marked c.in_ok-survey_body.ensures c.requires.own c.requires.under c.requires.labels in
    let first = ap (λ (z : Locals). z.first) c.in_ok-slots.ensures in
    (λ j. record { first = first j; slots = slots j; results = results j })

pub returns-clause-few : goal.returns-clause-few
returns-clause-few c =
    let slots = ap (λ (z : Locals). length z.pairs) c.in_ok-slots.ensures ∙ ap (λ z. length (pairs_in 0 z)) c.deref.ensures.value in
    let results = ap (λ (z : Locals). length z.pairs) c.in_ok-results.ensures ∙ ap (λ z. length (pairs_in 0 z)) c.deref-2.ensures.value in
    let none = ap (λ z. length (pairs_in 0 z)) c.new.ensures.items in
    let empty = ap (λ z. length (pairs_in 0 z)) c.new-2.ensures.items in
    omega (arith, slots, results, none, empty, c.in_ok-visit_result.ensures.few, c.in_ok-survey_body.ensures.few)
