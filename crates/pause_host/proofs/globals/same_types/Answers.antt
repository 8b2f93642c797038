use Rattle.std.proofs.Common.{arith, ◌<◌, length, ap, sym, ◌∙◌, below_more, Some}
use Rattle.std.specs.Option.{option_map}
use Rattle.std.proofs.lemmas.Option.{slice_get-get_or}
use Rattle.wa_types.specs.Typing.{type_of}
use Rattle.pause_host.proofs.Constants.{types_all, types_differ}
use Rattle.pause_host.proofs.globals.same_types.Goals as goal

pub returns-then-not-are_alike-clause-no : goal.returns-then-not-are_alike-clause-no
returns-then-not-are_alike-clause-no c =
    let these = c.args.these.now in
    let those = c.args.those.now in
    let i = c.loop-i.i in
    let here : i < length these = c.loop-i-test.true in
    let there : i < length those = omega (arith, c.if-these-those.false) in
    types_differ these those i _ _ (slice_get-get_or these i _ here) (slice_get-get_or those i _ there) c.if-not-are_alike.ensures.no

pub loop-i-preserved : goal.loop-i-preserved
loop-i-preserved c =
    let these = c.args.these.now in
    let those = c.args.those.now in
    let i = c.loop-i.i in
    let here : i < length these = c.loop-i-test.true in
    let there : i < length those = omega (arith, c.if-these-those.false) in
    below_more _ _ c.loop-i.invariant
    (ap (option_map type_of) (slice_get-get_or those i _ there) ∙ ap Some c.if-not-are_alike.ensures.yes ∙ sym (ap (option_map type_of) (slice_get-get_or these i _ here)))

pub returns-clause-yes : goal.returns-clause-yes
returns-clause-yes c =
    let le = c.loop-i-test.false in
    types_all c.args.these.now c.args.those.now (omega (arith, c.if-these-those.false)) (λ k lt. c.loop-i.invariant k (omega (arith, le)))
