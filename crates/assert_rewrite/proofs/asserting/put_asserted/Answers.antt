-- At each function: which it is, and what is put of it.
use Rattle.std.proofs.Common.{◌+◌, ◌∙◌, ap}
use Rattle.std.specs.Prelude.{slice_get}
use Rattle.wa_types.specs.Pausing.{is_told}
use Rattle.assert_rewrite.proofs.EntriesWith.{going_end, going_first, going_next, one_locals, one_short}
use Rattle.assert_rewrite.proofs.asserting.put_asserted.Goals as goal

pub loop-index-init : goal.loop-index-init
loop-index-init c = going_first c.args.numbers.now c.args.first c.args.funcs.now c.args.out.now c.requires.short

pub put-requires-clause-locals : goal.put-requires-clause-locals
put-requires-clause-locals c =
    one_locals c.args.numbers.now c.args.first c.args.funcs.now c.args.out.now c.loop-index.out c.loop-index.index c.index-funcs-index.result c.index-funcs-index.result
    c.loop-index-test.true c.index-funcs-index.is c.loop-index.invariant c.is_told-written.result
    (c.is_told-written.ensures ∙ ap (λ ws. is_told (slice_get ws (c.args.first + c.loop-index.index))) c.deref.ensures.value)
    c.in_ok-asserted.asserted c.in_ok-asserted.ensures

pub put-requires-clause-fits : goal.put-requires-clause-fits
put-requires-clause-fits c =
    one_short c.args.numbers.now c.args.first c.args.funcs.now c.args.out.now c.loop-index.out c.loop-index.index c.index-funcs-index.result c.index-funcs-index.result
    c.loop-index-test.true c.index-funcs-index.is c.loop-index.invariant c.is_told-written.result
    (c.is_told-written.ensures ∙ ap (λ ws. is_told (slice_get ws (c.args.first + c.loop-index.index))) c.deref.ensures.value)
    c.in_ok-asserted.asserted c.in_ok-asserted.ensures

pub loop-index-preserved : goal.loop-index-preserved
loop-index-preserved c =
    going_next c.args.numbers.now c.args.first c.args.funcs.now c.args.out.now c.loop-index.out c.loop-index.index c.index-funcs-index.result c.index-funcs-index.result
    c.loop-index-test.true c.index-funcs-index.is c.loop-index.invariant c.is_told-written.result
    (c.is_told-written.ensures ∙ ap (λ ws. is_told (slice_get ws (c.args.first + c.loop-index.index))) c.deref.ensures.value)
    c.in_ok-asserted.asserted c.in_ok-asserted.ensures
    c.put.new.self c.in_ok-put.ensures

pub returns : goal.returns
returns c = going_end c.args.numbers.now c.args.first c.args.funcs.now c.args.out.now c.loop-index.out c.loop-index.index c.loop-index-test.false c.loop-index.invariant
