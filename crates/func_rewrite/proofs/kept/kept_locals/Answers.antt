use Rattle.std.proofs.Common.{arith, ap, sym, subst, length, get_or, take, drop, false, ◌≡◌, ◌++◌, ◌∙◌}
use Rattle.run_theory.specs.FlatView.{flat_func_of, stmts}
use Rattle.func_rewrite.specs.Marking.{Markable, Marked}
use Rattle.func_rewrite.proofs.MarkLemmas.{kept_is, put_back}
use Rattle.func_rewrite.proofs.kept.kept_locals.Goals as goal

pub mark_body-count-requires : goal.mark_body-count-requires
mark_body-count-requires c =
    let many = c.loop-local.invariant.many in
    let len = ap length c.deref_mut.ensures.value in
    let n : length c.deref_mut.result.now ≡ length c.args.flat.now.locals.items = omega (arith, len, many, c.loop-local-test.false, c.loop-local.auto.local-end, c.len-local-end.ensures) in
    subst (λ xs. Markable c.args.numbers.now (length c.deref_mut.result.now) 0 (stmts xs)) (sym c.deref.ensures.value)
    (subst (λ k. Markable c.args.numbers.now k 0 (flat_func_of c.args.flat.now).body) (sym n) (record { rises = c.requires.rises; fits = c.requires.fits; room = omega (arith, c.requires.few) }))

pub returns-clause-kept : goal.returns-clause-kept
returns-clause-kept c =
    let many = c.loop-local.invariant.many in
    let old = c.loop-local.kept.items in
    let new = c.mark_body-count.new.kept in
    let f = flat_func_of c.args.flat.now in
    let full : c.loop-local.local ≡ length c.args.flat.now.locals.items = omega (arith, c.loop-local-test.false, c.loop-local.auto.local-end, c.len-local-end.ensures) in
    let marked : Marked c.args.numbers.now 0 f.body old new =
    subst (λ xs. Marked c.args.numbers.now 0 f.body xs new) c.deref_mut.ensures.value
    (subst (λ xs. Marked c.args.numbers.now 0 (stmts xs) c.deref_mut.result.now new) c.deref.ensures.value c.mark_body-count.ensures.marked) in
    let back : take c.loop-local.kept.len (new ++ drop (length new) old) ≡ new = put_back new old c.loop-local.kept.len marked.size (sym (ap length c.deref_mut.ensures.value)
    ∙ c.deref_mut.ensures.len) in
    λ x. ap (λ xs. get_or xs x false) back ∙ kept_is f c.args.numbers.now c.args.own c.loop-local.local old new many (omega (arith, full, c.requires.own)) c.loop-local.invariant.own marked x

pub returns-clause-size : goal.returns-clause-size
returns-clause-size c =
    let many = c.loop-local.invariant.many in
    let old = c.loop-local.kept.items in
    let new = c.mark_body-count.new.kept in
    let f = flat_func_of c.args.flat.now in
    let full : c.loop-local.local ≡ length c.args.flat.now.locals.items = omega (arith, c.loop-local-test.false, c.loop-local.auto.local-end, c.len-local-end.ensures) in
    let marked : Marked c.args.numbers.now 0 f.body old new =
    subst (λ xs. Marked c.args.numbers.now 0 f.body xs new) c.deref_mut.ensures.value
    (subst (λ xs. Marked c.args.numbers.now 0 (stmts xs) c.deref_mut.result.now new) c.deref.ensures.value c.mark_body-count.ensures.marked) in
    let back : take c.loop-local.kept.len (new ++ drop (length new) old) ≡ new = put_back new old c.loop-local.kept.len marked.size (sym (ap length c.deref_mut.ensures.value)
    ∙ c.deref_mut.ensures.len) in
    ap length back ∙ marked.size ∙ many ∙ full
