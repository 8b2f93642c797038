use Rattle.std.proofs.Common.{rules, arith, ap, sym, subst, ◌∙◌, ◌+◌}
use Rattle.wa_types.specs.declared.instrs.Instr.{the_lemmas}
use Rattle.guard_form.specs.Guarded.{raised}
use Rattle.wa_types.specs.View.{code}
use Rattle.wa_types.proofs.LeafLemmas.{leaf_other}
use Rattle.wa_types.proofs.ViewLemmas.{in_block, in_loop, in_if}
use Rattle.flow_rewrite.specs.Raising.{Raisable}
use Rattle.flow_rewrite.proofs.RaiseLemmas.{raisable_at, in_block_raisable, in_loop_raisable, in_if_raisable, raised_on, raised_onto_end, raised_none, raised_block, raised_loop, raised_if, put_as_raised}
use Rattle.flow_rewrite.proofs.labels.+raise.Goals as goal

pub raise_onto-put_instr-requires : goal.raise_onto-put_instr-requires
raise_onto-put_instr-requires t c = (
  search (rules, the_lemmas),
  raisable_at c.args.inside c.args.by c.args.body.now c.loop-instr.instr-index c.instr-item.result
      (omega (arith, c.loop-instr-test.true)) c.instr-item.is c.requires,
)

pub raise_onto-loop-instr-preserved : goal.raise_onto-loop-instr-preserved
raise_onto-loop-instr-preserved t c =
    raised_on c.args.inside c.args.by c.args.out.now.items c.loop-instr.out.items c.put_instr.new.out.items c.args.body.now c.loop-instr.instr-index c.instr-item.result
    c.in_ok-put_instr.ensures (omega (arith, c.loop-instr-test.true)) c.instr-item.is c.loop-instr.invariant

pub raise_onto-returns : goal.raise_onto-returns
raise_onto-returns t c = raised_onto_end c.args.inside c.args.by c.loop-instr.out.items c.args.body.now c.loop-instr.instr-index _ (omega (arith, c.loop-instr-test.false)) c.loop-instr.invariant

pub put_instr-raise_onto-requires : goal.put_instr-raise_onto-requires
put_instr-raise_onto-requires t c = (
  search (rules, the_lemmas),
  subst (λ xs. Raisable (c.args.inside + 1) c.args.by (code xs)) (sym c.deref.ensures.value)
      (in_block_raisable c.args.inside c.args.by c.args.instr.now c.in-Block.result c.in-Block.body c.in-Block.is c.requires),
)

pub put_instr-raise_onto-requires-in-Loop : goal.put_instr-raise_onto-requires-in-Loop
put_instr-raise_onto-requires-in-Loop t c = (
  search (rules, the_lemmas),
  subst (λ xs. Raisable (c.args.inside + 1) c.args.by (code xs)) (sym c.deref-in-Loop.ensures.value)
      (in_loop_raisable c.args.inside c.args.by c.args.instr.now c.in-Loop.result c.in-Loop.body c.in-Loop.is c.requires),
)

pub put_instr-raise_onto-requires-in-If : goal.put_instr-raise_onto-requires-in-If
put_instr-raise_onto-requires-in-If t c = (
  search (rules, the_lemmas),
  subst (λ xs. Raisable (c.args.inside + 1) c.args.by (code xs)) (sym c.deref-in-If.ensures.value)
      (in_if_raisable c.args.inside c.args.by c.args.instr.now c.in-If.result c.in-If.then_arm c.in-If.else_arm c.in-If.is c.requires).0,
)

pub put_instr-raise_onto-requires-in-If-2 : goal.put_instr-raise_onto-requires-in-If-2
put_instr-raise_onto-requires-in-If-2 t c = (
  search (rules, the_lemmas),
  subst (λ xs. Raisable (c.args.inside + 1) c.args.by (code xs)) (sym c.deref-in-If-2.ensures.value)
      (in_if_raisable c.args.inside c.args.by c.args.instr.now c.in-If.result c.in-If.then_arm c.in-If.else_arm c.in-If.is c.requires).1,
)

pub put_instr-put_leaf-requires-clause-leaf : goal.put_instr-put_leaf-requires-clause-leaf
put_instr-put_leaf-requires-clause-leaf t c = leaf_other c.args.instr.now c.in_default.not-Block c.in_default.not-Loop c.in_default.not-If

pub put_instr-returns-in_ok-put_block-in-Block : goal.put_instr-returns-in_ok-put_block-in-Block
put_instr-returns-in_ok-put_block-in-Block t c =
    let d = c.args.inside in
    let n = c.args.by in
    let w = c.raise_onto.new.out in
    put_as_raised _ _ _ d n c.args.instr.now _ c.in_ok-put_block-in-Block.ensures (in_block c.in-Block.result w)
    (raised_block d n c.in-Block.result c.in-Block.body w c.args.instr.now c.in-Block.is
    (raised_none (d + 1) n _ w.items (code c.deref.result.now) c.in_ok-inner-in-Block.ensures.items c.in_ok-raise_onto-in-Block.ensures
    ∙ ap (λ xs. raised (d + 1) n (code xs)) c.deref.ensures.value))

pub put_instr-returns-in_ok-put_loop-in-Loop : goal.put_instr-returns-in_ok-put_loop-in-Loop
put_instr-returns-in_ok-put_loop-in-Loop t c =
    let d = c.args.inside in
    let n = c.args.by in
    let w = c.raise_onto-in-Loop.new.out in
    put_as_raised _ _ _ d n c.args.instr.now _ c.in_ok-put_loop-in-Loop.ensures (in_loop c.in-Loop.result w)
    (raised_loop d n c.in-Loop.result c.in-Loop.body w c.args.instr.now c.in-Loop.is
    (raised_none (d + 1) n _ w.items (code c.deref-in-Loop.result.now) c.in_ok-inner-in-Loop.ensures.items c.in_ok-raise_onto-in-Loop.ensures
    ∙ ap (λ xs. raised (d + 1) n (code xs)) c.deref-in-Loop.ensures.value))

pub put_instr-returns-in_ok-put_if-in-If : goal.put_instr-returns-in_ok-put_if-in-If
put_instr-returns-in_ok-put_if-in-If t c =
    let d = c.args.inside in
    let n = c.args.by in
    let v = c.raise_onto-in-If.new.out in
    let w = c.raise_onto-in-If-2.new.out in
    put_as_raised _ _ _ d n c.args.instr.now _ c.in_ok-put_if-in-If.ensures (in_if c.in-If.result v w)
    (raised_if d n c.in-If.result c.in-If.then_arm c.in-If.else_arm v w c.args.instr.now c.in-If.is
    (raised_none (d + 1) n _ v.items (code c.deref-in-If.result.now) c.in_ok-first-in-If.ensures.items c.in_ok-raise_onto-in-If.ensures
    ∙ ap (λ xs. raised (d + 1) n (code xs)) c.deref-in-If.ensures.value)
    (raised_none (d + 1) n _ w.items (code c.deref-in-If-2.result.now) c.in_ok-second-in-If.ensures.items c.in_ok-raise_onto-in-If-2.ensures
    ∙ ap (λ xs. raised (d + 1) n (code xs)) c.deref-in-If-2.ensures.value))
