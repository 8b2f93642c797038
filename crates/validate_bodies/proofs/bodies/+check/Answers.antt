use Rattle.std.proofs.Common.{rules, arith, ◌≡◌, ◌+◌, drop, take, length, refl, ap, sym, ◌∙◌, true, false, reverse, if◌then◌else◌}
use Rattle.std.proofs.lemmas.Result.{IfOk-from_err}
use Rattle.wa_types.specs.declared.rules.Rule.TheVariants.{StackTypes}
use Rattle.wa_types.specs.Rules.{number}
use Rattle.wa_types.specs.declared.instrs.Instr.{the_lemmas}
use Rattle.wa_types.specs.View.{code}
use Rattle.wa_types.specs.FirstFault.{size, mid}
use Rattle.wa_types.specs.Typing.{listed}
use Rattle.validate_bodies.specs.Running.{fine, fault}
use Rattle.wa_types.proofs.LeafLemmas.{leaf_other}
use Rattle.validate_bodies.specs.Stack.{known_at}
use Rattle.validate_bodies.proofs.Lists.{known_none, level_on, popped_back, restored}
use Rattle.validate_bodies.proofs.InstrKinds.{size_step, size_empty}
use Rattle.validate_bodies.proofs.Trees.{judged_err, judged_memory, judged_same, size_of_block, size_of_loop, size_of_if, passed_by, passed_then, pushed_on, same_checks, moved_checks, labels_are, turned, body_on, body_end, popped_none, popped_some, block_arm, loop_arm, if_arm, if_fault, plain_size, plain_goes, plain_stops, none_is, instrs, bodies}
use Rattle.validate_bodies.proofs.bodies.+check.Goals as goal

pub check_body-loop-instr-init : goal.check_body-loop-instr-init
check_body-loop-instr-init t c = record {
  labels = refl;
  level = record { base = refl; kept = refl; deep = omega arith };
  place = refl;
  judged = same_checks _ _ _ _ _ _ _ _ _ _ (known_none c.len-height.result c.args.o.now.types.items (omega arith)) refl refl;
}

pub check_body-check_instr-requires : goal.check_body-check_instr-requires
check_body-check_instr-requires t c = (search (rules, the_lemmas), (c.loop-instr.invariant.level.deep, grind (arith, bodies)))

pub check_instr-check_body-requires : goal.check_instr-check_body-requires
check_instr-check_body-requires t c = (search (rules, the_lemmas), grind (arith, instrs))

pub check_instr-check_body-requires-in-Loop : goal.check_instr-check_body-requires-in-Loop
check_instr-check_body-requires-in-Loop t c = (search (rules, the_lemmas), grind (arith, instrs))

pub check_instr-check_body-requires-in-If : goal.check_instr-check_body-requires-in-If
check_instr-check_body-requires-in-If t c = (search (rules, the_lemmas), grind (arith, instrs))

pub check_instr-check_body-requires-in-If-2 : goal.check_instr-check_body-requires-in-If-2
check_instr-check_body-requires-in-If-2 t c = (search (rules, the_lemmas), grind (arith, instrs))

pub check_instr-apply_leaf-requires-clause-leaf : goal.check_instr-apply_leaf-requires-clause-leaf
check_instr-apply_leaf-requires-clause-leaf t c = leaf_other _ c.in_default.not-Block c.in_default.not-Loop c.in_default.not-If

pub check_instr-apply_leaf-requires-clause-deep : goal.check_instr-apply_leaf-requires-clause-deep
check_instr-apply_leaf-requires-clause-deep t c = c.requires.deep

pub check_instr-overflow_add-at-in_default : goal.check_instr-overflow_add-at-in_default
check_instr-overflow_add-at-in_default t c = omega (arith, plain_size _ c.in_default.not-Block c.in_default.not-Loop c.in_default.not-If)

pub check_instr-returns-in_default-2 : goal.check_instr-returns-in_default-2
check_instr-returns-in_default-2 t c =
    let none = none_is _ c.in_default-2.not-Some in
    record {
      labels = refl;
      level = rw none at c.in_ok-rule-in_default.ensures.level;
      place = omega (arith, plain_size _ c.in_default.not-Block c.in_default.not-Loop c.in_default.not-If);
      judged = λ rest outs.
          plain_goes _ _ outs _ _ _ _ rest c.in_default.not-Block c.in_default.not-Loop c.in_default.not-If _ _
          (rw (none, c.deref-in_default.ensures.value) at c.in_ok-rule-in_default.ensures.applied)
          ∙ same_checks _ _ _ _ _ _ _ _ _ _ refl refl (omega arith);
    }

pub check_instr-returns-in-Some : goal.check_instr-returns-in-Some
check_instr-returns-in-Some t c = record {
  labels = tt;
  level = tt;
  place = tt;
  judged = λ rest outs.
      plain_stops _ _ outs _ _ _ _ rest c.in_default.not-Block c.in_default.not-Loop c.in_default.not-If _ _ _
      (rw (c.in-Some.is, c.deref-in_default.ensures.value) at c.in_ok-rule-in_default.ensures.applied);
}

pub check_body-loop-instr-preserved : goal.check_body-loop-instr-preserved
check_body-loop-instr-preserved t c =
    let old = c.loop-instr.invariant in
    let new = c.in_ok-check_instr.ensures in
    record {
      labels = new.labels ∙ old.labels;
      level = level_on _ _ _ old.level new.level;
      place = omega (arith, old.place, new.place, size_step c.args.body.now c.loop-instr.instr-index c.instr-item.result (omega arith) c.instr-item.is);
      judged = turned _ _ _ c.args.body.now c.loop-instr.instr-index _ _ _ _ _ _ _ _ _ (ap reverse new.labels) (omega arith) c.instr-item.is old.judged
          (new.judged (code (drop (c.loop-instr.instr-index + 1) c.args.body.now)) (listed c.args.frame.gives));
    }

pub check_body-returns-in_err-check_instr : goal.check_body-returns-in_err-check_instr
check_body-returns-in_err-check_instr t c = record {
  labels = IfOk-from_err c.from_residual-in_err-check_instr.result _ c.from_residual-in_err-check_instr.ensures.0;
  level = IfOk-from_err c.from_residual-in_err-check_instr.result _ c.from_residual-in_err-check_instr.ensures.0;
  free = IfOk-from_err c.from_residual-in_err-check_instr.result _ c.from_residual-in_err-check_instr.ensures.0;
  known = IfOk-from_err c.from_residual-in_err-check_instr.result _ c.from_residual-in_err-check_instr.ensures.0;
  place = IfOk-from_err c.from_residual-in_err-check_instr.result _ c.from_residual-in_err-check_instr.ensures.0;
  judged =
      judged_same _ _ _ _ _ _ c.from_residual-in_err-check_instr.ensures.1 (c.in_err-check_instr.ensures.judged (code (drop (c.loop-instr.instr-index + 1) c.args.body.now)) (listed c.args.frame.gives))
      (body_on _ _ _ c.args.body.now c.loop-instr.instr-index _ _ _ _ _ (labels_are _ _ _ _ c.in_ok-push_label.ensures c.loop-instr.invariant.labels) c.loop-instr.invariant.judged _
      (omega arith) c.instr-item.is);
}

pub check_body-returns-then-not-ends : goal.check_body-returns-then-not-ends
check_body-returns-then-not-ends t c = record {
  labels = tt;
  level = tt;
  free = tt;
  known = tt;
  place = tt;
  judged =
      body_end _ _ _ c.args.body.now c.loop-instr.instr-index _ _ _ _ _ (labels_are _ _ _ _ c.in_ok-push_label.ensures c.loop-instr.invariant.labels) c.loop-instr.invariant.judged (omega arith)
      ∙ ap (λ b. if b then fine else fault (number StackTypes) c.loop-instr.at) (sym c.if-not-ends.ensures.ended);
}

pub check_body-returns : goal.check_body-returns
check_body-returns t c =
    let same : c.ends.new.o.types.items ≡ c.args.o.now.types.items =
    restored c.args.o.now (record { types = c.args.o.now.types; base = c.len-height.result; free = false }) c.ends.new.o refl (omega arith)
    (level_on _ _ _ c.loop-instr.invariant.level c.if-not-ends.ensures.level) (c.ends.ensures.bare c.if-not-ends.false ∙ c.loop-instr.invariant.level.base) in
    record {
      labels =
          popped_back _ c.loop-instr.labels.items _ c.args.frame.label c.loop-instr.labels.len (c.loop-instr.invariant.labels ∙ c.in_ok-push_label.ensures) c.pop.ensures.rest
          c.loop-instr.labels.ok.0;
      level = record { base = refl; kept = ap (take c.args.o.now.base) same; deep = omega (arith, c.requires.deep, ap length same) };
      free = refl;
      known = ap (known_at c.args.o.now.base) same;
      place = omega (arith, c.loop-instr.invariant.place, size_empty c.args.body.now c.loop-instr.instr-index (omega arith));
      judged =
          body_end _ _ _ c.args.body.now c.loop-instr.instr-index _ _ _ _ _ (labels_are _ _ _ _ c.in_ok-push_label.ensures c.loop-instr.invariant.labels) c.loop-instr.invariant.judged (omega arith)
          ∙ ap (λ b. if b then fine else fault (number StackTypes) c.loop-instr.at) (sym c.if-not-ends.ensures.ended);
    }

pub check_body-returns-in_err-push_label : goal.check_body-returns-in_err-push_label
check_body-returns-in_err-push_label t c = record {
  labels = IfOk-from_err c.from_residual.result _ c.from_residual.ensures.0;
  level = IfOk-from_err c.from_residual.result _ c.from_residual.ensures.0;
  free = IfOk-from_err c.from_residual.result _ c.from_residual.ensures.0;
  known = IfOk-from_err c.from_residual.result _ c.from_residual.ensures.0;
  place = IfOk-from_err c.from_residual.result _ c.from_residual.ensures.0;
  judged = judged_memory c.from_residual.result _ _ _ c.from_residual.ensures.1;
}

pub check_instr-returns-in_err-check_body-in-Block : goal.check_instr-returns-in_err-check_body-in-Block
check_instr-returns-in_err-check_body-in-Block t c = record {
  labels = IfOk-from_err c.from_residual.result _ c.from_residual.ensures.0;
  level = IfOk-from_err c.from_residual.result _ c.from_residual.ensures.0;
  place = IfOk-from_err c.from_residual.result _ c.from_residual.ensures.0;
  judged = λ rest outs. judged_err _ _ _ _ _ _ _ c.from_residual.ensures.1 c.in_err-check_body-in-Block.ensures.judged (block_arm _ _ outs _ _ _ _ rest _ _ _ c.in-Block.is c.deref.ensures.value);
}

pub check_instr-returns-in_err-check_body-in-Loop : goal.check_instr-returns-in_err-check_body-in-Loop
check_instr-returns-in_err-check_body-in-Loop t c = record {
  labels = IfOk-from_err c.from_residual-in_err-check_body-in-Loop.result _ c.from_residual-in_err-check_body-in-Loop.ensures.0;
  level = IfOk-from_err c.from_residual-in_err-check_body-in-Loop.result _ c.from_residual-in_err-check_body-in-Loop.ensures.0;
  place = IfOk-from_err c.from_residual-in_err-check_body-in-Loop.result _ c.from_residual-in_err-check_body-in-Loop.ensures.0;
  judged =
      λ rest outs. judged_err _ _ _ _ _ _ _ c.from_residual-in_err-check_body-in-Loop.ensures.1 c.in_err-check_body-in-Loop.ensures.judged
      (loop_arm _ _ outs _ _ _ _ rest _ _ _ c.in-Loop.is c.deref-in-Loop.ensures.value);
}

pub check_instr-returns-in_err-check_body-in-If : goal.check_instr-returns-in_err-check_body-in-If
check_instr-returns-in_err-check_body-in-If t c = record {
  labels = IfOk-from_err c.from_residual-in_err-check_body-in-If.result _ c.from_residual-in_err-check_body-in-If.ensures.0;
  level = IfOk-from_err c.from_residual-in_err-check_body-in-If.result _ c.from_residual-in_err-check_body-in-If.ensures.0;
  place = IfOk-from_err c.from_residual-in_err-check_body-in-If.result _ c.from_residual-in_err-check_body-in-If.ensures.0;
  judged =
      let e : c.pop.result ≡ true = search rules in
      λ rest outs. judged_err _ _ _ _ _ _ _ c.from_residual-in_err-check_body-in-If.ensures.1 c.in_err-check_body-in-If.ensures.judged
      (if_arm _ _ outs _ _ _ _ rest _ _ _ _ c.in-If.else_arm.items _ c.in-If.is c.deref-in-If.ensures.value refl (popped_some _ _ _ c.pop.ensures.popped e));
}

pub check_instr-returns-in_err-check_body-in-If-2 : goal.check_instr-returns-in_err-check_body-in-If-2
check_instr-returns-in_err-check_body-in-If-2 t c = record {
  labels = IfOk-from_err c.from_residual-in_err-check_body-in-If-2.result _ c.from_residual-in_err-check_body-in-If-2.ensures.0;
  level = IfOk-from_err c.from_residual-in_err-check_body-in-If-2.result _ c.from_residual-in_err-check_body-in-If-2.ensures.0;
  place = IfOk-from_err c.from_residual-in_err-check_body-in-If-2.result _ c.from_residual-in_err-check_body-in-If-2.ensures.0;
  judged =
      let e : c.pop.result ≡ true = search rules in
      let m = ap (λ z. mid (code z)) (c.deref-in-If-2.ensures.value ∙ sym c.deref-in-If-3.ensures.value) in
      let n : c.check_body-in-If.new.at + c.middle.result ≡ c.args.at.now + 1 + size (code c.deref-in-If.result.now)
      + mid (code c.deref-in-If-3.result.now) = omega (arith, m, c.middle.ensures, c.in_ok-check_body-in-If.ensures.place) in
      λ rest outs.
      let y = if_arm _ _ outs _ _ _ _ rest _ _ _ _ c.deref-in-If-3.result.now _ c.in-If.is c.deref-in-If.ensures.value c.deref-in-If-3.ensures.value (popped_some _ _ _ c.pop.ensures.popped e) in
      judged_err _ _ _ _ _ _ _ c.from_residual-in_err-check_body-in-If-2.ensures.1 c.in_err-check_body-in-If-2.ensures.judged
      (passed_then _ _ _ _ _ y c.in_ok-check_body-in-If.ensures.judged (moved_checks _ _ _ _ _ _ _ _ (sym (ap reverse c.in_ok-check_body-in-If.ensures.labels)) (sym n)));
}

pub check_instr-returns-then-not-pop : goal.check_instr-returns-then-not-pop
check_instr-returns-then-not-pop t c = record {
  labels = tt;
  level = tt;
  place = tt;
  judged =
      let e : c.pop.result ≡ false = search rules in
      λ rest outs. if_fault _ _ outs _ _ _ _ rest _ _ _ c.in-If.is (popped_none _ _ _ c.pop.ensures.popped e);
}

pub check_instr-returns-in_ok-push_result-in-Block : goal.check_instr-returns-in_ok-push_result-in-Block
check_instr-returns-in_ok-push_result-in-Block t c = record {
  labels = c.in_ok-check_body-in-Block.ensures.labels;
  level = level_on _ _ _ c.in_ok-check_body-in-Block.ensures.level c.in_ok-push_result-in-Block.ensures.level;
  place = omega (arith, c.in_ok-check_body-in-Block.ensures.place, size_of_block _ _ _ c.deref.result.now c.deref.ensures.value c.in-Block.is);
  judged =
      λ rest outs.
      passed_by _ _ _ (block_arm _ _ outs _ _ _ _ rest _ _ _ c.in-Block.is c.deref.ensures.value) c.in_ok-check_body-in-Block.ensures.judged
      ∙ same_checks _ _ _ _ _ _ _ _ _ _ (pushed_on _ _ _ _ c.in_ok-push_result-in-Block.ensures.pushed c.in_ok-check_body-in-Block.ensures.known)
      (sym (c.in_ok-push_result-in-Block.ensures.free ∙ c.in_ok-check_body-in-Block.ensures.free)) (omega (arith, c.in_ok-check_body-in-Block.ensures.place));
}

pub check_instr-returns-in_err-push_result-in-Block : goal.check_instr-returns-in_err-push_result-in-Block
check_instr-returns-in_err-push_result-in-Block t c = record {
  labels = IfOk-from_err c.from_residual-in_err-push_result-in-Block.result _ c.from_residual-in_err-push_result-in-Block.ensures.0;
  level = IfOk-from_err c.from_residual-in_err-push_result-in-Block.result _ c.from_residual-in_err-push_result-in-Block.ensures.0;
  place = IfOk-from_err c.from_residual-in_err-push_result-in-Block.result _ c.from_residual-in_err-push_result-in-Block.ensures.0;
  judged = λ rest outs. judged_memory c.from_residual-in_err-push_result-in-Block.result _ _ _ c.from_residual-in_err-push_result-in-Block.ensures.1;
}

pub check_instr-returns-in_ok-push_result-in-Loop : goal.check_instr-returns-in_ok-push_result-in-Loop
check_instr-returns-in_ok-push_result-in-Loop t c = record {
  labels = c.in_ok-check_body-in-Loop.ensures.labels;
  level = level_on _ _ _ c.in_ok-check_body-in-Loop.ensures.level c.in_ok-push_result-in-Loop.ensures.level;
  place = omega (arith, c.in_ok-check_body-in-Loop.ensures.place, size_of_loop _ _ _ c.deref-in-Loop.result.now c.deref-in-Loop.ensures.value c.in-Loop.is);
  judged =
      λ rest outs.
      passed_by _ _ _ (loop_arm _ _ outs _ _ _ _ rest _ _ _ c.in-Loop.is c.deref-in-Loop.ensures.value) c.in_ok-check_body-in-Loop.ensures.judged
      ∙ same_checks _ _ _ _ _ _ _ _ _ _ (pushed_on _ _ _ _ c.in_ok-push_result-in-Loop.ensures.pushed c.in_ok-check_body-in-Loop.ensures.known)
      (sym (c.in_ok-push_result-in-Loop.ensures.free ∙ c.in_ok-check_body-in-Loop.ensures.free)) (omega (arith, c.in_ok-check_body-in-Loop.ensures.place));
}

pub check_instr-returns-in_err-push_result-in-Loop : goal.check_instr-returns-in_err-push_result-in-Loop
check_instr-returns-in_err-push_result-in-Loop t c = record {
  labels = IfOk-from_err c.from_residual-in_err-push_result-in-Loop.result _ c.from_residual-in_err-push_result-in-Loop.ensures.0;
  level = IfOk-from_err c.from_residual-in_err-push_result-in-Loop.result _ c.from_residual-in_err-push_result-in-Loop.ensures.0;
  place = IfOk-from_err c.from_residual-in_err-push_result-in-Loop.result _ c.from_residual-in_err-push_result-in-Loop.ensures.0;
  judged = λ rest outs. judged_memory c.from_residual-in_err-push_result-in-Loop.result _ _ _ c.from_residual-in_err-push_result-in-Loop.ensures.1;
}

pub check_instr-returns-in_ok-push_result-in-If : goal.check_instr-returns-in_ok-push_result-in-If
check_instr-returns-in_ok-push_result-in-If t c = record {
  labels = c.in_ok-check_body-in-If-2.ensures.labels ∙ c.in_ok-check_body-in-If.ensures.labels;
  level = level_on _ _ _ (level_on _ _ _ (level_on _ _ _ c.pop.ensures.level c.in_ok-check_body-in-If.ensures.level) c.in_ok-check_body-in-If-2.ensures.level) c.in_ok-push_result-in-If.ensures.level;
  place =
      let m = ap (λ z. mid (code z)) (c.deref-in-If-2.ensures.value ∙ sym c.deref-in-If-3.ensures.value) in
      omega (arith, m, c.middle.ensures, c.in_ok-check_body-in-If.ensures.place, c.in_ok-check_body-in-If-2.ensures.place, size_of_if _ _ _ c.deref-in-If.result.now c.deref-in-If.ensures.value _ c.deref-in-If-3.result.now c.deref-in-If-3.ensures.value c.in-If.is);
  judged =
      let e : c.pop.result ≡ true = search rules in
      let m = ap (λ z. mid (code z)) (c.deref-in-If-2.ensures.value ∙ sym c.deref-in-If-3.ensures.value) in
      let n : c.check_body-in-If.new.at + c.middle.result ≡ c.args.at.now + 1 + size (code c.deref-in-If.result.now)
      + mid (code c.deref-in-If-3.result.now) = omega (arith, m, c.middle.ensures, c.in_ok-check_body-in-If.ensures.place) in
      λ rest outs.
      let y = if_arm _ _ outs _ _ _ _ rest _ _ _ _ c.deref-in-If-3.result.now _ c.in-If.is c.deref-in-If.ensures.value c.deref-in-If-3.ensures.value (popped_some _ _ _ c.pop.ensures.popped e) in
      passed_by _ _ _ (passed_then _ _ _ _ _ y c.in_ok-check_body-in-If.ensures.judged (moved_checks _ _ _ _ _ _ _ _ (sym (ap reverse c.in_ok-check_body-in-If.ensures.labels)) (sym n)))
      c.in_ok-check_body-in-If-2.ensures.judged
      ∙ same_checks _ _ _ _ _ _ _ _ _ _ (pushed_on _ _ _ _ c.in_ok-push_result-in-If.ensures.pushed (c.in_ok-check_body-in-If-2.ensures.known ∙ c.in_ok-check_body-in-If.ensures.known))
      (sym (c.in_ok-push_result-in-If.ensures.free ∙ c.in_ok-check_body-in-If-2.ensures.free ∙ c.in_ok-check_body-in-If.ensures.free ∙ c.pop.ensures.free))
      (omega (arith, n, c.in_ok-check_body-in-If-2.ensures.place));
}

pub check_instr-returns-in_err-push_result-in-If : goal.check_instr-returns-in_err-push_result-in-If
check_instr-returns-in_err-push_result-in-If t c = record {
  labels = IfOk-from_err c.from_residual-in_err-push_result-in-If.result _ c.from_residual-in_err-push_result-in-If.ensures.0;
  level = IfOk-from_err c.from_residual-in_err-push_result-in-If.result _ c.from_residual-in_err-push_result-in-If.ensures.0;
  place = IfOk-from_err c.from_residual-in_err-push_result-in-If.result _ c.from_residual-in_err-push_result-in-If.ensures.0;
  judged = λ rest outs. judged_memory c.from_residual-in_err-push_result-in-If.result _ _ _ c.from_residual-in_err-push_result-in-If.ensures.1;
}

pub check_instr-returns-in_err-rule-in_default : goal.check_instr-returns-in_err-rule-in_default
check_instr-returns-in_err-rule-in_default t c = record {
  labels = IfOk-from_err c.from_residual-in_err-rule-in_default.result _ c.from_residual-in_err-rule-in_default.ensures.0;
  level = IfOk-from_err c.from_residual-in_err-rule-in_default.result _ c.from_residual-in_err-rule-in_default.ensures.0;
  place = IfOk-from_err c.from_residual-in_err-rule-in_default.result _ c.from_residual-in_err-rule-in_default.ensures.0;
  judged = λ rest outs. judged_memory c.from_residual-in_err-rule-in_default.result _ _ _ c.from_residual-in_err-rule-in_default.ensures.1;
}

pub check_body-ends-requires : goal.check_body-ends-requires
check_body-ends-requires t c = c.loop-instr.invariant.level.deep

pub check_instr-pop-requires : goal.check_instr-pop-requires
check_instr-pop-requires t c = c.requires.deep

pub check_instr-push_result-requires : goal.check_instr-push_result-requires
check_instr-push_result-requires t c = c.in_ok-check_body-in-Block.ensures.level.deep

pub check_instr-push_result-requires-in-Loop : goal.check_instr-push_result-requires-in-Loop
check_instr-push_result-requires-in-Loop t c = c.in_ok-check_body-in-Loop.ensures.level.deep

pub check_instr-push_result-requires-in-If : goal.check_instr-push_result-requires-in-If
check_instr-push_result-requires-in-If t c = c.in_ok-check_body-in-If-2.ensures.level.deep

pub check_instr-overflow_add-at : goal.check_instr-overflow_add-at
check_instr-overflow_add-at t c = omega (arith, c.requires.room, size_of_block _ c.in-Block.result c.in-Block.body c.in-Block.body.items refl c.in-Block.is)

pub check_instr-overflow_add-at-in-Block : goal.check_instr-overflow_add-at-in-Block
check_instr-overflow_add-at-in-Block t c = omega (arith, c.requires.room, c.in_ok-check_body-in-Block.ensures.place, size_of_block _ _ _ c.deref.result.now c.deref.ensures.value c.in-Block.is)

pub check_instr-overflow_add-at-in-Loop : goal.check_instr-overflow_add-at-in-Loop
check_instr-overflow_add-at-in-Loop t c = omega (arith, c.requires.room, size_of_loop _ c.in-Loop.result c.in-Loop.body c.in-Loop.body.items refl c.in-Loop.is)

pub check_instr-overflow_add-at-in-If : goal.check_instr-overflow_add-at-in-If
check_instr-overflow_add-at-in-If t c = omega (arith, c.requires.room, size_of_if _ c.in-If.result c.in-If.then_arm c.in-If.then_arm.items refl c.in-If.else_arm c.in-If.else_arm.items refl c.in-If.is)

pub check_instr-overflow_add-at-in-Loop-2 : goal.check_instr-overflow_add-at-in-Loop-2
check_instr-overflow_add-at-in-Loop-2 t c = omega (arith, c.requires.room, c.in_ok-check_body-in-Loop.ensures.place, size_of_loop _ _ _ c.deref-in-Loop.result.now c.deref-in-Loop.ensures.value c.in-Loop.is)

pub check_instr-overflow_add-at-in-If-2 : goal.check_instr-overflow_add-at-in-If-2
check_instr-overflow_add-at-in-If-2 t c =
    let m = ap (λ z. mid (code z)) c.deref-in-If-2.ensures.value in
    omega (arith, c.requires.room, m, c.middle.ensures, c.in_ok-check_body-in-If.ensures.place, size_of_if _ _ _ c.deref-in-If.result.now c.deref-in-If.ensures.value _ c.in-If.else_arm.items refl c.in-If.is)

pub check_instr-overflow_add-at-in-If-3 : goal.check_instr-overflow_add-at-in-If-3
check_instr-overflow_add-at-in-If-3 t c =
    let m = ap (λ z. mid (code z)) (c.deref-in-If-2.ensures.value ∙ sym c.deref-in-If-3.ensures.value) in
    omega (arith, c.requires.room, m, c.middle.ensures, c.in_ok-check_body-in-If.ensures.place, c.in_ok-check_body-in-If-2.ensures.place, size_of_if _ _ _ c.deref-in-If.result.now c.deref-in-If.ensures.value _ c.deref-in-If-3.result.now c.deref-in-If-3.ensures.value c.in-If.is)
