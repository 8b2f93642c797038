use Rattle.std.proofs.Common.{rules, arith, ◌+◌, ◌<◌, length, drop, ap, sym, ◌∙◌}
use Rattle.wa_types.specs.declared.instrs.Instr.{the_lemmas}
use Rattle.wa_types.specs.Counts.{count_of}
use Rattle.wa_types.specs.Syntax.{done}
use Rattle.wa_types.specs.View.{code, in_front, module_of}
use Rattle.wa_types.proofs.MeasureLemmas.{count_step, count_block, count_loop, count_if}
use Rattle.run_theory.specs.Heights.{behind, most_operands}
use Rattle.interp_state.proofs.RoomLemmas.{behind_few, count_some, most_block, most_empty, most_last, most_loop, most_other, most_reached, most_step}
use Rattle.interp_state.proofs.rooms.+most.Goals as goal

pub most_inside-most_operands-requires : goal.most_inside-most_operands-requires
most_inside-most_operands-requires t c =
    let counted = ap (λ x. count_of (in_front x done)) c.in-Block.is ∙ count_block c.in-Block.result c.in-Block.body ∙ ap (λ b. 1 + count_of (code b)) (sym c.deref.ensures.value) in
    (search (rules, the_lemmas), (c.requires.sorts, omega (arith, c.requires.fits, counted)))

pub most_inside-most_operands-requires-in-Loop : goal.most_inside-most_operands-requires-in-Loop
most_inside-most_operands-requires-in-Loop t c =
    let counted = ap (λ x. count_of (in_front x done)) c.in-Loop.is ∙ count_loop c.in-Loop.result c.in-Loop.body ∙ ap (λ b. 1 + count_of (code b)) (sym c.deref-in-Loop.ensures.value) in
    (search (rules, the_lemmas), (c.requires.sorts, omega (arith, c.requires.fits, counted)))

pub most_inside-most_operands-first-requires : goal.most_inside-most_operands-first-requires
most_inside-most_operands-first-requires t c =
    let counted = ap (λ x. count_of (in_front x done)) c.in-If.is ∙ count_if c.in-If.result c.in-If.then_arm c.in-If.else_arm
    ∙ ap (λ b. 1 + count_of (code b) + count_of (code c.in-If.else_arm.items)) (sym c.deref-in-If.ensures.value) in
    (search (rules, the_lemmas), (c.requires.sorts, omega (arith, c.requires.fits, counted, c.saturating_sub-below.ensures)))

pub most_inside-most_operands-second-requires : goal.most_inside-most_operands-second-requires
most_inside-most_operands-second-requires t c =
    let counted = ap (λ x. count_of (in_front x done)) c.in-If.is ∙ count_if c.in-If.result c.in-If.then_arm c.in-If.else_arm
    ∙ ap (λ b. 1 + count_of (code c.in-If.then_arm.items) + count_of (code b)) (sym c.deref-in-If-2.ensures.value) in
    (search (rules, the_lemmas), (c.requires.sorts, omega (arith, c.requires.fits, counted, c.saturating_sub-below.ensures)))

pub most_operands-most_inside-requires : goal.most_operands-most_inside-requires
most_operands-most_inside-requires t c =
    let counted = count_step c.args.body.now c.loop-instr.instr-index c.instr-item.result (omega (arith, c.loop-instr-test.true)) c.instr-item.is in
    (search (rules, the_lemmas), (c.requires.sorts, omega (arith, counted, c.loop-instr.invariant.fits, c.requires.fits)))

pub most_operands-loop-instr-preserved : goal.most_operands-loop-instr-preserved
most_operands-loop-instr-preserved t c =
    let m = module_of c.args.source.now in
    let body = c.args.body.now in
    let i = c.loop-instr.instr-index in
    let x = c.instr-item.result in
    let here = c.loop-instr.here in
    let inside : i < length body = omega (arith, c.loop-instr-test.true) in
    let goes = sym c.is_last.ensures ∙ c.if-is_last.false in
    let step = most_step m body i x here inside c.instr-item.is goes in
    let counted = count_step body i x inside c.instr-item.is in
    let greater = c.max-most.ensures in
    let rest = ap (most_operands m (code (drop (i + 1) body))) c.behind-here.ensures in
    record {
      whole = omega (arith, step, greater, rest, c.most_inside.ensures, c.loop-instr.invariant.whole);
      reached = omega (arith, greater, c.behind-here.ensures, c.most_inside.ensures, most_reached m x here goes);
      fits = omega (arith, counted, count_some x, c.behind-here.ensures, behind_few m x here, c.loop-instr.invariant.fits);
    }

pub most_operands-returns-then-is_last : goal.most_operands-returns-then-is_last
most_operands-returns-then-is_last t c =
    let last = sym c.is_last.ensures ∙ c.if-is_last.true in
    let ends = most_last (module_of c.args.source.now) c.args.body.now c.loop-instr.instr-index c.instr-item.result c.loop-instr.here (omega (arith, c.loop-instr-test.true)) c.instr-item.is last in
    omega (arith, ends, c.loop-instr.invariant.whole, c.loop-instr.invariant.reached)

pub most_operands-returns : goal.most_operands-returns
most_operands-returns t c =
    let ends = most_empty (module_of c.args.source.now) c.args.body.now c.loop-instr.instr-index c.loop-instr.here (omega (arith, c.loop-instr-test.false)) in
    omega (arith, ends, c.loop-instr.invariant.whole, c.loop-instr.invariant.reached)

pub most_inside-returns-in-Block : goal.most_inside-returns-in-Block
most_inside-returns-in-Block t c =
    let m = module_of c.args.source.now in
    let h = c.args.height in
    let whole = ap (λ i. most_operands m (in_front i done) h) c.in-Block.is ∙ most_block m c.in-Block.result c.in-Block.body h in
    let after = ap (λ i. behind m (in_front i done) h) c.in-Block.is in
    let inner = ap (λ b. most_operands m (code b) h) c.deref.ensures.value in
    omega (arith, c.max.ensures, c.most_operands.ensures, c.behind-after.ensures, whole, after, inner)

pub most_inside-returns-in-Loop : goal.most_inside-returns-in-Loop
most_inside-returns-in-Loop t c =
    let m = module_of c.args.source.now in
    let h = c.args.height in
    let whole = ap (λ i. most_operands m (in_front i done) h) c.in-Loop.is ∙ most_loop m c.in-Loop.result c.in-Loop.body h in
    let after = ap (λ i. behind m (in_front i done) h) c.in-Loop.is in
    let inner = ap (λ b. most_operands m (code b) h) c.deref-in-Loop.ensures.value in
    omega (arith, c.max-in-Loop.ensures, c.most_operands-in-Loop.ensures, c.behind-after.ensures, whole, after, inner)

pub most_inside-returns-in_default : goal.most_inside-returns-in_default
most_inside-returns-in_default t c =
    let whole = most_other (module_of c.args.source.now) c.args.instr.now c.args.height c.in_default.not-Block c.in_default.not-Loop c.in_default.not-If in
    omega (arith, c.max-in_default.ensures, c.behind-after.ensures, whole)
