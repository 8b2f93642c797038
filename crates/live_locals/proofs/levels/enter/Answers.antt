use Rattle.std.proofs.Common.{◌+◌, arith, refl, subst, sym}
use Rattle.live_locals.proofs.LevelLemmas.{Entering, entering_first, entering_put, entering_left}
use Rattle.live_locals.proofs.levels.enter.Goals.{then-head-local, else-head-local}
use Rattle.live_locals.proofs.levels.enter.Goals as goal

pub loop-local-init : goal.loop-local-init
loop-local-init c = entering_first c.args.worlds.now c.args.head.now c.args.own

pub loop-local-preserved : goal.loop-local-preserved
loop-local-preserved c = elim c.if-head-local.branch [
  | then-head-local w ↦ subst (λ s. Entering c.args.worlds.now c.args.head.now c.args.own s (c.loop-local.local + 1)) (sym w.worlds-is)
      (entering_put c.args.worlds.now c.args.head.now c.args.own c.loop-local.worlds c.loop-local.local c.loop-local.invariant _
      (omega (arith, c.loop-local.auto.worlds, c.loop-local-test.true)) w.if-head-local.true refl)
  | else-head-local w ↦ subst (λ s. Entering c.args.worlds.now c.args.head.now c.args.own s (c.loop-local.local + 1)) (sym w.worlds-is)
      (entering_left c.args.worlds.now c.args.head.now c.args.own c.loop-local.worlds c.loop-local.local c.loop-local.invariant w.if-head-local.false)
]

pub returns : goal.returns
returns c = λ x lt. c.loop-local.invariant.below x (omega (arith, lt, c.loop-local-test.false))
