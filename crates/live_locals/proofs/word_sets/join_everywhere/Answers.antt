use Rattle.std.proofs.Common.{◌+◌, arith, length, subst, sym}
use Rattle.live_locals.proofs.WordLemmas.{SetJoining, set_joining_put, set_joining_left, set_joining_end, one_is_full}
use Rattle.live_locals.proofs.word_sets.join_everywhere.Goals.{then-other-local, else-other-local}
use Rattle.live_locals.proofs.word_sets.join_everywhere.Goals as goal

pub loop-local-preserved : goal.loop-local-preserved
loop-local-preserved c = elim c.if-other-local.branch [
  | then-other-local w ↦ subst (λ s. SetJoining c.args.set.now c.args.other.now s (c.loop-local.local + 1)) (sym w.set-is)
      (set_joining_put c.args.set.now c.args.other.now c.loop-local.set c.loop-local.local c.loop-local.invariant
      (omega (arith, c.loop-local.auto.set, c.loop-local-test.true, c.min-count.ensures)) w.if-other-local.true)
  | else-other-local w ↦ subst (λ s. SetJoining c.args.set.now c.args.other.now s (c.loop-local.local + 1)) (sym w.set-is)
      (set_joining_left c.args.set.now c.args.other.now c.loop-local.set c.loop-local.local c.loop-local.invariant w.if-other-local.false)
]

pub returns : goal.returns
returns c = set_joining_end c.args.set.now c.args.other.now c.loop-local.set c.loop-local.local c.loop-local.invariant
    (one_is_full c.min-count.result (length c.args.set.now) (length c.args.other.now) c.loop-local.local c.min-count.ensures c.loop-local-test.false)
