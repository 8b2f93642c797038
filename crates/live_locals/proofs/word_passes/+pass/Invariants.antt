use Rattle.std.proofs.Common.{◌≤◌, drop, length}
use Rattle.run_theory.specs.Flat.{code_of}
use Rattle.run_theory.specs.FlatView.{stmts}
use Rattle.live_locals.specs.Words.{WordsPassed}
use Rattle.live_locals.specs.Heads.{HeadsPut}
use Rattle.live_locals.proofs.word_passes.+pass.Given as goal

abbrev pub invariant-pass_body-loop-left : goal.invariant-pass_body-loop-left
invariant-pass_body-loop-left l =
    (l.left ≤ length l.body) × WordsPassed l.pass.outer.now l.fn.inner.items l.inner.items l.fn.set l.set (code_of (stmts (drop l.left l.body)))
    × HeadsPut l.around.level l.pass.outer.now l.fn.inner.items l.fn.set (stmts (drop l.left l.body)) l.fn.heads.items l.heads.items

abbrev pub decreases-pass_body-loop-left : goal.decreases-pass_body-loop-left
decreases-pass_body-loop-left l = l.left
