use Rattle.std.proofs.Common.{◌≤◌, drop, length}
use Rattle.run_theory.specs.Flat.{code_of}
use Rattle.run_theory.specs.FlatView.{stmts}
use Rattle.live_locals.specs.Sets.{Passed}
use Rattle.live_locals.proofs.passes.+pass.Given as goal

abbrev pub invariant-pass_body-loop-left : goal.invariant-pass_body-loop-left
invariant-pass_body-loop-left l = (l.left ≤ length l.body) × Passed l.fn.tos.items l.tos.items l.fn.set l.set (code_of (stmts (drop l.left l.body)))

abbrev pub decreases-pass_body-loop-left : goal.decreases-pass_body-loop-left
decreases-pass_body-loop-left l = l.left
