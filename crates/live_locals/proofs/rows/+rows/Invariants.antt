use Rattle.std.proofs.Common.{◌≡◌, ◌≤◌, drop, length, reverse}
use Rattle.run_theory.specs.Flat.{code_of}
use Rattle.run_theory.specs.FlatView.{stmts}
use Rattle.live_locals.specs.Sets.{Passed}
use Rattle.live_locals.specs.Heads.{loop_total}
use Rattle.live_locals.specs.Rows.{RowsPut}
use Rattle.live_locals.proofs.rows.+rows.Given as goal

abbrev pub invariant-put_body_rows-loop-left : goal.invariant-put_body_rows-loop-left
invariant-put_body_rows-loop-left l =
    (l.left ≤ length l.body) × Passed l.fn.walk.tos.items l.walk.tos.items l.fn.set l.set (code_of (stmts (drop l.left l.body)))
    × RowsPut l.calls.numbers.now l.fn.walk.tos.items l.fn.set l.set (stmts (drop l.left l.body)) l.calls.last l.first l.fn.keeping l.keeping
    × (reverse l.walk.heads.items ≡ drop (loop_total (stmts (drop l.left l.body))) (reverse l.fn.walk.heads.items))

abbrev pub decreases-put_body_rows-loop-left : goal.decreases-put_body_rows-loop-left
decreases-put_body_rows-loop-left l = l.left
