use Rattle.std.proofs.Common.{◌≤◌, drop, length}
use Rattle.wa_types.specs.Syntax.{done}
use Rattle.run_theory.specs.Flat.{all_got}
use Rattle.live_locals.specs.Words.{WordsTell}
use Rattle.live_locals.proofs.word_sets.read_operands.Given as goal

abbrev pub invariant-loop-left : goal.invariant-loop-left
invariant-loop-left l = (l.left ≤ length l.operands) × WordsTell l.fn.set l.set (all_got (drop l.left l.operands) done)

abbrev pub decreases-loop-left : goal.decreases-loop-left
decreases-loop-left l = l.left
