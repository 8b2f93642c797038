use Rattle.std.proofs.Common.{drop, ◌+◌, ◌*◌}
use Rattle.wa_types.specs.Syntax.{done}
use Rattle.wa_types.specs.Sizes.{code_items}
use Rattle.wa_types.specs.View.{code, in_front}
use Rattle.frame_sizes.proofs.VisitLemmas.{Went}
use Rattle.frame_sizes.proofs.points.+visit.Given as goal

abbrev pub invariant-visit_body-loop-instr : goal.invariant-visit_body-loop-instr
invariant-visit_body-loop-instr l = Went l.fn.typing l.typing (code l.body) (code (drop l.instr-index l.body)) l.fn.visits l.visits

abbrev pub decreases-visit_body : goal.decreases-visit_body
decreases-visit_body l = 2 * code_items (code l.body.now) + 1

abbrev pub decreases-visit_instr : goal.decreases-visit_instr
decreases-visit_instr l = 2 * code_items (in_front l.instr.now done)
