use Rattle.std.proofs.Common.{drop, ◌+◌, ◌*◌}
use Rattle.wa_types.specs.Syntax.{done}
use Rattle.wa_types.specs.Sizes.{code_items}
use Rattle.flatten.proofs.BodyLemmas.{Walked}
use Rattle.wa_types.specs.View.{code, in_front}
use Rattle.flatten.proofs.body.+body_stmts.Given as goal

abbrev pub invariant-body_stmts-loop-instr : goal.invariant-body_stmts-loop-instr
invariant-body_stmts-loop-instr l = Walked l.names l.fn.at l.at (code l.body) (code (drop l.instr-index l.body)) l.out.items

abbrev pub decreases-body_stmts : goal.decreases-body_stmts
decreases-body_stmts l = 2 * code_items (code l.body.now) + 1

abbrev pub decreases-put_instr : goal.decreases-put_instr
decreases-put_instr l = 2 * code_items (in_front l.instr.now done)
