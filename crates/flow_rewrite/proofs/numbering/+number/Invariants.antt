use Rattle.std.proofs.Common.{◌≡◌, ◌+◌, ◌++◌, drop}
use Rattle.wa_types.specs.Pausing.{places_from}
use Rattle.run_theory.specs.FlatView.{stmts}
use Rattle.guard_form.specs.Pieces.{call_total}
use Rattle.flow_rewrite.specs.Numbering.{callees, gets_number}
use Rattle.flow_rewrite.proofs.numbering.+number.Given as goal

abbrev pub invariant-put_numbers-loop-stmt : goal.invariant-put_numbers-loop-stmt
invariant-put_numbers-loop-stmt l =
    (l.out.items ++ places_from (gets_number l.which l.listed l.ignore_indirect) l.next (callees (stmts (drop l.stmt-index l.body))) ≡ l.fn.out.items ++ places_from
    (gets_number l.which l.listed l.ignore_indirect) l.place (callees (stmts l.body)))
    × (l.next + call_total (stmts (drop l.stmt-index l.body)) ≡ l.place + call_total (stmts l.body))
