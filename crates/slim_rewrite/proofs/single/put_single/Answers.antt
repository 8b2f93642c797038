use Rattle.std.proofs.Common.{false, subst}
use Rattle.std.proofs.lemmas.Result.{IfOk-weaker}
use Rattle.wa_types.specs.Syntax.{br_table, done, plain}
use Rattle.wa_types.specs.View.{in_front}
use Rattle.run_theory.specs.Flat.{all_got, followed_by, got, set_to}
use Rattle.slim_rewrite.specs.Walking.{Ended, Stepped}
use Rattle.slim_rewrite.proofs.SingleLemmas.{br_if_put, br_put, halt_put, move_put, plain_fits, plain_leaf, plain_put, table_put}
use Rattle.slim_rewrite.proofs.single.put_single.Goals as goal

pub put_plain-requires-clause-leaf : goal.put_plain-requires-clause-leaf
put_plain-requires-clause-leaf c = plain_leaf c.args.stmt.now c.in-Plain.op c.in-Plain.args c.in-Plain.to c.args.all.now.place c.in-Plain.is c.requires.ready

pub put_plain-requires-clause-fits : goal.put_plain-requires-clause-fits
put_plain-requires-clause-fits c = plain_fits c.args.stmt.now c.in-Plain.op c.in-Plain.args c.in-Plain.to c.args.all.now.place c.in-Plain.is c.requires.ready

pub returns-in-Plain : goal.returns-in-Plain
returns-in-Plain c = IfOk-weaker c.put_plain.result _ _
    (λ put st e ps. plain_put ps c.args.at.now c.put_plain.new.at c.args.all.now c.args.stmt.now c.requires.goes c.in-Plain.op c.in-Plain.args c.in-Plain.to c.in-Plain.is
    (plain_fits c.args.stmt.now c.in-Plain.op c.in-Plain.args c.in-Plain.to c.args.all.now.place c.in-Plain.is c.requires.ready)
    (subst (λ xs. Stepped c.args.at.now c.put_plain.new.at false (λ k. all_got xs (followed_by (in_front c.in-Plain.op done) (set_to c.in-Plain.to k)))) c.deref.ensures.value (st e)))
    c.put_plain.ensures

pub returns-in-Move : goal.returns-in-Move
returns-in-Move c = IfOk-weaker c.put_move.result _ _
    (λ put st e ps. move_put ps c.args.at.now c.put_move.new.at c.args.all.now c.args.stmt.now c.requires.goes c.in-Move.to c.in-Move.from c.in-Move.is (st e)) c.put_move.ensures

pub returns-in-BrIf : goal.returns-in-BrIf
returns-in-BrIf c = IfOk-weaker c.put_br_if.result _ _
    (λ put st e ps. br_if_put ps c.args.at.now c.put_br_if.new.at c.args.all.now c.args.stmt.now c.requires.goes c.in-BrIf.cond c.in-BrIf.label c.in-BrIf.is (st e)) c.put_br_if.ensures

pub returns-in-BrTable : goal.returns-in-BrTable
returns-in-BrTable c = IfOk-weaker c.put_br_table.result _ _
    (λ put st e ps. table_put ps c.args.at.now c.put_br_table.new.at c.args.all.now c.args.stmt.now c.requires.goes c.in-BrTable.index c.in-BrTable.labels c.in-BrTable.last c.in-BrTable.is
    (subst (λ ls. Ended c.args.at.now c.put_br_table.new.at (got c.in-BrTable.index (plain (br_table ls c.in-BrTable.last) done))) c.deref-in-BrTable.ensures.value (st e))) c.put_br_table.ensures

pub returns-in_ok-put_br-in-Br : goal.returns-in_ok-put_br-in-Br
returns-in_ok-put_br-in-Br c = λ e ps.
    br_put ps c.args.at.now c.put_br.new.at c.args.all.now c.args.stmt.now c.requires.goes c.in-Br.label c.in-Br.is c.in_ok-put_br-in-Br.ensures

pub returns-in_ok-put_unreachable-in-Unreachable : goal.returns-in_ok-put_unreachable-in-Unreachable
returns-in_ok-put_unreachable-in-Unreachable c = λ e ps.
    halt_put ps c.args.at.now c.put_unreachable.new.at c.args.all.now c.args.stmt.now c.requires.goes c.in-Unreachable.is c.in_ok-put_unreachable-in-Unreachable.ensures
