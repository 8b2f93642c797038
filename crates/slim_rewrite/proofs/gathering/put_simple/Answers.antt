use Rattle.std.proofs.Common.{ap, sym, ◌∙◌}
use Rattle.wa_types.specs.Syntax.{local_set, br_if, br_table, done, plain}
use Rattle.wa_types.specs.View.{in_front, onto}
use Rattle.wa_types.proofs.ViewLemmas.{in_br_table}
use Rattle.run_theory.specs.Flat.{no_more, followed_by, all_got, set_to}
use Rattle.flow_rewrite.specs.Statements.{one_code}
use Rattle.flow_rewrite.proofs.PutLemmas.{put_one, set_is, br_is, br_if_is, unreachable_is}
use Rattle.slim_rewrite.proofs.GatherLemmas.{only_simple, simple_leaf}
use Rattle.slim_rewrite.proofs.SingleLemmas.{plain_is, move_is, br_is as leap_is, br_if_is as leap_if_is, table_is, halt_is}
use Rattle.slim_rewrite.proofs.gathering.put_simple.Goals as goal

pub put_copy-requires : goal.put_copy-requires
put_copy-requires c = simple_leaf c.args.stmt.now c.in-Plain.op c.in-Plain.args c.in-Plain.to c.in-Plain.is c.requires

pub unreachable-requires : goal.unreachable-requires
unreachable-requires c = only_simple c.args.stmt.now c.requires c.in_default.not-Plain c.in_default.not-Move c.in_default.not-Br c.in_default.not-BrIf c.in_default.not-BrTable
    c.in_default.not-Unreachable

pub returns-in_ok-put_to-in-Plain : goal.returns-in_ok-put_to-in-Plain
returns-in_ok-put_to-in-Plain c = λ rest.
    c.in_ok-put_to-in-Plain.ensures rest ∙ c.in_ok-put_copy-in-Plain.ensures (set_to c.in-Plain.to rest)
    ∙ c.in_ok-put_operands-in-Plain.ensures (followed_by (in_front c.in-Plain.op done) (set_to c.in-Plain.to rest))
    ∙ ap (λ xs. onto c.args.piece.now.items (all_got xs (followed_by (in_front c.in-Plain.op done) (set_to c.in-Plain.to rest)))) c.deref.ensures.value
    ∙ sym (ap (λ u. onto c.args.piece.now.items (one_code u rest)) (plain_is c.args.stmt.now c.in-Plain.op c.in-Plain.args c.in-Plain.to c.in-Plain.is no_more))

pub returns-in_ok-push-in-Move : goal.returns-in_ok-push-in-Move
returns-in_ok-push-in-Move c = λ rest.
    put_one _ _ _ _ c.in_ok-push-in-Move.ensures.items (set_is c.in-Move.to) rest ∙ c.in_ok-put_operand-in-Move.ensures (plain (local_set c.in-Move.to) rest)
    ∙ sym (ap (λ u. onto c.args.piece.now.items (one_code u rest)) (move_is c.args.stmt.now c.in-Move.to c.in-Move.from c.in-Move.is no_more))

pub returns-in_ok-push-in-Br : goal.returns-in_ok-push-in-Br
returns-in_ok-push-in-Br c = λ rest. put_one _ _ _ _ c.in_ok-push-in-Br.ensures.items (br_is c.in-Br.label) rest
    ∙ sym (ap (λ u. onto c.args.piece.now.items (one_code u rest)) (leap_is c.args.stmt.now c.in-Br.label c.in-Br.is no_more))

pub returns-in_ok-push-in-BrIf : goal.returns-in_ok-push-in-BrIf
returns-in_ok-push-in-BrIf c = λ rest.
    put_one _ _ _ _ c.in_ok-push-in-BrIf.ensures.items (br_if_is c.in-BrIf.label) rest ∙ c.in_ok-put_operand-in-BrIf.ensures (plain (br_if c.in-BrIf.label) rest)
    ∙ sym (ap (λ u. onto c.args.piece.now.items (one_code u rest)) (leap_if_is c.args.stmt.now c.in-BrIf.cond c.in-BrIf.label c.in-BrIf.is no_more))

pub returns-in_ok-push-in-BrTable : goal.returns-in_ok-push-in-BrTable
returns-in_ok-push-in-BrTable c = λ rest.
    put_one _ _ _ _ c.in_ok-push-in-BrTable.ensures.items (in_br_table _ c.in-BrTable.last) rest
    ∙ ap (λ xs. onto c.put_operand-in-BrTable.new.out.items (plain (br_table xs c.in-BrTable.last) rest)) (c.in_ok-labels-in-BrTable.ensures.items ∙ c.deref-in-BrTable.ensures.value)
    ∙ c.in_ok-put_operand-in-BrTable.ensures (plain (br_table c.in-BrTable.labels.items c.in-BrTable.last) rest)
    ∙ sym (ap (λ u. onto c.args.piece.now.items (one_code u rest)) (table_is c.args.stmt.now c.in-BrTable.index c.in-BrTable.labels c.in-BrTable.last c.in-BrTable.is no_more))

pub returns-in_ok-push-in-Unreachable : goal.returns-in_ok-push-in-Unreachable
returns-in_ok-push-in-Unreachable c = λ rest. put_one _ _ _ _ c.in_ok-push-in-Unreachable.ensures.items unreachable_is rest
    ∙ sym (ap (λ u. onto c.args.piece.now.items (one_code u rest)) (halt_is c.args.stmt.now c.in-Unreachable.is no_more))
