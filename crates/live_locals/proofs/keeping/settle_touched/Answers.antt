use Rattle.std.proofs.Common.{◌||◌, ◌∙◌, ap, nat_eq, refl, sym, true}
use Rattle.std.specs.List.{list_any}
use Rattle.std.proofs.lemmas.Result.{on_ok_weaker}
use Rattle.wa_types.specs.Syntax.{done}
use Rattle.wa_types.specs.View.{in_front}
use Rattle.run_theory.specs.Flat.{no_more}
use Rattle.run_theory.specs.FlatView.{stmt_in_front}
use Rattle.live_locals.specs.Keeping.{is_it, is_local, op_touches, touches}
use Rattle.live_locals.proofs.KeepingLemmas.{settles_then, settles_weaker}
use Rattle.live_locals.proofs.TouchLemmas.{move_touches, plain_touches, settles_as}
use Rattle.live_locals.proofs.keeping.settle_touched.Goals as goal

pub settle_op-requires : goal.settle_op-requires
settle_op-requires c = c.in_ok-settle_told-in-Plain.ensures.stands

pub settle_operands-requires : goal.settle_operands-requires
settle_operands-requires c = c.in_ok-settle_op-in-Plain.ensures.stands

pub settle_operand-requires : goal.settle_operand-requires
settle_operand-requires c = c.in_ok-settle-in-Move.ensures.stands

pub returns-in_ok-settle_op-in-Plain : goal.returns-in_ok-settle_op-in-Plain
returns-in_ok-settle_op-in-Plain c =
    let set = c.args.set.now in
    let old = c.args.keeping.now in
    on_ok_weaker c.settle_operands.result
    (λ h. settles_as set (λ x. (is_it x c.in-Plain.to || op_touches x (in_front c.in-Plain.op done)) || list_any (is_local x) c.deref.result.now)
    (λ x. touches x (stmt_in_front c.args.stmt.now no_more)) old c.settle_operands.new.keeping
    (λ x. plain_touches x c.args.stmt.now c.in-Plain.op c.in-Plain.args c.in-Plain.to c.in-Plain.is
    ∙ ap (λ xs. (is_it x c.in-Plain.to || op_touches x (in_front c.in-Plain.op done)) || list_any (is_local x) xs) (sym c.deref.ensures.value))
    (settles_then set (λ x. is_it x c.in-Plain.to || op_touches x (in_front c.in-Plain.op done)) (λ x. list_any (is_local x) c.deref.result.now) old c.settle_op.new.keeping
    c.settle_operands.new.keeping
    (settles_then set (λ x. is_it x c.in-Plain.to) (λ x. op_touches x (in_front c.in-Plain.op done)) old c.settle_told.new.keeping c.settle_op.new.keeping
    c.in_ok-settle_told-in-Plain.ensures c.in_ok-settle_op-in-Plain.ensures) h))
    c.settle_operands.ensures

pub returns-in_ok-settle-in-Move : goal.returns-in_ok-settle-in-Move
returns-in_ok-settle-in-Move c =
    let set = c.args.set.now in
    let old = c.args.keeping.now in
    on_ok_weaker c.settle_operand.result
    (λ h. settles_as set (λ x. nat_eq x c.in-Move.to || is_local x c.in-Move.from) (λ x. touches x (stmt_in_front c.args.stmt.now no_more)) old c.settle_operand.new.keeping
    (λ x. move_touches x c.args.stmt.now c.in-Move.to c.in-Move.from c.in-Move.is)
    (settles_then set (λ x. nat_eq x c.in-Move.to) (λ x. is_local x c.in-Move.from) old c.settle.new.keeping c.settle_operand.new.keeping c.in_ok-settle-in-Move.ensures h))
    c.settle_operand.ensures

pub returns-in_default : goal.returns-in_default
returns-in_default c =
    on_ok_weaker c.settle_all.result
    (λ h. settles_weaker c.args.set.now (λ x. true) (λ x. touches x (stmt_in_front c.args.stmt.now no_more)) c.args.keeping.now c.settle_all.new.keeping (λ x lt e. refl) h) c.settle_all.ensures
