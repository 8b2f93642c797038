use Rattle.std.proofs.Common.{◌≡◌, ◌∙◌, false, nat_eq, sym, true}
use Rattle.std.proofs.lemmas.Result.{on_ok_weaker}
use Rattle.wa_types.specs.Syntax.{done}
use Rattle.wa_types.specs.View.{in_front}
use Rattle.live_locals.specs.Keeping.{op_touches}
use Rattle.live_locals.proofs.KeepingLemmas.{settles_none}
use Rattle.live_locals.proofs.TouchLemmas.{get_touches, quiet_op, set_touches, settles_as, tee_touches}
use Rattle.live_locals.proofs.keeping.settle_op.Goals as goal

pub returns-in-LocalGet : goal.returns-in-LocalGet
returns-in-LocalGet c =
    on_ok_weaker c.settle.result
    (λ h. settles_as c.args.set.now (λ x. nat_eq x c.in-LocalGet.local) (λ x. op_touches x (in_front c.args.op.now done)) c.args.keeping.now c.settle.new.keeping
    (λ x. get_touches x c.in-LocalGet.local c.args.op.now c.in-LocalGet.is) h) c.settle.ensures

pub returns-in-LocalSet : goal.returns-in-LocalSet
returns-in-LocalSet c =
    on_ok_weaker c.settle-in-LocalSet.result
    (λ h. settles_as c.args.set.now (λ x. nat_eq x c.in-LocalSet.local) (λ x. op_touches x (in_front c.args.op.now done)) c.args.keeping.now c.settle-in-LocalSet.new.keeping
    (λ x. set_touches x c.in-LocalSet.local c.args.op.now c.in-LocalSet.is) h) c.settle-in-LocalSet.ensures

pub returns-in-LocalTee : goal.returns-in-LocalTee
returns-in-LocalTee c =
    on_ok_weaker c.settle-in-LocalTee.result
    (λ h. settles_as c.args.set.now (λ x. nat_eq x c.in-LocalTee.local) (λ x. op_touches x (in_front c.args.op.now done)) c.args.keeping.now c.settle-in-LocalTee.new.keeping
    (λ x. tee_touches x c.in-LocalTee.local c.args.op.now c.in-LocalTee.is) h) c.settle-in-LocalTee.ensures

pub returns-in_default : goal.returns-in_default
returns-in_default c =
    settles_none c.args.set.now (λ x. op_touches x (in_front c.args.op.now done)) c.args.keeping.now c.requires
    (λ x lt e. none (sym (quiet_op x c.args.op.now c.in_default.not-LocalGet c.in_default.not-LocalSet c.in_default.not-LocalTee) ∙ e))
  where
    none : false ≡ true → ⊥
    none e = cc
