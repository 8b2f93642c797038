use Rattle.std.proofs.Common.{◌≡◌, ◌∙◌, ap, false, nat_eq, sym, true}
use Rattle.std.proofs.lemmas.Result.{on_ok_weaker}
use Rattle.live_locals.specs.Keeping.{is_local}
use Rattle.live_locals.proofs.KeepingLemmas.{settles_none}
use Rattle.live_locals.proofs.TouchLemmas.{settles_as}
use Rattle.live_locals.proofs.keeping.settle_operand.Goals as goal

pub returns-in-Local : goal.returns-in-Local
returns-in-Local c =
    on_ok_weaker c.settle.result
    (λ h. settles_as c.args.set.now (λ x. nat_eq x c.in-Local.local) (λ x. is_local x c.args.operand) c.args.keeping.now c.settle.new.keeping (λ x. ap (is_local x) c.in-Local.is) h)
    c.settle.ensures

pub returns-in-Const : goal.returns-in-Const
returns-in-Const c = settles_none c.args.set.now (λ x. is_local x c.args.operand) c.args.keeping.now c.requires (λ x lt e. none (sym (ap (is_local x) c.in-Const.is) ∙ e))
  where
    none : false ≡ true → ⊥
    none e = cc
