use Rattle.std.proofs.Common.{◌∙◌, ap, ◌≡◌, false, nat_eq, sym, true}
use Rattle.std.proofs.lemmas.Result.{on_ok_weaker}
use Rattle.live_locals.specs.Keeping.{is_it}
use Rattle.live_locals.proofs.KeepingLemmas.{settles_none}
use Rattle.live_locals.proofs.TouchLemmas.{settles_as}
use Rattle.live_locals.proofs.keeping.settle_told.Goals as goal

pub returns-in-Some : goal.returns-in-Some
returns-in-Some c =
    on_ok_weaker c.settle.result
    (λ h. settles_as c.args.set.now (λ x. nat_eq x c.in-Some.local) (λ x. is_it x c.args.to) c.args.keeping.now c.settle.new.keeping (λ x. ap (is_it x) c.in-Some.is) h) c.settle.ensures

pub returns-in-None : goal.returns-in-None
returns-in-None c = settles_none c.args.set.now (λ x. is_it x c.args.to) c.args.keeping.now c.requires (λ x lt e. none (sym (ap (is_it x) c.in-None.is) ∙ e))
  where
    none : false ≡ true → ⊥
    none e = cc
