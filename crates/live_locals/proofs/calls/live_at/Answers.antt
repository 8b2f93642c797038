use Rattle.std.proofs.Common.{length, refl, subst}
use Rattle.std.proofs.lemmas.Result.{IfOk-weaker}
use Rattle.run_theory.specs.FlatView.{flat_func_of}
use Rattle.call_frames.specs.Classes.{MadeAgain}
use Rattle.live_locals.proofs.WholeLemmas.{sets_again}
use Rattle.live_locals.proofs.calls.live_at.Goals as goal

pub returns : goal.returns
returns c =
    IfOk-weaker c.sets_from.result _ _
    (λ made m. sets_again (flat_func_of c.args.func.now) c.args.numbers.now c.in_ok-rows.rows.items made.items (length c.args.numbers.now) refl c.in_ok-rows.ensures
    (subst (λ rs. MadeAgain rs (length c.args.numbers.now) made.items) c.deref.ensures.value m))
    c.sets_from.ensures
