use Rattle.std.proofs.Common.{arith, ◌≡◌, ◌++◌, get_or, refl, ap}
use Rattle.std.proofs.lemmas.List.{get_or_default}
use Rattle.std.proofs.lemmas.Result.{IfOk-from_err}
use Rattle.wa_types.specs.declared.syntax.Run.{Run}
use Rattle.validate_bodies.specs.Spaces.{ends_from}
use Rattle.wa_types.specs.declared.values.ValType.TheVariants.{I32}
use Rattle.validate_bodies.proofs.SpaceLemmas.{sum_next, sum_within, ends_on, ends_end}
use Rattle.validate_bodies.proofs.spaces.run_ends.Goals as goal

pub loop-run-preserved : goal.loop-run-preserved
loop-run-preserved c = record {
  sum = omega (arith, sum_next c.args.runs.now c.loop-run.run-index _ (record { count = 0; ty = I32 }) c.loop-run-test.true refl, c.loop-run.invariant.sum);
  ends = ends_on c.loop-run.end _ c.args.runs.now c.loop-run.run-index _ (record { count = 0; ty = I32 }) _ _ _ c.loop-run-test.true refl refl c.in_ok-push.ensures.items c.loop-run.invariant.ends;
}

pub returns : goal.returns
returns c = ends_end c.loop-run.end c.args.runs.now c.loop-run.run-index _ _ c.loop-run-test.false c.loop-run.invariant.ends

pub loop-run-init : goal.loop-run-init
loop-run-init c = record { sum = refl; ends = ap (λ z. z ++ ends_from 0 c.args.runs.now) c.in_ok-ends.ensures.items }

pub overflow_add-end : goal.overflow_add-end
overflow_add-end c =
    let i = c.loop-run.run-index in
    let r : Run = get_or c.args.runs.now i (record { count = 0; ty = I32 }) in
    let here : r ≡ get_or c.args.runs.now i r = get_or_default c.args.runs.now i _ r c.loop-run-test.true in
    omega (arith, c.requires, c.loop-run.invariant.sum, sum_within c.args.runs.now i r c.loop-run-test.true here)

pub returns-in_err-ends : goal.returns-in_err-ends
returns-in_err-ends c = IfOk-from_err c.from_residual.result _ c.from_residual.ensures.0

pub returns-in_err-push : goal.returns-in_err-push
returns-in_err-push c = IfOk-from_err c.from_residual-in_err-push.result _ c.from_residual-in_err-push.ensures.0
