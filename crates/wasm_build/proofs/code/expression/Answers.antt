use Rattle.std.proofs.Common.{arith, ap, subst, ◌∙◌, Ok}
use Rattle.wa_types.specs.View.{code}
use Rattle.wasm_build.specs.BuildsLevels.{Turned}
use Rattle.wasm_build.proofs.OpenLevels.{run_start}
use Rattle.wasm_build.proofs.code.expression.Goals as goal

pub loop-body-init : goal.loop-body-init
loop-body-init c = record { left = omega arith; running = run_start c.args.input.now c.new-levels.result.items c.in_ok-body.body.items c.new-levels.ensures.items c.in_ok-body.ensures.items }

pub returns-in-Ok-true-clause-built : goal.returns-in-Ok-true-clause-built
returns-in-Ok-true-clause-built c =
    let whole = subst (λ z. Turned (Ok z) c.args.input.now c.go_on.new.levels.items c.go_on.new.body c.go_on.new.input) c.in-Ok-true.field-0-test
    (c.in-Ok-true.ensures.on c.args.input.now c.loop-body.invariant.running) in
    record { built = λ more x end h. let given = whole.built more x end h in (ap code c.shrink_to_fit.ensures.items ∙ given.0, given.1) }
