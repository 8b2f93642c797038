use Rattle.std.proofs.Common.{arith, refl, sym, ◌∙◌}
use Rattle.wa_types.specs.declared.values.ValType.TheVariants.{I32}
use Rattle.validate_bodies.proofs.ContextLemmas.{walk_in, walk_on}
use Rattle.validate_bodies.proofs.context.gone_through.Goals as goal

pub returns-then-left-count : goal.returns-then-left-count
returns-then-left-count c =
    sym (walk_in c.args.runs.now c.loop-run.run-index c.loop-run.left _ (record { count = 0; ty = I32 }) c.loop-run-test.true refl c.if-left-count.true) ∙ c.loop-run.invariant

pub loop-run-preserved : goal.loop-run-preserved
loop-run-preserved c =
    sym (walk_on c.args.runs.now c.loop-run.run-index c.loop-run.left _ _ (record { count = 0; ty = I32 }) c.loop-run-test.true refl (omega arith) refl) ∙ c.loop-run.invariant
