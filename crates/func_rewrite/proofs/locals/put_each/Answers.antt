use Rattle.wa_types.specs.declared.values.ValType.TheVariants.{I32}
use Rattle.func_rewrite.proofs.BodyCode.{runs_first, runs_step, runs_end}
use Rattle.func_rewrite.proofs.locals.put_each.Goals as goal

pub loop-ty-init : goal.loop-ty-init
loop-ty-init c = runs_first c.args.out.now.items c.args.types.now

pub loop-ty-preserved : goal.loop-ty-preserved
loop-ty-preserved c = runs_step c.args.out.now.items c.loop-ty.out.items _ c.args.types.now c.loop-ty.ty-index I32 c.loop-ty-test.true c.in_ok-push.ensures.items c.loop-ty.invariant

pub returns : goal.returns
returns c = runs_end c.args.out.now.items c.loop-ty.out.items c.args.types.now c.loop-ty.ty-index c.loop-ty-test.false c.loop-ty.invariant
