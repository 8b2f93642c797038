use Rattle.std.proofs.Common.{ap, map, ◌∙◌, arith, refl}
use Rattle.std.proofs.lemmas.List.{take_all}
use Rattle.wa_types.specs.View.{func_of}
use Rattle.module_rewrite.specs.Bare.{bare}
use Rattle.module_rewrite.proofs.BareLemmas.{bare_next}
use Rattle.module_rewrite.proofs.bare.bare_funcs.Goals as goal

pub loop-func-init : goal.loop-func-init
loop-func-init c = ap (map func_of) c.in_ok-out.ensures.items

pub loop-func-preserved : goal.loop-func-preserved
loop-func-preserved c =
    bare_next c.args.funcs.now c.loop-func.func-index c.func-item.result c.loop-func.out.items c.push.new.self.items _ c.loop-func-test.true c.func-item.is
    refl c.new.ensures.items c.new-in-loop-func.ensures.items c.in_ok-push.ensures.items c.loop-func.invariant

pub returns : goal.returns
returns c = c.loop-func.invariant ∙ ap (λ fs. map bare (map func_of fs)) (take_all c.loop-func.func-index c.args.funcs.now (let h = c.loop-func-test.false in omega arith))
