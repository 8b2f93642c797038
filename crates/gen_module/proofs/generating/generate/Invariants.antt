use Rattle.std.proofs.Common.{◌≡◌, map}
use Rattle.wa_types.specs.View.{func_of}
use Rattle.gen_module.specs.Generated.{generated_funcs}
use Rattle.gen_module.proofs.generating.generate.Given as goal

abbrev pub invariant-loop-i : goal.invariant-loop-i
invariant-loop-i l = map func_of l.funcs.items ≡ generated_funcs l.i
