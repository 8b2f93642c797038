use Rattle.std.proofs.Common.{◌≡◌, map, take}
use Rattle.wa_types.specs.View.{func_of}
use Rattle.module_rewrite.specs.Bare.{bare}
use Rattle.module_rewrite.proofs.bare.bare_funcs.Given as goal

abbrev pub invariant-loop-func : goal.invariant-loop-func
invariant-loop-func l = map func_of l.out.items ≡ map bare (map func_of (take l.func-index l.funcs))
