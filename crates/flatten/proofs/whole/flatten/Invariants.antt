use Rattle.std.proofs.Common.{map, drop}
use Rattle.wa_types.specs.View.{module_of}
use Rattle.wa_types.specs.Modules.{func_imports}
use Rattle.run_theory.specs.FlatView.{flat_func_of}
use Rattle.flatten.proofs.ToldLemmas.{Sofar}
use Rattle.flatten.proofs.whole.flatten.Given as goal

abbrev pub invariant-loop-index : goal.invariant-loop-index
invariant-loop-index l =
    Sofar (module_of l.fn.valid) (drop (func_imports (module_of l.fn.valid)) l.fn.which) (module_of l.fn.valid).funcs (func_imports (module_of l.fn.valid)) l.index (map flat_func_of l.funcs.items)
