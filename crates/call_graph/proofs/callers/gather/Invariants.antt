use Rattle.std.proofs.Common.{◌≡◌, ◌+◌, ◌++◌, map, take, replicate, false}
use Rattle.wa_types.specs.declared.syntax.Func.{Func as FuncValue}
use Rattle.wa_types.specs.Modules.{func_imports}
use Rattle.wa_types.specs.View.{func_of, module_of}
use Rattle.call_graph.specs.Calls.{pauses}
use Rattle.call_graph.specs.Callers.{GatheredBelow}
use Rattle.call_graph.proofs.callers.gather.Given as goal

abbrev pub invariant-loop-func : goal.invariant-loop-func
invariant-loop-func l = record {
  calls : GatheredBelow (module_of l.fn.module) (func_imports (module_of l.fn.module) + l.func-index) l.callers;
  own : l.pauses.items ≡ replicate (func_imports (module_of l.fn.module)) false ++ map (λ (f : FuncValue). pauses l.fn.listed l.fn.ignore_indirect (func_of f))
      (take l.func-index l.fn.module.funcs.items);
}
