use Rattle.std.proofs.Common.{◌≡◌, ◌+◌, ◌≤◌, drop, map, length}
use Rattle.wa_types.specs.Modules.{func_imports}
use Rattle.wa_types.specs.View.{func_of, module_of}
use Rattle.validate_bodies.specs.Running.{funcs_answer}
use Rattle.wasm_validate.proofs.valid.check_funcs.Given as goal

abbrev pub invariant-loop-index : goal.invariant-loop-index
invariant-loop-index l = record {
  within : l.index ≤ length l.«module».funcs.items;
  same : funcs_answer (module_of l.«module») (func_imports (module_of l.«module»)) (map func_of l.«module».funcs.items)
      ≡ funcs_answer (module_of l.«module») (func_imports (module_of l.«module») + l.index) (map func_of (drop l.index l.«module».funcs.items));
}
