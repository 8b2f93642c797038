use Rattle.std.proofs.Common.{◌≡◌, drop, map}
use Rattle.wa_types.specs.View.{func_type_of, module_of}
use Rattle.wa_types.specs.Marks.{first_above}
use Rattle.wasm_reader.specs.Locals.{module_locals}
use Rattle.wasm_reader.proofs.LocalCounts.{above_from}
use Rattle.wasm_reader.proofs.locals.locals_above.Given as goal

abbrev pub invariant-loop-func : goal.invariant-loop-func
invariant-loop-func l =
    above_from l.bound (map func_type_of l.module.types.items) (drop l.func-index l.module.funcs.items) ≡ first_above l.bound (module_locals (module_of l.module))
