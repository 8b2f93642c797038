use Rattle.std.proofs.Common.{◌≡◌, ◌<◌, ◌^◌, ◌++◌, length}
use Rattle.wa_types.specs.View.{module_of}
use Rattle.wa_types.specs.Encoding.{Enc}
use Rattle.wasm_encode.specs.Modules.{places_from}
use Rattle.wasm_encode.proofs.module.put_module.Given as goal

abbrev pub invariant-loop-id : goal.invariant-loop-id
invariant-loop-id l = record {
  put : l.out.items ++ places_from l.id (module_of l.«module») ≡ l.fn.out.items ++ Enc (module_of l.«module»);
  left : length (places_from l.id (module_of l.«module»)) < 2 ^ 64;
}
