use Rattle.std.proofs.Common.{◌≡◌, ◌≤◌, ◌++◌, length}
use Rattle.wa_types.specs.Encoding.{Enc}
use Rattle.wa_types.specs.Syntax.{Module}
use Rattle.wa_types.specs.View.{module_of}
use Rattle.wasm_encode.specs.Around.{code_entries, IsAround}
use Rattle.wasm_encode.specs.Modules.{places_from}
use Rattle.wasm_encode.proofs.around.put_around.Given as goal

abbrev pub invariant-loop-id : goal.invariant-loop-id
invariant-loop-id l = record {
  put : (p : Module) → IsAround (module_of l.«module») p → l.entries ≡ code_entries p → l.out.items ++ places_from l.id p ≡ l.fn.out.items ++ Enc p;
  left : (p : Module) → IsAround (module_of l.«module») p → length (places_from l.id p) ≤ length (Enc p);
}
