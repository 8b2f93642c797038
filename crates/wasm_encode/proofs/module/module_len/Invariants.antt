use Rattle.std.proofs.Common.{◌≡◌, ◌+◌, length}
use Rattle.wa_types.specs.View.{module_of}
use Rattle.wa_types.specs.Encoding.{Enc}
use Rattle.wasm_encode.specs.Modules.{places_from}
use Rattle.wasm_encode.proofs.module.module_len.Given as goal

abbrev pub invariant-loop-id : goal.invariant-loop-id
invariant-loop-id l = l.len + length (places_from l.id (module_of l.«module»)) ≡ length (Enc (module_of l.«module»))
