use Rattle.std.proofs.Common.{◌≡◌, ◌+◌, length, map, drop}
use Rattle.wa_types.specs.View.{custom_of}
use Rattle.wa_types.specs.Encoding.{customs_behind}
use Rattle.wasm_encode.proofs.sections.customs_len.Given as goal

abbrev pub invariant-loop-custom : goal.invariant-loop-custom
invariant-loop-custom l = l.len + length (customs_behind l.id (map custom_of (drop l.custom-index l.customs))) ≡ length (customs_behind l.id (map custom_of l.customs))
