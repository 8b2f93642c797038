use Rattle.std.proofs.Common.{◌≡◌, ◌+◌, length, drop}
use Rattle.wa_types.specs.Encoding.{code_bytes}
use Rattle.wa_types.specs.View.{code}
use Rattle.wasm_encode.proofs.code.+code_len.Given as goal

abbrev pub invariant-code_len-loop-instr : goal.invariant-code_len-loop-instr
invariant-code_len-loop-instr l = l.len + length (code_bytes (code (drop l.instr-index l.body))) ≡ length (code_bytes (code l.body))
