use Rattle.std.proofs.Common.{◌≡◌, ◌++◌, drop}
use Rattle.wa_types.specs.Encoding.{code_bytes}
use Rattle.wa_types.specs.View.{code}
use Rattle.wasm_encode.proofs.code.+put_code.Given as goal

abbrev pub invariant-put_code-loop-instr : goal.invariant-put_code-loop-instr
invariant-put_code-loop-instr l = l.out.items ++ code_bytes (code (drop l.instr-index l.body)) ≡ l.fn.out.items ++ code_bytes (code l.body)
