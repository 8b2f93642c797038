use Rattle.std.proofs.Common.{◌∙◌, ap, length, sym}
use Rattle.wasm_encode.specs.Instrs.{immediate_bytes}
use Rattle.wasm_encode.proofs.Codes.{copy_bytes, fill_bytes}
use Rattle.wasm_encode.proofs.code.immediates_len.Goals as goal

pub returns-in-Copy-clause-exact : goal.returns-in-Copy-clause-exact
returns-in-Copy-clause-exact c = sym (ap (λ i. length (immediate_bytes i)) c.in-Copy.is ∙ ap length copy_bytes)

pub returns-in-Fill-clause-exact : goal.returns-in-Fill-clause-exact
returns-in-Fill-clause-exact c = sym (ap (λ i. length (immediate_bytes i)) c.in-Fill.is ∙ ap length fill_bytes)
