use Rattle.std.proofs.Common.{◌++◌, ◌∙◌, ap, sym}
use Rattle.std.proofs.lemmas.Result.{on_ok_weaker}
use Rattle.wasm_encode.specs.Instrs.{immediate_bytes}
use Rattle.wasm_encode.proofs.Codes.{copy_bytes, fill_bytes}
use Rattle.wasm_encode.proofs.code.put_immediates.Goals as goal

pub returns-in-Copy : goal.returns-in-Copy
returns-in-Copy c =
    on_ok_weaker c.extend_from_slice-in-Copy.result (λ put. put ∙ ap (λ s. c.args.out.now.items ++ s) (sym (ap immediate_bytes c.in-Copy.is ∙ copy_bytes)))
    c.extend_from_slice-in-Copy.ensures.ok

pub returns-in-Fill : goal.returns-in-Fill
returns-in-Fill c =
    on_ok_weaker c.extend_from_slice-in-Fill.result (λ put. put ∙ ap (λ s. c.args.out.now.items ++ s) (sym (ap immediate_bytes c.in-Fill.is ∙ fill_bytes)))
    c.extend_from_slice-in-Fill.ensures.ok
