use Rattle.std.proofs.Common.{Some, Ok, refl, ap, ◌∙◌}
use Rattle.std.proofs.lemmas.Result.{err_from_is_err_and}
use Rattle.wa_types.specs.declared.instrs.Instr.TheVariants.{Num}
use Rattle.wa_types.specs.Opcodes.{follows}
use Rattle.file_laws.proofs.OpcodeTable.{num_follows}
use Rattle.wasm_build.proofs.PlainNames.{names_operator}
use Rattle.wasm_build.proofs.PlainParts.{simple_found, put_memory}
use Rattle.wasm_build.proofs.putting.put_number.Goals as goal

pub returns-in_err-push : goal.returns-in_err-push
returns-in_err-push c = λ op here e.
    let p = err_from_is_err_and c.from_residual.result c.from_residual.ensures.1 in
    put_memory op here here p.0 c.from_residual.result _ _ p.1 p.2

pub returns : goal.returns
returns c = λ op here e.
    (Num c.args.n, refl, c.in_ok-push.ensures.items, simple_found op (Some (Num c.args.n)) (Ok (Num c.args.n)) here (ap follows e ∙ num_follows c.args.n) (names_operator c.args.n op e) refl)
