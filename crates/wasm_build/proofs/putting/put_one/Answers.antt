use Rattle.std.proofs.Common.{refl}
use Rattle.std.proofs.lemmas.Result.{err_from_is_err_and}
use Rattle.wasm_build.proofs.PlainParts.{put_stops, put_memory}
use Rattle.wasm_build.proofs.putting.put_one.Goals as goal

pub returns-in_err-instr-clause-puts : goal.returns-in_err-instr-clause-puts
returns-in_err-instr-clause-puts c =
    let p = err_from_is_err_and c.from_residual.result c.from_residual.ensures.1 in
    put_stops c.args.op _ _ _ p.0 c.from_residual.result _ _ p.1 p.2 c.in_err-instr.ensures.built

pub returns-in_err-push-clause-puts : goal.returns-in_err-push-clause-puts
returns-in_err-push-clause-puts c =
    let p = err_from_is_err_and c.from_residual-in_err-push.result c.from_residual-in_err-push.ensures.1 in
    put_memory c.args.op _ _ p.0 c.from_residual-in_err-push.result _ _ p.1 p.2

pub returns-clause-puts : goal.returns-clause-puts
returns-clause-puts c = (c.in_ok-instr.instr, refl, c.in_ok-push.ensures.items, c.in_ok-instr.ensures.built)
