use Rattle.std.proofs.Common.{refl}
use Rattle.std.proofs.lemmas.Result.{err_from_is_err_and}
use Rattle.wasm_build.specs.BuildsModule.{state_of}
use Rattle.wasm_build.proofs.SectionArms.{start_built, start_stop, start_unsized}
use Rattle.wasm_build.proofs.sections.Sections.start.Goals as goal

pub returns-in_err-_size : goal.returns-in_err-_size
returns-in_err-_size c =
    let p = err_from_is_err_and c.from_residual.result c.from_residual.ensures.1 in
    start_unsized (state_of c.args.self.now) _ _ p.1 c.in_err-_size.ensures.read

pub returns-in_err-x : goal.returns-in_err-x
returns-in_err-x c =
    let p = err_from_is_err_and c.from_residual-in_err-x.result c.from_residual-in_err-x.ensures.1 in
    start_stop (state_of c.args.self.now) _ _ _ p.1 c.in_ok-_size.ensures.read c.in_err-x.ensures.read

pub returns : goal.returns
returns c = start_built (state_of c.args.self.now) _ _ _ c.in_ok-_size.ensures.read c.in_ok-x.ensures.read refl
