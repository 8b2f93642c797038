use Rattle.std.proofs.Common.{arith, refl}
use Rattle.std.proofs.lemmas.Result.{err_from_is_err_and}
use Rattle.wasm_build.specs.BuildsModule.{state_of}
use Rattle.wasm_build.proofs.SectionArms.{single_none, custom_put, custom_stop, start_on}
use Rattle.wasm_build.proofs.sections.Sections.single.Goals as goal

pub returns-in_err-id : goal.returns-in_err-id
returns-in_err-id c =
    let p = err_from_is_err_and c.from_residual.result c.from_residual.ensures.1 in
    single_none p.1 c.in_err-id.ensures.err

pub returns-in_err-custom : goal.returns-in_err-custom
returns-in_err-custom c =
    let p = err_from_is_err_and c.from_residual-in_err-custom.result c.from_residual-in_err-custom.ensures.1 in
    custom_stop (state_of c.args.self.now) _ _ c.in_ok-id.ensures.ok c.in_ok-id.ensures.at (omega arith) p.1 p.2 c.in_err-custom.ensures.built

pub returns-then-id-eq0 : goal.returns-then-id-eq0
returns-then-id-eq0 c =
    custom_put (state_of c.args.self.now) _ _ _ _ c.in_ok-id.ensures.ok c.in_ok-id.ensures.at (omega arith) c.in_ok-custom.ensures.built c.in_ok-push.ensures.items refl refl

pub returns : goal.returns
returns c = start_on c.in_ok-id.ensures.ok c.in_ok-id.ensures.at (λ h. omega arith) c.start.ensures
