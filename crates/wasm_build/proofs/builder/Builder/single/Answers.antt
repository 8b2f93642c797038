use Rattle.std.proofs.lemmas.Result.{err_from_is_err_and}
use Rattle.wasm_build.proofs.PieceParts.{single_waits, single_built, single_lost}
use Rattle.wasm_build.proofs.builder.Builder.single.Goals as goal

pub returns-in_default-clause-steps : goal.returns-in_default-clause-steps
returns-in_default-clause-steps c = single_waits c.args.self.now c.args.first c.args.bytes.now c.requires.stage c.requires.id c.in_default.ensures.none

pub returns-clause-steps : goal.returns-clause-steps
returns-clause-steps c =
    single_built c.args.self.now _ c.args.first c.in-Some.end c.args.bytes.now _ _ c.requires.stage c.requires.id c.in-Some.ensures.some.2 c.in-Some.ensures.some.1
    c.new_at-input.ensures c.in_ok-single.ensures c.requires.stage

pub returns-in_err-single-clause-steps : goal.returns-in_err-single-clause-steps
returns-in_err-single-clause-steps c =
    let p = err_from_is_err_and c.from_residual.result c.from_residual.ensures.1 in
    single_lost c.args.self.now (record c.args.self.now { sections = c.single.new.self }) _ c.args.first c.in-Some.end c.args.bytes.now _ _ _ c.requires.stage c.requires.id
    c.in-Some.ensures.some.2 c.in-Some.ensures.some.1 c.new_at-input.ensures p.1 p.2 c.in_err-single.ensures
