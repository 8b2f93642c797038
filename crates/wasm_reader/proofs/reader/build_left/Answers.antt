use Rattle.std.proofs.lemmas.Result.{err_from_is_err_and}
use Rattle.wasm_reader.proofs.GoingOn.{gives_left, gives_fault, gives_none}
use Rattle.wasm_reader.proofs.reader.build_left.Goals as goal

pub returns-in_default : goal.returns-in_default
returns-in_default c = gives_none c.args.rest.builder c.args.rest.left.now c.args.rest.base c.in_default.is

pub returns-in_err-_used : goal.returns-in_err-_used
returns-in_err-_used c =
    let p = err_from_is_err_and c.from_residual.result c.from_residual.ensures.1 in
    gives_fault c.args.rest.builder c.in-Some.builder c.take.new.self c.args.rest.left.now c.args.rest.base _ c.in-Some.is p.1 p.2 c.in_err-_used.ensures.takes

pub returns : goal.returns
returns c =
    gives_left c.args.rest.builder c.in-Some.builder c.take.new.self c.args.rest.left.now c.args.rest.base c.in_ok-_used._used c.into_module.result c.in-Some.is c.in_ok-_used.ensures.takes
    c.into_module.ensures
