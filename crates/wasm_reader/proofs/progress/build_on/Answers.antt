use Rattle.std.proofs.Common.{Some}
use Rattle.wasm_reader.proofs.GoingOn.{builds_same, builds_some, builds_lost}
use Rattle.wasm_reader.proofs.progress.build_on.Goals as goal

pub returns-then-bytes-wanted-clause-built : goal.returns-then-bytes-wanted-clause-built
returns-then-bytes-wanted-clause-built c = builds_same c.args.builder (Some c.in-Some.builder) c.args.deep c.args.base c.args.bytes.now c.in-Some.is

pub returns-in-Ok-clause-built : goal.returns-in-Ok-clause-built
returns-in-Ok-clause-built c =
    builds_some c.args.builder c.args.deep c.args.base c.in-Ok.used c.args.bytes.now c.in-Some.builder c.take.new.self c.in-Some.is c.in-Ok.ensures.within c.in-Ok.ensures.takes

pub returns-clause-built : goal.returns-clause-built
returns-clause-built c =
    builds_lost c.args.builder c.args.deep c.args.base c.args.bytes.now c.in-Some.builder c.take.new.self c.in-Some.is c.in-Err-NotSpelled.field-0-is c.in-Err-NotSpelled.ensures.takes
