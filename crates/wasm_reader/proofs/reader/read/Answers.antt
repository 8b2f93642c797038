use Rattle.std.proofs.Common.{Some, refl, ap}
use Rattle.wasm_grammar.specs.Input.{Input}
use Rattle.wasm_reader.proofs.GoingOn.{first_left}
use Rattle.wasm_reader.proofs.reader.read.Goals as goal

pub read_whole-requires-clause-left : goal.read_whole-requires-clause-left
read_whole-requires-clause-left c =
    first_left c.args.bounds.now c.whole-file.result.all c.args.bytes.now (Some c.new.result) c.new.result refl (ap (λ (z : Input). z.all) c.whole-file.ensures) c.new.ensures
