use Rattle.std.proofs.Common.{sym, arith}
use Rattle.file_laws.proofs.OpcodeTable.{none_follows}
use Rattle.wasm_grammar.proofs.next.follows.Goals as goal

pub returns-then-op-gt255 : goal.returns-then-op-gt255
returns-then-op-gt255 c = sym (none_follows c.args.op (omega arith))
