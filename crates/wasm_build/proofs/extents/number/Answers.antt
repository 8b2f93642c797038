use Rattle.wasm_build.proofs.SizedParts.{number_at, no_number_at}
use Rattle.wasm_build.proofs.extents.number.Goals as goal

pub returns-in-Ok-clause-some : goal.returns-in-Ok-clause-some
returns-in-Ok-clause-some c = number_at c.args.bytes.now c.args.at.now c.in-Ok.n c.read_u32.new.at c.read_u32.result c.in-Ok.is c.read_u32.ensures.exact

pub returns-in-Err-clause-none : goal.returns-in-Err-clause-none
returns-in-Err-clause-none c = no_number_at c.args.bytes.now c.args.at.now c.read_u32.new.at c.read_u32.result c.in-Err.field-0 c.in-Err.is c.read_u32.ensures.exact
