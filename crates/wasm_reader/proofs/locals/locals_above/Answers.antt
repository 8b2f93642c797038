use Rattle.std.proofs.Common.{refl}
use Rattle.wasm_reader.proofs.LocalCounts.{above_first}
use Rattle.wasm_reader.proofs.locals.locals_above.Goals as goal

pub loop-func-init : goal.loop-func-init
loop-func-init c = above_first c.args.bound c.args.module.now c.args.module.now.funcs.items refl
