use Rattle.std.proofs.Common.{arith}
use Rattle.wasm_build.proofs.PlainNames.{names_load, names_store}
use Rattle.wasm_build.proofs.plain.accessed.Goals as goal

pub returns-in-40-to-41 : goal.returns-in-40-to-41
returns-in-40-to-41 c = names_load _ _ _ (omega arith)

pub returns-in-44-to-53 : goal.returns-in-44-to-53
returns-in-44-to-53 c = names_load _ _ _ (omega arith)

pub returns-in-54-to-55 : goal.returns-in-54-to-55
returns-in-54-to-55 c = names_store _ _ _ (omega arith)

pub returns-in-58-to-62 : goal.returns-in-58-to-62
returns-in-58-to-62 c = names_store _ _ _ (omega arith)
