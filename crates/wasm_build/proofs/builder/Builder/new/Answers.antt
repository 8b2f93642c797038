use Rattle.std.proofs.Common.{refl}
use Rattle.wasm_build.proofs.PieceParts.{comes_first}
use Rattle.wasm_build.proofs.builder.Builder.new.Goals as goal

pub returns : goal.returns
returns c = comes_first _ refl c.new.ensures
