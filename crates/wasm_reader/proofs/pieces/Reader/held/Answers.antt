use Rattle.std.proofs.Common.{refl, subst}
use Rattle.wasm_reader.specs.Pieces.{HoldsLast}
use Rattle.wasm_reader.proofs.pieces.Reader.held.Goals as goal

pub returns-clause-last : goal.returns-clause-last
returns-clause-last c = subst HoldsLast c.self.view_is (c.self.inside.progress.before.bytes, refl)
