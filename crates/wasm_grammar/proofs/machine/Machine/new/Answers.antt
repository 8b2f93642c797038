use Rattle.std.proofs.Common.{refl}
use Rattle.wasm_grammar.proofs.PieceEnds.{first_stands}
use Rattle.wasm_grammar.proofs.machine.Machine.new.Goals as goal

pub returns-clause-stands : goal.returns-clause-stands
returns-clause-stands c = λ bounds bytes. first_stands bounds c.none.result bytes 0 c.in_ok-goals.goals c.none.ensures refl c.in_ok-goals.ensures
