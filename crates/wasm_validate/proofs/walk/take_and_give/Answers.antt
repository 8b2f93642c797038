use Rattle.std.proofs.Common.{arith}
use Rattle.wasm_validate.proofs.Walks.{room_moves, room_selects}
use Rattle.wasm_validate.proofs.walk.take_and_give.Goals as goal

pub change_types-requires : goal.change_types-requires
change_types-requires c = let h = room_moves _ _ _ _ (rw c.in-Moves.is at c.requires.typed) c.requires.deep in omega (arith, h)

pub take_types-requires-in-Selects : goal.take_types-requires-in-Selects
take_types-requires-in-Selects c = room_selects _ _ (rw c.in-Selects.is at c.requires.typed) c.requires.deep
