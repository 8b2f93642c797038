use Rattle.std.proofs.Common.{take}
use Rattle.event_order.specs.Turns.{IsTurn}
use Rattle.event_order.proofs.turns.next_turn.Given as goal

abbrev pub invariant-loop-program : goal.invariant-loop-program
invariant-loop-program l = IsTurn (take l.program l.fn.dues) l.next
