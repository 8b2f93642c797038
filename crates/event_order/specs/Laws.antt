-- Due ticks and the order of events in a world.
use Rattle.std.specs.Prelude.{◌≡◌, ℕ, List, map}
use Rattle.world_model.specs.World.{Actor, IsNext, IsOver}
use Rattle.event_order.specs.Dues.{IsLeast, HaveEnded, due_of}

-- The program with the least pair is the one that goes on in a world,
abbrev pub LeastIsNext : Type 0
LeastIsNext = (actors : List Actor) (i due : ℕ) → IsLeast (map due_of actors) i due → (a : Actor) × IsNext actors i a × (a.due ≡ due)

-- and a world is over where all have ended.
abbrev pub EndedIsOver : Type 0
EndedIsOver = (actors : List Actor) → HaveEnded (map due_of actors) → IsOver actors
