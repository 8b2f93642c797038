-- The room that what waits has.
use Rattle.wa_types.specs.Syntax.{Module}
use Rattle.interp.specs.declared.turns.Wait.{Wait}
use Rattle.interp.specs.declared.turns.Wait.TheVariants.{Nothing, Outermost, Inside}
use Rattle.interp.specs.StackRooms.{StackRoom, stack_prop}

-- what waits has the room of its stack
abbrev pub WaitRoom : Module → Wait → Type 0
WaitRoom m (Inside k taken) = StackRoom m k
WaitRoom m _ = Unit {0}

-- of that there is one proof at most
pub wait_prop : (m : Module) (w : Wait) → IsProp (WaitRoom m w)
wait_prop m Nothing = hlevel
wait_prop m Outermost = hlevel
wait_prop m (Inside k taken) = stack_prop m k
