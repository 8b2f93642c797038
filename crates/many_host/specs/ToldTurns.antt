-- Laws of told turns.
use Rattle.std.specs.Prelude.{ℕ, List, map}
use Rattle.std.specs.List.{AllZip}
use Rattle.wa_model.specs.declared.answers.Detach.{Detach}
use Rattle.wa_model.specs.Outside.{Line}
use Rattle.world_model.specs.World.{Device, Program, ProtocolWorldFrom}
use Rattle.world_laws.specs.Played.{ProtocolWorldUpToFrom}
use Rattle.event_order.specs.Dues.{HaveEnded}
use Rattle.many_host.specs.Turns.{Teller, due_of, behind, TellsFrom, HasStory}

-- Turns that were told one after another are a world played up to that event, where what each program has told begins its story.
abbrev pub ToldIsWorld : Type 0
ToldIsWorld =
    (begun : ℕ) (programs : List Program) (detaches : List Detach) (ds ds' : List Device) (number : ℕ) (lines : List Line) (tellers : List Teller)
    → TellsFrom begun programs detaches ds number lines tellers ds' → AllZip HasStory programs tellers → ProtocolWorldUpToFrom begun programs detaches ds (behind begun number) lines ds'

-- Once all programs have ended, they are a whole run of the world.
abbrev pub AllToldIsWorld : Type 0
AllToldIsWorld =
    (begun : ℕ) (programs : List Program) (detaches : List Detach) (ds ds' : List Device) (number : ℕ) (lines : List Line) (tellers : List Teller)
    → TellsFrom begun programs detaches ds number lines tellers ds' → AllZip HasStory programs tellers → HaveEnded (map due_of tellers)
    → ProtocolWorldFrom begun programs detaches ds lines ds'
