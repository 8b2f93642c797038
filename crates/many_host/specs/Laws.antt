-- Laws of what a host has told.
use Rattle.std.specs.Prelude.{ℕ, List}
use Rattle.wa_model.specs.declared.answers.Detach.{Detach}
use Rattle.wa_model.specs.Outside.{Line}
use Rattle.world_model.specs.World.{Device, Program}
use Rattle.many_host.specs.ToldNotes.{BeginsWorldFrom}
use Rattle.many_host.specs.declared.host.Host.{Host}
use Rattle.many_host.specs.Hosts.{HostToldFrom}

-- The lines that a host has told are the first lines of a run of the world.
abbrev pub ToldBeginsWorld : Type 0
ToldBeginsWorld =
    (begun : ℕ) (programs : List Program) (detaches : List Detach) (ds ds' : List Device) (lines : List Line) (h : Host) → HostToldFrom begun programs detaches ds lines h ds' → BeginsWorldFrom begun programs detaches ds lines
