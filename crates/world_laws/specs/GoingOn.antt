-- No world is stuck.
use Rattle.std.specs.Prelude.{ℕ, List, ◌++◌}
use Rattle.wa_model.specs.declared.answers.Detach.{Detach}
use Rattle.wa_model.specs.Outside.{Line}
use Rattle.world_model.specs.World.{Device, Program, ProtocolWorldFrom}
use Rattle.world_laws.specs.Played.{ProtocolWorldUpToFrom}

-- Up to whatever event a world has been played, and whatever its devices have replied so far, it can be played on to an end.
abbrev pub WorldsGoOn : Type 0
WorldsGoOn =
    (begun : ℕ) (programs : List Program) (detaches : List Detach) (ds ds' : List Device) (number : ℕ) (lines : List Line)
    → ProtocolWorldUpToFrom begun programs detaches ds number lines ds'
    → (more : List Line) × (last : List Device) × ProtocolWorldFrom begun programs detaches ds (lines ++ more) last

-- So for any programs, detaches and devices there is a run that ends.
abbrev pub EachWorldEnds : Type 0
EachWorldEnds =
    (begun : ℕ) (programs : List Program) (detaches : List Detach) (ds : List Device) → (lines : List Line) × (last : List Device) × ProtocolWorldFrom begun programs detaches ds lines last
