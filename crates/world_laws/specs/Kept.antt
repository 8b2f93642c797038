-- The devices at the end of a world's run are those of its start.
use Rattle.std.specs.Prelude.{◌≡◌, ℕ, List, [], ◌∷◌, length}
use Rattle.wa_model.specs.declared.answers.Detach.{Detach}
use Rattle.wa_model.specs.Outside.{Line}
use Rattle.wa_model.specs.Behaves.{IsPrefix}
use Rattle.world_model.specs.World.{Device, Program, ProtocolWorldFrom, Original, BlockingWorld}

-- The second devices are the first in their order, some of which may have been taken out; each keeps its name and what its
-- journal held.
pub data Kept : List Device → List Device → Type 0 where
  no_device : Kept [] []
  taken_away : {d : Device} {ds es : List Device} → Kept ds es → Kept (d ∷ ds) es
  still_there : {d e : Device} {ds es : List Device} → e.name ≡ d.name → IsPrefix d.journal e.journal → Kept ds es → Kept (d ∷ ds) (e ∷ es)

-- So they are at the end of a run: under the protocol,
abbrev pub DevicesKept : Type 0
DevicesKept = (begun : ℕ) (programs : List Program) (detaches : List Detach) (ds ds' : List Device) (lines : List Line) → ProtocolWorldFrom begun programs detaches ds lines ds' → Kept ds ds'

-- and with blocking imports;
abbrev pub DevicesKeptBlocking : Type 0
DevicesKeptBlocking = (originals : List Original) (detaches : List Detach) (ds ds' : List Device) (lines : List Line) → BlockingWorld originals detaches ds lines ds' → Kept ds ds'

-- and where no line takes out any, all of them are there.
abbrev pub NoneTakenOut : Type 0
NoneTakenOut = (begun : ℕ) (programs : List Program) (ds ds' : List Device) (lines : List Line) → ProtocolWorldFrom begun programs [] ds lines ds' → length ds' ≡ length ds
