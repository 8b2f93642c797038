-- What `host` tells of a script's programs over rewritten modules, as a run of their originals.
use Rattle.std.specs.Prelude.{◌≡◌, ℕ, List, [], ◌∷◌, length, Option, None}
use Rattle.std.specs.List.{AllZip}
use Rattle.vault_port.specs.Files.{Files}
use Rattle.script_model.specs.Transcript.{Transcript}
use Rattle.wa_model.specs.Rewrites.{Rewrites}
use Rattle.world_model.specs.World.{Actor, BlockingWorld, Original}
use Rattle.world_laws.specs.Originals.{met}
use Rattle.event_order.specs.Left.{Counted}
use Rattle.many_host.specs.Calls.{devices_of}
use Rattle.script_command.specs.Playing.{Play, detaches_in}
use Rattle.script_command.specs.declared.way.Way.TheVariants.{Host}
use Rattle.script_command.specs.RunOriginals.{original_names}
use Rattle.world_hosting.specs.OriginalRuns.{Source}
use Rattle.world_hosting.specs.Worlds.{AreTold, Part, part, turn_count, world_program}
use Rattle.world_laws.specs.UntoldWorlds.{MayRunUntold, OrderlyUntold}

-- the original for which a program stands: no list is told
abbrev pub hosted_for : Source → Part → Original
hosted_for x y = record { program = world_program (part x.original None y.text y.given); settings = x.settings }

-- the originals for which programs stand, one each
abbrev pub hosted_originals : List Source → List Part → List Original
hosted_originals [] ys = []
hosted_originals (x ∷ xs) [] = []
hosted_originals (x ∷ xs) (y ∷ ys) = hosted_for x y ∷ hosted_originals xs ys

-- The program's module is this one, rewritten; the original may run.
pub record IsHosted (x : Source) (y : Part) : Type 0 where
  pub rewrites : Rewrites x.original x.settings y.source
  pub may : MayRunUntold (hosted_for x y)

-- with the outcomes that its calls met the original runs orderly, and pauses at listed imports alone
abbrev pub RunsOrderly : Original → Actor → Type 0
RunsOrderly o a = OrderlyUntold o (met a)

-- What is told under `host` of programs over rewritten modules, in a script without strands, are the lines of a run of the blocking world of their originals, with the
-- same devices, and the text is its transcript, with the originals' own names, where each original runs orderly.
abbrev pub HostsAreOfOriginals : Type 0
HostsAreOfOriginals =
    (files : Option Files) (name : List ℕ) (play : Play Host files name) (sources : List Source) → AllZip IsHosted sources play.parts
    → (old new : List Counted) (text : List ℕ) (told : AreTold play.parts (detaches_in play.whole) old new text)
    → AllZip RunsOrderly (hosted_originals sources play.parts) told.world.actors
    → BlockingWorld (hosted_originals sources play.parts) (detaches_in play.whole) (devices_of old) told.lines (devices_of new)
    × (text ≡ Transcript (original_names sources play.parts) (length sources) (turn_count told.lines) told.lines)
