-- What is told of a script, as a run of the originals of its programs.
use Rattle.std.specs.Prelude.{◌≡◌, ℕ, List, length, Option, Some, slice_get}
use Rattle.std.specs.List.{AllZip}
use Rattle.vault_port.specs.Files.{Files}
use Rattle.world_model.specs.World.{Actor, BlockingWorld, Original}
use Rattle.script_model.specs.Transcript.{Transcript}
use Rattle.world_laws.specs.Originals.{met}
use Rattle.event_order.specs.Left.{Counted}
use Rattle.many_host.specs.Calls.{devices_of}
use Rattle.world_hosting.specs.DeviceLogs.{AreLogged}
use Rattle.world_hosting.specs.Endings.{EndsAs}
use Rattle.world_hosting.specs.OriginalRuns.{Source, StaysOff, originals_for}
use Rattle.world_hosting.specs.FaultCounts.{CountsTo, with_told}
use Rattle.world_hosting.specs.Worlds.{AreTold, turn_count, world_programs}
use Rattle.script_command.specs.declared.way.Way.{Way}
use Rattle.script_command.specs.declared.way.Way.TheVariants.{Host, Run}
use Rattle.script_command.specs.Playing.{Play, detaches_in}
use Rattle.script_command.specs.HostedOriginals.{IsHosted, RunsOrderly, hosted_originals}
use Rattle.script_command.specs.RunOriginals.{IsSource, original_names}
use Rattle.script_command.specs.Transcripts.{IsTranscript}

-- Under `run` the files hold the programs' originals. Where each touches no byte of its area with the outcomes that its calls met, the
-- lines are those of a run of their blocking world, with the same devices, and the text is its transcript, with the originals' own names.
-- Each program whose original touches no byte of its area ends as that does.
pub record RunsOriginals (files : Option Files) (name : List ℕ) (play : Play Run files name) (old new : List Counted) (text : List ℕ)
    (told : AreTold play.parts (detaches_in play.whole) old new text) : Type 0 where
  pub sources : List Source
  pub are_sources : AllZip (IsSource files) sources play.parts
  pub world : AllZip StaysOff (originals_for sources play.parts) told.world.actors
      → BlockingWorld (originals_for sources play.parts) (detaches_in play.whole) (devices_of old) told.lines (devices_of new)
      × (text ≡ Transcript (original_names sources play.parts) (length sources) (turn_count told.lines) told.lines)
  pub ends : (number : ℕ) (o : Original) (a : Actor) → slice_get (originals_for sources play.parts) number ≡ Some o → slice_get told.world.actors number ≡ Some a
      → StaysOff o a → EndsAs o (met a) number told.lines

-- Under `host` the lines are those of a run of the blocking world of any originals of which the programs' modules are rewritten, with the
-- same devices, and the text is its transcript, with the originals' own names, where each original runs orderly.
abbrev pub HostsOriginals : (files : Option Files) (name : List ℕ) (play : Play Host files name) (old new : List Counted) (text : List ℕ)
    → AreTold play.parts (detaches_in play.whole) old new text → Type 0
HostsOriginals files name play old new text told =
    (sources : List Source) → AllZip IsHosted sources play.parts → AllZip RunsOrderly (hosted_originals sources play.parts) told.world.actors
    → BlockingWorld (hosted_originals sources play.parts) (detaches_in play.whole) (devices_of old) told.lines (devices_of new)
    × (text ≡ Transcript (original_names sources play.parts) (length sources) (turn_count told.lines) told.lines)

-- by the command
abbrev pub OfOriginals : (way : Way) (files : Option Files) (name : List ℕ) (play : Play way files name) (old new : List Counted) (text : List ℕ)
    → AreTold play.parts (detaches_in play.whole) old new text → Type 0
OfOriginals Run files name play old new text told = RunsOriginals files name play old new text told
OfOriginals Host files name play old new text told = HostsOriginals files name play old new text told

-- The text is the transcript of what is played, which is told of its originals. The devices that are left are those that were there, in
-- order, each with its log behind its journal, and the count of each is at least its old one and the number of lines that tell a fault of
-- it, or stands at the greatest u64.
pub record IsToldOf {way : Way} {files : Option Files} {name : List ℕ} (play : Play way files name) (old new : List Counted) (text : List ℕ) : Type 0 where
  pub told : IsTranscript play old new text
  pub originals : OfOriginals way files name play old new text told
  pub logs : AreLogged (world_programs play.parts) (detaches_in play.whole) told.lines told.met (devices_of old) (devices_of new)
  pub faults : AllZip CountsTo (with_told (world_programs play.parts) (detaches_in play.whole) 0 0 told.lines old) new
