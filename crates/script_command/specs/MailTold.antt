-- What is told of a script with mailboxes, as a run of the originals of its programs.
use Rattle.std.specs.Prelude.{◌≡◌, ◌⊎◌, ℕ, List, length, Option, Some, slice_get}
use Rattle.std.specs.List.{AllZip}
use Rattle.vault_port.specs.Files.{Files}
use Rattle.vault_port.specs.declared.whole.PutFault.{PutFault}
use Rattle.world_model.specs.World.{Original, Program}
use Rattle.world_laws.specs.UntoldWorlds.{OrderlyUntold}
use Rattle.mail_laws.specs.MailOriginals.{AllRunAsFar, RunsAsFar, met}
use Rattle.mail_laws.specs.MailWorld.{Actor, BlockingWorld}
use Rattle.script_model.specs.Transcript.{Transcript}
use Rattle.event_order.specs.Left.{Counted}
use Rattle.many_host.specs.Calls.{devices_of}
use Rattle.world_hosting.specs.MailCounts.{ends_event, event_count}
use Rattle.world_hosting.specs.MailEndings.{EndsOrStalls}
use Rattle.world_hosting.specs.MailLogs.{AreLoggedBeside}
use Rattle.world_hosting.specs.MailOriginalRuns.{TouchesNone}
use Rattle.world_hosting.specs.MailWorlds.{AreMailBegun, AreMailEnded, AreMailTold}
use Rattle.world_hosting.specs.FaultCounts.{CountsTo, with_told_by}
use Rattle.world_hosting.specs.OriginalRuns.{Source, originals_for}
use Rattle.world_hosting.specs.Worlds.{world_programs}
use Rattle.script_command.specs.declared.way.Way.{Way}
use Rattle.script_command.specs.declared.way.Way.TheVariants.{Host, Run}
use Rattle.script_command.specs.HostedOriginals.{IsHosted, hosted_originals}
use Rattle.script_command.specs.Playing.{Play, boxes_in, detaches_in}
use Rattle.script_command.specs.RunOriginals.{IsSource, original_names}

-- ---- the text

-- the names of a played script's mailboxes
abbrev pub boxes_of : {way : Way} {files : Option Files} {name : List ℕ} → Play way files name → List (List ℕ)
boxes_of play = boxes_in play.whole

-- The text is the transcript of what is played: a whole run of the protocol world of its programs with its mailboxes, from these devices, with
-- their counts of faults, to those.
abbrev pub IsMailTranscript : {way : Way} {files : Option Files} {name : List ℕ} → Play way files name → (ds ds' : List Counted) → List ℕ → Type 0
IsMailTranscript play ds ds' text = AreMailTold play.parts (detaches_in play.whole) (boxes_of play) ds ds' text

-- .. or the first lines of one, up to the devices that they leave, with their counts where the sink failed. All of its lines but the last
-- one have so many bytes, or all have.
abbrev pub IsMailBeginning : PutFault → {way : Way} {files : Option Files} {name : List ℕ} → Play way files name → (ds ds' : List Counted) → (least : ℕ) → List ℕ → Type 0
IsMailBeginning fault play ds ds' least text =
    AreMailBegun fault play.parts (detaches_in play.whole) (boxes_of play) ds ds' least text ⊎ AreMailEnded play.parts (detaches_in play.whole) (boxes_of play) ds ds' least text

-- ---- the originals

-- Under `run` the files hold the programs' originals. Where each touches no byte of its area with the outcomes that its calls met, within its
-- steps, or, where its program waits for good, up to its receive, the lines are those of a run of their blocking world with the script's
-- mailboxes, with the same devices, and the text is its transcript, with the originals' own names. Each program whose original touches no byte
-- so ends as that does, or stalls.
pub record RunsMailOriginals (files : Option Files) (name : List ℕ) (play : Play Run files name) (old new : List Counted) (text : List ℕ) (told : IsMailTranscript play old new text) : Type 0 where
  pub sources : List Source
  pub are_sources : AllZip (IsSource files) sources play.parts
  pub world : AllRunAsFar TouchesNone (originals_for sources play.parts) (world_programs play.parts) told.world.actors
      → BlockingWorld (originals_for sources play.parts) (detaches_in play.whole) (boxes_of play) (devices_of old) told.lines (devices_of new)
      × (text ≡ Transcript (original_names sources play.parts) (length sources) (event_count told.lines) told.lines)
  pub ends : (number : ℕ) (o : Original) (w : Program) (a : Actor) → slice_get (originals_for sources play.parts) number ≡ Some o → slice_get (world_programs play.parts) number ≡ Some w
      → slice_get told.world.actors number ≡ Some a → RunsAsFar TouchesNone o w a → EndsOrStalls o (met a) number told.lines

-- Under `host` the lines are those of a run of the blocking world with the script's mailboxes of any originals of which the programs' modules
-- are rewritten, with the same devices, and the text is its transcript, with the originals' own names, where each original runs orderly as far.
abbrev pub HostsMailOriginals : (files : Option Files) (name : List ℕ) (play : Play Host files name) (old new : List Counted) (text : List ℕ) → IsMailTranscript play old new text → Type 0
HostsMailOriginals files name play old new text told =
    (sources : List Source) → AllZip IsHosted sources play.parts
    → AllRunAsFar OrderlyUntold (hosted_originals sources play.parts) (world_programs play.parts) told.world.actors
    → BlockingWorld (hosted_originals sources play.parts) (detaches_in play.whole) (boxes_of play) (devices_of old) told.lines (devices_of new)
    × (text ≡ Transcript (original_names sources play.parts) (length sources) (event_count told.lines) told.lines)

-- by the command
abbrev pub OfMailOriginals : (way : Way) (files : Option Files) (name : List ℕ) (play : Play way files name) (old new : List Counted) (text : List ℕ) → IsMailTranscript play old new text → Type 0
OfMailOriginals Run files name play old new text told = RunsMailOriginals files name play old new text told
OfMailOriginals Host files name play old new text told = HostsMailOriginals files name play old new text told

-- The text is the transcript of what is played, which is told of its originals. The devices that are left are those that were there, in
-- order, each with its log behind its journal, and the count of each is at least its old one and the number of lines that tell a fault of
-- it, or stands at the greatest u64.
pub record IsMailToldOf {way : Way} {files : Option Files} {name : List ℕ} (play : Play way files name) (old new : List Counted) (text : List ℕ) : Type 0 where
  pub told : IsMailTranscript play old new text
  pub originals : OfMailOriginals way files name play old new text told
  pub logs : AreLoggedBeside (boxes_of play) (world_programs play.parts) (detaches_in play.whole) told.lines told.met (devices_of old) (devices_of new)
  pub faults : AllZip CountsTo (with_told_by ends_event (world_programs play.parts) (detaches_in play.whole) 0 0 told.lines old) new
