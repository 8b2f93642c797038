-- What is told of a script with strands, as a run of the originals of its programs.
use Rattle.std.specs.Prelude.{◌≡◌, ◌⊎◌, ℕ, List, [], ◌∷◌, length, map, Option}
use Rattle.std.specs.List.{AllZip}
use Rattle.vault_port.specs.Files.{Files}
use Rattle.vault_port.specs.declared.whole.PutFault.{PutFault}
use Rattle.script_model.specs.Transcript.{Names}
use Rattle.event_order.specs.Left.{Counted}
use Rattle.many_host.specs.Calls.{devices_of}
use Rattle.strand_laws.specs.StrandWorld.{BlockingStrandWorld}
use Rattle.script_command.specs.StrandCounts.{strand_turn_count}
use Rattle.script_command.specs.StrandTranscripts.{StrandTranscript}
use Rattle.script_command.specs.StrandWorldsTold.{AreStrandsBegun, AreStrandsEnded, AreStrandsTold, NamedStrands, strand_worlds}
use Rattle.world_hosting.specs.OriginalRuns.{Source}
use Rattle.world_hosting.specs.Worlds.{Part}
use Rattle.script_command.specs.declared.way.Way.{Way}
use Rattle.script_command.specs.declared.way.Way.TheVariants.{Host, Run}
use Rattle.script_command.specs.Playing.{Play, detaches_in}
use Rattle.script_command.specs.RunOriginals.{IsSource}
use Rattle.script_command.specs.StrandFaults.{AreStrandFaultsCounted}
use Rattle.script_command.specs.StrandLogs.{AreStrandsLogged}
use Rattle.script_command.specs.StrandOriginals.{StrandsStayOff, strand_originals_for}
use Rattle.script_command.specs.StrandWorlds.{part_strands, strand_names_in, strand_names_of}

-- ---- the text

-- a program of a script with all its strands, and the names of their lines
abbrev pub named_strands : Part → NamedStrands
named_strands x = record { world = part_strands x; names = strand_names_in x }

-- the programs of a played script, with all their strands
abbrev pub strands_played : {way : Way} {files : Option Files} {name : List ℕ} → Play way files name → List NamedStrands
strands_played play = map named_strands play.parts

-- The text is the transcript of what is played: a whole run of the protocol world of its programs with all their strands, from these devices, with
-- their counts of faults, to those.
abbrev pub IsStrandTranscript : {way : Way} {files : Option Files} {name : List ℕ} → Play way files name → (ds ds' : List Counted) → List ℕ → Type 0
IsStrandTranscript play ds ds' text = AreStrandsTold (strands_played play) (detaches_in play.whole) ds ds' text

-- .. or the first lines of one, up to the devices that they leave, with their counts where the sink failed. All of its lines but the last
-- one have so many bytes, or all have.
abbrev pub IsStrandBeginning : PutFault → {way : Way} {files : Option Files} {name : List ℕ} → Play way files name → (ds ds' : List Counted) → (least : ℕ) → List ℕ → Type 0
IsStrandBeginning fault play ds ds' least text =
    AreStrandsBegun fault (strands_played play) (detaches_in play.whole) ds ds' least text ⊎ AreStrandsEnded (strands_played play) (detaches_in play.whole) ds ds' least text

-- ---- the originals

-- the names in the lines of the originals' strands, in order
abbrev pub original_strand_names : List Source → List Part → List (List Names)
original_strand_names [] ys = []
original_strand_names (x ∷ xs) [] = []
original_strand_names (x ∷ xs) (y ∷ ys) = strand_names_of x.original y.text ∷ original_strand_names xs ys

-- Under `run` the files hold the programs' originals. Where the strands of each touch no byte of any area of its program with the outcomes that their
-- calls met, the lines are those of a run of their blocking world, with the same devices, and the text is its transcript, with the originals' own names.
pub record RunsStrandOriginals (files : Option Files) (name : List ℕ) (play : Play Run files name) (old new : List Counted) (text : List ℕ) (told : IsStrandTranscript play old new text) : Type 0 where
  pub sources : List Source
  pub are_sources : AllZip (IsSource files) sources play.parts
  pub world : AllZip StrandsStayOff (strand_originals_for sources play.parts) told.world.staged
      → BlockingStrandWorld (strand_originals_for sources play.parts) (detaches_in play.whole) (devices_of old) told.lines (devices_of new)
      × (text ≡ StrandTranscript (original_strand_names sources play.parts) (length sources) (strand_turn_count told.lines) told.lines)

-- by the command: of what is hosted nothing is said of originals
abbrev pub OfStrandOriginals : (way : Way) (files : Option Files) (name : List ℕ) (play : Play way files name) (old new : List Counted) (text : List ℕ) → IsStrandTranscript play old new text → Type 0
OfStrandOriginals Run files name play old new text told = RunsStrandOriginals files name play old new text told
OfStrandOriginals Host files name play old new text told = Unit {0}

-- The text is the transcript of what is played, which under `run` is told of its originals. The devices that are left are those that were there, in
-- order, each with its log behind its journal, and the count of each is at least its old one and the number of lines that tell a fault of
-- it, or stands at the greatest u64.
pub record IsStrandToldOf {way : Way} {files : Option Files} {name : List ℕ} (play : Play way files name) (old new : List Counted) (text : List ℕ) : Type 0 where
  pub told : IsStrandTranscript play old new text
  pub originals : OfStrandOriginals way files name play old new text told
  pub logs : AreStrandsLogged (strand_worlds (strands_played play)) (detaches_in play.whole) told.lines told.met (devices_of old) (devices_of new)
  pub faults : AreStrandFaultsCounted (strand_worlds (strands_played play)) (detaches_in play.whole) told.lines old new
