-- Programs with strands that are set up, in parts.
use Rattle.std.specs.Prelude.{◌≡◌, ◌<◌, ℕ, suc, List, [], ◌∷◌, ◌++◌, length, map, All, Some, slice_get}
use Rattle.std.specs.Global.{Vec}
use Rattle.event_order.specs.declared.shows.Show.{Show}
use Rattle.script_model.specs.Transcript as T
use Rattle.transcript.specs.declared.events.Names.{Names}
use Rattle.transcript.specs.Printing.{names_of}
use Rattle.wa_model.specs.declared.answers.Detach.{Detach}
use Rattle.world_model.specs.World.{Device}
use Rattle.strand_host.specs.declared.host.StrandHost.{StrandHost}
use Rattle.strand_host.specs.StrandHosts.{StrandHostTold}
use Rattle.script_command.specs.declared.strand_parting.PartedStrands.{PartedStrands}
use Rattle.script_command.specs.declared.strand_starts.MemoryRange.{MemoryRange}
use Rattle.script_command.specs.declared.strand_starts.StagedStrands.{StagedStrands}
use Rattle.script_command.specs.StrandWorldsTold.{NamedStrands, all_strand_names, strand_worlds}

-- a range of memory of the program of this number
abbrev pub range_at : ℕ → MemoryRange → Show
range_at program range = record { program = program; at = range.at; len = range.len }

-- what is shown of these programs, the first of which has this number
abbrev pub ranges_from : ℕ → List StagedStrands → List Show
ranges_from number [] = []
ranges_from number (s ∷ ss) = map (range_at number) s.shows.items ++ ranges_from (suc number) ss

-- the names of a program's strands
abbrev pub names_in : Vec Names → List T.Names
names_in names = map names_of names.items

-- The programs, the names of their strands' lines, and what is shown behind their ends, in order.
pub record AreStrandsParted (staged : List StagedStrands) (x : PartedStrands) : Type 0 where
  pub programs : x.programs.items ≡ map (λ (s : StagedStrands). s.program) staged
  pub names : x.names.items ≡ map (λ (s : StagedStrands). s.names) staged
  pub shows : x.shows.items ≡ ranges_from 0 staged

-- the strand of this number of the program of this number has names
abbrev pub HasNames : List (Vec Names) → (program strand : ℕ) → Type 0
HasNames names p k = (own : Vec Names) × (slice_get names p ≡ Some own) × (k < length own.items)

-- there are names for each strand
abbrev pub NamesEach : NamedStrands → Type 0
NamesEach x = length x.names ≡ length x.world.program.strands

-- The host has told nothing yet of a world of these programs, whatever its devices; and the lines of each strand have these names.
pub record BeginsStrands (programs : List NamedStrands) (detaches : List Detach) (h : StrandHost) (names : List (Vec Names)) : Type 0 where
  pub told : (ds : List Device) → StrandHostTold (strand_worlds programs) detaches ds [] h ds
  pub begun : h.turns.begun ≡ 0
  pub names_are : map names_in names ≡ all_strand_names programs
  pub named : All NamesEach programs

-- So it is with some programs.
pub record BeginsStrandHosting (h : StrandHost) (names : List (Vec Names)) : Type 0 where
  pub programs : List NamedStrands
  pub detaches : List Detach
  pub begins : BeginsStrands programs detaches h names
