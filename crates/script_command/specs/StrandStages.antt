-- A program with strands that is set up, and the names of its lines.
use Rattle.std.specs.Prelude.{◌≡◌, ℕ, List, length, map, Err}
use Rattle.std.specs.List.{AllZip}
use Rattle.world_model.specs.World.{Look}
use Rattle.pause_host.specs.Programs.{source_of}
use Rattle.transcript.specs.Printing.{names_of}
use Rattle.strand_laws.specs.ToldStrands.{starting}
use Rattle.strand_host.specs.declared.plan.StrandFault.{StrandFault}
use Rattle.strand_host.specs.declared.plan.StrandPart.{StrandPart}
use Rattle.strand_host.specs.declared.plan.StrandPlan.{StrandPlan}
use Rattle.strand_host.specs.StrandPlans.{AllSetUp, AreasApart, parts_of}
use Rattle.strand_host.specs.StrandPrograms.{FollowsStrands, SetsUpStrands}
use Rattle.script_command.specs.declared.strand_starts.MemoryRange.{MemoryRange}
use Rattle.script_command.specs.declared.strand_starts.StagedStrands.{StagedStrands}
use Rattle.script_command.specs.StrandWorldsTold.{NamedStrands}

-- Each of a plan's strands can be set up, and no two of their areas share a byte.
pub record CanBeSetUp (x : StrandPlan) : Type 0 where
  pub funcs : List (List ℕ)
  pub all : AllSetUp (source_of x.plan) (parts_of x) funcs
  pub apart : AreasApart (map (λ (s : StrandPart). s.area) (parts_of x))

-- that came of setting up such a plan
abbrev pub IsFaultOfNone : StrandFault → Type 0
IsFaultOfNone fault = (x : StrandPlan) × CanBeSetUp x × SetsUpStrands x (Err fault)

-- a range of memory that is shown, as a world has it
abbrev pub range_look : MemoryRange → Look
range_look s = record { at = s.at; len = s.len }

-- A program with strands that is set up: it has told nothing yet, and has the names of each strand's lines and what is shown behind its end.
pub record IsStrandsStaged (x : NamedStrands) (s : StagedStrands) : Type 0 where
  pub follows : FollowsStrands x.world (starting x.world) s.program
  pub named : length x.names ≡ length x.world.program.strands
  pub names : map names_of s.names.items ≡ x.names
  pub shows : map range_look s.shows.items ≡ x.world.looks

-- programs in order
abbrev pub AreStrandsStaged : List NamedStrands → List StagedStrands → Type 0
AreStrandsStaged programs staged = AllZip IsStrandsStaged programs staged
