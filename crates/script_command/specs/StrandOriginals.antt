-- What is told of programs with strands over rewritten modules, as a run of their originals.
use Rattle.std.specs.Prelude.{◌≡◌, ℕ, List, [], ◌∷◌, map, Some, Bool, Ok, true, false}
use Rattle.std.specs.List.{AllZip}
use Rattle.wa_types.specs.Pausing.{Listed}
use Rattle.wa_types.specs.Sizes.{WellFormed}
use Rattle.wa_model.specs.declared.answers.Detach.{Detach}
use Rattle.wa_model.specs.Rewrites.{Rewrites}
use Rattle.world_model.specs.World.{Device}
use Rattle.run_theory.specs.Quiet.{FreeOfNames}
use Rattle.emitted_form.specs.EmittedAs.{EmittedAs}
use Rattle.emitted_form.specs.PolicyLaws.{CanBeEmitted}
use Rattle.strand_laws.specs.Strands.{StrandsUntouched}
use Rattle.strand_laws.specs.StrandsMet.{met_in}
use Rattle.strand_laws.specs.StrandWorld.{BlockingStrandWorld, ProtocolStrandWorld, Staged, StrandLine, StrandOriginal}
use Rattle.script_setup.specs.SetUpRules.{set_up_rules}
use Rattle.world_hosting.specs.OriginalRuns.{Source}
use Rattle.world_hosting.specs.Worlds.{HasRanges, Part, part}
use Rattle.script_command.specs.StrandWorlds.{part_strands}

-- The program's module is emitted of this one, without ignoring `call_indirect`; its values are in range, and it keeps the rules, beside
-- mailboxes of some names.
pub record IsStrandsRewritten (x : Source) (y : Part) : Type 0 where
  pub rewrites : Rewrites x.original x.settings y.source
  pub well_formed : WellFormed x.original
  pub which : List Bool
  pub can : CanBeEmitted x.original x.settings which
  pub free : FreeOfNames x.original
  pub emitted : EmittedAs x.original x.settings which y.source
  pub heeds : x.settings.ignore_indirect ≡ false
  pub listed : y.listed ≡ Some (Listed x.original x.settings)
  pub ranges : HasRanges y.text
  pub boxes : List (List ℕ)
  pub set_up : set_up_rules true boxes y.source y.text ≡ Ok y.given

-- the original for which the program stands
abbrev pub strand_original_for : Source → Part → StrandOriginal
strand_original_for x y = record { program = part_strands (part x.original (Some (Listed x.original x.settings)) y.text y.given); settings = x.settings }

-- the originals for which programs stand, one each
abbrev pub strand_originals_for : List Source → List Part → List StrandOriginal
strand_originals_for [] ys = []
strand_originals_for (x ∷ xs) [] = []
strand_originals_for (x ∷ xs) (y ∷ ys) = strand_original_for x y ∷ strand_originals_for xs ys

-- with the outcomes that its calls met, within its steps, the original's strands touch no byte of any of its areas
abbrev pub StrandsStayOff : StrandOriginal → Staged → Type 0
StrandsStayOff o x = StrandsUntouched o.settings o.program.program (met_in x) o.program.steps

-- What is told of programs with strands over rewritten modules are the lines of a run of the blocking world of their originals, with the
-- same devices, where the strands of each original touch no byte of its areas.
abbrev pub StrandsToldOfOriginals : Type 0
StrandsToldOfOriginals =
    (sources : List Source) (parts : List Part) (detaches : List Detach) (ds ds' : List Device) (lines : List StrandLine)
    → AllZip IsStrandsRewritten sources parts → (world : ProtocolStrandWorld (map part_strands parts) detaches ds lines ds')
    → AllZip StrandsStayOff (strand_originals_for sources parts) world.staged → BlockingStrandWorld (strand_originals_for sources parts) detaches ds lines ds'
