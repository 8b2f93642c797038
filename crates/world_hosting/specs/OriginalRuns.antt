-- What is told of programs over rewritten modules, as a run of their originals.
use Rattle.std.specs.Prelude.{◌≡◌, ℕ, List, [], ◌∷◌, Some, Bool, Ok, true, false}
use Rattle.std.specs.List.{AllZip}
use Rattle.wa_types.specs.Pausing.{Settings, Listed, TellsMayPause}
use Rattle.wa_types.specs.Sizes.{WellFormed}
use Rattle.wa_types.specs.Syntax.{Module}
use Rattle.wa_model.specs.declared.answers.Detach.{Detach}
use Rattle.wa_model.specs.Outside.{Line}
use Rattle.wa_model.specs.Rewrites.{Rewrites}
use Rattle.wa_model.specs.Untouched.{Untouched}
use Rattle.world_model.specs.World.{Actor, BlockingWorld, Device, Original, ProtocolWorld}
use Rattle.world_laws.specs.Originals.{met}
use Rattle.script_setup.specs.SetUpRules.{set_up_rules}
use Rattle.world_hosting.specs.Worlds.{HasRanges, Part, part, world_program, world_programs}

-- A module as it is before it is rewritten, and by which settings it is.
pub record Source : Type 0 where
  pub original : Module
  pub settings : Settings

-- The program's module is this one, rewritten without ignoring `call_indirect`; its values are in range, and it keeps the rules, beside
-- mailboxes of some names; it has no further strands.
pub record IsRewritten (x : Source) (y : Part) : Type 0 where
  pub rewrites : Rewrites x.original x.settings y.source
  pub well_formed : WellFormed x.original
  pub which : List Bool
  pub tells : TellsMayPause x.original x.settings which
  pub heeds : x.settings.ignore_indirect ≡ false
  pub listed : y.listed ≡ Some (Listed x.original x.settings)
  pub ranges : HasRanges y.text
  pub alone : y.text.strands ≡ []
  pub boxes : List (List ℕ)
  pub set_up : set_up_rules true boxes y.source y.text ≡ Ok y.given

-- the original for which the program stands
abbrev pub original_for : Source → Part → Original
original_for x y = record { program = world_program (part x.original (Some (Listed x.original x.settings)) y.text y.given); settings = x.settings }

-- the originals for which programs stand, one each
abbrev pub originals_for : List Source → List Part → List Original
originals_for [] ys = []
originals_for (x ∷ xs) [] = []
originals_for (x ∷ xs) (y ∷ ys) = original_for x y ∷ originals_for xs ys

-- with the outcomes that its calls met, within its steps, the original touches no byte of its area
abbrev pub StaysOff : Original → Actor → Type 0
StaysOff o a = Untouched o.program.source o.program.plan (met a) o.program.steps

-- What is told of programs over rewritten modules are the lines of a run of the blocking world of their originals, with the same
-- devices, where each original touches no byte of its area.
abbrev pub ToldOfOriginals : Type 0
ToldOfOriginals =
    (sources : List Source) (parts : List Part) (detaches : List Detach) (ds ds' : List Device) (lines : List Line)
    → AllZip IsRewritten sources parts → (world : ProtocolWorld (world_programs parts) detaches ds lines ds')
    → AllZip StaysOff (originals_for sources parts) world.actors → BlockingWorld (originals_for sources parts) detaches ds lines ds'
