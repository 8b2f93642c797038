-- A program as it is made of a plan.
use Rattle.std.specs.Prelude.{◌≡◌, ℕ, List, None, length, map}
use Rattle.wa_types.specs.Sizes.{SizeRule}
use Rattle.wa_types.specs.Validity.{Valid}
use Rattle.wa_types.specs.View.{module_of}
use Rattle.pause_host.specs.declared.plan.Plan.{Plan}
use Rattle.pause_host.specs.declared.program.Program.{Program}
use Rattle.pause_host.specs.declared.program.State.TheVariants.{Fresh}
use Rattle.pause_host.specs.Programs.{named_entries, source_of}
use Rattle.pause_host.specs.Settings.{MakesSetting, calls_of}
use Rattle.pause_host.specs.Views.{entry_of}

-- The program is made of the plan, whose entries are of these functions, and hasn't begun.
pub record IsOfPlan (x : Plan) (funcs : List ℕ) (program : Program) : Type 0 where
  pub valid : Valid (source_of x)
  pub sizes : SizeRule (source_of x)
  pub source : module_of program.valid.now ≡ source_of x
  pub setting : MakesSetting (source_of x) x.listed x.binds x.area x.steps program.setting
  pub globals : program.globals ≡ x.globals
  pub number : program.left.number ≡ 0
  pub entries : map entry_of program.left.entries.items ≡ calls_of (named_entries x) funcs
  pub answers : program.left.answers.items ≡ x.answers.items
  pub given : program.given ≡ length x.answers.items
  pub steps : program.steps_left ≡ x.steps
  pub awake : program.receive ≡ None
  pub fresh : program.state ≡ Fresh
