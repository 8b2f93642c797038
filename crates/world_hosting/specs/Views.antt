-- What is set up, as the program has it.
use Rattle.std.specs.Prelude.{◌≡◌, List, [], Option, None, Bool, Ok, map}
use Rattle.std.specs.List.{AllZip}
use Rattle.std.specs.Option.{option_map}
use Rattle.std.specs.Global.{Vec}
use Rattle.wa_types.specs.Modules.{imported, imported_global}
use Rattle.wa_types.specs.Syntax.{Module}
use Rattle.wa_model.specs.View.{answer_line_of}
use Rattle.run_theory.specs.Fitting.{global_types, types_of}
use Rattle.script_model.specs.Script.{ProgramText}
use Rattle.host_setup.specs.SetUp.{set_up}
use Rattle.host_setup.specs.Views.{entry_of as named_entry_of}
use Rattle.pause_host.specs.Programs.{Follows, IsPlan, lines_left, named_entries, receive_in, source_of}
use Rattle.script_reader.specs.Views.{show_of}
use Rattle.script_setup.specs.declared.setting.SetUp.{SetUp}
use Rattle.script_setup.specs.Bindings.{bindings}
use Rattle.script_setup.specs.SetUpRules.{named_entry}
use Rattle.transcript.specs.Printing.{names_of}
use Rattle.world_hosting.specs.declared.staging.ScriptPlan.{ScriptPlan}
use Rattle.world_hosting.specs.declared.staging.Staged.{Staged}
use Rattle.world_hosting.specs.Worlds.{Part, part_names, world_program}

-- which function imports are listed, where it is told
abbrev pub listing : Option (Vec Bool) → Option (List Bool)
listing listed = option_map (λ v. v.items) listed

-- What a program is given suits it: the functions are those of its entries, and the values have the types of its imported globals.
pub record Suits (p : Module) (t : ProgramText) (x : SetUp) : Type 0 where
  pub entries : map named_entry_of x.entries.items ≡ map named_entry t.entries
  pub funcs : set_up p t.area (map named_entry t.entries) ≡ Ok x.funcs.items
  pub globals : types_of x.globals.items ≡ global_types (imported imported_global p)

-- The plan of a program of a script, with what it is given; the names of its lines; and what is shown behind its end.
pub record IsPlanned (x : Part) (z : ScriptPlan) : Type 0 where
  pub plan : IsPlan z.plan
  pub source : source_of z.plan ≡ x.source
  pub listed : listing z.plan.listed ≡ x.listed
  pub entries : named_entries z.plan ≡ map named_entry x.text.entries
  pub funcs : set_up (source_of z.plan) z.plan.area (named_entries z.plan) ≡ Ok x.given.funcs
  pub globals : z.plan.globals.items ≡ x.given.globals
  pub area : z.plan.area ≡ x.text.area
  pub steps : z.plan.steps ≡ x.text.steps
  pub answers : map answer_line_of z.plan.answers.items ≡ x.text.answers
  pub binds : z.plan.binds.items ≡ bindings x.source x.text.binds
  pub names : names_of z.names ≡ part_names x
  pub shows : map show_of z.shows.items ≡ x.text.shows

-- A program of a script that is set up: it has told nothing yet of its story, waits for no mailbox, and has the names of its lines and what
-- is shown behind its end.
pub record IsStaged (x : Part) (s : Staged) : Type 0 where
  pub follows : Follows (world_program x) [] [] s.program
  pub answers : lines_left s.program ≡ x.text.answers
  pub awake : receive_in s.program ≡ None
  pub names : names_of s.names ≡ part_names x
  pub shows : map show_of s.shows.items ≡ x.text.shows

-- the programs of a script, in order
abbrev pub AreStaged : List Part → List Staged → Type 0
AreStaged parts staged = AllZip IsStaged parts staged
