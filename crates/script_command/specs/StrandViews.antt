-- Programs with strands of a script that are planned, as the program has them.
use Rattle.std.specs.Prelude.{◌≡◌, ℕ, List, [], ◌∷◌, length, map, take, drop}
use Rattle.std.specs.List.{AllZip}
use Rattle.wa_model.specs.declared.answers.Area.{Area}
use Rattle.wa_model.specs.View.{answer_line_of}
use Rattle.pause_host.specs.Programs.{named_entries, source_of}
use Rattle.script_model.specs.Script.{EntryText, StrandText}
use Rattle.script_setup.specs.Bindings.{bindings}
use Rattle.script_setup.specs.SetUpRules.{named_entry}
use Rattle.strand_host.specs.declared.plan.StrandPart.{StrandPart}
use Rattle.strand_host.specs.StrandPlans.{AllSetUp, AreasApart, IsStrandPlan, entries_of, lines_of, parts_of}
use Rattle.script_command.specs.StrandStages.{range_look}
use Rattle.world_hosting.specs.Views.{listing}
use Rattle.world_hosting.specs.Worlds.{Part, look_at}
use Rattle.script_command.specs.declared.strand_planning.PlannedStrands.{PlannedStrands}

-- What is planned of a further strand is what its lines tell.
pub record IsStrandPart (s : StrandText) (x : StrandPart) : Type 0 where
  pub area : x.area ≡ s.area
  pub entries : entries_of x ≡ map named_entry s.entries
  pub answers : lines_of x ≡ s.answers

-- the functions of each strand's entries, of these and of those behind them, where those of all are told in order
abbrev pub funcs_each : List EntryText → List StrandText → (funcs : List ℕ) → List (List ℕ)
funcs_each es [] funcs = funcs ∷ []
funcs_each es (s ∷ ss) funcs = take (length es) funcs ∷ funcs_each s.entries ss (drop (length es) funcs)

-- the areas of all strands of a plan
abbrev pub areas_of : List StrandPart → List Area
areas_of xs = map (λ (x : StrandPart). x.area) xs

-- The plan of a program of a script with all its strands, with what it is given, and what is shown behind its end: it can be set up.
pub record IsPlannedStrands (x : Part) (z : PlannedStrands) : Type 0 where
  pub plan : IsStrandPlan z.plan
  pub source : source_of z.plan.plan ≡ x.source
  pub listed : listing z.plan.plan.listed ≡ x.listed
  pub globals : z.plan.plan.globals.items ≡ x.given.globals
  pub area : z.plan.plan.area ≡ x.text.area
  pub entries : named_entries z.plan.plan ≡ map named_entry x.text.entries
  pub answers : map answer_line_of z.plan.plan.answers.items ≡ x.text.answers
  pub steps : z.plan.plan.steps ≡ x.text.steps
  pub binds : z.plan.plan.binds.items ≡ bindings x.source x.text.binds
  pub strands : AllZip IsStrandPart x.text.strands z.plan.strands.items
  pub set_up : AllSetUp (source_of z.plan.plan) (parts_of z.plan) (funcs_each x.text.entries x.text.strands x.given.funcs)
  pub apart : AreasApart (areas_of (parts_of z.plan))
  pub shows : map range_look z.shows.items ≡ map look_at x.text.shows
