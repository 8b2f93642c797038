-- What the program over a generated module is given.
use Rattle.std.specs.Prelude.{◌≡◌, [], ◌∷◌, map, Some, true, codes}
use Rattle.std.specs.Option.{option_map}
use Rattle.wa_types.specs.declared.values.Value.TheVariants as V
use Rattle.wa_types.specs.Syntax.{Module}
use Rattle.wa_model.specs.View.{answer_line_of}
use Rattle.host_setup.specs.SetUp.{NamedEntry}
use Rattle.pause_host.specs.Programs.{named_entries, source_of}
use Rattle.pause_host.specs.Settings.{none_bound}
use Rattle.pause_host.specs.declared.plan.Plan.{Plan}
use Rattle.asyncify_app.specs.Playing.{sleep_answer}

-- `run` is entered with 7
abbrev pub run_entry : NamedEntry
run_entry = record { name = codes "run"; args = V.I32 7 ∷ [] }

-- The plan is that of the program over this module.
pub record PlansRun (p : Module) (x : Plan) : Type 0 where
  pub source : source_of x ≡ p
  pub listed : option_map (λ v. v.items) x.listed ≡ Some (true ∷ [])
  pub binds : x.binds.items ≡ none_bound p
  pub area : x.area ≡ record { at = 0; len = 65536 }
  pub steps : x.steps ≡ 100000000
  pub globals : x.globals.items ≡ []
  pub entries : named_entries x ≡ run_entry ∷ []
  pub answers : map answer_line_of x.answers.items ≡ sleep_answer ∷ []
