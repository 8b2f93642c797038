-- A program that is set up begins the story of the program that it is in a world.
use Rattle.std.proofs.Common.{◌≡◌, ◌≤◌, ℕ, List, [], length, map, All, Bool, Option, Result, Ok, arith, refl, sym, ap, ◌∙◌, subst}
use Rattle.std.specs.Prelude.{slice_get, None}
use Rattle.std.specs.Option.{unwrap_or}
use Rattle.wa_types.specs.declared.values.Value.{Value}
use Rattle.std.proofs.lemmas.List.{length-map}
use Rattle.wa_types.specs.Syntax.{Module}
use Rattle.wa_model.specs.declared.answers.Area.{Area}
use Rattle.run_theory.specs.Fitting.{types_of}
use Rattle.wa_model.specs.Outside.{AnswerLine}
use Rattle.script_model.specs.Script.{EntryText, ProgramText}
use Rattle.wa_model.specs.View.{answer_line_of}
use Rattle.world_model.specs.World as W
use Rattle.world_model.specs.World.{at_start}
use Rattle.host_setup.specs.SetUp.{NamedEntry, Fault, set_up}
use Rattle.host_setup.specs.Views.{Blames, entry_of as named_entry_of}
use Rattle.host_setup.specs.declared.faults.SetupFault.{SetupFault}
use Rattle.host_setup.specs.declared.faults.SetupFault.TheVariants.{Memory, AreaBad, NoExports, EntryMissing, EntryIsImport, ArgTypes}
use Rattle.pause_host.specs.Moves.{HasShortPokes}
use Rattle.pause_host.specs.declared.plan.Plan.{Plan}
use Rattle.pause_host.specs.declared.program.Program.{Program}
use Rattle.pause_host.specs.Programs.{BindsAs, Follows, IsPlan, SetsUp, lines_left, named_entries, receive_in, source_of}
use Rattle.pause_host.specs.Programs as P
use Rattle.pause_host.specs.Settings.{calls_of}
use Rattle.script_setup.specs.declared.setting.SetUp.{SetUp as SetUpValue}
use Rattle.script_setup.specs.SetUpRules.{entries_in, named_entry, set_up_rules}
use Rattle.script_setup.specs.Views.{set_up_of}
use Rattle.script_setup.proofs.GlobalTypes.{given_by_rules}
use Rattle.script_setup.proofs.WithoutStrands.{entries_alone, funcs_alone}
use Rattle.script_setup.specs.Bindings.{bindings}
use Rattle.world_hosting.specs.declared.staging.ScriptPlan.{ScriptPlan}
use Rattle.world_hosting.specs.Worlds.{FitsPlan, IsListing, Part, look_at, world_program}
use Rattle.world_hosting.specs.Views.{IsPlanned, Suits, listing}
use Rattle.script_setup.proofs.Bound.{bound_each}

-- what is made by the rules suits, where the program has no further strands
pub suits_by_rules : (runs : Bool) (boxes : List (List ℕ)) (p : Module) (t : ProgramText) (made : SetUpValue) → t.strands ≡ [] → set_up_rules runs boxes p t ≡ Ok (set_up_of made)
    → map named_entry_of made.entries.items ≡ map named_entry (entries_in t) → Suits p t made
suits_by_rules runs boxes p t made alone e entries =
    let given = given_by_rules runs boxes p t (set_up_of made) e in
    record {
      entries = entries ∙ ap (λ (es : List EntryText). map named_entry es) (entries_alone t alone);
      funcs = funcs_alone t alone runs boxes p (set_up_of made) e;
      globals = given.globals;
    }

-- the one fault of a plan that has none
pub blames_memory : (fault : SetupFault) (funcs : List ℕ) → Blames fault (Ok funcs) → (fault ≡ Memory → ⊥) → ⊥
blames_memory Memory funcs h other = other refl
blames_memory AreaBad funcs h other = cc
blames_memory (NoExports name) funcs h other = cc
blames_memory (EntryMissing entry) funcs h other = cc
blames_memory (EntryIsImport entry) funcs h other = cc
blames_memory (ArgTypes entry) funcs h other = cc

-- The plan is made of the script's program and of what it is given.
pub record IsPlanOf (t : ProgramText) (made : SetUpValue) (x : Plan) : Type 0 where
  pub entries : x.entries ≡ made.entries
  pub globals : x.globals ≡ made.globals
  pub area : x.area ≡ t.area
  pub steps : x.steps ≡ t.steps
  pub answers : map answer_line_of x.answers.items ≡ t.answers
  pub binds : x.binds.items ≡ bindings (source_of x) t.binds

module _ (t : ProgramText) (made : SetUpValue) (x : Plan) (of : IsPlanOf t made x) (suits : Suits (source_of x) t made) where
  pub same_entries : named_entries x ≡ map named_entry t.entries
  same_entries = ap (λ (v : _). map named_entry_of v.items) of.entries ∙ suits.entries

  -- the plan can be set up
  pub is_plan : IsListing (source_of x) (listing x.listed) → FitsPlan t → IsPlan x
  is_plan listed fits =
      let few : length x.entries.items ≡ length t.entries =
      sym (length-map x.entries.items named_entry_of) ∙ ap (λ (es : List NamedEntry). length es) same_entries ∙ length-map t.entries named_entry in
      let below = fits.entries in
      record {
        listed = listed;
        binds = ap length of.binds ∙ bound_each (source_of x).imports t.binds;
        globals = ap (λ (v : _). types_of v.items) of.globals ∙ suits.globals;
        some_steps = subst (λ (n : ℕ). 1 ≤ n) (sym of.steps) fits.some_steps;
        few_steps = subst (λ (n : ℕ). n ≤ 1000000000) (sym of.steps) fits.few_steps;
        entries = omega (arith, few, below);
        pokes = subst (All HasShortPokes) (sym of.answers) fits.pokes;
      }

  -- and has no fault
  pub is_set_up : set_up (source_of x) x.area (named_entries x) ≡ Ok made.funcs.items
  is_set_up = ap (λ (a : Area). set_up (source_of x) a (named_entries x)) of.area ∙ ap (set_up (source_of x) t.area) same_entries ∙ suits.funcs

-- ---- a plan that is made

module _ (x : Part) (z : ScriptPlan) (p : IsPlanned x z) where
  abbrev world_of : Module → Option (List Bool) → List Value → List NamedEntry → Area → ℕ → List AnswerLine → W.Program
  world_of source listed globals entries area steps answers = record {
    source = source;
    plan = record { globals = globals; entries = calls_of entries x.given.funcs; area = area; others = []; listed = listed };
    steps = steps;
    answers = answers;
    binds = bindings x.source x.text.binds;
    looks = map look_at x.text.shows;
    origin = at_start;
  }

  -- the program of a world that its plan is
  abbrev pub planned : W.Program
  planned = P.world_program z.plan x.given.funcs (map look_at x.text.shows) (bindings x.source x.text.binds)

  pub same_world : planned ≡ world_program x
  same_world = λ k. world_of (p.source k) (p.listed k) (p.globals k) (p.entries k) (p.area k) (p.steps k) (p.answers k)

  pub binds_as : BindsAs z.plan (bindings x.source x.text.binds)
  binds_as import = ap (λ bs. unwrap_or (slice_get bs import) None) (sym p.binds)

  same_funcs : (funcs : List ℕ) → set_up (source_of z.plan) z.plan.area (named_entries z.plan) ≡ Ok funcs → funcs ≡ x.given.funcs
  same_funcs funcs e =
      let told : set_up (source_of z.plan) z.plan.area (named_entries z.plan) ≡ Ok x.given.funcs = p.funcs in
      let both : ◌≡◌ {A = Result (List ℕ) Fault} (Ok funcs) (Ok x.given.funcs) = sym e ∙ told in
      cc

  pub begins : (program : Program) → SetsUp z.plan (Ok program) → Follows (world_program x) [] [] program × (lines_left program ≡ x.text.answers) × (receive_in program ≡ None)
  begins program up =
      let follows : Follows (P.world_program z.plan up.0 (map look_at x.text.shows) (bindings x.source x.text.binds)) [] [] program =
      up.2 (map look_at x.text.shows) (bindings x.source x.text.binds) binds_as in
      let own : Follows planned [] [] program =
      subst (λ (fs : List ℕ). Follows (P.world_program z.plan fs (map look_at x.text.shows) (bindings x.source x.text.binds)) [] [] program) (same_funcs up.0 up.1) follows in
      (subst (λ (w : W.Program). Follows w [] [] program) same_world own, up.3 ∙ p.answers, up.4)
