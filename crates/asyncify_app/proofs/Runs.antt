-- The program over a generated module that was rewritten, and what it tells.
use Rattle.std.proofs.Common.{◌≡◌, ◌≤◌, ◌+◌, ◌-◌, ◌*◌, ◌++◌, ℕ, List, [], ◌∷◌, append_assoc, Option, Some, None, Result, Ok, Err, refl, sym, ap, ◌∙◌, subst, length, map, arith, All, Vec, Global}
use Rattle.std.specs.Prelude.{codes, true, Bool, slice_get}
use Rattle.std.specs.Option.{option_map, unwrap_or}
use Rattle.std.specs.List.{find, filter_map}
use Rattle.std.proofs.lemmas.List.{length-map, map-append}
use Rattle.std.proofs.lemmas.List.Elements.{All-nil, All-cons}
use Rattle.wa_types.specs.declared.syntax.Export.{Export}
use Rattle.wa_types.specs.declared.syntax.Import.{Import}
use Rattle.wa_types.specs.declared.values.Value.{Value}
use Rattle.wa_types.specs.Modules.{func_imports, imported, imported_func, imported_global}
use Rattle.wa_types.specs.Pausing.{joined_name}
use Rattle.wa_types.specs.Runtime.{with_runtime}
use Rattle.wa_types.specs.declared.values.Value.TheVariants as V
use Rattle.wa_types.specs.Syntax.{Module}
use Rattle.wa_types.specs.Validity.{same_name}
use Rattle.wa_model.specs.declared.answers.Area.{Area}
use Rattle.wa_model.specs.declared.events.End.{End}
use Rattle.wa_model.specs.Outside.{AnswerLine, Call, Event, answered, called, ended, paused, returned}
use Rattle.wa_model.specs.Blocking.{Note, events_of}
use Rattle.run_theory.specs.Fitting.{global_types, types_of}
use Rattle.wa_model.specs.Rewrites.{Rewrites}
use Rattle.wa_model.specs.View.{answer_line_of, event_of}
use Rattle.wa_model.specs.declared.events.Event.{Event as EventValue}
use Rattle.wa_model.specs.declared.events.Call.{Call as CallValue}
use Rattle.wa_model.specs.declared.events.Event.TheVariants as EV
use Rattle.wa_model.specs.declared.events.End.TheVariants.{Done}
use Rattle.wa_model.specs.declared.answers.Said.{Said}
use Rattle.wa_model.specs.Plan.{Outcome, given}
use Rattle.wa_model.specs.Protocol.{Protocol}
use Rattle.world_model.specs.World as W
use Rattle.world_model.specs.World.{MeetsLine, at_start, import_names, name_at, name_if, protocol_story, unless_over}
use Rattle.host_laws.specs.Answering.{IsShort}
use Rattle.pause_host.specs.Moves.{HasShortPokes}
use Rattle.host_setup.specs.Views.{Blames, entry_of}
use Rattle.host_setup.specs.declared.faults.SetupFault.{SetupFault}
use Rattle.host_setup.specs.declared.faults.SetupFault.TheVariants.{Memory, AreaBad, NoExports, EntryMissing, EntryIsImport, ArgTypes}
use Rattle.host_setup.specs.SetUp.{Fault, NamedEntry, all_told, entry_funcs, first_fault, func_in, set_up, unless_fault}
use Rattle.host_laws.specs.Stories.{IsStory}
use Rattle.gen_module.specs.Generated.{generated, sleep}
use Rattle.gen_module.specs.GeneratedRuns.{all_listed, pauses_once, run_plan, value_of_func, wakes}
use Rattle.gen_module.proofs.GeneratedRuns.{generated_pauses_once}
use Rattle.pause_host.specs.declared.plan.Plan.{Plan}
use Rattle.pause_host.specs.declared.program.Program.{Program}
use Rattle.pause_host.specs.Settings.{calls_of}
use Rattle.pause_host.specs.Programs.{AdvancesAlone, BindsAs, FollowsAlone, IsPlan, SetsUp, end_in, ended_as, named_entries, world_program}
use Rattle.pause_host.proofs.Advancing.{runs_first, starts_alone, story_begun, story_told as story_of}
use Rattle.pause_host.proofs.Binds.{none_at, none_for_each}
use Rattle.asyncify_app.specs.Plans.{PlansRun, run_entry}
use Rattle.asyncify_app.specs.Playing.{run_program, sleep_answer}
use Rattle.asyncify_app.specs.Telling.{StandsBefore, TellsFirst, TellsNext}
use Rattle.asyncify_app.proofs.GeneratedSetUp.{sets_up}
use Rattle.asyncify_app.proofs.OneStory.{comes_next, tells_first}

-- ---- the function that is entered

told_of : (o : Option Fault) (x y : List ℕ) → unless_fault o x ≡ Ok y → x ≡ y
told_of None x y e = cc
told_of (Some f) x y e = cc

-- the first export, of the last function, is `run`
func_found : (n : ℕ) (p : Module) → p.exports ≡ (with_runtime (generated n)).exports → all_told (entry_funcs p (run_entry ∷ [])) ≡ n ∷ []
unfolding with_runtime generated
func_found n p e = ap (λ (es : List Export). unwrap_or (func_in (find (λ (x : Export). same_name x.name (codes "run")) es)) 0 ∷ []) e

pub func_entered : (n : ℕ) (p : Module) (area : Area) (funcs : List ℕ) → p.exports ≡ (with_runtime (generated n)).exports → set_up p area (run_entry ∷ []) ≡ Ok funcs → funcs ≡ n ∷ []
func_entered n p area funcs e h = sym (told_of (first_fault p area (run_entry ∷ [])) (all_told (entry_funcs p (run_entry ∷ []))) funcs h) ∙ func_found n p e

-- ---- the program of the world

abbrev with_parts : Module → List Value → List NamedEntry → List ℕ → Area → Option (List Bool) → ℕ → List AnswerLine → W.Program
with_parts p globals entries funcs area listed steps answers = record {
  source = p;
  plan = record { globals = globals; entries = calls_of entries funcs; area = area; others = []; listed = listed };
  steps = steps;
  answers = answers;
  binds = [];
  looks = [];
  origin = at_start;
}

pub is_run_program : (n : ℕ) (p : Module) (x : Plan) (funcs : List ℕ) → PlansRun p x → funcs ≡ n ∷ [] → world_program x funcs [] [] ≡ run_program n p
is_run_program n p x funcs h e =
    ap (λ z. with_parts z x.globals.items (named_entries x) funcs x.area (option_map (λ (v : Vec Bool Global). v.items) x.listed) x.steps (map answer_line_of x.answers.items)) h.source
    ∙ ap (λ z. with_parts p z (named_entries x) funcs x.area (option_map (λ (v : Vec Bool Global). v.items) x.listed) x.steps (map answer_line_of x.answers.items)) h.globals
    ∙ ap (λ z. with_parts p [] z funcs x.area (option_map (λ (v : Vec Bool Global). v.items) x.listed) x.steps (map answer_line_of x.answers.items)) h.entries
    ∙ ap (λ z. with_parts p [] (run_entry ∷ []) z x.area (option_map (λ (v : Vec Bool Global). v.items) x.listed) x.steps (map answer_line_of x.answers.items)) e
    ∙ ap (λ z. with_parts p [] (run_entry ∷ []) (n ∷ []) z (option_map (λ (v : Vec Bool Global). v.items) x.listed) x.steps (map answer_line_of x.answers.items)) h.area
    ∙ ap (λ z. with_parts p [] (run_entry ∷ []) (n ∷ []) (record { at = 0; len = 65536 }) z x.steps (map answer_line_of x.answers.items)) h.listed
    ∙ ap (λ z. with_parts p [] (run_entry ∷ []) (n ∷ []) (record { at = 0; len = 65536 }) (Some (true ∷ [])) z (map answer_line_of x.answers.items)) h.steps
    ∙ ap (λ z. with_parts p [] (run_entry ∷ []) (n ∷ []) (record { at = 0; len = 65536 }) (Some (true ∷ [])) 100000000 z) h.answers

-- a program that was made follows that of the world
pub made_follows : (n : ℕ) (p : Module) (x : Plan) (program : Program) → Rewrites (generated n) all_listed p → PlansRun p x → SetsUp x (Ok program) → FollowsAlone (run_program n p) [] program
made_follows n p x program r h s =
    let same : set_up p x.area (run_entry ∷ []) ≡ Ok s.0 = sym (ap (λ (z : Module). set_up z x.area (named_entries x)) h.source ∙ ap (λ (es : List NamedEntry). set_up p x.area es) h.entries) ∙ s.1 in
    let bound : BindsAs x [] = λ import. sym (ap (λ bs. unwrap_or (slice_get bs import) None) h.binds ∙ none_at p import) in
    subst (λ (w : W.Program). FollowsAlone w [] program) (is_run_program n p x s.0 h (func_entered n p x.area s.0 r.parts.exports same))
    (starts_alone (world_program x s.0 [] []) program (s.2 [] [] bound) s.3)

-- set-up refuses it for want of memory alone
pub refused_for_memory : (n : ℕ) (p : Module) (x : Plan) (fault : SetupFault) → 1 ≤ n → Rewrites (generated n) all_listed p → PlansRun p x → SetsUp x (Err fault) → fault ≡ Memory
refused_for_memory n p x fault least r h s =
    by fault s (ap (λ (z : Module). set_up z x.area (named_entries x)) h.source ∙ ap (λ (a : Area). set_up p a (named_entries x)) h.area
    ∙ ap (λ (es : List NamedEntry). set_up p (record { at = 0; len = 65536 }) es) h.entries ∙ sets_up n p least r)
  where
    by : {told : Result (List ℕ) Fault} {funcs : List ℕ} → (fault : SetupFault) → Blames fault told → told ≡ Ok funcs → fault ≡ Memory
    by Memory blamed is = refl
    by AreaBad blamed is = cc
    by (NoExports name) blamed is = cc
    by (EntryMissing entry) blamed is = cc
    by (EntryIsImport entry) blamed is = cc
    by (ArgTypes entry) blamed is = cc

-- ---- what is asked of the plan

-- a generated module, rewritten, has the one import
pub imports_as : (n : ℕ) (m p : Module) → m ≡ generated n → Rewrites m all_listed p → p.imports ≡ sleep ∷ []
unfolding generated
imports_as n m p e r = r.parts.imports ∙ ap (λ (z : Module). z.imports) e

one_import : (p : Module) → p.imports ≡ sleep ∷ [] → func_imports p ≡ 1
one_import p i = ap (λ (is : List Import). length (filter_map (λ (x : Import). imported_func x.kind) is)) i

no_globals : (p : Module) → p.imports ≡ sleep ∷ [] → global_types (imported imported_global p) ≡ []
no_globals p i = ap (λ (is : List Import). global_types (filter_map (λ (x : Import). imported_global x.kind) is)) i

one_told : (l : List Bool) → Some l ≡ Some (true ∷ []) → length l ≡ 1
one_told l e = let same : l ≡ true ∷ [] = cc in ap length same

pub is_plan : (p : Module) (x : Plan) → p.imports ≡ sleep ∷ [] → PlansRun p x → IsPlan x
is_plan p x i h = record {
  listed = λ l e. one_told l (sym e ∙ h.listed) ∙ sym (ap func_imports h.source ∙ one_import p i);
  binds = ap length h.binds ∙ none_for_each p ∙ sym (ap func_imports h.source);
  globals = ap types_of h.globals ∙ sym (ap (λ (z : Module). global_types (imported imported_global z)) h.source ∙ no_globals p i);
  some_steps = omega (arith, h.steps);
  few_steps = omega (arith, h.steps);
  entries = let one = ap length h.entries in let same = length-map x.entries.items entry_of in omega (arith, one, same);
  pokes = subst (All HasShortPokes) (sym h.answers) (All-cons HasShortPokes sleep_answer [] (All-nil IsShort) (All-nil HasShortPokes));
}

-- ---- what it tells

module _ (w : W.Program) (x : Program) where
  pub not_ended : FollowsAlone w [] x → ended_as x ≡ None
  not_ended f = runs_first w f.outcomes x f.follows

  pub story_told : (notes : List Note) (how : End) → FollowsAlone w notes x → ended_as x ≡ Some how → IsStory w notes
  story_told notes how f e = story_of w notes x how f e

  -- the event that is told is the one that comes next
  pub told_is : (y : Program) (notes : List Note) (event : Event) (told : EventValue) → StandsBefore w notes event y → AdvancesAlone w notes told x → event_of told ≡ event
  told_is y notes event told s a = sym a.event_is ∙ s.next a.note (story_begun w (notes ++ a.note ∷ []) x a.follows)

  pub hears : (y : Program) (notes : List Note) (event : Event) (told : EventValue) → StandsBefore w notes event y → AdvancesAlone w notes told x → TellsNext w notes event x
  hears y notes event told s a =
      let is : a.note.event ≡ event = s.next a.note (story_begun w (notes ++ a.note ∷ []) x a.follows) in
      record { note = a.note; event_is = is; follows = a.follows; ended_is = a.ended_is ∙ ap end_in is }

  -- it stands before the next of the events that it tells first
  pub stands_before : (before : List Event) (event : Event) (behind : List Event) → TellsFirst w (before ++ event ∷ behind) → (notes : List Note) → events_of notes ≡ before
      → FollowsAlone w notes x → ended_as x ≡ None → StandsBefore w notes event x
  stands_before before event behind first notes is f none = record { follows = f; goes_on = none; next = comes_next w before event behind first notes is }

-- ---- which event it is

pub is_call : (told : EventValue) (call : Call) → event_of told ≡ called call → ((x : CallValue) → told ≡ EV.Called x → ⊥) → ⊥
is_call (EV.Called x) call e none = none x refl
is_call (EV.Answered said) call e none = cc
is_call (EV.Paused ticks used) call e none = cc
is_call (EV.Returned entry v) call e none = cc
is_call (EV.Ended how) call e none = cc
is_call (EV.Parked u) call e none = cc
is_call (EV.Shown at bytes) call e none = cc

pub is_pause : (told : EventValue) (ticks used : ℕ) → event_of told ≡ paused ticks used → ((t u : ℕ) → told ≡ EV.Paused t u → ⊥) → ⊥
is_pause (EV.Called x) ticks used e none = cc
is_pause (EV.Answered said) ticks used e none = cc
is_pause (EV.Paused t u) ticks used e none = none t u refl
is_pause (EV.Returned entry v) ticks used e none = cc
is_pause (EV.Ended how) ticks used e none = cc
is_pause (EV.Parked u) ticks used e none = cc
is_pause (EV.Shown at bytes) ticks used e none = cc

pub is_answer : (told : EventValue) (said : Said) → event_of told ≡ answered said → ((x : Said) → told ≡ EV.Answered x → ⊥) → ⊥
is_answer (EV.Called x) said e none = cc
is_answer (EV.Answered x) said e none = none x refl
is_answer (EV.Paused ticks used) said e none = cc
is_answer (EV.Returned entry v) said e none = cc
is_answer (EV.Ended how) said e none = cc
is_answer (EV.Parked u) said e none = cc
is_answer (EV.Shown at bytes) said e none = cc

pub is_return : (told : EventValue) (entry : ℕ) (value : Option Value) → event_of told ≡ returned entry value → ((i : ℕ) (v : Option Value) → told ≡ EV.Returned i v → ⊥) → ⊥
is_return (EV.Called x) entry value e none = cc
is_return (EV.Answered said) entry value e none = cc
is_return (EV.Paused ticks used) entry value e none = cc
is_return (EV.Returned i v) entry value e none = none i v refl
is_return (EV.Ended how) entry value e none = cc
is_return (EV.Parked u) entry value e none = cc
is_return (EV.Shown at bytes) entry value e none = cc

pub is_end : (told : EventValue) (how : End) → event_of told ≡ ended how → ((x : End) → told ≡ EV.Ended x → ⊥) → ⊥
is_end (EV.Called x) how e none = cc
is_end (EV.Answered said) how e none = cc
is_end (EV.Paused ticks used) how e none = cc
is_end (EV.Returned i v) how e none = cc
is_end (EV.Ended x) how e none = none x refl
is_end (EV.Parked u) how e none = cc
is_end (EV.Shown at bytes) how e none = cc

-- ---- the whole run

-- the call that the first function makes
abbrev pub the_call : Call
the_call = record { import = 0; args = V.I32 7 ∷ [] }

-- what comes behind it
abbrev behind_answer : (value : ℕ) → List Event
behind_answer value = returned 0 (Some (V.I32 value)) ∷ ended Done ∷ []

abbrev behind_pause : (value : ℕ) → List Event
behind_pause value = answered wakes.said ∷ behind_answer value

abbrev behind_call : (used value : ℕ) → List Event
behind_call used value = paused 1 used ∷ behind_pause value

-- five notes of these events
pub events_told : (n₁ n₂ n₃ n₄ n₅ : Note) (used value u v : ℕ) → u ≡ used → v ≡ value
    → n₁.event ≡ called the_call → n₂.event ≡ paused 1 used → n₃.event ≡ answered wakes.said → n₄.event ≡ returned 0 (Some (V.I32 value)) → n₅.event ≡ ended Done
    → events_of (n₁ ∷ n₂ ∷ n₃ ∷ n₄ ∷ n₅ ∷ []) ≡ pauses_once u v
events_told n₁ n₂ n₃ n₄ n₅ used value u v p q a b c d e = told ∙ (λ i. pauses_once (sym p i) (sym q i))
  where
    told : events_of (n₁ ∷ n₂ ∷ n₃ ∷ n₄ ∷ n₅ ∷ []) ≡ pauses_once used value
    told = λ i. a i ∷ b i ∷ c i ∷ d i ∷ e i ∷ []

module _ (w : W.Program) (used value : ℕ) (first : TellsFirst w (pauses_once used value)) (x : Program) where
  pub before_call : FollowsAlone w [] x → StandsBefore w [] (called the_call) x
  before_call f = stands_before w x [] (called the_call) (behind_call used value) first [] refl f (not_ended w x f)

  pub before_pause : (n₁ : Note) → n₁.event ≡ called the_call → FollowsAlone w (n₁ ∷ []) x → ended_as x ≡ None → StandsBefore w (n₁ ∷ []) (paused 1 used) x
  before_pause n₁ a f none = stands_before w x (called the_call ∷ []) (paused 1 used) (behind_pause value) first (n₁ ∷ []) (λ i. a i ∷ []) f none

  pub before_answer : (n₁ n₂ : Note) → n₁.event ≡ called the_call → n₂.event ≡ paused 1 used → FollowsAlone w (n₁ ∷ n₂ ∷ []) x → ended_as x ≡ None → StandsBefore w (n₁ ∷ n₂ ∷ []) (answered wakes.said) x
  before_answer n₁ n₂ a b f none = stands_before w x (called the_call ∷ paused 1 used ∷ []) (answered wakes.said) (behind_answer value) first (n₁ ∷ n₂ ∷ []) (λ i. a i ∷ b i ∷ []) f none

  pub before_return : (n₁ n₂ n₃ : Note) → n₁.event ≡ called the_call → n₂.event ≡ paused 1 used → n₃.event ≡ answered wakes.said → FollowsAlone w (n₁ ∷ n₂ ∷ n₃ ∷ []) x → ended_as x ≡ None
      → StandsBefore w (n₁ ∷ n₂ ∷ n₃ ∷ []) (returned 0 (Some (V.I32 value))) x
  before_return n₁ n₂ n₃ a b c f none =
      stands_before w x (called the_call ∷ paused 1 used ∷ answered wakes.said ∷ []) (returned 0 (Some (V.I32 value))) (ended Done ∷ []) first (n₁ ∷ n₂ ∷ n₃ ∷ []) (λ i. a i ∷ b i ∷ c i ∷ []) f none

  pub before_end : (n₁ n₂ n₃ n₄ : Note) → n₁.event ≡ called the_call → n₂.event ≡ paused 1 used → n₃.event ≡ answered wakes.said → n₄.event ≡ returned 0 (Some (V.I32 value))
      → FollowsAlone w (n₁ ∷ n₂ ∷ n₃ ∷ n₄ ∷ []) x → ended_as x ≡ None → StandsBefore w (n₁ ∷ n₂ ∷ n₃ ∷ n₄ ∷ []) (ended Done) x
  before_end n₁ n₂ n₃ n₄ a b c d f none =
      stands_before w x (called the_call ∷ paused 1 used ∷ answered wakes.said ∷ returned 0 (Some (V.I32 value)) ∷ []) (ended Done) [] first (n₁ ∷ n₂ ∷ n₃ ∷ n₄ ∷ []) (λ i. a i ∷ b i ∷ c i ∷ d i ∷ []) f none

-- ---- of a generated module

-- with so many steps
abbrev program_with : (n steps : ℕ) → Module → W.Program
program_with n steps p = record { source = p; plan = run_plan n; steps = steps; answers = sleep_answer ∷ []; binds = []; looks = []; origin = at_start }

names_are : (n : ℕ) (p : Module) → p.imports ≡ (generated n).imports → import_names p ≡ codes "env.sleep" ∷ []
unfolding generated
names_are n p e = ap (λ (is : List Import). filter_map (λ (i : Import). name_if (joined_name i) (imported_func i.kind)) is) e

-- its import's call meets the one answer
meets_answer : (names : List (List ℕ)) (o : Outcome) (lines : List AnswerLine) → names ≡ codes "env.sleep" ∷ [] → MeetsLine 0 (name_at names 0) (sleep_answer ∷ []) o lines → o ≡ given wakes
meets_answer names o lines is h =
    let m : MeetsLine 0 (codes "env.sleep") (sleep_answer ∷ []) o lines = subst (λ (ns : List (List ℕ)). MeetsLine 0 (name_at ns 0) (sleep_answer ∷ []) o lines) is h in m.0

tells_with : (n steps : ℕ) (p : Module) → 1 ≤ n → n ≤ 4000 → 100000000 ≤ steps → Rewrites (generated n) all_listed p → TellsFirst (program_with n steps p) (pauses_once (8 + 16 * n) (value_of_func (n - 1)))
tells_with n steps p least most enough r =
    let w : W.Program = program_with n steps p in
    let g : Outcome = given wakes in
    let made = (Protocol p (run_plan n) (g ∷ []) steps).events in
    let spent = unless_over steps (Protocol p (run_plan n) (g ∷ []) steps).last in
    let law = generated_pauses_once n p steps least most enough r in
    let story : events_of (protocol_story w (g ∷ [])) ≡ pauses_once (8 + 16 * n) (value_of_func (n - 1)) ++ (law.0 ++ events_of spent) =
    map-append (λ (x : Note). x.event) made spent ∙ ap (λ (es : List Event). es ++ events_of spent) law.1 ∙ append_assoc (pauses_once (8 + 16 * n) (value_of_func (n - 1))) law.0 (events_of spent) in
    tells_first w the_call (paused 1 (8 + 16 * n) ∷ answered wakes.said ∷ returned 0 (Some (V.I32 (value_of_func (n - 1)))) ∷ ended Done ∷ []) (law.0 ++ events_of spent) g story refl
    (λ o lines ds h. meets_answer (import_names p) o lines (names_are n p r.parts.imports) h.0)

-- The program over a generated module, rewritten, tells its five events first.
pub run_tells : (n : ℕ) (p : Module) → 1 ≤ n → n ≤ 4000 → Rewrites (generated n) all_listed p → TellsFirst (run_program n p) (pauses_once (8 + 16 * n) (value_of_func (n - 1)))
run_tells n p least most r = tells_with n 100000000 p least most (omega arith) r
