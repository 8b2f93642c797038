-- A program of a script that is planned with all its strands: it can be set up, and is the program of a world that it is to be.
use Rattle.std.proofs.Common.{◌≡◌, ◌≤◌, ℕ, List, [], ◌∷◌, length, map, take, drop, All, Bool, Option, None, arith, refl, sym, ap, ◌∙◌, subst}
use Rattle.std.specs.Prelude.{IfOk, Result, slice_get}
use Rattle.std.specs.List.{AllZip}
use Rattle.std.specs.Option.{unwrap_or}
use Rattle.std.proofs.lemmas.List.{length-map}
use Rattle.std.proofs.lemmas.List.Elements.{All-nil, All-cons, All-head, All-tail}
use Rattle.wa_types.specs.declared.values.Value.{Value}
use Rattle.wa_types.specs.Syntax.{Module}
use Rattle.wa_model.specs.declared.answers.Area.{Area}
use Rattle.wa_model.specs.Outside.{AnswerLine}
use Rattle.wa_model.specs.Plan.{Entry}
use Rattle.wa_model.specs.View.{answer_line_of}
use Rattle.run_theory.specs.Fitting.{types_of}
use Rattle.world_model.specs.World.{Look}
use Rattle.host_setup.specs.SetUp.{NamedEntry, set_up}
use Rattle.host_setup.specs.Views.{entry_of as named_entry_of}
use Rattle.pause_host.specs.Moves.{HasShortPokes}
use Rattle.pause_host.specs.Programs.{BindsAs, IsPlan, named_entries, source_of}
use Rattle.pause_host.specs.Settings.{calls_of}
use Rattle.script_model.specs.Script.{EntryText, ProgramText, StrandText}
use Rattle.script_model.specs.Transcript as T
use Rattle.transcript.specs.declared.events.Names.{Names}
use Rattle.transcript.specs.Printing.{names_of}
use Rattle.script_setup.specs.Bindings.{bindings}
use Rattle.script_setup.specs.SetUpRules.{named_entry, strand_names}
use Rattle.script_setup.specs.StrandSetUps.{EachSetUp}
use Rattle.script_setup.specs.declared.setting.SetUp.{SetUp as SetUpValue}
use Rattle.script_setup.proofs.Bound.{bound_each}
use Rattle.script_setup.proofs.StrandSetUps.{each_set_up}
use Rattle.strand_laws.specs.Strands.{Strand}
use Rattle.strand_laws.specs.StrandWorld.{StrandsInWorld}
use Rattle.strand_host.specs.declared.plan.StrandPart.{StrandPart}
use Rattle.strand_host.specs.declared.plan.StrandPlan.{StrandPlan}
use Rattle.strand_host.specs.StrandPlans.{AllSetUp, AreasApart, IsPart, IsStrandPlan, entries_of, first_part, lines_of, parts_of, strands_with, world_strands}
use Rattle.script_command.specs.declared.strand_starts.StagedStrands.{StagedStrands}
use Rattle.script_command.specs.StrandStages.{IsStrandsStaged, range_look}
use Rattle.script_command.specs.StrandWorldsTold.{NamedStrands}
use Rattle.world_hosting.specs.Views.{listing}
use Rattle.world_hosting.specs.Worlds.{FitsPlan, FitsStrand, IsListing, Part, look_at}
use Rattle.script_command.specs.declared.strand_planning.PlannedStrands.{PlannedStrands}
use Rattle.script_command.specs.StrandViews.{IsPlannedStrands, IsStrandPart, areas_of, funcs_each}
use Rattle.script_command.specs.StrandTold.{named_strands}
use Rattle.script_command.specs.StrandWorlds.{part_strands, strand_names_in, strands_from}
use Rattle.script_command.specs.Views.{SuitsStrands}
use Rattle.script_command.proofs.StrandAreas.{areas_apart}

-- ---- strand by strand

-- so many first functions are those of as many entries
calls_front : (es : List EntryText) (funcs : List ℕ) → calls_of (map named_entry es) (take (length es) funcs) ≡ calls_of (map named_entry es) funcs
calls_front [] funcs = refl
calls_front (e ∷ es) [] = refl
calls_front (e ∷ es) (f ∷ fs) = ap (λ (xs : List Entry). record { func = f; args = e.args } ∷ xs) (calls_front es fs)

-- the strands of a plan are those that the lines tell
strands_same : (s : StrandPart) (xs : List StrandPart) (area : Area) (es : List EntryText) (ss : List StrandText) (funcs : List ℕ) → s.area ≡ area → entries_of s ≡ map named_entry es
    → AllZip IsStrandPart ss xs → strands_with (s ∷ xs) (funcs_each es ss funcs) ≡ strands_from area es ss funcs
strands_same s [] area es [] funcs a e h = λ i. record { area = a i; entries = calls_of (e i) funcs } ∷ []
strands_same s (y ∷ ys) area es [] funcs a e h = absurd h
strands_same s [] area es (t ∷ ts) funcs a e h = absurd h
strands_same s (y ∷ ys) area es (t ∷ ts) funcs a e h =
    let calls : calls_of (entries_of s) (take (length es) funcs) ≡ calls_of (map named_entry es) funcs =
    ap (λ (ns : List NamedEntry). calls_of ns (take (length es) funcs)) e ∙ calls_front es funcs in
    let rest = strands_same y ys t.area t.entries ts (drop (length es) funcs) h.0.area h.0.entries h.1 in
    λ i. record { area = a i; entries = calls i } ∷ rest i

-- each can be set up
all_set_up : (p : Module) (s : StrandPart) (xs : List StrandPart) (area : Area) (es : List EntryText) (ss : List StrandText) (funcs : List ℕ) → s.area ≡ area → entries_of s ≡ map named_entry es
    → AllZip IsStrandPart ss xs → EachSetUp p area es ss funcs → AllSetUp p (s ∷ xs) (funcs_each es ss funcs)
all_set_up p s [] area es [] funcs a e h up = ((λ i. set_up p (a i) (e i)) ∙ up, refl)
all_set_up p s (y ∷ ys) area es [] funcs a e h up = absurd h
all_set_up p s [] area es (t ∷ ts) funcs a e h up = absurd h
all_set_up p s (y ∷ ys) area es (t ∷ ts) funcs a e h up =
    ((λ i. set_up p (a i) (e i)) ∙ up.0, all_set_up p y ys t.area t.entries ts (drop (length es) funcs) h.0.area h.0.entries h.1 up.1)

areas_same : (ss : List StrandText) (xs : List StrandPart) → AllZip IsStrandPart ss xs → areas_of xs ≡ map (λ (s : StrandText). s.area) ss
areas_same [] [] h = refl
areas_same [] (x ∷ xs) h = absurd h
areas_same (s ∷ ss) [] h = absurd h
areas_same (s ∷ ss) (x ∷ xs) h =
    let rest = areas_same ss xs h.1 in
    let one = h.0.area in
    λ i. one i ∷ rest i

answers_same : (ss : List StrandText) (xs : List StrandPart) → AllZip IsStrandPart ss xs → map lines_of xs ≡ map (λ (s : StrandText). s.answers) ss
answers_same [] [] h = refl
answers_same [] (x ∷ xs) h = absurd h
answers_same (s ∷ ss) [] h = absurd h
answers_same (s ∷ ss) (x ∷ xs) h =
    let rest = answers_same ss xs h.1 in
    let one = h.0.answers in
    λ i. one i ∷ rest i

pub as_many_strands : (ss : List StrandText) (xs : List StrandPart) → AllZip IsStrandPart ss xs → length xs ≡ length ss
as_many_strands ss xs h =
    let areas = ap (λ (xs : List Area). length xs) (areas_same ss xs h) in
    let one = length-map xs (λ (x : StrandPart). x.area) in
    let other = length-map ss (λ (s : StrandText). s.area) in
    omega (arith, areas, one, other)

-- as many entries are told as planned
as_many_entries : (x : List NamedEntry) (n : ℕ) (es : List EntryText) → length x ≡ n → x ≡ map named_entry es → n ≡ length es
as_many_entries x n es long e =
    let same = ap (λ (ns : List NamedEntry). length ns) e in
    let many = length-map es named_entry in
    omega (arith, long, same, many)

are_parts : (ss : List StrandText) (xs : List StrandPart) → AllZip IsStrandPart ss xs → All FitsStrand ss → All IsPart xs
are_parts [] [] h fits = All-nil IsPart
are_parts [] (x ∷ xs) h fits = absurd h
are_parts (s ∷ ss) [] h fits = absurd h
are_parts (s ∷ ss) (x ∷ xs) h fits =
    let own = All-head FitsStrand s ss fits in
    let many = as_many_entries (entries_of x) (length x.entries.items) s.entries (length-map x.entries.items named_entry_of) h.0.entries in
    let below = own.entries in
    All-cons IsPart x xs (record { entries = omega (arith, many, below); pokes = subst (All HasShortPokes) (sym h.0.answers) own.pokes })
    (are_parts ss xs h.1 (All-tail FitsStrand s ss fits))

-- ---- a plan

-- The plan is made of the script's program and of what it is given.
pub record IsStrandPlanOf (t : ProgramText) (made : SetUpValue) (x : StrandPlan) : Type 0 where
  pub globals : x.plan.globals ≡ made.globals
  pub area : x.plan.area ≡ t.area
  pub steps : x.plan.steps ≡ t.steps
  pub entries : named_entries x.plan ≡ map named_entry t.entries
  pub answers : map answer_line_of x.plan.answers.items ≡ t.answers
  pub binds : x.plan.binds.items ≡ bindings (source_of x.plan) t.binds
  pub strands : AllZip IsStrandPart t.strands x.strands.items

module _ (t : ProgramText) (made : SetUpValue) (x : StrandPlan) (of : IsStrandPlanOf t made x) (suits : SuitsStrands (source_of x.plan) t made) where
  is_plan : IsListing (source_of x.plan) (listing x.plan.listed) → FitsPlan t → IsPlan x.plan
  is_plan listed fits =
      let many = as_many_entries (named_entries x.plan) (length x.plan.entries.items) t.entries (length-map x.plan.entries.items named_entry_of) of.entries in
      let below = fits.entries in
      record {
        listed = listed;
        binds = ap length of.binds ∙ bound_each (source_of x.plan).imports t.binds;
        globals = ap (λ (v : _). types_of v.items) of.globals ∙ suits.globals;
        some_steps = subst (λ (n : ℕ). 1 ≤ n) (sym of.steps) fits.some_steps;
        few_steps = subst (λ (n : ℕ). n ≤ 1000000000) (sym of.steps) fits.few_steps;
        entries = omega (arith, many, below);
        pokes = subst (All HasShortPokes) (sym of.answers) fits.pokes;
      }

  pub is_strand_plan : IsListing (source_of x.plan) (listing x.plan.listed) → FitsPlan t → IsStrandPlan x
  is_strand_plan listed fits =
      let many = as_many_strands t.strands x.strands.items of.strands in
      let few = fits.few in
      record { plan = is_plan listed fits; few = omega (arith, many, few); strands = are_parts t.strands x.strands.items of.strands fits.strands }

  pub sets_up : AllSetUp (source_of x.plan) (parts_of x) (funcs_each t.entries t.strands made.funcs.items)
  sets_up =
      all_set_up (source_of x.plan) (first_part x.plan) x.strands.items t.area t.entries t.strands made.funcs.items of.area of.entries of.strands
      (each_set_up (source_of x.plan) t made.funcs.items suits.funcs)

  pub are_apart : AreasApart (areas_of (parts_of x))
  are_apart =
      let areas : areas_of (parts_of x) ≡ t.area ∷ map (λ (s : StrandText). s.area) t.strands =
      (let rest = areas_same t.strands x.strands.items of.strands in
      let one = of.area in
      λ i. one i ∷ rest i) in
      subst AreasApart (sym areas) (areas_apart t.area t.strands suits.apart)

-- ---- the program of a world

module _ (x : Part) (z : PlannedStrands) (p : IsPlannedStrands x z) where
  abbrev world_of : Module → List Value → Option (List Bool) → List Strand → ℕ → List (List AnswerLine) → List Look → StrandsInWorld
  world_of source globals listed strands steps answers looks = record {
    program = record { source = source; globals = globals; listed = listed; strands = strands };
    steps = steps;
    answers = answers;
    binds = bindings x.source x.text.binds;
    looks = looks;
  }

  pub same_strands : (looks : List Look) → looks ≡ map look_at x.text.shows
      → world_strands z.plan (funcs_each x.text.entries x.text.strands x.given.funcs) looks (bindings x.source x.text.binds) ≡ part_strands x
  same_strands looks shown =
      let strands =
      strands_same (first_part z.plan.plan) z.plan.strands.items x.text.area x.text.entries x.text.strands x.given.funcs p.area p.entries p.strands in
      let answers = answers_same x.text.strands z.plan.strands.items p.strands in
      let first = p.answers in
      λ i. world_of (p.source i) (p.globals i) (p.listed i) (strands i) (p.steps i) (first i ∷ answers i) (shown i)

  pub strands_bind : BindsAs z.plan.plan (bindings x.source x.text.binds)
  strands_bind import = ap (λ bs. unwrap_or (slice_get bs import) None) (sym p.binds)

  -- there are names for each strand
  pub named_each : (names : List Names) → map names_of names ≡ strand_names_in x → length names ≡ length (parts_of z.plan)
  named_each names e =
      let same = ap (λ (ns : List T.Names). length ns) e in
      let one = length-map names names_of in
      let other = length-map x.text.strands (strand_names x.source) in
      let strands = as_many_strands x.text.strands z.plan.strands.items p.strands in
      omega (arith, same, one, other, strands)

  -- the program that is staged is that of the script
  pub staged_as : {E : Type 0} (r : Result StagedStrands E) (names : List Names) → map names_of names ≡ strand_names_in x
      → IfOk r (IsStrandsStaged (record {
        world = world_strands z.plan (funcs_each x.text.entries x.text.strands x.given.funcs) (map range_look z.shows.items) (bindings x.source x.text.binds);
        names = map names_of names;
      })) → IfOk r (IsStrandsStaged (named_strands x))
  staged_as r names e h =
      let world = same_strands (map range_look z.shows.items) p.shows in
      let same : ◌≡◌ {A = NamedStrands} (record { world = _; names = map names_of names }) (named_strands x) = λ i. record { world = world i; names = e i } in
      subst (λ (y : NamedStrands). IfOk r (IsStrandsStaged y)) same h
