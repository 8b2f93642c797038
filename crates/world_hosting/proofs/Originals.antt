-- What is told of rewritten modules is told of their originals.
use Rattle.std.proofs.Common.{◌≡◌, ℕ, List, [], ◌∷◌, map, Option, Some, None, Bool, true, false, cond, is_none, refl, sym, ap, ◌∙◌, subst, All, position, Ok}
use Rattle.std.specs.Option.{option_or}
use Rattle.std.specs.List.{filter_map, AllZip}
use Rattle.std.proofs.lemmas.List.Elements.{All-nil, All-cons, All-map}
use Rattle.wa_types.specs.declared.syntax.Import.{Import}
use Rattle.wa_types.specs.Modules.{imported, imported_global}
use Rattle.wa_types.specs.Sizes.{value_fits}
use Rattle.wa_types.specs.Syntax.{Module}
use Rattle.wa_types.specs.Typing.{GlobalType}
use Rattle.run_theory.specs.Fitting.{types_of, global_types}
use Rattle.wa_types.specs.Base.{Base}
use Rattle.wa_types.specs.Pausing.{Settings, TellsMayPause}
use Rattle.wa_model.specs.declared.answers.Area.{Area}
use Rattle.wa_model.specs.Plan.{AreLawful, AreaFits, EntryFits, Fits, Plan}
use Rattle.wa_model.specs.Rewrites.{Rewrites}
use Rattle.script_model.specs.Script.{EntryText, GlobalText, ProgramText}
use Rattle.world_model.specs.World.{Actor, Original}
use Rattle.world_laws.specs.Originals.{MayRun, Orderly, StandsIn, met}
use Rattle.world_laws.proofs.Stories.{none_ignored}
use Rattle.world_laws.proofs.Worlds.{worlds_of_originals}
use Rattle.run_laws.specs.FittingStates.{EntryTyped}
use Rattle.host_setup.specs.SetUp.{Fault, NamedEntry, all_told, area_bad, entry_funcs, entry_missing, fault_at, first_fault, is_area_in, least_pages, module_fault, set_up, unless_fault}
use Rattle.pause_host.specs.Settings.{calls_of}
use Rattle.pause_host.proofs.Making.{set_up_fine}
use Rattle.script_setup.specs.SetUpRules.{SetUp, named_entry, set_up_rules}
use Rattle.script_setup.proofs.FirstPlaces.{none_passes}
use Rattle.script_setup.proofs.GlobalTypes.{given_by_rules}
use Rattle.script_setup.proofs.WithoutStrands.{funcs_alone, shows_alone}
use Rattle.script_setup.specs.Bindings.{bound_imports}
use Rattle.world_hosting.specs.Worlds.{Part, world_program, world_programs}
use Rattle.world_hosting.specs.OriginalRuns.{IsRewritten, Source, StaysOff, ToldOfOriginals, original_for, originals_for}
use Rattle.world_hosting.proofs.Entries.{area_fits, entries_fit}
use Rattle.world_hosting.proofs.Values.{are_typed, globals_fit, shows_off}

-- ---- no entry is missing

first_none : (a b : Option Fault) → option_or a b ≡ None → a ≡ None
first_none None b e = refl
first_none (Some f) b e = cc

rest_none : (a b : Option Fault) → option_or a b ≡ None → b ≡ None
rest_none None b e = e
rest_none (Some f) b e = cc

no_place : (fault : ℕ → Fault) (o : Option ℕ) → fault_at fault o ≡ None → o ≡ None
no_place fault None e = refl
no_place fault (Some i) e = cc

unless_none : (funcs told : List ℕ) (o : Option Fault) → unless_fault o told ≡ Ok funcs → o ≡ None
unless_none funcs told None e = refl
unless_none funcs told (Some f) e = cc

none_missing : (p : Module) (area : _) (es : List NamedEntry) (funcs : List ℕ) → set_up p area es ≡ Ok funcs → All (λ o. is_none o ≡ false) (entry_funcs p es)
none_missing p area es funcs e =
    let one = rest_none (cond (is_area_in (least_pages p) area) None (Some area_bad)) (module_fault p es) (unless_none funcs (all_told (entry_funcs p es)) (first_fault p area es) e) in
    let two = rest_none _ _ one in
    none_passes is_none (entry_funcs p es) (no_place entry_missing (position is_none (entry_funcs p es)) (first_none (fault_at entry_missing (position is_none (entry_funcs p es))) _ two))

-- ---- what the rules give, over the original

module _ (m p : Module) (s : Settings) (rw : Rewrites m s p) (which : List Bool) (tells : TellsMayPause m s which) where
  -- an area and entries that are set up over the rewritten module fit its original
  pub set_up_fits : (area : Area) (es : List EntryText) (funcs : List ℕ) → set_up p area (map named_entry es) ≡ Ok funcs → All (λ (e : EntryText). All value_fits e.args) es
      → All (EntryFits m) (calls_of (map named_entry es) funcs) × AreaFits (Base m) area
  set_up_fits area es funcs e ranges =
      let named : List NamedEntry = map named_entry es in
      let fine = set_up_fine p rw.parts.valid_rewritten area named funcs e in
      let all = entries_fit m p s rw which tells named (none_missing p area named funcs e)
      (subst (λ (fs : List ℕ). All (EntryTyped p) (calls_of named fs)) fine.funcs_are fine.entries)
      (All-map (λ (n : NamedEntry). All value_fits n.args) named_entry es ranges) in
      (subst (λ (fs : List ℕ). All (EntryFits m) (calls_of named fs)) (sym fine.funcs_are) all, area_fits m p s rw which tells area fine.area_fits)

  -- the values of globals are the original's
  pub values_lawful : (boxes : List (List ℕ)) (t : ProgramText) (up : SetUp) → set_up_rules true boxes p t ≡ Ok up → All (λ (g : GlobalText). value_fits g.value) t.globals
      → AreLawful (map (λ (g : GlobalType). g.ty) (imported imported_global m)) up.globals
  values_lawful boxes t up e ranges =
      let given = given_by_rules true boxes p t up e in
      let types : types_of up.globals ≡ map (λ (g : GlobalType). g.ty) (imported imported_global m) =
      given.globals ∙ ap (λ (imports : List Import). global_types (filter_map (λ (i : Import). imported_global i.kind) imports)) rw.parts.imports in
      record {
        typed = are_typed (map (λ (g : GlobalType). g.ty) (imported imported_global m)) up.globals types;
        ranges = subst (All value_fits) (sym given.values) (globals_fit t.globals ranges p.imports);
      }

-- ---- one program

module _ (x : Source) (y : Part) (is : IsRewritten x y) where
  abbrev o : Original
  o = original_for x y

  -- the plan fits the original
  fits : Fits x.original o.program.plan
  fits =
      let funcs = funcs_alone y.text is.alone true is.boxes y.source y.given is.set_up in
      let set = set_up_fits x.original y.source x.settings is.rewrites is.which is.tells y.text.area y.text.entries y.given.funcs funcs is.ranges.entries in
      record {
        globals = values_lawful x.original y.source x.settings is.rewrites is.which is.tells is.boxes y.text y.given is.set_up is.ranges.globals;
        entries = set.0;
        area = set.1;
      }

  pub may_run : MayRun o
  may_run = record {
    well_formed = is.well_formed;
    fits = fits;
    listed = refl;
    answers = is.ranges.answers;
    looks = shows_off y.text.area y.text.shows (shows_alone y.text is.alone (given_by_rules true is.boxes y.source y.text y.given is.set_up).shows);
  }

  abbrev planned : Option (List Bool) → Plan
  planned listed = record { globals = y.given.globals; entries = calls_of (map named_entry y.text.entries) y.given.funcs; area = y.text.area; others = []; listed = listed }

  pub stands_in : StandsIn o (world_program y)
  stands_in = record {
    rewrites = is.rewrites;
    plan = ap planned is.listed;
    steps = refl;
    answers = refl;
    binds = ap (λ (imports : List Import). bound_imports imports y.text.binds) is.rewrites.parts.imports;
    looks = refl;
    start = refl;
    original_start = refl;
  }

  pub orderly : (a : Actor) → StaysOff o a → Orderly o (met a)
  orderly a calm = none_ignored o (met a) is.which may_run is.tells is.heeds calm

-- ---- all of them

pub all_stand_in : (xs : List Source) (ys : List Part) → AllZip IsRewritten xs ys → AllZip StandsIn (originals_for xs ys) (world_programs ys)
all_stand_in [] [] h = tt
all_stand_in [] (y ∷ ys) h = absurd h
all_stand_in (x ∷ xs) [] h = absurd h
all_stand_in (x ∷ xs) (y ∷ ys) h = (stands_in x y h.0, all_stand_in xs ys h.1)

pub all_may_run : (xs : List Source) (ys : List Part) → AllZip IsRewritten xs ys → All MayRun (originals_for xs ys)
all_may_run [] ys h = All-nil MayRun
all_may_run (x ∷ xs) [] h = absurd h
all_may_run (x ∷ xs) (y ∷ ys) h = All-cons MayRun (original_for x y) (originals_for xs ys) (may_run x y h.0) (all_may_run xs ys h.1)

abbrev MetOrderly : Original → Actor → Type 0
MetOrderly o a = Orderly o (met a)

all_orderly : (xs : List Source) (ys : List Part) (actors : List Actor) → AllZip IsRewritten xs ys → AllZip StaysOff (originals_for xs ys) actors → AllZip MetOrderly (originals_for xs ys) actors
all_orderly [] ys [] h calm = tt
all_orderly [] ys (a ∷ actors) h calm = absurd calm
all_orderly (x ∷ xs) [] actors h calm = absurd h
all_orderly (x ∷ xs) (y ∷ ys) [] h calm = absurd calm
all_orderly (x ∷ xs) (y ∷ ys) (a ∷ actors) h calm = (orderly x y h.0 a calm.0, all_orderly xs ys actors h.1 calm.1)

pub told_of_originals : ToldOfOriginals
told_of_originals xs ys detaches ds ds' lines h world calm =
    worlds_of_originals (originals_for xs ys) (world_programs ys) detaches ds ds' lines (all_stand_in xs ys h) (all_may_run xs ys h) world (all_orderly xs ys world.actors h calm)
