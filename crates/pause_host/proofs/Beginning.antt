-- A program of a plan that is set up has told nothing yet.
use Rattle.std.proofs.Common.{◌≡◌, ◌≤◌, ℕ, zero, suc, ◌+◌, ◌*◌, ◌++◌, List, [], ◌∷◌, length, map, Option, Some, None, Ok, Bool, true, false, All, nat_le, refl, sym, ap, ◌∙◌, subst, arith}
use Rattle.std.specs.Prelude.{◌&&◌, ◌==◌, ◌%◌, nat_lt, slice_get}
use Rattle.std.specs.Option.{option_map, option_to_list, unwrap_or}
use Rattle.std.specs.Global.{Vec}
use Rattle.std.proofs.lemmas.Bool.{leb-true, lt-ltb}
use Rattle.std.proofs.lemmas.List.{length-map}
use Rattle.std.proofs.lemmas.Option.{slice_get-map}
use Rattle.wa_types.specs.declared.values.ValType.{ValType}
use Rattle.wa_types.specs.declared.values.Value.{Value}
use Rattle.wa_types.specs.declared.syntax.Limits.{Limits}
use Rattle.wa_types.specs.Syntax.{FuncType, Module}
use Rattle.wa_types.specs.Memory.{page_size}
use Rattle.wa_types.specs.Modules.{imported, imported_func, imported_global, all_memories, func_sorts, or_empty, type_at, func_type_at}
use Rattle.wa_types.specs.Sizes.{SizeRule}
use Rattle.wa_types.specs.Validity.{Valid}
use Rattle.wa_types.specs.View.{module_of}
use Rattle.wa_model.specs.declared.answers.Area.{Area}
use Rattle.wa_model.specs.Plan.{Entry}
use Rattle.wa_model.specs.View.{answer_line_of}
use Rattle.wa_model.specs.Instantiation.{least_of, opening}
use Rattle.run_theory.specs.Fitting.{types_of, global_types}
use Rattle.wa_model.specs.Blocking.{Left, all_left}
use Rattle.wa_model.specs.Protocol.{held_begun}
use Rattle.world_model.specs.World as W
use Rattle.world_model.specs.World.{Look}
use Rattle.run_theory.proofs.FittingNames.{type_small}
use Rattle.run_theory.proofs.FittingOpenings.{openings_fit}
use Rattle.run_theory.proofs.NamedModules.{valid_instance}
use Rattle.run_laws.proofs.SpotRuns.{start_takes_none}
use Rattle.run_laws.specs.FittingStates.{HeldFits}
use Rattle.run_laws.proofs.ProtocolStopping.{begun_fits}
use Rattle.run_laws.proofs.Stopping.{start_there}
use Rattle.host_setup.specs.SetUp.{NamedEntry, is_area_in, set_up}
use Rattle.host_setup.specs.Views as S
use Rattle.host_laws.specs.Places.{Place, stands}
use Rattle.host_laws.specs.Stories.{opened, IsAt}
use Rattle.host_laws.proofs.Tellings.{nothing_told_yet}
use Rattle.pause_host.specs.declared.stages.HostImport.{HostImport}
use Rattle.pause_host.specs.declared.stages.Setting.{Setting}
use Rattle.pause_host.specs.Views.{entry_of, left_of, lines_in}
use Rattle.pause_host.specs.Moves.{IsSetting, PlaceFits, HasShortPokes}
use Rattle.pause_host.specs.Holding.{PlaceHolds}
use Rattle.pause_host.proofs.Holding.{begun_holds}
use Rattle.pause_host.specs.declared.plan.Plan.{Plan}
use Rattle.pause_host.specs.declared.program.Program.{Program}
use Rattle.pause_host.specs.declared.program.State.TheVariants.{Fresh}
use Rattle.pause_host.specs.Settings.{calls_of, MakesSetting}
use Rattle.pause_host.specs.Programs.{source_of, named_entries, IsPlan, BindsAs, world_program, before, is_at_pause, place_of, RunsCode, FollowsAt, Follows}
use Rattle.pause_host.proofs.Making.{SetUpFine, set_up_fine}

both : (a b : Bool) → (a && b) ≡ true → (a ≡ true) × (b ≡ true)
both true true h = (refl, refl)
both true false h = cc
both false b h = cc

-- a lawful area is in a memory
has_memory : (ms : List Limits) (area : Area) → is_area_in (least_of ms) area ≡ true → nat_lt 0 (length ms) ≡ true
has_memory [] area h =
    let two = both _ (nat_le (area.at + area.len) (0 * page_size)) h in
    let one = both (area.at % 4 == 0) (nat_le 8 area.len) two.0 in
    let least : 8 ≤ area.len = leb-true 8 area.len one.1 in
    let most : area.at + area.len ≤ 0 = leb-true (area.at + area.len) 0 two.1 in
    let no : ⊥ = omega arith in
    absurd no
has_memory (l ∷ ls) area h = lt-ltb 0 (length (l ∷ ls)) (omega arith)

-- it has room for its words, and lies inside the declared pages
pub lawful_area : (pages : ℕ) (area : Area) → is_area_in pages area ≡ true → (8 ≤ area.len) × (area.at + area.len ≤ pages * page_size)
lawful_area pages area h =
    let two = both _ (nat_le (area.at + area.len) (pages * page_size)) h in
    let one = both (area.at % 4 == 0) (nat_le 8 area.len) two.0 in
    (leb-true 8 area.len one.1, leb-true (area.at + area.len) (pages * page_size) two.1)

-- a call for each entry at most
pub calls_few : (es : List NamedEntry) (fs : List ℕ) → length (calls_of es fs) ≤ length es
calls_few [] fs = omega arith
calls_few (e ∷ es) [] = omega arith
calls_few (e ∷ es) (f ∷ fs) = let rest = calls_few es fs in omega arith

-- one result at most, as an option
as_option : (rs : List ValType) → length rs ≤ 1 → rs ≡ option_to_list (slice_get rs 0)
as_option [] h = refl
as_option (r ∷ []) h = refl
as_option (r ∷ s ∷ rs) h = let no : ⊥ = omega arith in absurd no

front_at : (xs ys : List ℕ) (i x : ℕ) → slice_get xs i ≡ Some x → slice_get (xs ++ ys) i ≡ Some x
front_at [] ys i x e = cc
front_at (y ∷ xs) ys zero x e = e
front_at (y ∷ xs) ys (suc i) x e = front_at xs ys i x e

some_sort : (f : ℕ → Option ValType) (o : Option ℕ) (r : Option ValType) → Some r ≡ option_map f o → (x : ℕ) × (o ≡ Some x) × (r ≡ f x)
some_sort f None r e = cc
some_sort f (Some x) r e = (x, refl, cc)

module _ (p : Module) (v : Valid p) where
  results_told : (imports : List HostImport) → map (λ (i : HostImport). i.result) imports ≡ map (λ sort. slice_get (type_at p sort).results 0) (imported imported_func p)
      → (import : ℕ) (i : HostImport) → slice_get imports import ≡ Some i → (func_type_at p import).results ≡ option_to_list i.result
  results_told imports e import i at =
      let f : ℕ → Option ValType = λ sort. slice_get (type_at p sort).results 0 in
      let there : Some i.result ≡ option_map f (slice_get (imported imported_func p) import) =
      ap (option_map (λ (j : HostImport). j.result)) (sym at) ∙ sym (slice_get-map (λ (j : HostImport). j.result) imports import) ∙ ap (λ xs. slice_get xs import) e
      ∙ slice_get-map f (imported imported_func p) import in
      let s = some_sort f (slice_get (imported imported_func p) import) i.result there in
      let ty : func_type_at p import ≡ type_at p s.0 =
      ap or_empty (slice_get-map (type_at p) (func_sorts p) import) ∙ ap (λ o. or_empty (option_map (type_at p) o)) (front_at (imported imported_func p) _ import s.0 s.1) in
      ap (λ (t : FuncType). t.results) ty ∙ as_option (type_at p s.0).results (type_small p v s.0) ∙ ap option_to_list (sym s.2)

abbrev begin : Module → Left → List Value → Place
begin m l g = before (held_begun m.start l (opening m g))

abbrev left_with : ℕ → List Entry → Left
left_with n es = record { number = n; entries = es; outcomes = [] }

module _ (x : Plan) (funcs : List ℕ) (looks : List Look) (binds : List (Option (List ℕ))) (bound : BindsAs x binds) (plan : IsPlan x) (v : Valid (source_of x))
    (up : set_up (source_of x) x.area (named_entries x) ≡ Ok funcs) where
  abbrev p : Module
  p = source_of x

  abbrev w : W.Program
  w = world_program x funcs looks binds

  fine : SetUpFine p v x.area (named_entries x) funcs
  fine = set_up_fine p v x.area (named_entries x) funcs up

  pub setting_is : (setting : Setting) → MakesSetting p x.listed x.binds x.area x.steps setting → IsSetting w setting
  setting_is setting m = record {
    valid = v;
    typed = fine.exports;
    memory = has_memory (all_memories p) x.area fine.area_fits;
    exports = m.exports;
    area = sym m.area_is;
    others = sym m.no_others;
    listed = ap (option_map (λ (l : Vec Bool). l.items)) (sym m.listed_is);
    steps = sym m.steps_are;
    names = sym m.names;
    bases = sym m.bases;
    binds = λ import. bound import ∙ ap (λ (b : Vec (Option (List ℕ))). unwrap_or (slice_get b.items import) None) (sym m.binds_are);
    results = results_told p v setting.imports.items m.results;
    all = sym (length-map setting.imports.items (λ (i : HostImport). i.result)) ∙ ap length m.results ∙ length-map (imported imported_func p) (λ sort. slice_get (type_at p sort).results 0);
  }

  begun : (l : Left) → l ≡ all_left w.plan [] → HeldFits p (held_begun p.start l (opening p x.globals.items)).last
  begun l is =
      subst (λ (z : Left). HeldFits p (held_begun p.start z (opening p x.globals.items)).last) (sym is)
      (begun_fits p v w.plan fine.exports (all_left w.plan []) (opening p x.globals.items) p.start 0 fine.entries (λ s o. openings_fit p x.globals.items s v plan.globals o)
      (λ f o. (start_takes_none p f v o, start_there p f p.start (valid_instance p v).start o))).1

  pub follows : SizeRule p → (program : Program) → module_of program.valid.now ≡ p → program.globals ≡ x.globals → MakesSetting p x.listed x.binds x.area x.steps program.setting
      → program.left.number ≡ 0 → map entry_of program.left.entries.items ≡ calls_of (named_entries x) funcs
      → program.left.answers.items ≡ x.answers.items → program.given ≡ length x.answers.items → program.steps_left ≡ x.steps → program.state ≡ Fresh → Follows w [] [] program
  follows sizes program code globals made number entries answers given steps fresh = record {
    at = subst (λ st. FollowsAt w [] [] program (place_of program st)) (sym fresh) at;
    code =
        subst (RunsCode w.source) (sym fresh) tt;
    paused = ap is_at_pause fresh;
  }
    where
      left : left_of program.left ≡ all_left w.plan []
      left = ap (λ n. left_with n (map entry_of program.left.entries.items)) number ∙ ap (left_with 0) entries

      place_is : place_of program Fresh ≡ stands (opened w.source w.plan).events (opened w.source w.plan).last
      place_is =
          ap (λ m. begin m (left_of program.left) program.globals.items) code
          ∙ ap (λ l. begin p l program.globals.items) left
          ∙ ap (λ g. begin p (all_left w.plan []) g.items) globals

      begun_there : PlaceHolds w (stands (opened w.source w.plan).events (opened w.source w.plan).last)
      begun_there =
          let room = lawful_area (least_of (all_memories p)) x.area fine.area_fits in
          let few = calls_few (named_entries x) funcs in
          let many : length (named_entries x) ≡ length x.entries.items = length-map x.entries.items S.entry_of in
          begun_holds p w.plan (all_left w.plan []) x.globals.items p.start room.0 room.1 (omega (arith, few, many, plan.entries))

      at : FollowsAt w [] [] program (place_of program Fresh)
      at = record {
        source = sym code;
        sizes = sizes;
        setting = setting_is program.setting made;
        globals = subst (λ g. types_of g.items ≡ global_types (imported imported_global p)) (sym globals) plan.globals;
        pokes = subst (λ xs. All HasShortPokes (lines_in xs)) (sym answers) plan.pokes;
        given = given ∙ sym (length-map x.answers.items answer_line_of);
        fits = subst (PlaceFits w) (sym place_is) (begun (all_left w.plan []) refl);
        holds = subst (PlaceHolds w) (sym place_is) begun_there;
        few_steps = plan.few_steps;
        told = subst (IsAt w [] [] program.steps_left) (sym place_is)
            (subst (λ n. IsAt w [] [] n (stands (opened w.source w.plan).events (opened w.source w.plan).last)) (sym steps) (nothing_told_yet w));
      }
