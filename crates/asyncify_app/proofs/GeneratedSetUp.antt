-- A program over a generated module that was rewritten is set up: its area, the five exports and its entry are lawful.
use Rattle.std.proofs.Common.{arith, ◌≡◌, ◌≤◌, ◌<◌, ℕ, zero, suc, ◌+◌, ◌-◌, List, [], ◌∷◌, ◌++◌, length, drop, map, Option, Some, None, Ok, refl, ap, ◌∙◌, subst, ⊎_elim}
use Rattle.std.specs.Prelude.{Bool, true, codes, ◌&&◌, nat_le, nat_lt, if◌then◌else◌, slice_get}
use Rattle.std.specs.Option.{option_or}
use Rattle.std.specs.List.{filter_map, find}
use Rattle.std.proofs.lemmas.Bool.{le-leb}
use Rattle.std.proofs.lemmas.List.{length-drop, length-replicate}
use Rattle.std.proofs.Math.Seq.{drop-append_seam}
use Rattle.std.proofs.lemmas.Option.{slice_get_cases}
use Rattle.wa_types.specs.declared.syntax.Export.{Export}
use Rattle.wa_types.specs.declared.syntax.Import.{Import}
use Rattle.wa_types.specs.declared.syntax.Limits.{Limits}
use Rattle.wa_types.specs.declared.values.ValType.TheVariants.{I32}
use Rattle.wa_types.specs.declared.values.Value.TheVariants as V
use Rattle.wa_types.specs.Modules.{defined_at, func_imports, func_type_at, imported_func, imported_memory, or_empty, type_at}
use Rattle.wa_types.specs.Runtime.{func_space, global_space, runtime_funcs, runtime_types, with_runtime}
use Rattle.wa_types.specs.Syntax.{Func, FuncType, Module}
use Rattle.wa_types.specs.Validity.{same_name}
use Rattle.wa_ops.specs.Operate.{are_of}
use Rattle.wa_types.specs.Pausing.{MayPause}
use Rattle.wa_model.specs.declared.answers.Area.{Area}
use Rattle.wa_model.specs.Instantiation.{least_of}
use Rattle.wa_model.specs.Rewrites.{Rewrites}
use Rattle.wa_model.specs.Step.{same_func_type}
use Rattle.run_theory.proofs.FittingNames.{defined_type}
use Rattle.run_theory.proofs.Runs.{lt_false}
use Rattle.run_laws.proofs.Exported.{rewritten_exported}
use Rattle.host_setup.specs.SetUp.{Fault, NamedEntry, Needed, area_bad, all_told, are_args, entries_fault, entry_funcs, fault_at, first_fault, first_false, func_in, func_named, have_args, is_area_in, is_defined_as, is_there, least_pages, module_fault, needed, no_export, set_up, unless_fault}
use Rattle.gen_module.specs.Generated.{generated, generated_func, one_to_one}
use Rattle.gen_module.specs.GeneratedRuns.{all_listed}
use Rattle.gen_module.proofs.GeneratedFrames.{func_there, tells_which, told, which}
use Rattle.gen_module.proofs.GeneratedModules.{func_count}
use Rattle.gen_module.proofs.GeneratedTypes.{all_sorts, func_sort}
use Rattle.asyncify_app.specs.Plans.{run_entry}

module _ (k : ℕ) (p : Module) (r : Rewrites (generated (suc k)) all_listed p) where
  abbrev m : Module
  m = generated (suc k)

  one_import : func_imports p ≡ 1
  unfolding generated
  one_import = ap (λ (is : List Import). length (filter_map (λ (x : Import). imported_func x.kind) is)) r.parts.imports

  types_are : p.types ≡ one_to_one ∷ runtime_types
  unfolding generated with_runtime
  types_are = r.parts.types

  -- ---- the area

  pages_are : least_pages p ≡ 1
  unfolding generated with_runtime
  pages_are =
      ap (λ (is : List Import). least_of (filter_map (λ (x : Import). imported_memory x.kind) is ++ p.memories)) r.parts.imports
      ∙ ap (λ (ms : List Limits). least_of ms) r.parts.memories

  -- ---- the five exports

  space_is : func_space m ≡ suc (suc k)
  space_is = ap length (all_sorts (suc k)) ∙ length-replicate {A = ℕ} (suc (suc k)) 0

  -- what is exported under a name
  named_as : (name : List ℕ) → func_named p name ≡ func_in (find (λ (e : Export). same_name e.name name) (with_runtime m).exports)
  named_as name = ap (λ (es : List Export). func_in (find (λ (e : Export). same_name e.name name) es)) r.parts.exports

  -- a function of the runtime has its type
  runtime_type : (i j : ℕ) (f : Func) (t : FuncType) → slice_get (runtime_funcs 1 (global_space m) (global_space m + 1)) i ≡ Some f → f.sort ≡ 1 + j → slice_get (one_to_one ∷ runtime_types) (1 + j) ≡ Some t
      → func_type_at p (func_space m + i) ≡ t
  unfolding generated
  runtime_type i j f t is sort has =
      let there : defined_at p (func_space m + i) ≡ Some f = (rewritten_exported m all_listed p r).functions i f is in
      defined_type p (func_space m + i) f there ∙ ap (type_at p) sort ∙ ap (λ (ts : List FuncType). or_empty (slice_get ts (1 + j))) types_are ∙ ap or_empty has

  -- an exported function of a type
  there_by : (n : Needed) (x : ℕ) → func_named p n.name ≡ Some x → 1 ≤ x → same_func_type (func_type_at p x) n.ty ≡ true → is_there p n ≡ true
  there_by n x named le typed =
      ap (is_defined_as p n.ty) named ∙ ap (λ (imports : ℕ). nat_le imports x && same_func_type (func_type_at p x) n.ty) one_import
      ∙ ap (λ (b : Bool). b && same_func_type (func_type_at p x) n.ty) (le-leb 1 x le) ∙ typed

  first_named : func_named p (codes "asyncify_start_unwind") ≡ Some (func_space m)
  unfolding generated with_runtime
  first_named = named_as (codes "asyncify_start_unwind")

  second_named : func_named p (codes "asyncify_stop_unwind") ≡ Some (func_space m + 1)
  unfolding generated with_runtime
  second_named = named_as (codes "asyncify_stop_unwind")

  third_named : func_named p (codes "asyncify_start_rewind") ≡ Some (func_space m + 2)
  unfolding generated with_runtime
  third_named = named_as (codes "asyncify_start_rewind")

  fourth_named : func_named p (codes "asyncify_stop_rewind") ≡ Some (func_space m + 3)
  unfolding generated with_runtime
  fourth_named = named_as (codes "asyncify_stop_rewind")

  last_named : func_named p (codes "asyncify_get_state") ≡ Some (func_space m + 4)
  unfolding generated with_runtime
  last_named = named_as (codes "asyncify_get_state")

  abbrev takes_one : FuncType
  takes_one = record { params = I32 ∷ []; results = [] }

  abbrev takes_none : FuncType
  takes_none = record { params = []; results = [] }

  abbrev gives_one : FuncType
  gives_one = record { params = []; results = I32 ∷ [] }

  first_type : func_type_at p (func_space m) ≡ takes_one
  first_type = let z : func_space m ≡ func_space m + 0 = omega arith in ap (func_type_at p) z ∙ runtime_type 0 0 _ takes_one refl refl refl

  five_there : map (is_there p) needed ≡ true ∷ true ∷ true ∷ true ∷ true ∷ []
  five_there =
      let space = space_is in
      let a = there_by (record { name = codes "asyncify_start_unwind"; ty = takes_one }) (func_space m) first_named (omega arith) (ap (λ (t : FuncType). same_func_type t takes_one) first_type) in
      let b = there_by (record { name = codes "asyncify_stop_unwind"; ty = takes_none }) (func_space m + 1) second_named (omega arith)
      (ap (λ (t : FuncType). same_func_type t takes_none) (runtime_type 1 1 _ takes_none refl refl refl)) in
      let c = there_by (record { name = codes "asyncify_start_rewind"; ty = takes_one }) (func_space m + 2) third_named (omega arith)
      (ap (λ (t : FuncType). same_func_type t takes_one) (runtime_type 2 0 _ takes_one refl refl refl)) in
      let d = there_by (record { name = codes "asyncify_stop_rewind"; ty = takes_none }) (func_space m + 3) fourth_named (omega arith)
      (ap (λ (t : FuncType). same_func_type t takes_none) (runtime_type 3 1 _ takes_none refl refl refl)) in
      let e = there_by (record { name = codes "asyncify_get_state"; ty = gives_one }) (func_space m + 4) last_named (omega arith)
      (ap (λ (t : FuncType). same_func_type t gives_one) (runtime_type 4 2 _ gives_one refl refl refl)) in
      λ i. a i ∷ b i ∷ c i ∷ d i ∷ e i ∷ []

  -- ---- the entry

  abbrev more : List Func
  more = runtime_funcs (length m.types) (global_space m) (global_space m + 1)

  behind : drop (length m.funcs) p.funcs ≡ more
  unfolding with_runtime
  behind = r.parts.runtime ∙ drop-append_seam m.funcs more

  more_length : length more ≡ 5
  more_length = refl

  last_within : k < length p.funcs
  unfolding generated
  last_within =
      let drops = length-drop (length m.funcs) p.funcs in
      let five = ap length behind ∙ more_length in
      let count = func_count (suc k) in omega (arith, drops, five, count)

  may_pause : MayPause m all_listed (suc k)
  may_pause = ((tells_which (suc k)).each (suc k)).0 (told (suc k) k (omega arith))

  last_there : (g : Func) × (slice_get p.funcs k ≡ Some g)
  last_there = ⊎_elim (λ got. (got.0, got.2)) (λ past. let lt = last_within in absurd (omega arith)) (slice_get_cases p.funcs k).1

  last_sort : last_there.0.sort ≡ 0
  unfolding generated
  last_sort =
      let place : suc k ≡ func_imports m + k = omega arith in
      (r.parts.rewritten k (generated_func k) last_there.0 (which (suc k)) (func_there (suc k) k (omega arith)) last_there.1 (tells_which (suc k)) (subst (MayPause m all_listed) place may_pause)).sort
      ∙ func_sort k

  last_defined : defined_at p (suc k) ≡ Some last_there.0
  last_defined =
      let z : suc k - 1 ≡ k = omega arith in
      ap (λ (imports : ℕ). if nat_lt (suc k) imports then None else slice_get p.funcs (suc k - imports)) one_import
      ∙ ap (λ (b : Bool). if b then None else slice_get p.funcs (suc k - 1)) (lt_false (suc k) 1 (omega arith)) ∙ ap (slice_get p.funcs) z ∙ last_there.1

  last_type : func_type_at p (suc k) ≡ one_to_one
  last_type = defined_type p (suc k) last_there.0 last_defined ∙ ap (type_at p) last_sort ∙ ap (λ (ts : List FuncType). or_empty (slice_get ts 0)) types_are

  abbrev entries : List NamedEntry
  entries = run_entry ∷ []

  entry_is : entry_funcs p entries ≡ Some (suc k) ∷ []
  unfolding generated with_runtime
  entry_is = ap (λ (es : List Export). func_in (find (λ (x : Export). same_name x.name (codes "run")) es) ∷ []) r.parts.exports

  args_are : have_args p entries ≡ true ∷ []
  args_are =
      ap (map (λ (o : Option ℕ). are_args p (V.I32 7 ∷ []) o)) entry_is
      ∙ ap (λ (t : FuncType). are_of t.params (V.I32 7 ∷ []) ∷ []) last_type

  -- ---- all together

  abbrev page : Area
  page = record { at = 0; len = 65536 }

  no_entry_fault : entries_fault 1 (Some (suc k) ∷ []) (true ∷ []) ≡ None
  no_entry_fault = rw (lt_false (suc k) 1 (omega arith)) refl

  no_fault : first_fault p page entries ≡ None
  no_fault =
      ap (λ (pages : ℕ). option_or (if is_area_in pages page then None else Some area_bad) (module_fault p entries)) pages_are
      ∙ ap (λ (bs : List Bool). option_or (fault_at no_export (first_false bs)) (entries_fault (func_imports p) (entry_funcs p entries) (have_args p entries))) five_there
      ∙ ap (λ (imports : ℕ). entries_fault imports (entry_funcs p entries) (have_args p entries)) one_import
      ∙ ap (λ (fs : List (Option ℕ)). entries_fault 1 fs (have_args p entries)) entry_is
      ∙ ap (λ (ts : List Bool). entries_fault 1 (Some (suc k) ∷ []) ts) args_are
      ∙ no_entry_fault

  set_up_there : set_up p page entries ≡ Ok (suc k ∷ [])
  set_up_there = ap (λ (o : Option Fault). unless_fault o (all_told (entry_funcs p entries))) no_fault ∙ ap (λ (fs : List (Option ℕ)). Ok (all_told fs)) entry_is

-- The program over the generated module of n functions, rewritten, is set up.
pub sets_up : (n : ℕ) (p : Module) → 1 ≤ n → Rewrites (generated n) all_listed p → set_up p (record { at = 0; len = 65536 }) (run_entry ∷ []) ≡ Ok (n ∷ [])
sets_up zero p le r = absurd (omega arith)
sets_up (suc k) p le r = set_up_there k p r
