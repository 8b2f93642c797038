-- The flat module and the emitted one are paired.
use Rattle.std.proofs.Common.{◌≡◌, ℕ, zero, suc, ◌+◌, ◌-◌, ◌<◌, List, [], ◌∷◌, ◌++◌, drop, map, length, Option, Some, None, Bool, true, false, refl, sym, ap, ◌∙◌, subst, arith, append-nil, length-append}
use Rattle.std.specs.Prelude.{slice_get, ◌||◌, nat_lt, if◌then◌else◌}
use Rattle.std.proofs.lemmas.List.{length-map, map-append}
use Rattle.wa_types.specs.Base.{Base}
use Rattle.wa_types.specs.Modules.{declared_locals, defined_at, func_imports, func_sorts, func_type_at, imported, imported_func, imported_global, locals_of, type_at}
use Rattle.wa_types.specs.Pausing.{Callee, Listed, MayPause, Settings, TellsMayPause, calls_in, calls_indirectly, calls_listed, calls_of, calls_pausing, callee, callee_onto, direct, has_number, indirect, is_told}
use Rattle.wa_types.specs.Pruned.{pruned}
use Rattle.wa_types.specs.Runtime.{func_space, global_space, runtime_funcs, runtime_types, with_runtime}
use Rattle.wa_types.specs.Syntax.{Code, branch, done, nest, plain, Func, Module}
use Rattle.wa_types.specs.Typing.{GlobalType}
use Rattle.wa_types.specs.Validity.{Valid}
use Rattle.wa_types.specs.declared.values.ValType.TheVariants.{I32, I64}
use Rattle.run_theory.specs.Fitting.{global_types, types_of}
use Rattle.run_theory.specs.Growth.{EntryNamed}
use Rattle.wa_model.specs.Instantiation.{Opening, fails_as, opens, opening}
use Rattle.wa_model.specs.Plan.{Plan}
use Rattle.wa_model.specs.Step.{param_count}
use Rattle.run_theory.proofs.BaseValid.{base_valid}
use Rattle.run_theory.proofs.FittingNames.{defined_type}
use Rattle.run_theory.proofs.FittingOpenings.{openings_fit}
use Rattle.run_theory.proofs.GrownSteps.{each_got, front}
use Rattle.run_laws.specs.Ranges.{CodesIn}
use Rattle.run_laws.proofs.SpotRuns.{listed_typed}
use Rattle.flat_laws.specs.FlatModule.{Flattened, IsPlaced, extra_types, flat_module}
use Rattle.flat_laws.specs.Flatten.{flattened}
use Rattle.flat_laws.proofs.FlatModules.{is_flat, sorts_stay, valid_is_flattened, valid_stays}
use Rattle.guard_form.specs.Functions.{Calls, MayCall, Role, RoleCalls, as_is, flat_code, size_of, with_guards, written_code}
use Rattle.guard_form.specs.Functions as R
use Rattle.guard_form.proofs.Grouped.{free_law}
use Rattle.guard_runs.specs.Alike.{Paired, Setting}
use Rattle.guard_runs.specs.Modules.{DifferInFunctions, SameFunction}
use Rattle.guard_runs.proofs.PairedModules.{paired_law}
use Rattle.headline.specs.World.{setting}
use Rattle.headline.specs.Core.{Core, CoreFits, table_in, world_of}
use Rattle.headline.proofs.Spaces.{grown_func_type}
use Rattle.headline.specs.SlimBeside.{SlimFits}
use Rattle.slim_laws.specs.SlimModuleLaws.{SlimModuleFits}
use Rattle.slim_laws.specs.SlimModule.{body_of_func, body_with, with_body}
use Rattle.slim_laws.proofs.SlimModules.{fit_law, flat_size, mapped, slim_found}
use Rattle.slim_laws.proofs.UnitsInside.{pieces_stay}
use Rattle.headline.specs.Given.{Given}
use Rattle.headline.specs.CoreOf.{core_of, flat_core}
use Rattle.headline.specs.EmittedModule.{Framing, Emitted, Guarded, Stays, WrittenAs, guarded_of, pieces_in, places_in, role_at, slim_of, terms_of}
use Rattle.headline.proofs.NumberedStmts.{flat_numbered, got_first, got_second}
use Rattle.headline.proofs.OwnBlocks.{block_flat, result_in}

-- ---- lists

drop_front : {X : Type 0} (xs ys : List X) → drop (length xs) (xs ++ ys) ≡ ys
drop_front [] ys = refl
drop_front (x ∷ xs) ys = drop_front xs ys

there : {X : Type 0} (xs : List X) (i : ℕ) → i < length xs → (x : X) × (slice_get xs i ≡ Some x)
there [] i lt = absurd (omega arith)
there (x ∷ xs) zero lt = (x, refl)
there (x ∷ xs) (suc i) lt = there xs i (omega arith)

-- ---- the original with its memory

pub types_are : (m : Module) → (with_runtime m).types ≡ (Base m).types ++ runtime_types
unfolding Base with_runtime
types_are m = refl

memories_are : (m : Module) → (with_runtime m).memories ≡ (Base m).memories
unfolding Base with_runtime
memories_are m = refl

funcs_are : (m : Module) → (with_runtime m).funcs ≡ m.funcs ++ runtime_funcs (length m.types) (global_space m) (global_space m + 1)
unfolding with_runtime
funcs_are m = refl

base_imports : (m : Module) → (Base m).imports ≡ m.imports
unfolding Base
base_imports m = refl

base_funcs : (m : Module) → (Base m).funcs ≡ m.funcs
unfolding Base
base_funcs m = refl

base_space : (m : Module) → length (func_sorts (Base m)) ≡ func_space m
unfolding Base
base_space m = refl

pub base_count : (m : Module) → func_imports (Base m) ≡ func_imports m
unfolding Base
base_count m = refl

pub base_defined : (m : Module) (x : ℕ) → defined_at (Base m) x ≡ defined_at m x
unfolding Base
base_defined m x = refl

pub base_locals : (m : Module) (f : Func) → locals_of (Base m) f ≡ locals_of m f
unfolding Base
base_locals m f = refl

base_type_of : (m : Module) (f : Func) → type_at (Base m) f.sort ≡ type_at m f.sort
unfolding Base
base_type_of m f = refl

base_globals : (m : Module) → imported imported_global (Base m) ≡ imported imported_global m
unfolding Base
base_globals m = refl

-- a function by its place among the defined ones
pub defined_by : (m : Module) (j : ℕ) (f : Func) → slice_get m.funcs j ≡ Some f → defined_at m (func_imports m + j) ≡ Some f
defined_by m j f e =
    let z : nat_lt (func_imports m + j) (func_imports m) ≡ false = grind arith in
    let k : func_imports m + j - func_imports m ≡ j = omega arith in
    ap (λ b. if b then None else slice_get m.funcs (func_imports m + j - func_imports m)) z ∙ ap (slice_get m.funcs) k ∙ e

-- ---- each call of code

calls_each : (P : Callee → Type 0) (code : Code) → ((i : ℕ) (x : Callee) → slice_get (calls_of code) i ≡ Some x → P x) → Calls P code
unfolding calls_of
calls_each P done h = tt
calls_each P (plain p rest) h = by (callee p) h (λ g. calls_each P rest g)
  where
    by : (o : Option Callee) → ((i : ℕ) (x : Callee) → slice_get (callee_onto o (calls_of rest)) i ≡ Some x → P x)
        → (((i : ℕ) (x : Callee) → slice_get (calls_of rest) i ≡ Some x → P x) → Calls P rest) → MayCall P o × Calls P rest
    by None h on = (tt, on h)
    by (Some y) h on = (h 0 y refl, on (λ i x e. h (suc i) x e))
calls_each P (nest s r body rest) h = (
  calls_each P body (λ i x e. h i x (got_first (calls_of body) (calls_of rest) i x e)),
  calls_each P rest (λ i x e. h (length (calls_of body) + i) x (got_second (calls_of body) (calls_of rest) i ∙ e)),
)
calls_each P (branch r a b rest) h =
    let ca = calls_of a in let cb = calls_of b in let cr = calls_of rest in (
      calls_each P a (λ i x e. h i x (got_first (ca ++ cb) cr i x (got_first ca cb i x e))),
      calls_each P b (λ i x e. h (length ca + i) x (got_first (ca ++ cb) cr (length ca + i) x (got_second ca cb i ∙ e))),
      calls_each P rest (λ i x e. h (length (ca ++ cb) + i) x (got_second (ca ++ cb) cr i ∙ e)),
    )

-- a function that can't pause calls nothing that has a number
pub not_numbered : (m : Module) (s : Settings) (which : List Bool) (x : ℕ) (f : Func) (place : ℕ) (c : Callee) → TellsMayPause m s which → defined_at m x ≡ Some f → is_told (slice_get which x) ≡ false
    → slice_get (calls_in f) place ≡ Some c → has_number m s which c ≡ false
not_numbered m s which x f place c tells there untold at = by_callee c at
  where
    -- it isn't one that may pause
    never : MayPause m s x → ⊥
    never p = let e = (tells.each x).1 p in let bad : true ≡ false = ap is_told (sym e) ∙ untold in cc

    by_callee : (c : Callee) → slice_get (calls_in f) place ≡ Some c → has_number m s which c ≡ false
    by_callee (direct y) at = by_listed (slice_get (Listed m s) y) refl (slice_get which y) refl
      where
        by_which : (p : Option Bool) → slice_get which y ≡ p → is_told p ≡ false
        by_which None q = refl
        by_which (Some false) q = refl
        by_which (Some true) q = absurd (never (calls_pausing x f place y there at ((tells.each y).0 q)))

        by_listed : (o : Option Bool) → slice_get (Listed m s) y ≡ o → (p : Option Bool) → slice_get which y ≡ p → (is_told (slice_get (Listed m s) y) || is_told (slice_get which y)) ≡ false
        by_listed (Some true) e p q = absurd (never (calls_listed x f place y there at e))
        by_listed (Some false) e p q = ap (λ z. is_told z || is_told (slice_get which y)) e ∙ ap is_told q ∙ by_which p q
        by_listed None e p q = ap (λ z. is_told z || is_told (slice_get which y)) e ∙ ap is_told q ∙ by_which p q
    by_callee (indirect sort) at = by_ignore s.ignore_indirect refl
      where
        by_ignore : (b : Bool) → s.ignore_indirect ≡ b → Rattle.std.specs.Prelude.not s.ignore_indirect ≡ false
        by_ignore true e = ap Rattle.std.specs.Prelude.not e
        by_ignore false e = absurd (never (calls_indirectly x f place sort there at e))

module _ (m : Module) (s : Settings) (which : List Bool) (frames : (index : ℕ) → Framing) (plan : Plan) (p : Module) (valid : Valid m) (tells : TellsMayPause m s which)
    (em : Emitted m s which frames p)
    (plan_fits : Given m plan) (codes : CodesIn (Base m)) where
  abbrev b : Module
  b = Base m

  -- the flat module, and the one with slim pieces
  abbrev flat_one : Module
  flat_one = flat_module (Base m) which

  abbrev core : Module
  core = slim_of m s which frames

  abbrev test : Callee → Bool
  test = has_number m s which

  abbrev w : Core
  w = core_of m s which frames plan p

  pub flattened_so : Flattened (Base m) (flat_module (Base m) which) which
  flattened_so = valid_is_flattened (Base m) which (base_valid m valid)

  pub slim_fits : SlimModuleFits (Base m) which (places_in m s which) (pieces_in m s which frames)
  slim_fits = fit_law (Base m) which (places_in m s which) (pieces_in m s which frames) (base_valid m valid) em.slim

  core_sorts : map (λ (f : Func). f.sort) core.funcs ≡ map (λ (f : Func). f.sort) m.funcs
  core_sorts =
      let fs = map (λ (f : Func). f.sort) in
      sym (drop_front (imported imported_func b) (fs core.funcs))
      ∙ ap (drop (length (imported imported_func b))) slim_fits.sorts
      ∙ drop_front (imported imported_func b) (fs b.funcs)
      ∙ ap fs (base_funcs m)

  core_count : length core.funcs ≡ length m.funcs
  core_count = sym (length-map core.funcs (λ (f : Func). f.sort)) ∙ ap length core_sorts ∙ length-map m.funcs (λ (f : Func). f.sort)

  -- the links' side of the flat module
  pub core_fits : CoreFits (core_of m s which frames plan p)
  core_fits = record {
    valid = valid;
    flat_valid = slim_fits.valid;
    codes = codes;
    functions_alone = refl;
    sorts = slim_fits.sorts;
    plan = plan_fits;
  }

  -- and that of the flat module itself
  pub flat_fits : CoreFits (flat_core m s which frames plan p)
  flat_fits = record {
    valid = valid;
    flat_valid = valid_stays b which (base_valid m valid);
    codes = codes;
    functions_alone = refl;
    sorts = sorts_stay b which;
    plan = plan_fits;
  }

  pub slim_beside : SlimFits (flat_core m s which frames plan p) (slim_of m s which frames) (terms_of m s which frames)
  slim_beside = record { flattened = flattened_so; together = slim_fits.together; behind = slim_fits.behind }

  -- ---- one function

  module _ (top : ℕ) where
    abbrev v : Setting
    v = setting (world_of w) top

    -- its type
    type_there : (x : ℕ) (f : Func) → defined_at b x ≡ Some f → x < length (func_sorts b) → func_type_at core x ≡ type_at b f.sort
    type_there x f e lt = (slim_fits.together).func_type x ∙ flattened_so.func_type x lt ∙ defined_type b x f e

    guarded_same : (x : ℕ) (f g g' : Func) → (g.body ≡ body_with (pieces_in m s which frames x) (flattened b x f).result)
        × (declared_locals g.locals ≡ declared_locals f.locals ++ extra_types b f) → func_type_at v.flat x ≡ type_at b f.sort
        → Guarded m s which frames x f g' → v.role x ≡ with_guards (guarded_of m s which frames x f) → SameFunction v x g g'
    guarded_same x f g g' h ty wr role =
        let ff = flattened b x f in
        let n1 = flat_size b x f in
        let n2 : length (declared_locals g.locals) ≡ length (declared_locals f.locals ++ extra_types b f) = ap length h.1 in
        let n3 : param_count (func_type_at v.flat x) ≡ param_count (type_at b f.sort) = ap param_count ty in
        record {
          flat = h.0 ∙ block_flat (pieces_in m s which frames x).first (pieces_in m s which frames x).units ff.result ∙ ap flat_code (sym role);
          written = wr.body ∙ ap (written_code (global_space m)) (sym role);
          locals = wr.locals ∙ ap (λ z. z ++ I32 ∷ I32 ∷ I64 ∷ []) ((is_flat b x f).1 ∙ sym h.1) ∙ ap (λ r. declared_locals g.locals ++ R.extra_types r) (sym role);
          size = sized n1 n2 n3 ∙ ap size_of (sym role);
        }
      where
        sized : {q a e u z : ℕ} → q ≡ a + e → u ≡ e → z ≡ a → z + u ≡ q
        sized h1 h2 h3 = omega arith

    stays_same : (x : ℕ) (f g g' : Func) → g ≡ f → func_type_at v.flat x ≡ type_at b f.sort → Stays m s which frames f g' → v.role x ≡ as_is (length (locals_of m f)) f.body → SameFunction v x g g'
    stays_same x f g g' h ty wr role =
        let ps = (type_at b f.sort).params in
        let l1 = length-append ps (declared_locals f.locals) in
        let n1 : length (locals_of m f) ≡ length (ps ++ declared_locals f.locals) = ap length (sym (base_locals m f)) in
        let n2 : param_count (func_type_at v.flat x) ≡ length ps = ap param_count ty in
        let n3 : length (declared_locals g.locals) ≡ length (declared_locals f.locals) = ap (λ (z : Func). length (declared_locals z.locals)) h in
        record {
          flat = ap (λ (z : Func). z.body) h ∙ ap flat_code (sym role);
          written = wr.body ∙ ap (written_code (global_space m)) (sym role);
          locals = wr.locals ∙ ap (λ (z : Func). declared_locals z.locals) (sym h) ∙ sym (append-nil (declared_locals g.locals)) ∙ ap (λ r. declared_locals g.locals ++ R.extra_types r) (sym role);
          size = sized n1 n2 n3 l1 ∙ ap size_of (sym role);
        }
      where
        sized : {q a t u u2 z : ℕ} → q ≡ t → z ≡ a → u2 ≡ u → t ≡ a + u → z + u2 ≡ q
        sized h1 h2 h3 h4 = omega arith

    abbrev bodies : (index : ℕ) → Code
    bodies x = body_of_func (Base m) which (places_in m s which) (pieces_in m s which frames) x (defined_at (Base m) x)

    -- by whether it is told
    same_func : (told : Bool) (x : ℕ) (f g0 g g' : Func) → IsPlaced told b x f (Some g0) → with_body told (bodies x) g0 ≡ g → defined_at b x ≡ Some f → func_type_at v.flat x ≡ type_at b f.sort
        → WrittenAs m s which frames told x f g' → v.role x ≡ role_at m s which frames told x (Some f)
        → SameFunction v x g g'
    same_func true x f g0 g g' h eg db ty wr role =
        guarded_same x f g g' (
          ap (λ (z : Func). z.body) (sym eg) ∙ ap (body_of_func (Base m) which (places_in m s which) (pieces_in m s which frames) x) db,
          ap (λ (z : Func). declared_locals z.locals) (sym eg)
              ∙ h.1,
        ) ty wr role
    same_func false x f g0 g g' h eg db ty wr role = stays_same x f g g' (sym eg ∙ the_same g0 f h) ty wr role
      where
        the_same : (g f : Func) → Some g ≡ Some f → g ≡ f
        the_same g f e = cc

    each_same : (j : ℕ) (g g' : Func) → func_imports v.flat + j < v.funcs → slice_get v.flat.funcs j ≡ Some g → slice_get p.funcs j ≡ Some g' → SameFunction v (func_imports v.flat + j) g g'
    each_same j g g' lt eg eg' =
        let imp : func_imports v.flat ≡ func_imports m = base_count m in
        let x = func_imports v.flat + j in
        let n0 = length-append (imported imported_func m) (map (λ (f : Func). f.sort) m.funcs) in
        let n1 = length-map m.funcs (λ (f : Func). f.sort) in
        let short : j < length m.funcs = omega arith in
        let count = core_count in
        let own : slice_get core.funcs j ≡ Some g = sym (front core.funcs (runtime_funcs (length m.types) (global_space m) (global_space m + 1)) j (omega arith)) ∙ eg in
        let q = there m.funcs j short in
        let x_is : func_imports m + j ≡ x = ap (λ z. z + j) (sym imp) in
        let dm : defined_at m x ≡ Some q.0 = subst (λ z. defined_at m z ≡ Some q.0) x_is (defined_by m j q.0 q.1) in
        let db : defined_at b x ≡ Some q.0 = base_defined m x ∙ dm in
        let dc : defined_at core x ≡ Some g = defined_by core j g own in
        let within : x < length (func_sorts b) = subst (λ z. x < z) (sym (base_space m)) lt in
        let ty : func_type_at v.flat x ≡ type_at b (q.0).sort = grown_func_type w core_fits x (subst (λ ss. x < length ss) (sym slim_fits.sorts) within) ∙ type_there x q.0 db within in
        let fg = mapped (with_body (is_told (slice_get which x)) (bodies x)) (defined_at flat_one x) g (sym (slim_found b which (places_in m s which) (pieces_in m s which frames) x) ∙ dc) in
        same_func (is_told (slice_get which x)) x q.0 fg.0 g g' (subst (λ o. IsPlaced (is_told (slice_get which x)) b x q.0 o) fg.1 (flattened_so.placed x q.0 db)) fg.2 db ty
        (subst (λ z. WrittenAs m s which frames (is_told (slice_get which z)) z q.0 g') x_is (em.written j q.0 g' q.1 eg')) (ap (λ o. role_at m s which frames (is_told (slice_get which x)) x o) dm)

    -- ---- what functions call

    role_calls : (x : ℕ) → (told : Bool) → is_told (slice_get which x) ≡ told → (o : Option Func) → defined_at m x ≡ o → RoleCalls (λ c. test c ≡ false) (role_at m s which frames told x o)
    unfolding pruned
    role_calls x true e None q = tt
    role_calls x false e None q = tt
    role_calls x true e (Some f) q =
        let ps = Rattle.wa_types.specs.Pausing.Numbered m s which f in
        let body = (flattened b x f).body in
        let free = free_law test ps 0 body (flat_numbered b x f test) in
        let is : defined_at (Base m) x ≡ Some f = base_defined m x ∙ q in
        let stay = pieces_stay b ps x f (frames x).pieces (λ c. test c ≡ false) (base_valid m valid) is (em.slim x f is e) free.0 free.1 in
        (tt, (stay.0, stay.1, result_in (λ c. test c ≡ false) (flattened b x f).result, tt))
    role_calls x false e (Some f) q = calls_each (λ c. test c ≡ false) (pruned f.body) (λ i c at. not_numbered m s which x f i c tells q e at)

    -- what stands in the table is a function
    table_named : (o : Opening) → opening b plan.globals ≡ o → (n x : ℕ) → slice_get (table_in o) n ≡ Some (Some x) → x < func_space m
    table_named (fails_as e) q n x at = cc
    table_named (opens st) q n x at =
        let globals : types_of plan.globals ≡ global_types (imported imported_global b) =
        listed_typed (map (λ (g : GlobalType). g.ty) (imported imported_global m)) plan.globals plan_fits.globals.typed ∙ ap global_types (sym (base_globals m)) in
        let fits = openings_fit b plan.globals st (base_valid m valid) globals q in
        subst (λ i. x < i) (base_space m) (each_got (EntryNamed (length (func_sorts b))) st.table n (Some x) fits.table at)

    differ : DifferInFunctions v
    differ = record {
      types = em.types ∙ types_are m;
      imports = em.imports ∙ sym (base_imports m);
      memories = em.memories ∙ memories_are m;
      sorts =
          let fs = map (λ (f : Func). f.sort) in
          let rf = runtime_funcs (length m.types) (global_space m) (global_space m + 1) in
          em.sorts ∙ ap fs (funcs_are m) ∙ map-append (λ (f : Func). f.sort) m.funcs rf ∙ ap (λ ss. ss ++ fs rf) (sym core_sorts) ∙ sym (map-append (λ (f : Func). f.sort) core.funcs rf);
      few =
          let rf = runtime_funcs (length m.types) (global_space m) (global_space m + 1) in
          let l0 = length-append (imported imported_func m) (map (λ (f : Func). f.sort) m.funcs) in
          let l1 = length-map m.funcs (λ (f : Func). f.sort) in
          let l2 = length-append (imported imported_func b) (map (λ (f : Func). f.sort) (core.funcs ++ rf)) in
          let l3 = length-map (core.funcs ++ rf) (λ (f : Func). f.sort) in
          let l4 = length-append core.funcs rf in
          let count = core_count in
          let imp : length (imported imported_func b) ≡ length (imported imported_func m) = base_count m in
          omega arith;
      each = each_same;
      calls = λ x lt. role_calls x (is_told (slice_get which x)) refl (defined_at m x) refl;
      in_table = λ n x at. table_named (opening b plan.globals) refl n x at;
    }

  -- BOTH ARE PAIRED, whichever function the host calls
  pub paired : (top : ℕ) → Paired (setting (world_of (core_of m s which frames plan p)) top)
  paired top = paired_law (setting (world_of w) top) (differ top)
