-- Functions of the flat module that can't pause make no numbered call.
use Rattle.std.proofs.Common.{◌≡◌, ◌∙◌, ℕ, ◌+◌, ◌-◌, ◌<◌, ◌≤◌, List, [], ◌∷◌, ◌++◌, length, map, drop, Option, Some, None, Bool, true, false, refl, sym, ap, subst, arith, length-append, ⊎_elim}
use Rattle.std.specs.Prelude.{not, slice_get, nat_lt, if◌then◌else◌}
use Rattle.std.proofs.lemmas.Bool.{cases_lt, ltb-false}
use Rattle.std.proofs.lemmas.List.{length-map}
use Rattle.std.proofs.Math.Seq.{drop-append_seam}
use Rattle.wa_types.specs.Base.{Base}
use Rattle.wa_types.specs.Modules.{defined_at, func_imports, func_sorts, imported, imported_func}
use Rattle.wa_types.specs.Pausing.{Callee, Settings, TellsMayPause, callee, callee_onto, calls_of, has_number, is_told}
use Rattle.wa_types.specs.Pruned.{pruned}
use Rattle.wa_types.specs.Runtime.{func_space, global_space, runtime_funcs, with_runtime}
use Rattle.wa_types.specs.Syntax.{Code, branch, done, nest, plain, Func, Module}
use Rattle.wa_types.specs.Validity.{Valid}
use Rattle.wa_model.specs.Plan.{Plan}
use Rattle.run_theory.specs.Growth.{Each}
use Rattle.run_theory.proofs.GrownSteps.{each_got}
use Rattle.run_theory.proofs.RuntimeValid.{behind}
use Rattle.run_laws.specs.Ranges.{CodesIn}
use Rattle.guard_form.specs.Functions.{Calls, MayCall, RoleCalls, flat_code}
use Rattle.guard_runs.specs.Alike.{Paired, sides_of}
use Rattle.guard_runs.specs.Beside.{Twin, both_defined, both_import}
use Rattle.headline.specs.Core.{world_of}
use Rattle.headline.specs.CoreOf.{core_of}
use Rattle.headline.specs.EmittedModule.{Emitted, Framing, role_at, slim_of}
use Rattle.headline.specs.Given.{Given}
use Rattle.headline.specs.World.{setting}
use Rattle.headline.proofs.PairedFlat.{paired, slim_fits}
use Rattle.assert_laws.specs.Beside.{AllTested}

the_func : (x y : Func) → Some x ≡ Some y → x ≡ y
the_func x y e = cc

-- ---- calls of code that are none of these

module _ (n : Callee → Bool) where
  abbrev t : Callee → Bool
  t = λ c. not (n c)

  onto : (o : Option Callee) (cs : List Callee) → MayCall (λ c. n c ≡ false) o → AllTested (λ c. not (n c)) cs → AllTested (λ c. not (n c)) (callee_onto o cs)
  onto None cs h k = k
  onto (Some x) cs h k = (ap not h, k)

  both : (xs ys : List Callee) → AllTested (λ c. not (n c)) xs → AllTested (λ c. not (n c)) ys → AllTested (λ c. not (n c)) (xs ++ ys)
  both [] ys h k = k
  both (x ∷ xs) ys h k = (h.0, both xs ys h.1 k)

  pub all_tested : (code : Code) → Calls (λ c. n c ≡ false) code → AllTested (λ c. not (n c)) (calls_of code)
  unfolding calls_of
  all_tested done h = tt
  all_tested (plain p rest) h = onto (callee p) (calls_of rest) h.0 (all_tested rest h.1)
  all_tested (nest s r body rest) h = both (calls_of body) (calls_of rest) (all_tested body h.0) (all_tested rest h.1)
  all_tested (branch r a b rest) h =
      both (calls_of a ++ calls_of b) (calls_of rest) (both (calls_of a) (calls_of b) (all_tested a h.0) (all_tested b h.1)) (all_tested rest h.2)

-- the runtime's functions call nothing
runtime_calls : (sort state address : ℕ) → Each (λ (g : Func). calls_of (pruned g.body) ≡ []) (runtime_funcs sort state address)
unfolding calls_of pruned
runtime_calls sort state address = (refl, (refl, (refl, (refl, (refl, tt)))))

grown_funcs : (m : Module) → (with_runtime m).funcs ≡ m.funcs ++ runtime_funcs (length m.types) (global_space m) (global_space m + 1)
unfolding with_runtime
grown_funcs m = refl

base_space : (m : Module) → length (func_sorts (Base m)) ≡ func_space m
unfolding Base
base_space m = refl

-- they stand behind the original's
pub runtime_there : (m : Module) (s : Settings) (which : List Bool) (frames : (index : ℕ) → Framing) (p0 : Module) → Emitted m s which frames p0
    → drop (length m.funcs) p0.funcs ≡ runtime_funcs (length m.types) (global_space m) (global_space m + 1)
runtime_there m s which frames p0 em =
    em.runtime ∙ ap (drop (length m.funcs)) (grown_funcs m) ∙ drop-append_seam m.funcs (runtime_funcs (length m.types) (global_space m) (global_space m + 1))

module _ (m : Module) (s : Settings) (which : List Bool) (frames : (index : ℕ) → Framing) (plan : Plan) (p0 : Module) (valid : Valid m) (tells : TellsMayPause m s which)
    (em : Emitted m s which frames p0) (plan_fits : Given m plan) (codes : CodesIn (Base m)) where
  abbrev test : Callee → Bool
  test = has_number m s which

  abbrev slim : Module
  slim = slim_of m s which frames

  abbrev behind_it : List Func
  behind_it = runtime_funcs (length m.types) (global_space m) (global_space m + 1)

  abbrev flat_one : Module
  flat_one = (world_of (core_of m s which frames plan p0)).flat

  -- one of the original's functions stays
  by_role : (told : Bool) (x : ℕ) (o : Option Func) (body : Code) → told ≡ false → body ≡ flat_code (role_at m s which frames told x o)
      → RoleCalls (λ c. has_number m s which c ≡ false) (role_at m s which frames told x o) → AllTested (λ c. not (has_number m s which c)) (calls_of (pruned body))
  by_role true x o body e b h = cc
  by_role false x None body e b h = all_tested (has_number m s which) (pruned body) (subst (λ c. Calls (λ c. has_number m s which c ≡ false) (pruned c)) (sym b) h)
  by_role false x (Some f) body e b h = all_tested (has_number m s which) (pruned body) (subst (λ c. Calls (λ c. has_number m s which c ≡ false) (pruned c)) (sym b) h)

  own_tested : (x : ℕ) (g : Func) → x < func_space m → defined_at flat_one x ≡ Some g → is_told (slice_get which x) ≡ false → AllTested (λ c. not (has_number m s which c)) (calls_of (pruned g.body))
  own_tested x g lt e un = by (pr.twin x lt)
    where
      pr : Paired (setting (world_of (core_of m s which frames plan p0)) 0)
      pr = paired m s which frames plan p0 valid tells em plan_fits codes 0

      by : Twin (sides_of (setting (world_of (core_of m s which frames plan p0)) 0)) x → AllTested (λ c. not (has_number m s which c)) (calls_of (pruned g.body))
      by (both_import none1 none2) = let z : None ≡ Some g = sym none1 ∙ e in cc
      by (both_defined g1 g2 is1 is2 b1 b2 ls size) =
          let same : g1 ≡ g = the_func g1 g (sym is1 ∙ e) in
          by_role (is_told (slice_get which x)) x (defined_at m x) g.body un (ap (λ (z : Func). z.body) (sym same) ∙ b1) (pr.calls x lt)

  -- one of the runtime's
  runtime_tested : (x : ℕ) (g : Func) → func_space m ≤ x → defined_at flat_one x ≡ Some g → AllTested (λ c. not (has_number m s which c)) (calls_of (pruned g.body))
  runtime_tested x g ge e = by (nat_lt x (func_imports flat_one)) refl e
    where
      by : (b : Bool) → nat_lt x (func_imports flat_one) ≡ b → (if b then None else slice_get (slim.funcs ++ behind_it) (x - func_imports flat_one)) ≡ Some g
          → AllTested (λ c. not (has_number m s which c)) (calls_of (pruned g.body))
      by true z h = cc
      by false z h =
          let le = ltb-false x (func_imports flat_one) z in
          let fits = slim_fits m s which frames plan p0 valid tells em plan_fits codes in
          let n1 = ap length fits.sorts in
          let n2 = length-append (imported imported_func slim) (map (λ (f : Func). f.sort) slim.funcs) in
          let n3 = length-map slim.funcs (λ (f : Func). f.sort) in
          let n4 = base_space m in
          let at : slice_get (slim.funcs ++ behind_it) (x - func_imports flat_one) ≡ slice_get behind_it (x - func_imports flat_one - length slim.funcs) =
          behind slim.funcs behind_it (x - func_imports flat_one) (x - func_imports flat_one - length slim.funcs) (omega arith) in
          let none = each_got (λ (g : Func). calls_of (pruned g.body) ≡ []) behind_it (x - func_imports flat_one - length slim.funcs) g
          (runtime_calls (length m.types) (global_space m) (global_space m + 1)) (sym at ∙ h) in
          subst (AllTested (λ c. not (has_number m s which c))) (sym none) tt

  -- A FUNCTION THAT ISN'T TOLD makes no numbered call
  pub untold_tested : (x : ℕ) (g : Func) → defined_at (world_of (core_of m s which frames plan p0)).flat x ≡ Some g → is_told (slice_get which x) ≡ false
      → AllTested (λ c. not (has_number m s which c)) (calls_of (pruned g.body))
  untold_tested x g e un = ⊎_elim (λ lt. own_tested x g lt e un) (λ ge. runtime_tested x g ge e) (cases_lt x (func_space m))
