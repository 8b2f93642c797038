-- What the flat module has of the original's, also with the runtime's functions behind its own.
use Rattle.std.proofs.Common.{◌≡◌, ℕ, ◌+◌, ◌<◌, ◌≤◌, [], map, length, refl, sym, ap, ◌∙◌, arith, append-nil, length-append}
use Rattle.std.specs.Prelude.{slice_get}
use Rattle.wa_types.specs.Base.{Base}
use Rattle.wa_types.specs.Modules.{all_globals, defined_at, func_imports, func_sorts, func_type_at, imported, imported_func, or_empty, type_at}
use Rattle.wa_types.specs.Runtime.{func_space, global_space, runtime_types, runtime_funcs}
use Rattle.wa_types.specs.Syntax.{Func, Module}
use Rattle.wa_types.specs.Validity.{Valid}
use Rattle.wa_types.specs.Typing.{listed}
use Rattle.wa_model.specs.Configuration.{Configuration}
use Rattle.run_theory.specs.Fitting.{results_of}
use Rattle.run_theory.specs.Growth.{ConfigNamed, NextNamed, Spaces, grown_config, grown_next, grown_store, spaces_of}
use Rattle.wa_model.specs.Step.{Next, steps, asks, returns, traps, stuck, step}
use Rattle.wa_model.specs.Store.{Store}
use Rattle.run_theory.proofs.GrownSteps.{step_stays, type_stays, func_type_stays, defined_stays, ModuleNamed}
use Rattle.run_theory.proofs.NamedModules.{valid_named}
use Rattle.run_theory.proofs.BaseValid.{base_valid}
use Rattle.headline.specs.Core.{Core, CoreFits, based, with_runtime_funcs}

same_store : (s : Store) → grown_store [] s ≡ s
same_store s = ap (λ gs. record { globals = gs; memory = s.memory; table = s.table }) (append-nil s.globals)

same_config : (c : Configuration) → grown_config [] c ≡ c
same_config c = ap (λ s. record { store = s; here = c.here; under = c.under }) (same_store c.store)

same_next : (o : Next) → grown_next [] o ≡ o
same_next (steps k d) = ap (steps k) (same_config d)
same_next (asks k i args d) = ap (asks k i args) (same_config d)
same_next (returns k vs s) = ap (returns k vs) (same_store s)
same_next (traps k t s) = ap (traps k t) (same_store s)
same_next stuck = refl

based_funcs : (m : Module) → length (func_sorts (Base m)) ≡ func_space m
unfolding Base
based_funcs m = refl

based_types : (m : Module) → length (Base m).types ≡ length m.types
unfolding Base
based_types m = refl

based_globals : (m : Module) → length (all_globals (Base m)) ≡ global_space m
unfolding Base
based_globals m = refl

module _ (k : Core) (fit : CoreFits k) where
  abbrev b : Module
  b = based k

  -- the module that the headline has
  abbrev pub p2 : Module
  p2 = with_runtime_funcs k.original k.flat

  abbrev pub n : Spaces
  n = spaces_of k.flat

  pub based_valid : Valid (based k)
  based_valid = base_valid k.original fit.valid

  pub names_there : ModuleNamed k.flat
  names_there = valid_named k.flat fit.flat_valid

  pub sorts_same : func_sorts k.flat ≡ func_sorts (based k)
  sorts_same = fit.sorts

  pub type_same : (t : ℕ) → type_at k.flat t ≡ type_at (based k) t
  type_same t = ap (λ z. type_at z t) fit.functions_alone

  pub func_type_same : (x : ℕ) → func_type_at k.flat x ≡ func_type_at (based k) x
  func_type_same x =
      ap (λ z. or_empty (slice_get (map (type_at z) (func_sorts k.flat)) x)) fit.functions_alone
      ∙ ap (λ ss. or_empty (slice_get (map (type_at b) ss) x)) fit.sorts

  pub results_same : (x : ℕ) → results_of k.flat x ≡ results_of (based k) x
  results_same x = ap (λ t. listed (slice_get t.results 0)) (func_type_same x)

  pub imports_same : func_imports k.flat ≡ func_imports (based k)
  imports_same = ap func_imports fit.functions_alone

  pub globals_same : all_globals k.flat ≡ all_globals (based k)
  globals_same = ap all_globals fit.functions_alone

  -- how many of each there are
  pub spaces_are : n ≡ record { types = length k.original.types; funcs = func_space k.original; globals = global_space k.original }
  spaces_are =
      ap (λ z. record { types = length z.types; funcs = length (func_sorts k.flat); globals = length (all_globals k.flat) }) fit.functions_alone
      ∙ ap (λ i. record { types = i; funcs = length (func_sorts k.flat); globals = length (all_globals k.flat) }) (based_types k.original)
      ∙ ap (λ i. record { types = length k.original.types; funcs = length i; globals = length (all_globals k.flat) }) sorts_same
      ∙ ap (λ i. record { types = length k.original.types; funcs = i; globals = length (all_globals k.flat) }) (based_funcs k.original)
      ∙ ap (λ i. record { types = length k.original.types; funcs = func_space k.original; globals = length i }) globals_same
      ∙ ap (λ i. record { types = length k.original.types; funcs = func_space k.original; globals = i }) (based_globals k.original)

  pub funcs_are : n.funcs ≡ func_space k.original
  funcs_are = ap (λ (z : Spaces). z.funcs) spaces_are

  pub types_are : n.types ≡ length k.original.types
  types_are = ap (λ (z : Spaces). z.types) spaces_are

  pub imports_few : func_imports (based k) ≤ func_space k.original
  imports_few =
      let l = length-append (imported imported_func b) (map (λ (f : Func). f.sort) b.funcs) in
      let z = based_funcs k.original in
      omega arith

  -- the runtime's functions behind leave each reduction as it was
  pub steps_same : (c : Configuration) → ConfigNamed (spaces_of k.flat) c → (step p2 c ≡ step k.flat c) × NextNamed (spaces_of k.flat) (step k.flat c)
  steps_same c h =
      let r = step_stays k.flat runtime_types (runtime_funcs (length k.original.types) (global_space k.original) (global_space k.original + 1)) [] [] names_there [] c h in
      (ap (step p2) (sym (same_config c)) ∙ r.0 ∙ same_next (step k.flat c), r.1)

  pub grown_type : (t : ℕ) → t < n.types → type_at p2 t ≡ type_at k.flat t
  grown_type t lt = type_stays k.flat runtime_types (runtime_funcs (length k.original.types) (global_space k.original) (global_space k.original + 1)) [] [] t lt

  pub grown_func_type : (x : ℕ) → x < n.funcs → func_type_at p2 x ≡ func_type_at k.flat x
  grown_func_type x lt = func_type_stays k.flat runtime_types (runtime_funcs (length k.original.types) (global_space k.original) (global_space k.original + 1)) [] [] names_there x lt

  pub grown_defined : (x : ℕ) → x < n.funcs → defined_at p2 x ≡ defined_at k.flat x
  grown_defined x lt = defined_stays k.flat runtime_types (runtime_funcs (length k.original.types) (global_space k.original) (global_space k.original + 1)) [] [] x lt
