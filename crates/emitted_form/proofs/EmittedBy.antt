-- Where the functions of the emitted module stand, and what of the module stays, whatever the codes of frames.
use Rattle.std.proofs.Common.{◌≡◌, ◌∙◌, ℕ, zero, suc, ◌+◌, ◌-◌, List, [], ◌∷◌, ◌++◌, length, map, drop, Some, None, Bool, true, false, refl, sym, ap, arith}
use Rattle.std.specs.Prelude.{slice_get, nat_lt, if◌then◌else◌}
use Rattle.std.specs.Option.{option_map}
use Rattle.std.proofs.lemmas.Bool.{ltb-false, le-ltb}
use Rattle.std.proofs.lemmas.List.{map-append, length-map}
use Rattle.std.proofs.lemmas.Option.{slice_get_within}
use Rattle.std.proofs.Math.Seq.{drop-append_seam}
use Rattle.wa_types.specs.Modules.{imported, imported_func, func_imports, func_sorts, func_types, type_at, defined_at, around}
use Rattle.wa_types.specs.Pausing.{Settings, is_told}
use Rattle.wa_types.specs.Runtime.{global_space, runtime_funcs, with_runtime}
use Rattle.wa_types.specs.Syntax.{Func, FuncType, Module}
use Rattle.wa_types.specs.Typing.{Around}
use Rattle.run_theory.proofs.GrownSteps.{front}
use Rattle.emitted_form.specs.EmittedBy.{FrameCode, written_by, func_by, funcs_by, asyncified_by}

abbrev pub sort_of : Func → ℕ
sort_of f = f.sort

pub defined_of : (m : Module) (i : ℕ) (f : Func) → slice_get m.funcs i ≡ Some f → defined_at m (func_imports m + i) ≡ Some f
defined_of m i f e =
    let n : ℕ = func_imports m in
    let z : nat_lt (n + i) n ≡ false = le-ltb (n + i) n (omega arith) in
    let k : (n + i) - n ≡ i = omega arith in
    ap (λ (b : Bool). if b then None else slice_get m.funcs ((n + i) - n)) z ∙ ap (slice_get m.funcs) k ∙ e

-- it stands at a place among the defined ones
pub defined_where : (m : Module) (x : ℕ) (f : Func) → defined_at m x ≡ Some f → (i : ℕ) × (slice_get m.funcs i ≡ Some f)
defined_where m x f = by (nat_lt x (func_imports m))
  where
    by : (b : Bool) → (if b then None else slice_get m.funcs (x - func_imports m)) ≡ Some f → (i : ℕ) × (slice_get m.funcs i ≡ Some f)
    by true e = cc
    by false e = (x - func_imports m, e)

module _ (m : Module) (s : Settings) (which : List Bool) (codes : (index : ℕ) → Func → FrameCode) where
  -- the functions as they are written, without the runtime's parts
  abbrev pub inner : Module
  inner = record m { funcs = funcs_by m s which codes (func_imports m) m.funcs }

  abbrev pub emitted : Module
  emitted = asyncified_by m s which codes

  abbrev pub runtime : List Func
  runtime = runtime_funcs (length m.types) (global_space m) (global_space m + 1)

  -- ---- functions

  pub told : (x : ℕ) (f : Func) → is_told (slice_get which x) ≡ true → func_by m s which codes x f ≡ written_by m s which codes x f
  told x f e = ap (λ (b : Bool). if b then written_by m s which codes x f else f) e

  pub not_told : (x : ℕ) (f : Func) → is_told (slice_get which x) ≡ false → func_by m s which codes x f ≡ f
  not_told x f e = ap (λ (b : Bool). if b then written_by m s which codes x f else f) e

  pub same_sort : (x : ℕ) (f : Func) → (func_by m s which codes x f).sort ≡ f.sort
  same_sort x f = by (is_told (slice_get which x))
    where
      by : (b : Bool) → (if b then written_by m s which codes x f else f).sort ≡ f.sort
      by true = refl
      by false = refl

  sorts_from : (x : ℕ) (fs : List Func) → map sort_of (funcs_by m s which codes x fs) ≡ map sort_of fs
  sorts_from x [] = refl
  sorts_from x (f ∷ fs) = ap (λ k. k ∷ map sort_of (funcs_by m s which codes (suc x) fs)) (same_sort x f) ∙ ap (λ ks. f.sort ∷ ks) (sorts_from (suc x) fs)

  pub same_sorts : map sort_of inner.funcs ≡ map sort_of m.funcs
  same_sorts = sorts_from (func_imports m) m.funcs

  pub same_length : length inner.funcs ≡ length m.funcs
  same_length = sym (length-map inner.funcs sort_of) ∙ ap length same_sorts ∙ length-map m.funcs sort_of

  found_from : (x i y : ℕ) (fs : List Func) → y ≡ x + i → slice_get (funcs_by m s which codes x fs) i ≡ option_map (func_by m s which codes y) (slice_get fs i)
  found_from x i y [] e = refl
  found_from x zero y (f ∷ fs) e = let z : x ≡ y = omega arith in ap (λ j. Some (func_by m s which codes j f)) z
  found_from x (suc i) y (f ∷ fs) e = found_from (suc x) i y fs (omega arith)

  -- the function at a place among the defined ones
  pub inner_at : (i : ℕ) → slice_get inner.funcs i ≡ option_map (func_by m s which codes (func_imports m + i)) (slice_get m.funcs i)
  inner_at i = found_from (func_imports m) i (func_imports m + i) m.funcs refl

  pub funcs_are : emitted.funcs ≡ inner.funcs ++ runtime
  unfolding with_runtime
  funcs_are = refl

  pub emitted_at : (i : ℕ) (f : Func) → slice_get m.funcs i ≡ Some f → slice_get emitted.funcs i ≡ Some (func_by m s which codes (func_imports m + i) f)
  emitted_at i f e =
      let lt = slice_get_within m.funcs i f e in
      let same = same_length in
      ap (λ fs. slice_get fs i) funcs_are ∙ front inner.funcs runtime i (omega arith) ∙ inner_at i ∙ ap (option_map (func_by m s which codes (func_imports m + i))) e

  -- the function of an index
  pub defined_there : (x : ℕ) (f : Func) → defined_at m x ≡ Some f → defined_at emitted x ≡ Some (func_by m s which codes x f)
  unfolding with_runtime
  defined_there x f = by (nat_lt x (func_imports m)) refl
    where
      by : (b : Bool) → nat_lt x (func_imports m) ≡ b → (if b then None else slice_get m.funcs (x - func_imports m)) ≡ Some f
          → (if b then None else slice_get emitted.funcs (x - func_imports m)) ≡ Some (func_by m s which codes x f)
      by true e h = cc
      by false e h =
          let le = ltb-false x (func_imports m) e in
          let sum : func_imports m + (x - func_imports m) ≡ x = omega arith in
          emitted_at (x - func_imports m) f h ∙ ap (λ j. Some (func_by m s which codes j f)) sum

  pub runtime_behind : drop (length m.funcs) emitted.funcs ≡ runtime
  runtime_behind = ap (λ n. drop n emitted.funcs) (sym same_length) ∙ ap (drop (length inner.funcs)) funcs_are ∙ drop-append_seam inner.funcs runtime

  -- ---- what stays

  pub own_sorts : func_sorts inner ≡ func_sorts m
  own_sorts = ap (λ ks. imported imported_func m ++ ks) same_sorts

  pub all_sorts : func_sorts emitted ≡ func_sorts (with_runtime m)
  unfolding with_runtime
  all_sorts =
      ap (λ ks. imported imported_func m ++ ks)
      (map-append sort_of inner.funcs runtime ∙ ap (λ ks. ks ++ map sort_of runtime) same_sorts ∙ sym (map-append sort_of m.funcs runtime))

  pub all_types : func_types emitted ≡ func_types (with_runtime m)
  unfolding with_runtime
  all_types = ap (map (type_at (with_runtime m))) all_sorts

  abbrev context : Func → List FuncType → Around
  context f fs = let c : Around = around (with_runtime m) f in record { types = c.types; funcs = fs; table = c.table; memory = c.memory; globals = c.globals; locals = c.locals; result = c.result }

  -- the same stands around a body as in the original with the runtime's parts
  pub same_around : (f : Func) → around emitted f ≡ around (with_runtime m) f
  unfolding with_runtime
  same_around f = ap (context f) all_types
