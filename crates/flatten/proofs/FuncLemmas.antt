-- Functions of valid modules, flattened.
use Rattle.std.proofs.Common.{◌≡◌, ℕ, ◌++◌, List, [], ◌∷◌, map, length, Option, None, Some, slice_get, refl, ap, sym, ◌∙◌, subst, get_or, nat_lt, if◌then◌else◌, Bool, true, false, replicate, length-append, ◌<◌, ◌≤◌, ◌-◌, ◌+◌, ◌^◌, zero, suc, arith}
use Rattle.std.specs.Option.{option_map}
use Rattle.std.specs.List.{sum_by}
use Rattle.std.proofs.lemmas.List.Sums.{sum_by-cons}
use Rattle.std.proofs.lemmas.Bool.{ltb-true}
use Rattle.std.proofs.lemmas.List.{length-map, get_or-map, length-replicate}
use Rattle.std.proofs.lemmas.Option.{slice_get-map, slice_get-get_or}
use Rattle.wa_types.specs.declared.syntax.Run.{Run}
use Rattle.wa_types.specs.declared.syntax.Func.{Func as FuncValue}
use Rattle.wa_types.specs.declared.syntax.FuncType.{FuncType as FuncTypeValue}
use Rattle.wa_types.specs.declared.syntax.Module.{Module as ModuleValue}
use Rattle.wa_types.specs.Syntax.{Code, Func, FuncType, Module}
use Rattle.wa_types.specs.View.{code, func_of, func_type_of, module_of}
use Rattle.wa_types.specs.Validity.{Valid as IsValid}
use Rattle.wa_types.specs.Sizes.{code_items, params_of_type, FuncSizes, SizeRule, StrictSizeRule}
use Rattle.wa_types.specs.Modules.{around, locals_of, declared_locals, defined_at, func_imports, func_sorts, func_types, or_empty, type_at}
use Rattle.run_theory.proofs.FittingNames.{type_small, func_type_small}
use Rattle.wasm_validate.specs.Walk.{outset, TypedAt, Walk}
use Rattle.validate_bodies.proofs.ContextLemmas.{sort_there}
use Rattle.wasm_validate.proofs.FuncLemmas.{func_at, number_fits}
use Rattle.wasm_validate.proofs.WalkUses.{outset_typed}
use Rattle.flatten.specs.Emitting.{SmallTypes, result_at, flat_at}
use Rattle.wa_types.specs.declared.values.ValType.{ValType}
use Rattle.flat_laws.specs.Flatten.{Names, names, flattened, result_of}
use Rattle.run_theory.specs.Flat.{FlatFunc, Stmts}
use Rattle.flatten.specs.Surveying.{names_at}
use Rattle.wa_types.specs.Frames.{Pair, Count}

-- ---- a function of a valid module

below_each : (f : FuncType → Type 0) (ts : List FuncType) (x : ℕ) → f (or_empty None) → ((i : ℕ) (d : FuncType) → i < length ts → f (get_or ts i d)) → f (or_empty (slice_get ts x))
below_each f [] x none each = none
below_each f (t ∷ ts) zero none each = each 0 t (omega arith)
below_each f (t ∷ ts) (suc x) none each = below_each f ts x none (λ i d lt. each (suc i) d (omega arith))

few_params : (m : Module) (x : ℕ) → StrictSizeRule m → length (type_at m x).params < 2 ^ 31
few_params m x s = below_each (λ (t : FuncType). length t.params < 2 ^ 31) m.types x (omega arith) (λ i d lt. (s.each_type i d lt).params)

small_types : (m : Module) (f : Func) → IsValid m → StrictSizeRule m → SmallTypes (around m f)
small_types m f v s = record {
  funcs = λ x. record { params = at_sort x (slice_get (func_sorts m) x) (slice_get-map (type_at m) (func_sorts m) x); results = func_type_small m v x };
  sorts = λ x. record { params = few_params m x s; results = type_small m v x };
}
  where
    at_sort : (x : ℕ) → (o : Option ℕ) → slice_get (func_types m) x ≡ option_map (type_at m) o → length (or_empty (slice_get (func_types m) x)).params < 2 ^ 31
    at_sort x None e = subst (λ o. length (or_empty o).params < 2 ^ 31) (sym e) (omega arith)
    at_sort x (Some k) e = subst (λ o. length (or_empty o).params < 2 ^ 31) (sym e) (few_params m k s)

locals_count : (rs : List Run) → length (declared_locals rs) ≡ sum_by (λ (r : Run). r.count) rs
locals_count [] = refl
locals_count (r ∷ rs) =
    let here : length (declared_locals (r ∷ rs)) ≡ length (replicate r.count r.ty ++ declared_locals rs) = refl in
    omega (arith, here, sum_by-cons (λ (z : Run). z.count) r rs, length-append (replicate r.count r.ty) (declared_locals rs), length-replicate r.count r.ty, locals_count rs)

params_at : (ts : List FuncType) (x : ℕ) → params_of_type ts x ≡ length (or_empty (slice_get ts x)).params
params_at [] x = refl
params_at (t ∷ ts) zero = refl
params_at (t ∷ ts) (suc x) = params_at ts x

module _ (v : ModuleValue) (i : ℕ) (f : FuncValue) (lt : i < length v.funcs.items) (at : f ≡ get_or v.funcs.items i f) (valid : IsValid (module_of v)) where
  func_there : slice_get (module_of v).funcs i ≡ Some (func_of f)
  func_there = func_at v.funcs.items i f lt at

  pub sort_below : f.sort < length v.types.items
  sort_below = sort_there v i f valid.sorts lt at

  begins_typed : TypedAt (outset (around (module_of v) (func_of f))) (code f.body.items)
  begins_typed = outset_typed (module_of v) i (func_of f) valid func_there

  defined : defined_at (module_of v) (func_imports (module_of v) + i) ≡ Some (func_of f)
  defined = by (nat_lt (func_imports (module_of v) + i) (func_imports (module_of v))) refl
    where
      by : (b : Bool) → nat_lt (func_imports (module_of v) + i) (func_imports (module_of v)) ≡ b
          → (if b then None else slice_get (module_of v).funcs (func_imports (module_of v) + i - func_imports (module_of v))) ≡ Some (func_of f)
      by true e = let z = ltb-true (func_imports (module_of v) + i) (func_imports (module_of v)) e in absurd (omega (arith, z))
      by false e = let same : func_imports (module_of v) + i - func_imports (module_of v) ≡ i = omega arith in ap (slice_get (module_of v).funcs) same ∙ func_at v.funcs.items i f lt at

  number_few : SizeRule (module_of v) → func_imports (module_of v) + i < 2 ^ 32
  number_few wide = number_fits (module_of v) i wide (omega (arith, lt, length-map v.funcs.items func_of))

  module _ (t : FuncTypeValue) (ta : t ≡ get_or v.types.items f.sort t) where
    type_is : type_at (module_of v) f.sort ≡ func_type_of t
    type_is = ap or_empty (slice_get-map func_type_of v.types.items f.sort ∙ ap (option_map func_type_of) (slice_get-get_or v.types.items f.sort t sort_below ∙ ap (λ z. Some z) (sym ta)))

    result_is : (around (module_of v) (func_of f)).result ≡ slice_get t.results.items 0
    result_is = ap (λ (z : FuncType). slice_get z.results 0) type_is

    all_few : StrictSizeRule (module_of v) → length t.params.items + length (declared_locals f.locals.items) + code_items (code f.body.items) + 1 < 2 ^ 31
    all_few sizes =
        let s = sizes.each_func i (func_of f) (omega (arith, lt, length-map v.funcs.items func_of)) in
        let same : get_or (module_of v).funcs i (func_of f) ≡ func_of f = get_or-map func_of v.funcs.items i f (func_of f) lt ∙ ap func_of (sym at) in
        let s2 = subst (FuncSizes (2 ^ 31) (2 ^ 31) (module_of v)) same s in
        omega (arith, s2.total, locals_count f.locals.items, params_at (module_of v).types f.sort, ap (λ (z : FuncType). length z.params) type_is)

-- What is known of the function at hand, with its type.
pub record AtHand (m : Module) (x : ℕ) (f : FuncValue) (t : FuncTypeValue) (i : ℕ) : Type 0 where
  pub there : slice_get m.funcs i ≡ Some (func_of f)
  pub defined : defined_at m x ≡ Some (func_of f)
  pub begins : TypedAt (outset (around m (func_of f))) (code f.body.items)
  pub small : SmallTypes (around m (func_of f))
  pub type_is : type_at m f.sort ≡ func_type_of t
  pub result_is : (around m (func_of f)).result ≡ slice_get t.results.items 0
  pub few : length t.params.items + length (declared_locals f.locals.items) + code_items (code f.body.items) + 1 < 2 ^ 31
  pub number : x < 2 ^ 32

-- it and its type were read off a module, which is this one
pub at_hand : {v m : ModuleValue} {i imports : ℕ} {f : FuncValue} {t : FuncTypeValue} → m ≡ v → IsValid (module_of m) → SizeRule (module_of m) → StrictSizeRule (module_of v)
    → imports ≡ func_imports (module_of v) → i < length v.funcs.items → f ≡ get_or m.funcs.items i f → t ≡ get_or m.types.items f.sort t → AtHand (module_of v) (imports + i) f t i
at_hand {v} {m} {i} {imports} {f} {t} same is_valid is_wide sizes first lt f_is t_is =
    let valid : IsValid (module_of v) = subst (λ (z : ModuleValue). IsValid (module_of z)) same is_valid in
    let wide : SizeRule (module_of v) = subst (λ (z : ModuleValue). SizeRule (module_of z)) same is_wide in
    let at : f ≡ get_or v.funcs.items i f = f_is ∙ ap (λ (z : ModuleValue). get_or z.funcs.items i f) same in
    let ta : t ≡ get_or v.types.items f.sort t = t_is ∙ ap (λ (z : ModuleValue). get_or z.types.items f.sort t) same in
    record {
      there = func_there v i f lt at valid;
      defined = ap (λ k. defined_at (module_of v) (k + i)) first ∙ defined v i f lt at valid;
      begins = begins_typed v i f lt at valid;
      small = small_types (module_of v) (func_of f) valid sizes;
      type_is = type_is v i f lt at valid t ta;
      result_is = result_is v i f lt at valid t ta;
      few = all_few v i f lt at valid t ta sizes;
      number = subst (λ k. k + i < 2 ^ 32) (sym first) (number_few v i f lt at valid wide);
    }

-- ---- what is answered of a function

abbrev pub mk_flat : ℕ → ℕ → List ValType → Option ℕ → Stmts → FlatFunc
mk_flat x s ls r b = record { func = x; sort = s; locals = ls; result = r; body = b }

pub same_one : (f g : Func) (o : Option Func) → o ≡ Some f → o ≡ Some g → f ≡ g
same_one f g o e h = cc

pub same_names : (m : Module) (f : Func) (n : Names) (w : Walk) (given : Option ValType) (first : ℕ) (k : Code) → n ≡ names_at first w given k → w ≡ outset (around m f)
    → given ≡ (around m f).result → first ≡ length (locals_of m f) → k ≡ f.body → n ≡ names m f
same_names m f n w given first k e ew eg ei ek =
    e ∙ ap (λ z. names_at z w given k) ei ∙ ap (λ z. names_at (length (locals_of m f)) z given k) ew ∙ ap (λ z. names_at (length (locals_of m f)) (outset (around m f)) z k) eg
    ∙ ap (λ z. names_at (length (locals_of m f)) (outset (around m f)) (around m f).result z) ek

pub same_flat : (m : Module) (f : Func) (n : Names) (w : Walk) (k : Code) (b : Stmts) → b ≡ flat_at n w k → n ≡ names m f → w ≡ outset (around m f) → k ≡ f.body → b ≡ (flattened m 0 f).body
same_flat m f n w k b e en ew ek = e ∙ ap (λ z. flat_at z w k) en ∙ ap (λ z. flat_at (names m f) z k) ew ∙ ap (flat_at (names m f) (outset (around m f))) ek

result_same : (n : Names) (o : Option ValType) → result_at n 0 o ≡ result_of n o
result_same n None = refl
result_same n (Some t) = refl

pub same_result : (m : Module) (f : Func) (n : Names) (given : Option ValType) (r : Option ℕ) → r ≡ result_at n 0 given → n ≡ names m f → given ≡ (around m f).result → r ≡ (flattened m 0 f).result
same_result m f n given r e en eg = e ∙ ap (λ z. result_at z 0 given) en ∙ ap (result_at (names m f) 0) eg ∙ result_same (names m f) (around m f).result

pub same_locals : (m : Module) (f : Func) (n : Names) (ps : List ValType) (rs : List Run) (ls : List ValType)
    → ls ≡ ((ps ++ declared_locals rs) ++ map (λ (p : Pair). p.ty) n.slots) ++ map (λ (p : Pair). p.ty) n.results → ps ≡ (type_at m f.sort).params → rs ≡ f.locals → n ≡ names m f
    → ls ≡ (flattened m 0 f).locals
same_locals m f n ps rs ls e ep er en =
    e ∙ ap (λ z. ((z ++ declared_locals rs) ++ map (λ (p : Pair). p.ty) n.slots) ++ map (λ (p : Pair). p.ty) n.results) ep
    ∙ ap (λ z. (((type_at m f.sort).params ++ declared_locals z) ++ map (λ (p : Pair). p.ty) n.slots) ++ map (λ (p : Pair). p.ty) n.results) er
    ∙ ap (λ (z : Names). (locals_of m f ++ map (λ (p : Pair). p.ty) z.slots) ++ map (λ (p : Pair). p.ty) z.results) en

pub answered : (m : Module) (x s : ℕ) (f g : Func) (o : Option Func) (ls : List ValType) (r : Option ℕ) (b : Stmts)
    → o ≡ Some f → o ≡ Some g → s ≡ f.sort → ls ≡ (flattened m 0 f).locals → r ≡ (flattened m 0 f).result → b ≡ (flattened m 0 f).body → Count m f ≤ 50000
    → (mk_flat x s ls r b ≡ flattened m x g) × (Count m g ≤ 50000)
answered m x s f g o ls r b ef eg es el er eb few =
    subst (λ (z : Func). (mk_flat x s ls r b ≡ flattened m x z) × (Count m z ≤ 50000)) (same_one f g o ef eg) (
      ap (λ z. mk_flat x z ls r b) es ∙ ap (λ z. mk_flat x f.sort z r b) el ∙ ap (λ z. mk_flat x f.sort (flattened m 0 f).locals z b) er
          ∙ ap (mk_flat x f.sort (flattened m 0 f).locals (flattened m 0 f).result) eb,
      few,
    )

-- so many locals, where the names end here
pub counted : (m : Module) (f : Func) (n : Names) (end at : ℕ) → n ≡ names m f → end ≡ at + length n.results → at ≡ n.first + length n.slots → end + 3 ≡ Count m f
counted m f n end at e1 e2 e3 = omega (arith, e2, e3, ap (λ (z : Names). z.first) e1, ap (λ (z : Names). length z.slots) e1, ap (λ (z : Names). length z.results) e1)

pub refused : (m : Module) (x count : ℕ) (f g : Func) (o : Option Func) → o ≡ Some f → o ≡ Some g → count ≡ Count m f → 50000 < count → (x ≡ x) × (count ≡ Count m g) × (50000 < Count m g)
refused m x count f g o ef eg ec gt =
    let e = same_one f g o ef eg in
    (refl, ec ∙ ap (Count m) e, subst (λ z. 50000 < Count m z) e (subst (λ z. 50000 < z) ec gt))
