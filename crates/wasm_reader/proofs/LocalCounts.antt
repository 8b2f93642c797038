-- Parameters and locals, counted step by step.
use Rattle.std.proofs.Common.{◌≡◌, ℕ, zero, suc, ◌+◌, ◌<◌, ◌≤◌, List, [], ◌∷◌, map, refl, ap, sym, ◌∙◌, arith, add-one, length, get_or, drop, drop-cons, Option, Some, None, slice_get, Bool}
use Rattle.std.proofs.Common.{true, false, cond, nat_lt}
use Rattle.std.proofs.lemmas.Bool.{lt-ltb, le-ltb}
use Rattle.std.proofs.lemmas.List.Sums.{sum_by-cons}
use Rattle.std.proofs.lemmas.List.{drop_all}
use Rattle.std.proofs.lemmas.Option.{slice_get-get_or, slice_get_past}
use Rattle.wa_types.specs.declared.syntax.Run.{Run}
use Rattle.wa_types.specs.declared.syntax.FuncType.{FuncType as FuncTypeValue}
use Rattle.wa_types.specs.declared.syntax.Func.{Func as FuncValue}
use Rattle.wa_types.specs.Syntax.{FuncType}
use Rattle.wa_types.specs.declared.syntax.Module.{Module as ModuleValue}
use Rattle.wa_types.specs.View.{func_type_of, func_of, module_of}
use Rattle.wa_types.specs.Marks.{first_above}
use Rattle.wa_types.specs.Sizes.{params_of_type}
use Rattle.wasm_reader.specs.Locals.{counts_of, func_locals, module_locals}

pub count_step : (runs : List Run) (i : ℕ) (x : Run) → i < length runs → x ≡ get_or runs i x → counts_of (drop i runs) ≡ x.count + counts_of (drop (i + 1) runs)
count_step runs i x h e =
    rw (add-one, drop-cons runs i x) (rw (sym e) (sum_by-cons (λ (r : Run). r.count) x (drop (suc i) runs)))

pub count_none : (runs : List Run) (i : ℕ) → length runs ≤ i → counts_of (drop i runs) ≡ 0
count_none runs i h = ap counts_of (drop_all i runs h)

pub ruleset counting = (count_step, count_none)

abbrev params_in : Option FuncTypeValue → ℕ
params_in None = 0
params_in (Some t) = length t.params.items

-- the parameters of a type
params_found : (ts : List FuncTypeValue) (x : ℕ) (o : Option FuncTypeValue) → slice_get ts x ≡ o → params_of_type (map func_type_of ts) x ≡ params_in o
params_found [] x None e = refl
params_found [] x (Some t) e = absurd (cc)
params_found (u ∷ ts) zero None e = absurd (cc)
params_found (u ∷ ts) zero (Some t) e = let same : u ≡ t = cc in ap (λ (z : FuncTypeValue). length z.params.items) same
params_found (u ∷ ts) (suc x) o e = params_found ts x o e

pub params_last : (ts : List FuncTypeValue) (x : ℕ) (t : FuncTypeValue) → x < length ts → t ≡ get_or ts x t → length t.params.items ≡ params_of_type (map func_type_of ts) x
params_last ts x t h e = sym (params_found ts x (Some t) (slice_get-get_or ts x t h ∙ ap Some (sym e)))

pub params_past : (ts : List FuncTypeValue) (x : ℕ) → length ts ≤ x → 0 ≡ params_of_type (map func_type_of ts) x
params_past ts x h = sym (params_found ts x None (slice_get_past ts x h))

pub ruleset finding = (params_last, params_past)

-- the functions from one on are judged by it, and then by the others
abbrev pub above_from : ℕ → List FuncType → List FuncValue → Option ℕ
above_from bound ts fs = first_above bound (map (func_locals ts) (map func_of fs))

above_at : (bound : ℕ) (ts : List FuncType) (fs : List FuncValue) (i : ℕ) (f : FuncValue) → i < length fs → f ≡ get_or fs i f
    → above_from bound ts (drop i fs) ≡ cond (nat_lt bound (func_locals ts (func_of f))) (Some (func_locals ts (func_of f))) (above_from bound ts (drop (i + 1) fs))
above_at bound ts fs i f h e = rw (add-one, drop-cons fs i f) (rw (sym e) refl)

chosen : {A : Type 0} (b : Bool) (x y : A) → b ≡ true → cond b x y ≡ x
chosen true x y e = refl
chosen false x y e = absurd (let f : false ≡ true = e in cc)

passed : {A : Type 0} (b : Bool) (x y : A) → b ≡ false → cond b x y ≡ y
passed false x y e = refl
passed true x y e = absurd (let f : true ≡ false = e in cc)

pub above_found : (bound : ℕ) (ts : List FuncType) (fs : List FuncValue) (i n : ℕ) (f : FuncValue) → i < length fs → f ≡ get_or fs i f → n ≡ func_locals ts (func_of f) → bound < n
    → Some n ≡ above_from bound ts (drop i fs)
above_found bound ts fs i n f h e c l =
    ap Some c ∙ sym (chosen _ _ _ (lt-ltb bound (func_locals ts (func_of f)) (omega (arith, l, c)))) ∙ sym (above_at bound ts fs i f h e)

pub above_on : (bound : ℕ) (ts : List FuncType) (fs : List FuncValue) (i n : ℕ) (f : FuncValue) → i < length fs → f ≡ get_or fs i f → n ≡ func_locals ts (func_of f) → n ≤ bound
    → above_from bound ts (drop (i + 1) fs) ≡ above_from bound ts (drop i fs)
above_on bound ts fs i n f h e c l =
    sym (passed _ _ _ (le-ltb bound (func_locals ts (func_of f)) (omega (arith, l, c)))) ∙ sym (above_at bound ts fs i f h e)

pub above_none : (bound : ℕ) (ts : List FuncType) (fs : List FuncValue) (i : ℕ) → length fs ≤ i → None ≡ above_from bound ts (drop i fs)
above_none bound ts fs i h = ap (above_from bound ts) (sym (drop_all i fs h))

pub ruleset judging = (above_found, above_on, above_none)

-- at the first function stands the whole module
pub above_first : (bound : ℕ) (m : ModuleValue) (fs : List FuncValue) → fs ≡ m.funcs.items
    → above_from bound (map func_type_of m.types.items) (drop 0 fs) ≡ first_above bound (module_locals (module_of m))
unfolding module_locals
above_first bound m fs e = ap (above_from bound (map func_type_of m.types.items)) e
