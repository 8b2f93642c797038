-- A well-formed module with the runtime's parts is well formed.
use Rattle.std.proofs.Common.{arith, ℕ, ◌+◌, ◌<◌, ◌^◌, List, [], ◌∷◌, refl, length, IsUtf8, All}
use Rattle.std.specs.Prelude.{codes}
use Rattle.std.proofs.lemmas.List.Elements.{All-nil, All-cons, All-append}
use Rattle.wa_types.specs.declared.syntax.Run.{Run}
use Rattle.wa_types.specs.declared.syntax.Limits.{Limits}
use Rattle.wa_types.specs.Syntax.{Code, Func, GlobalDef, Module}
use Rattle.wa_types.specs.Base.{added_memories, one_page}
use Rattle.wa_types.specs.Modules.{all_memories}
use Rattle.wa_types.specs.Runtime.{with_runtime, runtime_func, runtime_funcs, runtime_globals, runtime_exports, zero_global, func_export, start_code, stop_code, state_code, test_code, func_space, global_space}
use Rattle.wa_types.specs.Sizes.{CodeFits, LimitsFit, FuncFits, ExportFits, WellFormed}
use Rattle.wasm_encode.specs.Locals.{local_count}
use Rattle.wasm_encode.specs.Modules.{FewLocals}

test_fits : (address : ℕ) → address < 2 ^ 32 → CodeFits (test_code address)
test_fits address a = (a, ((refl, omega arith, omega arith), (a, ((refl, omega arith, omega arith), (tt, ((tt, tt), tt, tt))))))

start_fits : (number state address : ℕ) → number < 2 ^ 32 → state < 2 ^ 32 → address < 2 ^ 32 → CodeFits (start_code number state address)
start_fits number state address n s a = (n, (s, (omega arith, (a, test_fits address a))))

stop_fits : (state address : ℕ) → state < 2 ^ 32 → address < 2 ^ 32 → CodeFits (stop_code state address)
stop_fits state address s a = (omega arith, (s, test_fits address a))

func_fits : (sort : ℕ) (body : Code) → sort < 2 ^ 32 → CodeFits body → FuncFits (runtime_func sort body)
func_fits sort body s b = record { sort = s; locals = All-nil (λ (r : Run). r.count < 2 ^ 32); body = b }

funcs_fit : (first state address : ℕ) → first + 2 < 2 ^ 32 → state < 2 ^ 32 → address < 2 ^ 32 → All FuncFits (runtime_funcs first state address)
funcs_fit first state address f s a =
    let x = runtime_func first (start_code 1 state address) in
    let y = runtime_func (first + 1) (stop_code state address) in
    let z = runtime_func first (start_code 2 state address) in
    let w = runtime_func (first + 2) (state_code state) in
    let fx : FuncFits x = func_fits first (start_code 1 state address) (omega (arith, f)) (start_fits 1 state address (omega arith) s a) in
    let fy : FuncFits y = func_fits (first + 1) (stop_code state address) (omega (arith, f)) (stop_fits state address s a) in
    let fz : FuncFits z = func_fits first (start_code 2 state address) (omega (arith, f)) (start_fits 2 state address (omega arith) s a) in
    let fw : FuncFits w = func_fits (first + 2) (state_code state) f (s, tt) in
    All-cons FuncFits x (y ∷ z ∷ y ∷ w ∷ []) fx
    (All-cons FuncFits y (z ∷ y ∷ w ∷ []) fy
    (All-cons FuncFits z (y ∷ w ∷ []) fz
    (All-cons FuncFits y (w ∷ []) fy
    (All-cons FuncFits w [] fw (All-nil FuncFits)))))

memories_fit : (ms : List Limits) → All LimitsFit (added_memories ms)
memories_fit [] = All-cons LimitsFit one_page [] (omega arith, omega arith) (All-nil LimitsFit)
memories_fit (m ∷ ms) = All-nil LimitsFit

globals_fit : All (λ (g : GlobalDef). CodeFits g.init) runtime_globals
globals_fit =
    let P : GlobalDef → Type 0 = λ g. CodeFits g.init in
    let zero : P zero_global = (omega arith, tt) in
    All-cons P zero_global (zero_global ∷ []) zero (All-cons P zero_global [] zero (All-nil P))

export_fits : (name : List ℕ) (index : ℕ) → IsUtf8 name → index < 2 ^ 32 → ExportFits (func_export name index)
export_fits name index n i = record { name = n; index = i }

exports_fit : (first : ℕ) → first + 4 < 2 ^ 32 → All ExportFits (runtime_exports first)
unfolding lib.Utf8.encode
exports_fit first f =
    let a = func_export (codes "asyncify_start_unwind") first in
    let b = func_export (codes "asyncify_stop_unwind") (first + 1) in
    let c = func_export (codes "asyncify_start_rewind") (first + 2) in
    let d = func_export (codes "asyncify_stop_rewind") (first + 3) in
    let e = func_export (codes "asyncify_get_state") (first + 4) in
    All-cons ExportFits a (b ∷ c ∷ d ∷ e ∷ []) (export_fits (codes "asyncify_start_unwind") first (codes "asyncify_start_unwind", (refl, refl)) (omega (arith, f)))
    (All-cons ExportFits b (c ∷ d ∷ e ∷ []) (export_fits (codes "asyncify_stop_unwind") (first + 1) (codes "asyncify_stop_unwind", (refl, refl)) (omega (arith, f)))
    (All-cons ExportFits c (d ∷ e ∷ []) (export_fits (codes "asyncify_start_rewind") (first + 2) (codes "asyncify_start_rewind", (refl, refl)) (omega (arith, f)))
    (All-cons ExportFits d (e ∷ []) (export_fits (codes "asyncify_stop_rewind") (first + 3) (codes "asyncify_stop_rewind", (refl, refl)) (omega (arith, f)))
    (All-cons ExportFits e [] (export_fits (codes "asyncify_get_state") (first + 4) (codes "asyncify_get_state", (refl, refl)) f) (All-nil ExportFits)))))

pub grown_fits : (m : Module) → WellFormed m → length m.types < 2 ^ 31 → func_space m < 2 ^ 31 → global_space m < 2 ^ 31 → WellFormed (with_runtime m)
unfolding with_runtime
grown_fits m w t f g = record {
  imports = w.imports;
  funcs = All-append FuncFits m.funcs (runtime_funcs (length m.types) (global_space m) (global_space m + 1))
      w.funcs (funcs_fit (length m.types) (global_space m) (global_space m + 1) (omega (arith, t)) (omega (arith, g)) (omega (arith, g)));
  tables = w.tables;
  memories = All-append LimitsFit m.memories (added_memories (all_memories m)) w.memories (memories_fit (all_memories m));
  globals = All-append (λ (d : GlobalDef). CodeFits d.init) m.globals runtime_globals w.globals globals_fit;
  exports = All-append ExportFits m.exports (runtime_exports (func_space m)) w.exports (exports_fit (func_space m) (omega (arith, f)));
  start = w.start;
  elems = w.elems;
  segments = w.segments;
  customs = w.customs;
}

pub bare : (sort : ℕ) (body : Code) → local_count (runtime_func sort body).locals < 2 ^ 32
bare sort body = omega arith

-- The runtime's functions declare no locals.
pub grown_locals : (m : Module) → FewLocals m → FewLocals (with_runtime m)
unfolding with_runtime
grown_locals m h =
    let P : Func → Type 0 = λ f. local_count f.locals < 2 ^ 32 in
    let first = length m.types in
    let state = global_space m in
    let a = runtime_func first (start_code 1 state (state + 1)) in
    let b = runtime_func (first + 1) (stop_code state (state + 1)) in
    let c = runtime_func first (start_code 2 state (state + 1)) in
    let d = runtime_func (first + 2) (state_code state) in
    All-append P m.funcs (runtime_funcs first state (state + 1)) h
    (All-cons P a (b ∷ c ∷ b ∷ d ∷ []) (bare first (start_code 1 state (state + 1)))
    (All-cons P b (c ∷ b ∷ d ∷ []) (bare (first + 1) (stop_code state (state + 1)))
    (All-cons P c (b ∷ d ∷ []) (bare first (start_code 2 state (state + 1)))
    (All-cons P b (d ∷ []) (bare (first + 1) (stop_code state (state + 1)))
    (All-cons P d [] (bare (first + 2) (state_code state)) (All-nil P))))))
