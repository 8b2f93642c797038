-- What is written of what is emitted with asserts.
use Rattle.std.proofs.Common.{◌≡◌, ℕ, suc, ◌^◌, ◌<◌, ◌≤◌, List, [], ◌∷◌, length, map, Option, Some, None, Bool, true, false, All, sym, ap, subst, arith}
use Rattle.std.specs.Prelude.{not, slice_get, if◌then◌else◌}
use Rattle.std.proofs.lemmas.List.{length-map}
use Rattle.std.proofs.lemmas.List.Elements.{All-cons, All-head, All-nil, All-tail}
use Rattle.wa_types.specs.Counts.{depth_of}
use Rattle.wa_types.specs.Encoding.{Enc}
use Rattle.wa_types.specs.ModuleBounds.{prepared_bounds}
use Rattle.wa_types.specs.Modules.{func_imports}
use Rattle.wa_types.specs.Norm.{Norm}
use Rattle.wa_types.specs.Pausing.{Callee, Settings, callee, has_number, is_told}
use Rattle.wa_types.specs.Pruned.{is_last}
use Rattle.wa_types.specs.Reading.{SpellsModule}
use Rattle.wa_types.specs.Runtime.{global_space}
use Rattle.wa_types.specs.Syntax.{Code, branch, done, nest, plain, Func, FuncType, Module}
use Rattle.file_laws.proofs.FileWriting.{written_spells}
use Rattle.wasm_encode.specs.Locals.{local_count}
use Rattle.wasm_encode.specs.Modules.{FewLocals}
use Rattle.wasm_reader.specs.Answers.{IsAccepted}
use Rattle.wasm_reader.specs.Locals.{func_locals}
use Rattle.guard_form.specs.Asserts.{any_callee, asserted_reached, tested_behind}
use Rattle.guard_form.proofs.Growing.{depths_grow}
use Rattle.emitted_form.proofs.BytesByPolicy.{few_as}
use Rattle.emitted_form.proofs.Levels.{Levels}
use Rattle.emitted_form.proofs.Numbers.{functions_of}
use Rattle.emitted_form.proofs.Prepared.{LowModule, emitted_low, low_prepared, merged_func, wider_levels}
use Rattle.assert_laws.specs.AssertedModules.{AssertedHasFewLocals, AssertedIsPrepared, AssertedIsSpelled}
use Rattle.assert_laws.specs.EmittedWithAsserts.{asserted_body, func_with_asserts, funcs_with_asserts, module_with_asserts}
use Rattle.assert_laws.proofs.EmittedAsserts.{well_formed_law}
use Rattle.assert_laws.proofs.ModuleWithAsserts.{sorts_from}
use Rattle.assert_laws.proofs.WrittenWithAsserts.{codes_of}

-- ---- nesting

any_depth : (st : ℕ) (o : Option Callee) (c : Code) (n : ℕ) → depth_of c ≤ suc n → depth_of (tested_behind any_callee st o c) ≤ suc n
unfolding depth_of
any_depth st None c n h = h
any_depth st (Some x) c n h = omega arith

reached_depth : (st : ℕ) (c : Code) → depth_of (asserted_reached st c) ≤ suc (depth_of c)
unfolding depth_of asserted_reached
reached_depth st done = omega arith
reached_depth st (plain p rest) = by (is_last p) (reached_depth st rest)
  where
    by : (b : Bool) → depth_of (asserted_reached st rest) ≤ suc (depth_of rest)
        → depth_of (if b then rest else tested_behind any_callee st (callee p) (asserted_reached st rest)) ≤ suc (depth_of rest)
    by true ih = omega arith
    by false ih = any_depth st (callee p) (asserted_reached st rest) (depth_of rest) ih
reached_depth st (nest s r body rest) = let a = reached_depth st body in let b = reached_depth st rest in omega arith
reached_depth st (branch r a b rest) = let x = reached_depth st a in let y = reached_depth st b in let z = reached_depth st rest in omega arith

body_depth : (tests : Callee → Bool) (st : ℕ) (b : Bool) (c : Code) → depth_of (asserted_body tests st b c) ≤ suc (depth_of c)
body_depth tests st true c = depths_grow tests st c
body_depth tests st false c = reached_depth st c

-- ---- functions

module _ (m : Module) (s : Settings) (which : List Bool) where
  few_from : (x : ℕ) (gs : List Func) → All (λ f. local_count f.locals < 2 ^ 32) gs → All (λ f. local_count f.locals < 2 ^ 32) (funcs_with_asserts m s which x gs)
  few_from x [] h = All-nil (λ (f : Func). local_count f.locals < 2 ^ 32)
  few_from x (g ∷ gs) h =
      All-cons (λ (f : Func). local_count f.locals < 2 ^ 32) (func_with_asserts m s which x g) (funcs_with_asserts m s which (suc x) gs)
      (All-head (λ (f : Func). local_count f.locals < 2 ^ 32) g gs h) (few_from (suc x) gs (All-tail (λ (f : Func). local_count f.locals < 2 ^ 32) g gs h))

  levels_from : (n x : ℕ) (gs : List Func) → All (λ (f : Func). depth_of f.body ≤ n) (map merged_func gs)
      → All (λ (f : Func). depth_of f.body ≤ suc n) (map merged_func (funcs_with_asserts m s which x gs))
  levels_from n x [] h = All-nil (λ (f : Func). depth_of f.body ≤ suc n)
  levels_from n x (g ∷ gs) h =
      let here = All-head (λ (f : Func). depth_of f.body ≤ n) (merged_func g) (map merged_func gs) h in
      let grows = body_depth (λ c. not (has_number m s which c)) (global_space m) (is_told (slice_get which x)) g.body in
      All-cons (λ (f : Func). depth_of f.body ≤ suc n) (merged_func (func_with_asserts m s which x g)) (map merged_func (funcs_with_asserts m s which (suc x) gs)) (omega (arith, here, grows))
      (levels_from n (suc x) gs (All-tail (λ (f : Func). depth_of f.body ≤ n) (merged_func g) (map merged_func gs) h))

  locals_from : (ts : List FuncType) (x : ℕ) (gs : List Func) → All (λ (f : Func). func_locals ts f ≤ 50000) (map merged_func gs)
      → All (λ (f : Func). func_locals ts f ≤ 50000) (map merged_func (funcs_with_asserts m s which x gs))
  locals_from ts x [] h = All-nil (λ (f : Func). func_locals ts f ≤ 50000)
  locals_from ts x (g ∷ gs) h =
      All-cons (λ (f : Func). func_locals ts f ≤ 50000) (merged_func (func_with_asserts m s which x g)) (map merged_func (funcs_with_asserts m s which (suc x) gs))
      (All-head (λ (f : Func). func_locals ts f ≤ 50000) (merged_func g) (map merged_func gs) h)
      (locals_from ts (suc x) gs (All-tail (λ (f : Func). func_locals ts f ≤ 50000) (merged_func g) (map merged_func gs) h))

  module _ (p0 : Module) where
    levels_with : Levels 3007 (Norm p0) → Levels 3008 (Norm (module_with_asserts m s which p0))
    unfolding Norm
    levels_with l =
        let w = wider_levels 3007 3008 (Norm p0) (omega arith) l in
        record { funcs = levels_from 3007 (func_imports p0) p0.funcs l.funcs; globals = w.globals; elems = w.elems; segments = w.segments }

    locals_with : All (λ (f : Func). func_locals p0.types f ≤ 50000) (Norm p0).funcs → All (λ (f : Func). func_locals p0.types f ≤ 50000) (Norm (module_with_asserts m s which p0)).funcs
    unfolding Norm
    locals_with h = locals_from p0.types (func_imports p0) p0.funcs h

    functions_same : functions_of (Norm (module_with_asserts m s which p0)) ≡ functions_of (Norm p0)
    unfolding Norm
    functions_same =
        let a = length-map (funcs_with_asserts m s which (func_imports p0) p0.funcs) merged_func in
        let b = length-map p0.funcs merged_func in
        let c = ap length (sorts_from m s which (func_imports p0) p0.funcs) in
        let d = length-map (funcs_with_asserts m s which (func_imports p0) p0.funcs) (λ (f : Func). f.sort) in
        let e = length-map p0.funcs (λ (f : Func). f.sort) in omega (arith, a, b, c, d, e)

    prepared_with : LowModule p0 → length (Enc (module_with_asserts m s which p0)) ≤ 67108864
        → SpellsModule (Enc (module_with_asserts m s which p0)) (Norm (module_with_asserts m s which p0))
        → IsAccepted prepared_bounds (Enc (module_with_asserts m s which p0)) (Norm (module_with_asserts m s which p0))
    prepared_with low short spelled =
        let functions = low.functions in
        let same = functions_same in
        low_prepared (module_with_asserts m s which p0) (levels_with low.levels) (locals_with low.locals) (omega (arith, same, functions)) low.params short spelled

-- ---- laws

pub few_law : AssertedHasFewLocals
few_law m s which q c h = subst FewLocals (sym h.is) (few_from m s which (func_imports h.without) (h.without).funcs (few_as m s which h.without c h.emitted))

pub spelled_law : AssertedIsSpelled
spelled_law m s which q c h wf short = written_spells q (well_formed_law m s which q c h wf) (few_law m s which q c h) (omega (arith, short))

abbrev IsPreparedWhere : Module → Type 0
IsPreparedWhere q = length (Enc q) ≤ 67108864 → SpellsModule (Enc q) (Norm q) → IsAccepted prepared_bounds (Enc q) (Norm q)

pub prepared_law : AssertedIsPrepared
prepared_law m s which q bytes c h read =
    let f = codes_of m s which h.without c h.emitted in
    subst IsPreparedWhere (sym h.is)
    (prepared_with m s which h.without (subst LowModule (sym f.is) (emitted_low m s which f.codes bytes read c.valid f.hold c.few)))
