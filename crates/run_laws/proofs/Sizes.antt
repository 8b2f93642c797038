-- The runtime's parts keep the size rule.
use Rattle.std.proofs.Common.{arith, ◌≡◌, ◌<◌, ◌≤◌, ℕ, zero, suc, ◌+◌, ◌^◌, List, [], ◌∷◌, ◌++◌, length, map, All, refl, sym, ap, ◌∙◌, subst, append_assoc}
use Rattle.std.specs.List.{sum_by, flat_map}
use Rattle.std.proofs.lemmas.List.{length-append, map-append}
use Rattle.std.proofs.lemmas.List.Elements.{All-nil, All-cons, All-head, All-tail, All-append, All-weaker}
use Rattle.wa_types.specs.declared.values.ValType.TheVariants.{I32}
use Rattle.wa_types.specs.declared.syntax.Run.{Run}
use Rattle.wa_types.specs.declared.syntax.Import.{Import}
use Rattle.wa_types.specs.declared.syntax.Limits.{Limits}
use Rattle.wa_types.specs.Base.{added_memories}
use Rattle.wa_types.specs.Modules.{all_memories}
use Rattle.wa_types.specs.Syntax.{Plain, basic, local_get, local_set, local_tee, br, br_if, br_table, return, unreachable, call, call_indirect, Code, done, plain, nest, branch, FuncType}
use Rattle.wa_types.specs.Syntax.{Func, GlobalDef, Module}
use Rattle.wa_types.specs.Sizes.{params_of_type, kind_sorts, all_sorts, params_at_index, call_params, code_items, code_params, plain_lists, code_lists, FuncSizes, TypeSizes, ElemSizes, SegmentSizes}
use Rattle.wa_types.specs.Runtime.{global_space, runtime_types, zero_global, runtime_globals, runtime_func, runtime_funcs, runtime_exports, func_space, start_code, stop_code, state_code}
use Rattle.wa_types.specs.Runtime.{test_code, with_runtime}
use Rattle.run_laws.specs.RuntimeParts.{RuntimeKeepsSizes}

-- ---- parameters of calls

pub one_more : (ts : List FuncType) (sort : ℕ) → params_of_type (ts ++ runtime_types) sort ≤ params_of_type ts sort + 1
one_more [] zero = omega arith
one_more [] (suc zero) = omega arith
one_more [] (suc (suc zero)) = omega arith
one_more [] (suc (suc (suc sort))) = omega arith
one_more (t ∷ ts) zero = omega arith
one_more (t ∷ ts) (suc sort) = one_more ts sort

none_there : (ts : List FuncType) (j : ℕ) → params_of_type ts (length ts + j) ≡ 0
none_there [] j = refl
none_there (t ∷ ts) j = let z : suc (length ts) + j ≡ suc (length ts + j) = omega arith in ap (params_of_type (t ∷ ts)) z ∙ none_there ts j

-- sorts whose types have one parameter at most with the runtime's behind
abbrev FewParams : List FuncType → ℕ → Type 0
FewParams ts sort = params_of_type (ts ++ runtime_types) sort ≤ 1

few_behind : (ts : List FuncType) (j : ℕ) → FewParams ts (length ts + j)
few_behind ts j = let a = one_more ts (length ts + j) in let b = none_there ts j in omega (arith, a, b)

at_index : (ts : List FuncType) (sorts more : List ℕ) (x : ℕ) → All (FewParams ts) more → params_at_index (ts ++ runtime_types) (sorts ++ more) x ≤ params_at_index ts sorts x + 1
at_index ts [] [] x h = omega arith
at_index ts [] (s ∷ more) zero h = let a : FewParams ts s = All-head (FewParams ts) s more h in omega (arith, a)
at_index ts [] (s ∷ more) (suc x) h = at_index ts [] more x (All-tail (FewParams ts) s more h)
at_index ts (s ∷ sorts) more zero h = one_more ts s
at_index ts (s ∷ sorts) more (suc x) h = at_index ts sorts more x h

module _ (m : Module) where
  abbrev added : List Func
  added = runtime_funcs (length m.types) (global_space m) (global_space m + 1)

  abbrev added_sorts : List ℕ
  added_sorts = map (λ (f : Func). f.sort) added

  few_added : All (FewParams m.types) added_sorts
  few_added =
      let k : ℕ = length m.types in
      let P : ℕ → Type 0 = FewParams m.types in
      let z : k ≡ k + 0 = omega arith in
      let first : FewParams m.types k = subst (FewParams m.types) (sym z) (few_behind m.types 0) in
      let last : List ℕ = (k + 2) ∷ [] in
      let fourth : List ℕ = (k + 1) ∷ last in
      let third : List ℕ = k ∷ fourth in
      let second : List ℕ = (k + 1) ∷ third in
      All-cons P k second first
      (All-cons P (k + 1) third (few_behind m.types 1)
      (All-cons P k fourth first
      (All-cons P (k + 1) last (few_behind m.types 1)
      (All-cons P (k + 2) [] (few_behind m.types 2) (All-nil P)))))

  sorts_grow : all_sorts (with_runtime m) ≡ all_sorts m ++ added_sorts
  unfolding with_runtime
  sorts_grow =
      ap (λ xs. flat_map (λ (i : Import). kind_sorts i.kind) m.imports ++ xs) (map-append (λ (f : Func). f.sort) m.funcs added)
      ∙ sym (append_assoc _ (map (λ (f : Func). f.sort) m.funcs) added_sorts)

  types_grow : (with_runtime m).types ≡ m.types ++ runtime_types
  unfolding with_runtime
  types_grow = refl

  call_more : (p : Plain) → call_params (with_runtime m) p ≤ call_params m p + 1
  call_more (call x) =
      let a = at_index m.types (all_sorts m) added_sorts x few_added in
      let e : params_at_index (with_runtime m).types (all_sorts (with_runtime m)) x ≡ params_at_index (m.types ++ runtime_types) (all_sorts m ++ added_sorts) x =
      ap (λ ts. params_at_index ts (all_sorts (with_runtime m)) x) types_grow ∙ ap (λ ss. params_at_index (m.types ++ runtime_types) ss x) sorts_grow in
      omega (arith, a, e)
  call_more (call_indirect sort) = let a = one_more m.types sort in let e = ap (λ ts. params_of_type ts sort) types_grow in omega (arith, a, e)
  call_more (basic b) = omega arith
  call_more (local_get x) = omega arith
  call_more (local_set x) = omega arith
  call_more (local_tee x) = omega arith
  call_more (br l) = omega arith
  call_more (br_if l) = omega arith
  call_more (br_table ls l) = omega arith
  call_more return = omega arith
  call_more unreachable = omega arith

  pub params_more : (k : Code) → code_params (with_runtime m) k ≤ code_params m k + code_items k
  unfolding code_params code_items
  params_more done = omega arith
  params_more (plain p rest) = let a = call_more p in let b = params_more rest in omega (arith, a, b)
  params_more (nest s r body rest) = let a = params_more body in let b = params_more rest in omega (arith, a, b)
  params_more (branch r a b rest) = let x = params_more a in let y = params_more b in let z = params_more rest in omega (arith, x, y, z)

  -- ---- lists

  pub lists_more : (k : Code) → code_lists (2 ^ 31) k → code_lists (2 ^ 32) k
  lists_more done h = tt
  lists_more (plain p rest) h = (plain_more p h.0, lists_more rest h.1)
    where
      plain_more : (p : Plain) → plain_lists (2 ^ 31) p → plain_lists (2 ^ 32) p
      plain_more (br_table targets last) h = omega (arith, h)
      plain_more (basic b) h = tt
      plain_more (local_get x) h = tt
      plain_more (local_set x) h = tt
      plain_more (local_tee x) h = tt
      plain_more (br l) h = tt
      plain_more (br_if l) h = tt
      plain_more return h = tt
      plain_more unreachable h = tt
      plain_more (call x) h = tt
      plain_more (call_indirect x) h = tt
  lists_more (nest s r body rest) h = (lists_more body h.0, lists_more rest h.1)
  lists_more (branch r a b rest) h = (lists_more a h.0, lists_more b h.1, lists_more rest h.2)

  -- ---- functions

  pub func_more : (f : Func) → FuncSizes (2 ^ 31) (2 ^ 31) m f → FuncSizes (2 ^ 32) (2 ^ 56) (with_runtime m) f
  func_more f h =
      let runs = h.runs in
      let total = h.total in
      let calls = params_more f.body in
      let own = one_more m.types f.sort in
      let same = ap (λ ts. params_of_type ts f.sort) types_grow in
      record {
        runs = omega (arith, runs);
        labels = lists_more f.body h.labels;
        total =
            bound (code_items f.body) (code_params m f.body) (code_params (with_runtime m) f.body) (params_of_type m.types f.sort) (params_of_type (m.types ++ runtime_types) f.sort)
            (params_of_type (with_runtime m).types f.sort) (sum_by (λ (r : Run). r.count) f.locals) total calls own same;
      }
    where
      bound : (items calls more params grown all runs : ℕ) → items + 1 + calls + params + runs < 2 ^ 31 → more ≤ calls + items
          → grown ≤ params + 1 → all ≡ grown → items + 1 + more + all + runs < 2 ^ 56
      bound items calls more params grown all runs a b c d = omega (arith, a, b, c, d)

  -- a function of the runtime, by the number of its items, which has no call
  added_func : (sort : ℕ) (body : Code) → code_lists (2 ^ 32) body → code_items body ≤ 20 → code_params (with_runtime m) body ≡ 0
      → FewParams m.types sort → FuncSizes (2 ^ 32) (2 ^ 56) (with_runtime m) (runtime_func sort body)
  added_func sort body lists items none few =
      let same = ap (λ ts. params_of_type ts sort) types_grow in
      record {
        runs = omega arith;
        labels = lists;
        total = bound (code_items body) (code_params (with_runtime m) body) (params_of_type (m.types ++ runtime_types) sort)
            (params_of_type (with_runtime m).types sort) items none few same;
      }
    where
      bound : (items calls few all : ℕ) → items ≤ 20 → calls ≡ 0 → few ≤ 1 → all ≡ few → items + 1 + calls + all + 0 < 2 ^ 56
      bound items calls few all a b c d = omega (arith, a, b, c, d)

  added_funcs : All (FuncSizes (2 ^ 32) (2 ^ 56) (with_runtime m)) added
  unfolding code_items code_params
  added_funcs =
      let P : Func → Type 0 = FuncSizes (2 ^ 32) (2 ^ 56) (with_runtime m) in
      let k : ℕ = length m.types in
      let g : ℕ = global_space m in
      let z : k ≡ k + 0 = omega arith in
      let first : FewParams m.types k = subst (FewParams m.types) (sym z) (few_behind m.types 0) in
      let test : code_lists (2 ^ 32) (test_code (g + 1)) = (tt, (tt, (tt, (tt, (tt, ((tt, tt), tt, tt)))))) in
      let starts : Func = runtime_func k (start_code 1 g (g + 1)) in
      let stops : Func = runtime_func (k + 1) (stop_code g (g + 1)) in
      let again : Func = runtime_func k (start_code 2 g (g + 1)) in
      let tells : Func = runtime_func (k + 2) (state_code g) in
      let stop_fits = added_func (k + 1) (stop_code g (g + 1)) (tt, (tt, test)) (omega arith) refl (few_behind m.types 1) in
      All-cons P starts (stops ∷ again ∷ stops ∷ tells ∷ []) (added_func k (start_code 1 g (g + 1)) (tt, (tt, (tt, (tt, test)))) (omega arith) refl first)
      (All-cons P stops (again ∷ stops ∷ tells ∷ []) stop_fits
      (All-cons P again (stops ∷ tells ∷ []) (added_func k (start_code 2 g (g + 1)) (tt, (tt, (tt, (tt, test)))) (omega arith) refl first)
      (All-cons P stops (tells ∷ []) stop_fits
      (All-cons P tells [] (added_func (k + 2) (state_code g) (tt, tt) (omega arith) refl (few_behind m.types 2)) (All-nil P)))))

added_few : (ms : List Limits) → length (added_memories ms) ≤ 1
added_few [] = omega arith
added_few (l ∷ ls) = omega arith

pub runtime_keeps_sizes : RuntimeKeepsSizes
unfolding with_runtime
runtime_keeps_sizes m h =
    let types = h.types in
    let imports = h.imports in
    let funcs = h.funcs in
    let tables = h.tables in
    let memories = h.memories in
    let globals = h.globals in
    let exports = h.exports in
    let elems = h.elems in
    let segments = h.segments in
    let few = added_few (all_memories m) in record {
      types = omega (arith, types, length-append m.types runtime_types);
      each_type =
          All-append (TypeSizes (2 ^ 32)) m.types runtime_types
          (All-weaker (TypeSizes (2 ^ 31)) (TypeSizes (2 ^ 32)) (λ t k. let a = k.params in let b = k.results in record { params = omega (arith, a); results = omega (arith, b) })
          m.types h.each_type) types_small;
      imports = omega (arith, imports);
      funcs = omega (arith, funcs, length-append m.funcs (added m));
      tables = omega (arith, tables);
      memories = omega (arith, memories, length-append m.memories (added_memories (all_memories m)), few);
      globals = omega (arith, globals, length-append m.globals runtime_globals);
      exports = omega (arith, exports, length-append m.exports (runtime_exports (func_space m)));
      elems = omega (arith, elems);
      segments = omega (arith, segments);
      each_func =
          All-append (FuncSizes (2 ^ 32) (2 ^ 56) (with_runtime m)) m.funcs (added m)
          (All-weaker (FuncSizes (2 ^ 31) (2 ^ 31) m) (FuncSizes (2 ^ 32) (2 ^ 56) (with_runtime m)) (func_more m) m.funcs h.each_func) (added_funcs m);
      each_global =
          All-append (λ (g : GlobalDef). code_lists (2 ^ 32) g.init) m.globals runtime_globals
          (All-weaker (λ (g : GlobalDef). code_lists (2 ^ 31) g.init) (λ (g : GlobalDef). code_lists (2 ^ 32) g.init) (λ g k. lists_more m g.init k) m.globals h.each_global) globals_small;
      each_elem = All-weaker (ElemSizes (2 ^ 31)) (ElemSizes (2 ^ 32)) (λ e k. let a = k.funcs in record { funcs = omega (arith, a); offset = lists_more m e.offset k.offset }) m.elems h.each_elem;
      each_segment =
          All-weaker (SegmentSizes (2 ^ 31)) (SegmentSizes (2 ^ 32))
          (λ s k. let a = k.bytes in record { bytes = omega (arith, a); offset = lists_more m s.offset k.offset }) m.segments h.each_segment;
    }
  where
    small : (t : FuncType) → length t.params ≤ 1 → length t.results ≤ 1 → TypeSizes (2 ^ 32) t
    small t a b = record { params = omega (arith, a); results = omega (arith, b) }

    types_small : All (TypeSizes (2 ^ 32)) runtime_types
    types_small =
        All-cons (TypeSizes (2 ^ 32)) (record { params = I32 ∷ []; results = [] }) ((record { params = []; results = [] }) ∷ (record { params = []; results = I32 ∷ [] }) ∷ [])
        (small (record { params = I32 ∷ []; results = [] }) (omega arith) (omega arith))
        (All-cons (TypeSizes (2 ^ 32)) (record { params = []; results = [] }) ((record { params = []; results = I32 ∷ [] }) ∷ [])
        (small (record { params = []; results = [] }) (omega arith) (omega arith))
        (All-cons (TypeSizes (2 ^ 32)) (record { params = []; results = I32 ∷ [] }) [] (small (record { params = []; results = I32 ∷ [] }) (omega arith) (omega arith)) (All-nil (TypeSizes (2 ^ 32)))))

    globals_small : All (λ (g : GlobalDef). code_lists (2 ^ 32) g.init) runtime_globals
    globals_small =
        All-cons (λ (g : GlobalDef). code_lists (2 ^ 32) g.init) zero_global (zero_global ∷ []) (tt, tt)
        (All-cons (λ (g : GlobalDef). code_lists (2 ^ 32) g.init) zero_global [] (tt, tt) (All-nil (λ (g : GlobalDef). code_lists (2 ^ 32) g.init)))
