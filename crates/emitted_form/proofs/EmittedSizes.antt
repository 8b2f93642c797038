-- The emitted module keeps the size rule, where the codes of its frames hold what they owe and are small.
use Rattle.std.proofs.Common.{◌≡◌, ◌∙◌, ℕ, zero, suc, ◌+◌, ◌*◌, ◌^◌, ◌<◌, ◌≤◌, List, [], ◌∷◌, ◌++◌, length, map, Some, Bool, true, false, All, refl, sym, ap, subst, arith, length-append}
use Rattle.std.specs.Prelude.{slice_get, if◌then◌else◌}
use Rattle.std.specs.List.{flat_map, sum_by}
use Rattle.std.proofs.lemmas.List.{map-append, length-map}
use Rattle.std.proofs.lemmas.List.Elements.{All-nil, All-cons, All-head, All-tail, All-append}
use Rattle.std.proofs.lemmas.List.Sums.{sum_by-cons}
use Rattle.std.proofs.lemmas.Option.{slice_get_within}
use Rattle.wa_types.specs.declared.syntax.Import.{Import}
use Rattle.wa_types.specs.declared.syntax.Run.{Run}
use Rattle.wa_types.specs.declared.values.ValType.{ValType}
use Rattle.wa_types.specs.Bounds.{code_weight}
use Rattle.wa_types.specs.Frames.{Pair, SlotPairs, ResultPairs, Count}
use Rattle.wa_types.specs.Modules.{func_imports, locals_of, defined_at}
use Rattle.wa_types.specs.Pausing.{Callee, direct, indirect, callee, callee_onto, calls_of, calls_in, Settings, is_told, Numbered}
use Rattle.wa_types.specs.Pruned.{is_last, pruned}
use Rattle.wa_types.specs.Runtime.{global_space, runtime_types, with_runtime}
use Rattle.wa_types.specs.Sizes.{params_of_type, kind_sorts, all_sorts, params_at_index, call_params, else_count, code_items, code_params, code_lists, FuncSizes, SizeRule, StrictSizeRule}
use Rattle.wa_types.specs.Syntax.{basic, local_get, local_set, local_tee, br, br_if, br_table, return, unreachable, call, call_indirect, Plain, Code, done, plain, nest, branch, Func, Module}
use Rattle.wa_types.specs.Validity.{Valid}
use Rattle.wa_types.proofs.SizeBounds.{weight_fits}
use Rattle.run_theory.specs.Flat.{code_of, body_of, followed_by}
use Rattle.guard_form.specs.Pieces.{first_piece, flat_units, units}
use Rattle.slim_laws.specs.SlimModule.{Pieces, flat_terms}
use Rattle.slim_laws.proofs.UnitsSlim.{units_law}
use Rattle.run_theory.specs.FlatFits.{one_run}
use Rattle.run_theory.specs.Growth.{Each}
use Rattle.wa_model.specs.Rewrites.{instructions_and_labels}
use Rattle.flat_laws.proofs.Calls.{calls_stay}
use Rattle.flat_laws.proofs.Whole.{meets}
use Rattle.flat_laws.specs.Flatten.{flattened}
use Rattle.flat_laws.specs.FlatModule.{extra_types}
use Rattle.frame_laws.specs.Function.{result_type, value_code}
use Rattle.guard_form.specs.Functions.{indices_of}
use Rattle.guard_form.proofs.Grouped.{joins_law}
use Rattle.run_theory.proofs.GrownSteps.{front}
use Rattle.run_theory.proofs.RuntimeValid.{behind}
use Rattle.run_laws.proofs.Sizes.{one_more, params_more, runtime_keeps_sizes}
use Rattle.emitted_form.specs.CodesHold.{AllCodesHold, AllCodesSmall, CodeQuiet, CodesHold, codes_size, three}
use Rattle.emitted_form.specs.Emitted.{layout_codes}
use Rattle.emitted_form.specs.EmittedBy.{FrameCode, guarded_by, written_by, func_by, funcs_by}
use Rattle.emitted_form.specs.Sizes.{FewWritten, EmittedKeepsSizes}
use Rattle.emitted_form.proofs.EmittedBy.{defined_of, defined_where, sort_of, inner, emitted, runtime, told, not_told, same_sorts, same_length, funcs_are}
use Rattle.emitted_form.proofs.EmittedRewritten.{same_exports}
use Rattle.emitted_form.proofs.Marks.{Marking, marks_of, marks_then, marks_slim, marks_value, marks_written, call_marking, calls_are, table_marking, tables_few, lists_few}
use Rattle.emitted_form.proofs.SizesBy.{written_size}
use Rattle.emitted_form.proofs.WrittenSizes.{layout_size, layouts_hold}

-- ---- parameters of calls

module _ (q : Module) where
  abbrev pub callee_params : Callee → ℕ
  callee_params (direct x) = params_at_index q.types (all_sorts q) x
  callee_params (indirect sort) = params_of_type q.types sort

  abbrev pub params_sum : List Callee → ℕ
  params_sum [] = 0
  params_sum (c ∷ cs) = callee_params c + params_sum cs

  sum_append : (cs ds : List Callee) → params_sum (cs ++ ds) ≡ params_sum cs + params_sum ds
  sum_append [] ds = omega arith
  sum_append (c ∷ cs) ds = let e = sum_append cs ds in omega arith

  plain_params : (p : Plain) (cs : List Callee) → params_sum (callee_onto (callee p) cs) ≡ call_params q p + params_sum cs
  plain_params (call x) cs = refl
  plain_params (call_indirect sort) cs = refl
  plain_params (basic b) cs = omega arith
  plain_params (local_get x) cs = omega arith
  plain_params (local_set x) cs = omega arith
  plain_params (local_tee x) cs = omega arith
  plain_params (br l) cs = omega arith
  plain_params (br_if l) cs = omega arith
  plain_params (br_table ls l) cs = omega arith
  plain_params return cs = omega arith
  plain_params unreachable cs = omega arith

  pub params_by_calls : (c : Code) → code_params q c ≡ params_sum (calls_of c)
  unfolding code_params calls_of
  params_by_calls done = refl
  params_by_calls (plain p rest) = let e = params_by_calls rest in let k = plain_params p (calls_of rest) in omega arith
  params_by_calls (nest s r body rest) = let e = params_by_calls body in let k = params_by_calls rest in let n = sum_append (calls_of body) (calls_of rest) in omega arith
  params_by_calls (branch r a b rest) =
      let e = params_by_calls a in let k = params_by_calls b in let l = params_by_calls rest in
      let n = sum_append (calls_of a ++ calls_of b) (calls_of rest) in let o = sum_append (calls_of a) (calls_of b) in omega arith

  less_params : (c : Code) → code_params q (pruned c) ≤ code_params q c
  unfolding code_params pruned
  less_params done = omega arith
  less_params (plain p rest) = by (is_last p) (less_params rest)
    where
      by : (b : Bool) → code_params q (pruned rest) ≤ code_params q rest → call_params q p + code_params q (if b then done else pruned rest) ≤ call_params q p + code_params q rest
      by true le = omega arith
      by false le = omega arith
  less_params (nest s r body rest) = let a = less_params body in let b = less_params rest in omega arith
  less_params (branch r a b rest) = let x = less_params a in let y = less_params b in let z = less_params rest in omega arith

-- modules of the same types and functions' types
module _ (p q : Module) (types : p.types ≡ q.types) (sorts : all_sorts p ≡ all_sorts q) where
  same_callee : (c : Callee) → callee_params p c ≡ callee_params q c
  same_callee (direct x) = ap (λ ts. params_at_index ts (all_sorts p) x) types ∙ ap (λ ks. params_at_index q.types ks x) sorts
  same_callee (indirect sort) = ap (λ ts. params_of_type ts sort) types

  same_sum : (cs : List Callee) → params_sum p cs ≡ params_sum q cs
  same_sum [] = refl
  same_sum (c ∷ cs) = let e = same_callee c in let k = same_sum cs in omega arith

  pub same_params : (c : Code) → code_params p c ≡ code_params q c
  same_params c = params_by_calls p c ∙ same_sum (calls_of c) ∙ sym (params_by_calls q c)

-- ---- items

pub items_few : (c : Code) → code_items c ≤ 3 * instructions_and_labels c
unfolding code_items instructions_and_labels
items_few done = omega arith
items_few (plain p rest) = let a = items_few rest in omega arith
items_few (nest s r body rest) = let a = items_few body in let b = items_few rest in omega arith
items_few (branch r a b rest) = let x = items_few a in let y = items_few b in let z = items_few rest in let w = one_else b in omega arith
  where
    one_else : (b : Code) → else_count b ≤ 1
    one_else done = omega arith
    one_else (plain _ _) = omega arith
    one_else (nest _ _ _ _) = omega arith
    one_else (branch _ _ _ _) = omega arith

one_runs : (ts : List ValType) → sum_by (λ (r : Run). r.count) (map one_run ts) ≡ length ts
one_runs [] = refl
one_runs (t ∷ ts) = let e = one_runs ts in let k = sum_by-cons (λ (r : Run). r.count) (one_run t) (map one_run ts) in omega arith

sum_runs : (rs ss : List Run) → sum_by (λ (r : Run). r.count) (rs ++ ss) ≡ sum_by (λ (r : Run). r.count) rs + sum_by (λ (r : Run). r.count) ss
sum_runs [] ss = omega arith
sum_runs (r ∷ rs) ss =
    let e = sum_runs rs ss in
    let k = sum_by-cons (λ (r : Run). r.count) r (rs ++ ss) in
    let l = sum_by-cons (λ (r : Run). r.count) r rs in omega arith

-- ---- lists

one_of_all : {X : Type 0} (P : X → Type 0) (xs : List X) (i : ℕ) (x : X) → All P xs → slice_get xs i ≡ Some x → P x
one_of_all P [] i x h e = cc
one_of_all P (y ∷ ys) zero x h e = let z : y ≡ x = cc in subst P z (All-head P y ys h)
one_of_all P (y ∷ ys) (suc i) x h e = one_of_all P ys i x (All-tail P y ys h) e

all_of : {X : Type 0} (P : X → Type 0) (xs : List X) → ((i : ℕ) (x : X) → slice_get xs i ≡ Some x → P x) → All P xs
all_of P [] h = All-nil P
all_of P (x ∷ xs) h = All-cons P x xs (h 0 x refl) (all_of P xs (λ i y e. h (suc i) y e))

-- ---- a written function

-- code without calls and branch tables has no marks
none_left : (xs : List ℕ) → Each (λ x. x < 0) xs → xs ≡ []
none_left [] h = refl
none_left (x ∷ xs) h = let z = h.0 in absurd (omega arith)

no_calls : (c : Code) → CodeQuiet c → marks_of call_marking c ≡ []
no_calls c q = calls_are c ∙ q.calls

no_tables : (c : Code) → CodeQuiet c → marks_of table_marking c ≡ []
no_tables c q = none_left (marks_of table_marking c) (tables_few 0 c (q.lists 0))

module _ (m : Module) (s : Settings) (which : List Bool) (codes : (index : ℕ) → Func → FrameCode) (v : Valid m) (strict : StrictSizeRule m) (hold : AllCodesHold m s which codes)
    (small : AllCodesSmall m which codes) where
  abbrev p : Module
  p = emitted m s which codes

  types_are : p.types ≡ (with_runtime m).types
  unfolding with_runtime
  types_are = refl

  sorts_are : all_sorts p ≡ all_sorts (with_runtime m)
  unfolding with_runtime
  sorts_are =
      ap (λ ks. flat_map (λ (i : Import). kind_sorts i.kind) m.imports ++ ks)
      (map-append sort_of (inner m s which codes).funcs (runtime m s which codes) ∙ ap (λ ks. ks ++ map sort_of (runtime m s which codes)) (same_sorts m s which codes)
      ∙ sym (map-append sort_of m.funcs (runtime m s which codes)))

  pub params_are : (c : Code) → code_params (emitted m s which codes) c ≡ code_params (with_runtime m) c
  params_are = same_params p (with_runtime m) types_are sorts_are

  func_same : (f : Func) → FuncSizes (2 ^ 32) (2 ^ 56) (with_runtime m) f → FuncSizes (2 ^ 32) (2 ^ 56) p f
  func_same f h =
      let e = params_are f.body in
      let k = ap (λ ts. params_of_type ts f.sort) types_are in
      let t = h.total in record { runs = h.runs; labels = h.labels; total = omega (arith, e, k, t) }

  types_grow : (with_runtime m).types ≡ m.types ++ runtime_types
  unfolding with_runtime
  types_grow = refl

  module _ (x : ℕ) (f : Func) (is : defined_at m x ≡ Some f) (is_written : is_told (slice_get which x) ≡ true) (few : Count m f ≤ 50000) where
    abbrev g : Func
    g = written_by m s which codes x f

    owed : CodesHold m s which x f (codes x f)
    owed = hold x f is is_written

    no_marks : {X : Type 0} (k : Marking X) → marks_of k (codes x f).restoring ≡ [] → marks_of k (codes x f).saving ≡ [] → marks_of k g.body ≡ marks_of k (code_of (flattened m x f).body)
    no_marks k er es =
        let gf = guarded_by m s which codes x f in
        let ps = (codes x f).pieces in
        let result = (flattened m x f).result in
        let first0 = first_piece (Numbered m s which f) 0 (flattened m x f).body in
        let units0 = units (Numbered m s which f) 0 (flattened m x f).body in
        marks_written k (indices_of (global_space m) gf) (codes x f).restoring gf.saving result ps.first ps.units er
        (marks_then k (codes x f).saving (value_code (result_type (flattened m x f).locals result)) ∙ ap (λ z. z ++ marks_of k (value_code (result_type (flattened m x f).locals result))) es
        ∙ marks_value k (result_type (flattened m x f).locals result))
        ∙ marks_slim k (flat_terms m (Numbered m s which f) x f) 0 (owed.slim.out ∷ []) owed.slim.out owed.slim.here []
        (followed_by first0 (flat_units units0)) (followed_by ps.first (flat_units ps.units))
        (units_law (flat_terms m (Numbered m s which f) x f) 0 (owed.slim.out ∷ []) owed.slim.out owed.slim.here [] first0 ps.first units0 ps.units owed.slim.slim)
        ∙ ap (marks_of k) (joins_law (Numbered m s which f) 0 (flattened m x f).body)

    -- its calls are those of the pruned body, in their order
    pub calls_same : calls_of (written_by m s which codes x f).body ≡ calls_in f
    calls_same =
        sym (calls_are g.body) ∙ no_marks call_marking (no_calls (codes x f).restoring owed.restoring_quiet) (no_calls (codes x f).saving owed.saving_quiet)
        ∙ calls_are (code_of (flattened m x f).body) ∙ calls_stay m x f

    flat_lists : code_lists (2 ^ 32) (body_of (flattened m x f)) → code_lists (2 ^ 32) (code_of (flattened m x f).body)
    flat_lists h = h.0

    counted : length (flattened m x f).locals ≤ 50000
    counted =
        let a : List ValType = map (λ (p : Pair). p.ty) (SlotPairs m f) in
        let b : List ValType = map (λ (p : Pair). p.ty) (ResultPairs m f) in
        let k = length-append (locals_of m f ++ a) b in
        let l = length-append (locals_of m f) a in
        let i = length-map (SlotPairs m f) (λ (p : Pair). p.ty) in
        let j = length-map (ResultPairs m f) (λ (p : Pair). p.ty) in omega arith

    lists : code_lists (2 ^ 32) g.body
    lists =
        lists_few (2 ^ 32) g.body
        (subst (Each (λ x. x < 2 ^ 32)) (sym (no_marks table_marking (no_tables (codes x f).restoring owed.restoring_quiet) (no_tables (codes x f).saving owed.saving_quiet)))
        (tables_few (2 ^ 32) (code_of (flattened m x f).body) (flat_lists (meets m x f v strict is counted).fits.sizes.labels)))

    bound : (items calls own runs size w l cs more oi oc op orn : ℕ) → items ≤ 3 * size → size ≤ 19 * w + cs + 11 → cs < 2 ^ 53 → w + l < 2 ^ 31 → calls ≤ oc + oi → own ≤ op + 1 → runs ≡ orn + more
        → more ≤ 50003 → oi + 1 + oc + op + orn < 2 ^ 31 → items + 1 + calls + own + runs < 2 ^ 55
    bound items calls own runs size w l cs more oi oc op orn a b z c d e h i j = omega (arith, a, b, z, c, d, e, h, i, j)

    -- with room for tests behind its calls
    pub func_written : (i : ℕ) → slice_get m.funcs i ≡ Some f → FuncSizes (2 ^ 31) (2 ^ 31) m f
        → FuncSizes (2 ^ 32) (2 ^ 55) (emitted m s which codes) (written_by m s which codes x f)
    func_written i e h =
        let runs = h.runs in
        let total = h.total in
        let extra : List ValType = extra_types m f ++ three in
        let added : length extra ≤ 50003 =
        (let k = length-append (extra_types m f) three in
        let l = length-append (map (λ (p : Pair). p.ty) (SlotPairs m f)) (map (λ (p : Pair). p.ty) (ResultPairs m f)) in
        let a = length-map (SlotPairs m f) (λ (p : Pair). p.ty) in
        let b = length-map (ResultPairs m f) (λ (p : Pair). p.ty) in omega (arith, k, l, a, b, few)) in
        let calls : code_params p g.body ≤ code_params m f.body + code_items f.body =
        (let a = params_by_calls p g.body ∙ ap (params_sum p) calls_same ∙ sym (params_by_calls p (pruned f.body)) in
        let b = less_params p f.body in
        let c = params_are f.body in
        let d = params_more m f.body in omega (arith, a, b, c, d)) in
        let own : params_of_type p.types f.sort ≤ params_of_type m.types f.sort + 1 =
        (let a = one_more m.types f.sort in let b = ap (λ ts. params_of_type ts f.sort) (types_are ∙ types_grow) in omega (arith, a, b)) in
        let sum : sum_by (λ (r : Run). r.count) g.locals ≡ sum_by (λ (r : Run). r.count) f.locals + length extra =
        (let a = sum_runs f.locals (map one_run extra) in let b = one_runs extra in omega (arith, a, b)) in
        let long = length-append f.locals (map one_run extra) in
        let many = length-map extra one_run in
        record {
          runs = omega (arith, runs, added, long, many);
          labels = lists;
          total = bound (code_items g.body) (code_params p g.body) (params_of_type p.types f.sort) (sum_by (λ (r : Run). r.count) g.locals) (instructions_and_labels g.body)
              (code_weight m (pruned f.body)) (length (locals_of m f)) (codes_size (codes x f)) (length extra) (code_items f.body) (code_params m f.body) (params_of_type m.types f.sort)
              (sum_by (λ (r : Run). r.count) f.locals) (items_few g.body) (written_size m s which codes x f owed.slim)
              (small x f is is_written) (weight_fits (2 ^ 31) (2 ^ 31) m f h) calls own sum added total;
        }

  -- ---- all functions

  abbrev P : Func → Type 0
  P = FuncSizes (2 ^ 32) (2 ^ 56) p

  abbrev grown : SizeRule (with_runtime m)
  grown = runtime_keeps_sizes m strict

  grown_funcs : (with_runtime m).funcs ≡ m.funcs ++ runtime m s which codes
  unfolding with_runtime
  grown_funcs = refl

  grown_func : (i : ℕ) (f : Func) → slice_get (m.funcs ++ runtime m s which codes) i ≡ Some f → FuncSizes (2 ^ 32) (2 ^ 56) (with_runtime m) f
  grown_func i f e = one_of_all (FuncSizes (2 ^ 32) (2 ^ 56) (with_runtime m)) (with_runtime m).funcs i f grown.each_func (ap (λ fs. slice_get fs i) grown_funcs ∙ e)

  all_emitted : (y : ℕ) (fs : List Func) → ((i : ℕ) (f : Func) → slice_get fs i ≡ Some f → P (func_by m s which codes (y + i) f)) → All P (funcs_by m s which codes y fs)
  all_emitted y [] h = All-nil P
  all_emitted y (f ∷ fs) h =
      let z : y + 0 ≡ y = omega arith in
      All-cons P (func_by m s which codes y f) (funcs_by m s which codes (suc y) fs) (subst (λ j. P (func_by m s which codes j f)) z (h 0 f refl))
      (all_emitted (suc y) fs (λ i g e. let k : y + suc i ≡ suc y + i = omega arith in subst (λ j. P (func_by m s which codes j g)) k (h (suc i) g e)))

  each_emitted : FewWritten m which → (i : ℕ) (f : Func) → slice_get m.funcs i ≡ Some f → P (func_by m s which codes (func_imports m + i) f)
  each_emitted few i f e = by (is_told (slice_get which (func_imports m + i))) refl
    where
      x : ℕ
      x = func_imports m + i

      by : (b : Bool) → is_told (slice_get which (func_imports m + i)) ≡ b → P (func_by m s which codes (func_imports m + i) f)
      by true b =
          let is = defined_of m i f e in
          let h = func_written (func_imports m + i) f is b (few (func_imports m + i) f is b) i e (one_of_all (FuncSizes (2 ^ 31) (2 ^ 31) m) m.funcs i f strict.each_func e) in
          let total = h.total in
          subst P (sym (told m s which codes (func_imports m + i) f b)) (record { runs = h.runs; labels = h.labels; total = omega (arith, total) })
      by false b =
          subst P (sym (not_told m s which codes (func_imports m + i) f b))
          (func_same f (grown_func i f (front m.funcs (runtime m s which codes) i (slice_get_within m.funcs i f e) ∙ e)))

  each_runtime : All P (runtime m s which codes)
  each_runtime = all_of P (runtime m s which codes) (λ i f e. func_same f (grown_func (length m.funcs + i) f (behind m.funcs (runtime m s which codes) (length m.funcs + i) i refl ∙ e)))

  each_func : FewWritten m which → All P p.funcs
  each_func few =
      subst (All P) (sym (funcs_are m s which codes)) (All-append P (inner m s which codes).funcs (runtime m s which codes) (all_emitted (func_imports m) m.funcs (each_emitted few)) each_runtime)

  pub emitted_sizes : FewWritten m which → SizeRule p
  unfolding with_runtime
  emitted_sizes few =
      let r : SizeRule (with_runtime m) = grown in
      let many = same_length m s which codes in
      let a = length-append (inner m s which codes).funcs (runtime m s which codes) in
      let b = length-append m.funcs (runtime m s which codes) in
      let funcs = r.funcs in
      let exports = r.exports in
      let same = ap length (same_exports m s which codes v) in
      record {
        types = r.types;
        each_type = r.each_type;
        imports = r.imports;
        funcs = omega (arith, many, a, b, funcs);
        tables = r.tables;
        memories = r.memories;
        globals = r.globals;
        exports = omega (arith, exports, same);
        elems = r.elems;
        segments = r.segments;
        each_func = each_func few;
        each_global = r.each_global;
        each_elem = r.each_elem;
        each_segment = r.each_segment;
      }

pub layouts_small : (m : Module) (s : Settings) (which : List Bool) (pieces : (index : ℕ) → Pieces) → Valid m → StrictSizeRule m → AllCodesSmall m which (layout_codes m s which pieces)
layouts_small m s which pieces v strict x f is told =
    let at = defined_where m x f is in
    let z = layout_size m s which pieces x f v at.0 at.1 in
    let w = weight_fits (2 ^ 31) (2 ^ 31) m f (one_of_all (FuncSizes (2 ^ 31) (2 ^ 31) m) m.funcs at.0 f strict.each_func at.1) in omega (arith, z, w)

pub sizes_law : EmittedKeepsSizes
sizes_law m s which pieces v slim strict few = emitted_sizes m s which (layout_codes m s which pieces) v strict (layouts_hold m s which pieces v slim) (layouts_small m s which pieces v strict) few
