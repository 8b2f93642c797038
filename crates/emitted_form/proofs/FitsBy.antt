-- The numbers of an emitted module are in range, where those of the codes of its frames are.
use Rattle.std.proofs.Common.{◌≡◌, ◌∙◌, ℕ, zero, suc, ◌+◌, ◌-◌, ◌<◌, ◌≤◌, ◌^◌, List, [], ◌∷◌, ◌++◌, length, map, drop, Option, Some, None, Bool, true, false, All, refl, sym, ap, subst, arith, length-append}
use Rattle.std.specs.Prelude.{slice_get, ◌||◌, if◌then◌else◌}
use Rattle.std.proofs.lemmas.List.{append_assoc, length-map, map-append}
use Rattle.std.proofs.lemmas.List.Elements.{All-nil, All-cons, All-head, All-tail, All-append}
use Rattle.wa_types.specs.declared.syntax.Run.{Run}
use Rattle.wa_types.specs.declared.values.ValType.{ValType}
use Rattle.wa_types.specs.Counts.{depth_of}
use Rattle.wa_types.specs.Frames.{Count}
use Rattle.wa_types.specs.Modules.{imported, imported_func, func_imports, func_sorts, type_at, around, defined_at}
use Rattle.wa_types.specs.Pausing.{Callee, Settings, is_told, Numbered}
use Rattle.wa_types.specs.Points.{after}
use Rattle.wa_types.specs.Pruned.{pruned}
use Rattle.wa_types.specs.Runtime.{global_space, runtime_types, runtime_funcs, with_runtime}
use Rattle.wa_types.specs.Sizes.{code_items, FuncSizes, FuncFits, WellFormed, StrictSizeRule}
use Rattle.wa_types.specs.Syntax.{basic, local_get, local_set, local_tee, br, br_if, br_table, return, unreachable, call, call_indirect, Plain, Code, done, plain, nest, branch, Func, Module}
use Rattle.wa_types.specs.Typing.{Around, listed, sig, label}
use Rattle.wa_types.specs.Validity.{Valid}
use Rattle.wa_types.proofs.SizeBounds.{weight_fits}
use Rattle.wa_model.specs.declared.flat.Operand.TheVariants.{Local}
use Rattle.run_theory.specs.Flat.{Stmts, no_more, computes, copies, calls, leaps, leaps_if, leaps_by, nests, decides, halts, followed_by, last_of}
use Rattle.run_theory.specs.FlatFits.{one_run}
use Rattle.wa_model.specs.Rewrites.{instructions_and_labels}
use Rattle.flat_laws.specs.Flatten.{Names, names, top, carry_to, carry, carry_all, arrive, flat_plain, flat, flattened}
use Rattle.flat_laws.specs.FlatModule.{extra_types}
use Rattle.frame_laws.specs.Function.{result_type, value_code}
use Rattle.guard_form.specs.Functions.{GuardedFunc, indices_of}
use Rattle.guard_form.specs.Pieces.{Units, nest_unit, if_unit, numbers_in, numbered, holds_call, call_total, first_piece, unit_call, units}
use Rattle.emitted_form.specs.CodesHold.{AllCodesHold, CodesHold, three}
use Rattle.emitted_form.specs.EmittedBy.{FrameCode, guarded_by, written_by, func_by, funcs_by, asyncified_by}
use Rattle.emitted_form.specs.Sizes.{FewWritten}
use Rattle.emitted_form.proofs.EmittedBy.{defined_of, inner, emitted, told, not_told, own_sorts, all_types, same_around}
use Rattle.emitted_form.proofs.EmittedRewritten.{sort_there}
use Rattle.emitted_form.proofs.SizesBy.{code_weighs, written_depth}
use Rattle.emitted_form.proofs.WrittenBy.{written_length, written_typed}
use Rattle.emitted_form.proofs.BasicCode.{BasicsFit, StmtsBasic, fits_basic, flat_fits, first_fits, units_fit, followed_fits, result_value_fits, body_fits}
use Rattle.emitted_form.proofs.GrownFits.{grown_fits}
use Rattle.emitted_form.proofs.SlimCode.{units_basic}
use Rattle.slim_laws.specs.SlimModule.{Pieces, flat_terms}
use Rattle.slim_laws.proofs.UnitsAlike.{units_alike}
use Rattle.emitted_form.proofs.Spaces.{funcs_counted, globals_counted}
use Rattle.emitted_form.proofs.TypedCode.{AroundFew, typed_fits}

-- ---- how many calls get a number

either_few : (b : Bool) (x y : Units) (n : ℕ) → numbers_in x ≤ n → numbers_in y ≤ n → numbers_in (if b then x else y) ≤ n
either_few true x y n h k = h
either_few false x y n h k = k

called_few : (o : Option Callee) (xs : List ℕ) (to : Option ℕ) (behind : Code) (rest : Units) → numbers_in (unit_call o xs to behind rest) ≤ suc (numbers_in rest)
called_few None xs to behind rest = omega arith
called_few (Some x) xs to behind rest = omega arith

numbers_few : (ps : List ℕ) (n : ℕ) (s : Stmts) → numbers_in (units ps n s) ≤ call_total s
numbers_few ps n no_more = omega arith
numbers_few ps n (computes op args to rest) = numbers_few ps n rest
numbers_few ps n (copies to from rest) = numbers_few ps n rest
numbers_few ps n (calls op stack args to rest) =
    let a = called_few (numbered ps n op) (last_of args stack) to (first_piece ps (suc n) rest) (units ps (suc n) rest) in
    let b = numbers_few ps (suc n) rest in omega (arith, a, b)
numbers_few ps n (leaps l rest) = numbers_few ps n rest
numbers_few ps n (leaps_if c l rest) = numbers_few ps n rest
numbers_few ps n (leaps_by o ls l rest) = numbers_few ps n rest
numbers_few ps n (nests s body rest) =
    let a = numbers_few ps n body in
    let b = numbers_few ps (n + call_total body) rest in
    either_few (holds_call ps n body)
    (nest_unit s (first_piece ps n body) (units ps n body) (first_piece ps (n + call_total body) rest) (units ps (n + call_total body) rest))
    (units ps (n + call_total body) rest) (call_total body + call_total rest) (omega (arith, a, b)) (omega (arith, b))
numbers_few ps n (decides c x y rest) =
    let a = numbers_few ps n x in
    let b = numbers_few ps (n + call_total x) y in
    let d = numbers_few ps (n + call_total x + call_total y) rest in
    let behind : ℕ = n + call_total x + call_total y in
    either_few (holds_call ps n x || holds_call ps (n + call_total x) y)
    (if_unit (Some c) (first_piece ps n x) (units ps n x) (first_piece ps (n + call_total x) y) (units ps (n + call_total x) y) (first_piece ps behind rest) (units ps behind rest))
    (units ps behind rest) (call_total x + call_total y + call_total rest) (omega (arith, a, b, d)) (omega (arith, d))
numbers_few ps n (halts rest) = numbers_few ps n rest

module _ (n : Names) where
  carried : (d : ℕ) (r : Option (Option ValType)) (ops : List ValType) (s : Stmts) → call_total (carry_to n d r ops s) ≡ call_total s
  carried d None ops s = refl
  carried d (Some None) ops s = refl
  carried d (Some (Some t)) ops s = refl

  carried_to : (ls : List (Option ValType)) (ops : List ValType) (l : ℕ) (s : Stmts) → call_total (carry n ls ops l s) ≡ call_total s
  carried_to ls ops l s = carried (length ls - suc l) (slice_get ls l) ops s

  all_carried : (ls : List (Option ValType)) (ops : List ValType) (labels : List ℕ) (s : Stmts) → call_total (carry_all n ls ops labels s) ≡ call_total s
  all_carried ls ops [] s = refl
  all_carried ls ops (l ∷ labels) s = carried_to ls ops l (carry_all n ls ops labels s) ∙ all_carried ls ops labels s

  arrived : (d : ℕ) (r : Option ValType) (ops : List ValType) (s : Stmts) → call_total (arrive n d r ops s) ≡ call_total s
  arrived d None ops s = refl
  arrived d (Some t) ops s = refl

  plain_few : (c : Around) (ls : List (Option ValType)) (ops behind : List ValType) (p : Plain) (s : Stmts) → call_total (flat_plain n c ls ops behind p s) ≤ suc (call_total s)
  plain_few c ls ops behind (basic b) s = omega arith
  plain_few c ls ops behind (local_get x) s = omega arith
  plain_few c ls ops behind (local_set x) s = omega arith
  plain_few c ls ops behind (local_tee x) s = omega arith
  plain_few c ls ops behind (br l) s = let e = carried_to ls ops l (leaps l no_more) in omega (arith, e)
  plain_few c ls ops behind (br_if l) s = let e = carried_to ls (drop 1 ops) l (leaps_if (Local (top n ops)) l s) in omega (arith, e)
  plain_few c ls ops behind (br_table ts l) s =
      let k : Stmts = carry n ls (drop 1 ops) l (leaps_by (Local (top n ops)) ts l no_more) in
      let e = all_carried ls (drop 1 ops) ts k in
      let g = carried_to ls (drop 1 ops) l (leaps_by (Local (top n ops)) ts l no_more) in omega (arith, e, g)
  plain_few c ls ops behind return s = let e = carried_to ls ops (length ls - 1) (leaps (length ls - 1) no_more) in omega (arith, e)
  plain_few c ls ops behind unreachable s = omega arith
  plain_few c ls ops behind (call x) s = omega arith
  plain_few c ls ops behind (call_indirect x) s = omega arith

  flat_few : (c : Around) (ls : List (Option ValType)) (code : Code) (ops : List ValType) → call_total (flat n c ls code ops) ≤ code_items code
  unfolding flat code_items
  flat_few c ls done ops = let e = carried_to ls ops 0 no_more in omega (arith, e)
  flat_few c ls (plain p rest) ops =
      let behind : List ValType = after (sig c ls p) ops in
      let le = plain_few c ls ops behind p (flat n c ls rest behind) in
      let ih = flat_few c ls rest behind in omega (arith, le, ih)
  flat_few c ls (nest s r body rest) ops =
      let e = arrived (length ls) (label s r) ops (flat n c ls rest (listed r ++ ops)) in
      let a = flat_few c (label s r ∷ ls) body ops in
      let b = flat_few c ls rest (listed r ++ ops) in omega (arith, e, a, b)
  flat_few c ls (branch r a b rest) ops =
      let e = arrived (length ls) r (drop 1 ops) (flat n c ls rest (listed r ++ drop 1 ops)) in
      let ia = flat_few c (r ∷ ls) a (drop 1 ops) in
      let ib = flat_few c (r ∷ ls) b (drop 1 ops) in
      let ic = flat_few c ls rest (listed r ++ drop 1 ops) in omega (arith, e, ia, ib, ic)

pub one_of_all : {X : Type 0} (P : X → Type 0) (xs : List X) (i : ℕ) (x : X) → All P xs → slice_get xs i ≡ Some x → P x
one_of_all P [] i x h e = cc
one_of_all P (y ∷ xs) zero x h e = let z : y ≡ x = cc in subst P z (All-head P y xs h)
one_of_all P (y ∷ xs) (suc i) x h e = one_of_all P xs i x (All-tail P y xs h) e

-- ---- a written function

depth_few : (c : Code) → depth_of c ≤ instructions_and_labels c
unfolding depth_of instructions_and_labels
depth_few done = omega arith
depth_few (plain p rest) = let a = depth_few rest in omega (arith, a)
depth_few (nest s r body rest) = let a = depth_few body in let b = depth_few rest in grind arith
depth_few (branch r x y rest) = let a = depth_few x in let b = depth_few y in let d = depth_few rest in grind arith

runs_fit : (ts : List ValType) → All (λ (r : Run). r.count < 2 ^ 32) (map one_run ts)
runs_fit [] = All-nil (λ (r : Run). r.count < 2 ^ 32)
runs_fit (t ∷ ts) = All-cons (λ (r : Run). r.count < 2 ^ 32) (one_run t) (map one_run ts) (omega arith) (runs_fit ts)

-- the runtime's functions stand behind
all_sorts_grown : (m : Module) → func_sorts (with_runtime m) ≡ func_sorts m ++ map (λ (f : Func). f.sort) (runtime_funcs (length m.types) (global_space m) (global_space m + 1))
unfolding with_runtime
all_sorts_grown m =
    let more : List Func = runtime_funcs (length m.types) (global_space m) (global_space m + 1) in
    ap (λ ks. imported imported_func m ++ ks) (map-append (λ (f : Func). f.sort) m.funcs more)
    ∙ sym (append_assoc (imported imported_func m) (map (λ (f : Func). f.sort) m.funcs) (map (λ (f : Func). f.sort) more))

-- the numbers of both codes are in range
abbrev pub CodesFit : FrameCode → Type 0
CodesFit c = BasicsFit c.restoring × BasicsFit c.saving

-- so are those of each told function
abbrev pub AllCodesFit : Module → (which : List Bool) → (codes : (index : ℕ) → Func → FrameCode) → Type 0
AllCodesFit m which codes = (x : ℕ) (f : Func) → defined_at m x ≡ Some f → is_told (slice_get which x) ≡ true → CodesFit (codes x f)

module _ (m : Module) (s : Settings) (which : List Bool) (codes : (index : ℕ) → Func → FrameCode) (v : Valid m) (w : WellFormed m) (strict : StrictSizeRule m) where
  module _ (x i : ℕ) (f : Func) (e : slice_get m.funcs i ≡ Some f) (fits : FuncFits f) (sizes : FuncSizes (2 ^ 31) (2 ^ 31) m f) (few : Count m f ≤ 50000)
      (owed : CodesHold m s which x f (codes x f)) (basics : CodesFit (codes x f)) where
    abbrev g : Func
    g = written_by m s which codes x f

    abbrev gf : GuardedFunc
    gf = guarded_by m s which codes x f

    abbrev ps : Pieces
    ps = (codes x f).pieces

    globals_small : global_space m < 2 ^ 31
    globals_small = omega (arith, globals_counted m, strict.globals)

    stmts : StmtsBasic (flattened m x f).body
    stmts = flat_fits (names m f) (around m f) ((around m f).result ∷ []) f.body [] (fits_basic f.body fits.body)

    numbers_small : numbers_in ps.units < 2 ^ 32
    numbers_small =
        let z = (units_alike (flat_terms m (Numbered m s which f) x f) 0 (owed.slim.out ∷ []) owed.slim.out owed.slim.here []
        (first_piece (Numbered m s which f) 0 (flattened m x f).body) ps.first (units (Numbered m s which f) 0 (flattened m x f).body) ps.units owed.slim.slim).numbers in
        let a = numbers_few (Numbered m s which f) 0 (flattened m x f).body in
        let b = flat_few (names m f) (around m f) ((around m f).result ∷ []) f.body [] in
        omega (arith, z, a, b, sizes.total)

    written_basic : BasicsFit g.body
    written_basic =
        let st = globals_small in
        let state : global_space m < 2 ^ 32 = omega (arith, st) in
        let result = (flattened m x f).result in
        let value = value_code (result_type (flattened m x f).locals result) in
        let both =
        units_basic (flat_terms m (Numbered m s which f) x f) 0 (owed.slim.out ∷ []) owed.slim.out owed.slim.here []
        (first_piece (Numbered m s which f) 0 (flattened m x f).body) ps.first (units (Numbered m s which f) 0 (flattened m x f).body) ps.units owed.slim.slim
        (first_fits (Numbered m s which f) 0 (flattened m x f).body stmts) (units_fit (Numbered m s which f) 0 (flattened m x f).body stmts) in (
          body_fits (indices_of (global_space m) gf) state (followed_by (codes x f).restoring) (λ c h. followed_fits (codes x f).restoring c basics.0 h) ps.first ps.units result numbers_small both.0
              both.1,
          followed_fits (codes x f).saving value basics.1 (result_value_fits (result_type (flattened m x f).locals result)),
        )

    depth_small : 1 + depth_of g.body ≤ 2 ^ 32
    depth_small =
        let a = written_depth m s which codes x f owed.slim owed.restoring_quiet.depth owed.saving_quiet.depth in
        let b = depth_few (pruned f.body) in
        let c = code_weighs m (pruned f.body) in
        let d = weight_fits (2 ^ 31) (2 ^ 31) m f sizes in omega (arith, a, b, c, d)

    few_around : AroundFew (around (emitted m s which codes) g)
    unfolding with_runtime
    few_around =
        let a = ap length (all_types m s which codes) in
        let b = length-map (func_sorts (with_runtime m)) (type_at (with_runtime m)) in
        let n = funcs_counted m in
        let k = length-append (func_sorts m) (map (λ (f : Func). f.sort) (runtime_funcs (length m.types) (global_space m) (global_space m + 1))) in
        let q = ap length (all_sorts_grown m) in
        let t = ap (λ (c : Around). length c.types) (same_around m s which codes g) in
        let u = length-append m.types runtime_types in
        record {
          funcs = omega (arith, a, b, n, k, q, strict.funcs);
          types = omega (arith, t, u, strict.types);
          locals = omega (arith, written_length m s which codes x f v (sort_there m s which v i f e) (v.bodies i f e), few);
        }

    pub written_fits : FuncFits g
    written_fits = record {
      sort = omega (arith, sort_there m s which v i f e, strict.types);
      locals = All-append (λ (r : Run). r.count < 2 ^ 32) f.locals (map one_run (extra_types m f ++ three)) fits.locals (runs_fit (extra_types m f ++ three));
      body = typed_fits (around (emitted m s which codes) g) few_around ((around (emitted m s which codes) g).result ∷ []) g.body (listed (around (emitted m s which codes) g).result) []
          (written_typed m s which codes x f v (sort_there m s which v i f e) (v.bodies i f e) owed.slim owed.restoring_typed owed.saving_typed) written_basic depth_small;
    }

  -- ---- all functions

  all_emitted : (y : ℕ) (fs : List Func) → ((i : ℕ) (f : Func) → slice_get fs i ≡ Some f → FuncFits (func_by m s which codes (y + i) f)) → All FuncFits (funcs_by m s which codes y fs)
  all_emitted y [] h = All-nil FuncFits
  all_emitted y (f ∷ fs) h =
      let z : y + 0 ≡ y = omega arith in
      All-cons FuncFits (func_by m s which codes y f) (funcs_by m s which codes (suc y) fs) (subst (λ j. FuncFits (func_by m s which codes j f)) z (h 0 f refl))
      (all_emitted (suc y) fs (λ i g e. let k : y + suc i ≡ suc y + i = omega arith in subst (λ j. FuncFits (func_by m s which codes j g)) k (h (suc i) g e)))

  module _ (hold : AllCodesHold m s which codes) (fit : AllCodesFit m which codes) where
    each_emitted : FewWritten m which → (i : ℕ) (f : Func) → slice_get m.funcs i ≡ Some f → FuncFits (func_by m s which codes (func_imports m + i) f)
    each_emitted few i f e = by (is_told (slice_get which (func_imports m + i))) refl
      where
        by : (b : Bool) → is_told (slice_get which (func_imports m + i)) ≡ b → FuncFits (func_by m s which codes (func_imports m + i) f)
        by true b =
            subst FuncFits (sym (told m s which codes (func_imports m + i) f b))
            (written_fits (func_imports m + i) i f e (one_of_all FuncFits m.funcs i f w.funcs e) (one_of_all (FuncSizes (2 ^ 31) (2 ^ 31) m) m.funcs i f strict.each_func e)
            (few (func_imports m + i) f (defined_of m i f e) b) (hold (func_imports m + i) f (defined_of m i f e) b) (fit (func_imports m + i) f (defined_of m i f e) b))
        by false b = subst FuncFits (sym (not_told m s which codes (func_imports m + i) f b)) (one_of_all FuncFits m.funcs i f w.funcs e)

    inner_fits : FewWritten m which → WellFormed (inner m s which codes)
    inner_fits few = record {
      imports = w.imports;
      funcs = all_emitted (func_imports m) m.funcs (each_emitted few);
      tables = w.tables;
      memories = w.memories;
      globals = w.globals;
      exports = w.exports;
      start = w.start;
      elems = w.elems;
      segments = w.segments;
      customs = w.customs;
    }

    pub emitted_fits : FewWritten m which → WellFormed (asyncified_by m s which codes)
    emitted_fits few =
        let sorts = ap length (own_sorts m s which codes) in
        grown_fits (inner m s which codes) (inner_fits few) strict.types (omega (arith, sorts, funcs_counted m, strict.funcs)) (omega (arith, globals_counted m, strict.globals))
