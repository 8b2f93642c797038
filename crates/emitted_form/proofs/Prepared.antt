-- What is written of an emitted module is within the bounds of a prepared module.
use Rattle.std.proofs.Common.{◌≡◌, ◌∙◌, ℕ, zero, suc, ◌+◌, ◌≤◌, List, [], ◌∷◌, ◌++◌, length, map, Bool, true, false, Some, None, All, refl, sym, ap, subst, arith, length-append}
use Rattle.std.specs.Prelude.{slice_get, if◌then◌else◌}
use Rattle.std.proofs.lemmas.List.{length-map, length-replicate}
use Rattle.std.proofs.lemmas.List.Sums.{sum_by-cons}
use Rattle.std.proofs.lemmas.List.Elements.{All-nil, All-cons, All-head, All-tail, All-append}
use Rattle.wa_types.specs.declared.syntax.Run.{Run}
use Rattle.wa_types.specs.declared.values.ValType.TheVariants.{I32}
use Rattle.wa_types.specs.Counts.{depth_of}
use Rattle.wa_types.specs.Encoding.{Enc, merged}
use Rattle.wa_types.specs.Marks.{first_above}
use Rattle.wa_types.specs.ModuleBounds.{source_bounds, prepared_bounds}
use Rattle.wa_types.specs.Modules.{func_imports, or_empty, type_at, declared_locals, locals_of}
use Rattle.wa_types.specs.Norm.{Norm}
use Rattle.wa_types.specs.Pausing.{Settings, is_told}
use Rattle.wa_types.specs.Pruned.{is_last, pruned}
use Rattle.wa_types.specs.Reading.{SpellsModule}
use Rattle.wa_types.specs.Runtime.{runtime_types, zero_global, runtime_globals, runtime_func, runtime_funcs, start_code, stop_code, state_code, global_space, with_runtime}
use Rattle.wa_types.specs.Sizes.{params_of_type}
use Rattle.wa_types.specs.Syntax.{Code, done, plain, nest, branch, FuncType, Func, GlobalDef, Elem, Segment, Module}
use Rattle.wa_types.specs.Typing.{Around}
use Rattle.wa_types.specs.Validity.{Valid}
use Rattle.wasm_reader.specs.Answers.{IsAccepted}
use Rattle.wasm_reader.specs.Locals.{counts_of, func_locals}
use Rattle.wasm_reader.proofs.SpelledSizes.{none_above, spelled_locals}
use Rattle.norm_laws.proofs.Locals.{merged_keeps}
use Rattle.emitted_form.specs.CodesHold.{AllCodesHold}
use Rattle.emitted_form.specs.Emitted.{layout_codes}
use Rattle.emitted_form.specs.EmittedBy.{FrameCode, written_by, func_by, funcs_by, asyncified_by}
use Rattle.emitted_form.specs.Sizes.{FewWritten}
use Rattle.emitted_form.proofs.EmittedBy.{inner, told, not_told, same_length, same_around, defined_of}
use Rattle.emitted_form.proofs.EmittedRewritten.{sort_there}
use Rattle.emitted_form.proofs.SizesBy.{written_depth}
use Rattle.emitted_form.proofs.WrittenBy.{written_length}
use Rattle.emitted_form.proofs.WrittenSizes.{layouts_hold}
use Rattle.emitted_form.proofs.WiderTypes.{same_locals}
use Rattle.emitted_form.proofs.FitsBy.{one_of_all}
use Rattle.emitted_form.specs.Prepared.{EmittedIsPrepared}
use Rattle.emitted_form.proofs.Floats.{no_floats}
use Rattle.emitted_form.proofs.Levels.{Levels, levels_of, opens_of}
use Rattle.emitted_form.proofs.Numbers.{below_bound, functions_of, functions_counted, few_params_of, few_params, short_bodies}

-- ---- a module that is spelled within the bounds

pub prepared : (bytes : List ℕ) (q : Module) → SpellsModule bytes q → length bytes ≤ 67108864 → functions_of q ≤ 100005 → All (λ (t : FuncType). length t.params ≤ 1000) q.types
    → Levels 3008 q → All (λ (f : Func). func_locals q.types f ≤ 50000) q.funcs → IsAccepted prepared_bounds bytes q
prepared bytes q s short functions params levels locals = record {
  sections = s.sections;
  within = record {
    before = record {
      before = record {
        before = record {
          before = record {
            before = record {
              file = record { few = short; spells = s.spells };
              whole_numbers = no_floats s.sections q s.is_module;
            };
            functions = let e = functions_counted s.sections q s.is_module in omega (arith, e, functions);
          };
          parameters = few_params 1000 s.sections q s.is_module params;
        };
        bodies = short_bodies 67108864 bytes s.sections s.spells short;
      };
      nesting = opens_of 3008 s.sections q s.is_module levels;
    };
    locals = ap (first_above 50000) (spelled_locals s.sections q s.is_module) ∙ below_bound (func_locals q.types) 50000 q.funcs locals;
  };
  is_module = s.is_module;
}

-- ---- depths

pruned_flatter : (c : Code) → depth_of (pruned c) ≤ depth_of c
unfolding pruned depth_of
pruned_flatter done = omega arith
pruned_flatter (plain p rest) = by (is_last p) (pruned_flatter rest)
  where
    by : (b : Bool) → depth_of (pruned rest) ≤ depth_of rest → depth_of (if b then done else pruned rest) ≤ depth_of rest
    by true h = omega arith
    by false h = h
pruned_flatter (nest s r body rest) = let a = pruned_flatter body in let b = pruned_flatter rest in grind arith
pruned_flatter (branch r x y rest) = let a = pruned_flatter x in let b = pruned_flatter y in let c = pruned_flatter rest in grind arith

deeper : {X : Type 0} (f : X → ℕ) (a b : ℕ) → a ≤ b → (xs : List X) → All (λ x. f x ≤ a) xs → All (λ x. f x ≤ b) xs
deeper f a b le [] h = All-nil (λ x. f x ≤ b)
deeper f a b le (x ∷ xs) h = let l = All-head (λ x. f x ≤ a) x xs h in All-cons (λ x. f x ≤ b) x xs (omega (arith, l, le)) (deeper f a b le xs (All-tail (λ x. f x ≤ a) x xs h))

pub wider_levels : (a b : ℕ) (m : Module) → a ≤ b → Levels a m → Levels b m
wider_levels a b m le l = record {
  funcs = deeper (λ (f : Func). depth_of f.body) a b le m.funcs l.funcs;
  globals = deeper (λ (g : GlobalDef). depth_of g.init) a b le m.globals l.globals;
  elems = deeper (λ (e : Elem). depth_of e.offset) a b le m.elems l.elems;
  segments = deeper (λ (s : Segment). depth_of s.offset) a b le m.segments l.segments;
}

abbrev pub FewParams : FuncType → Type 0
FewParams t = length t.params ≤ 1000

three_types : All FewParams runtime_types
three_types =
    let a : FuncType = record { params = I32 ∷ []; results = [] } in
    let b : FuncType = record { params = []; results = [] } in
    let c : FuncType = record { params = []; results = I32 ∷ [] } in
    All-cons FewParams a (b ∷ c ∷ []) (omega arith) (All-cons FewParams b (c ∷ []) (omega arith) (All-cons FewParams c [] (omega arith) (All-nil FewParams)))

-- ---- the emitted module

abbrev pub merged_func : Func → Func
merged_func f = record f { locals = merged f.locals }

merged_all : (P Q : Func → Type 0) → ((f : Func) → P f → Q (merged_func f)) → (fs : List Func) → All P fs → All Q (map merged_func fs)
merged_all P Q w [] h = All-nil Q
merged_all P Q w (f ∷ fs) h = All-cons Q (merged_func f) (map merged_func fs) (w f (All-head P f fs h)) (merged_all P Q w fs (All-tail P f fs h))

declared_length : (rs : List Run) → length (declared_locals rs) ≡ counts_of rs
declared_length [] = refl
declared_length (r ∷ rs) =
    length-append _ (declared_locals rs) ∙ omega (arith, length-replicate r.count r.ty, declared_length rs, sum_by-cons (λ (s : Run). s.count) r rs)

type_params : (ts : List FuncType) (sort : ℕ) → length (or_empty (slice_get ts sort)).params ≡ params_of_type ts sort
type_params [] sort = refl
type_params (t ∷ ts) zero = refl
type_params (t ∷ ts) (suc sort) = type_params ts sort

-- the parameters and locals of a function, merged or not
locals_counted : (p : Module) (f : Func) → length (locals_of p f) ≡ func_locals p.types f
locals_counted p f = length-append (type_at p f.sort).params (declared_locals f.locals) ∙ omega (arith, type_params p.types f.sort, declared_length f.locals)

merged_counted : (p : Module) (f : Func) → func_locals p.types (merged_func f) ≡ func_locals p.types f
merged_counted p f =
    let a = ap length (merged_keeps f.locals) in omega (arith, a, declared_length f.locals, declared_length (merged f.locals))

params_behind : (ts us : List FuncType) (k : ℕ) → params_of_type (ts ++ us) (length ts + k) ≡ params_of_type us k
params_behind [] us k = let z : 0 + k ≡ k = omega arith in ap (params_of_type us) z
params_behind (t ∷ ts) us k = let z : length (t ∷ ts) + k ≡ suc (length ts + k) = omega arith in ap (params_of_type (t ∷ ts ++ us)) z ∙ params_behind ts us k

-- a body of the runtime
abbrev Low : Module → Func → Type 0
Low p f = (depth_of f.body ≤ 3007) × (func_locals p.types f ≤ 50000)

runtime_low : (m : Module) → All (Low (with_runtime m)) (runtime_funcs (length m.types) (global_space m) (global_space m + 1))
unfolding with_runtime depth_of
runtime_low m =
    let a = params_behind m.types runtime_types 0 in
    let b = params_behind m.types runtime_types 1 in
    let c = params_behind m.types runtime_types 2 in
    let z : length m.types + 0 ≡ length m.types = omega arith in
    let e = ap (params_of_type (m.types ++ runtime_types)) z in
    let P : Func → Type 0 = Low (with_runtime m) in
    let sort : ℕ = length m.types in
    let state : ℕ = global_space m in
    let x : Func = runtime_func sort (start_code 1 state (state + 1)) in
    let y : Func = runtime_func (sort + 1) (stop_code state (state + 1)) in
    let w : Func = runtime_func sort (start_code 2 state (state + 1)) in
    let q : Func = runtime_func (sort + 2) (state_code state) in
    let px : P x = (omega arith, omega (arith, a, e)) in
    let py : P y = (omega arith, omega (arith, b)) in
    let pw : P w = (omega arith, omega (arith, a, e)) in
    let pq : P q = (omega arith, omega (arith, c)) in
    All-cons P x (y ∷ w ∷ y ∷ q ∷ []) px (All-cons P y (w ∷ y ∷ q ∷ []) py (All-cons P w (y ∷ q ∷ []) pw (All-cons P y (q ∷ []) py (All-cons P q [] pq (All-nil P)))))

module _ (m : Module) (s : Settings) (which : List Bool) (codes : (index : ℕ) → Func → FrameCode) (v : Valid m) (hold : AllCodesHold m s which codes) (few : FewWritten m which)
    (levels : Levels 1000 m)
    (locals : All (λ (f : Func). func_locals m.types f ≤ 50000) m.funcs) where
  abbrev p : Module
  p = asyncified_by m s which codes

  own_locals : (i : ℕ) (f : Func) → slice_get m.funcs i ≡ Some f → func_locals p.types f ≤ 50000
  own_locals i f e =
      let a = locals_counted p f in
      let b = ap (λ (c : Around). length c.locals) (same_around m s which codes f) in
      let c = ap length (same_locals m v f (sort_there m s which v i f e)) in
      let d = locals_counted m f in
      let l = one_of_all (λ (f : Func). func_locals m.types f ≤ 50000) m.funcs i f locals e in omega (arith, a, b, c, d, l)

  func_low : (i : ℕ) (f : Func) → slice_get m.funcs i ≡ Some f → Low p (func_by m s which codes (func_imports m + i) f)
  func_low i f e = by (is_told (slice_get which (func_imports m + i))) refl
    where
      x : ℕ
      x = func_imports m + i

      deep : depth_of f.body ≤ 1000
      deep = one_of_all (λ (f : Func). depth_of f.body ≤ 1000) m.funcs i f levels.funcs e

      by : (b : Bool) → is_told (slice_get which (func_imports m + i)) ≡ b → Low p (func_by m s which codes (func_imports m + i) f)
      by true b =
          let y : ℕ = func_imports m + i in
          let g : Func = written_by m s which codes y f in
          let owed = hold y f (defined_of m i f e) b in
          let a = written_depth m s which codes y f owed.slim owed.restoring_quiet.depth owed.saving_quiet.depth in
          let c = pruned_flatter f.body in
          let n = written_length m s which codes y f v (sort_there m s which v i f e) (v.bodies i f e) in
          let k = locals_counted p g in
          let l = few y f (defined_of m i f e) b in
          subst (Low p) (sym (told m s which codes y f b)) (omega (arith, a, c, deep), omega (arith, n, k, l))
      by false b = subst (Low p) (sym (not_told m s which codes (func_imports m + i) f b)) (omega (arith, deep), own_locals i f e)

  all_low : (y : ℕ) (fs : List Func) → ((i : ℕ) (f : Func) → slice_get fs i ≡ Some f → Low p (func_by m s which codes (y + i) f)) → All (Low p) (funcs_by m s which codes y fs)
  all_low y [] h = All-nil (Low p)
  all_low y (f ∷ fs) h =
      let z : y + 0 ≡ y = omega arith in
      All-cons (Low p) (func_by m s which codes y f) (funcs_by m s which codes (suc y) fs) (subst (λ j. Low p (func_by m s which codes j f)) z (h 0 f refl))
      (all_low (suc y) fs (λ i g e. let k : y + suc i ≡ suc y + i = omega arith in subst (λ j. Low p (func_by m s which codes j g)) k (h (suc i) g e)))

  funcs_low : All (Low p) p.funcs
  unfolding with_runtime
  funcs_low = All-append (Low p) (inner m s which codes).funcs (runtime_funcs (length m.types) (global_space m) (global_space m + 1)) (all_low (func_imports m) m.funcs func_low) (runtime_low m)

  norm_levels : Levels 3007 (Norm p)
  unfolding Norm with_runtime depth_of
  norm_levels = record {
    funcs = merged_all (Low p) (λ (f : Func). depth_of f.body ≤ 3007) (λ f h. h.0) p.funcs funcs_low;
    globals = All-append (λ (g : GlobalDef). depth_of g.init ≤ 3007) m.globals runtime_globals (deeper (λ (g : GlobalDef). depth_of g.init) 1000 3007 (omega arith) m.globals levels.globals)
        (All-cons (λ (g : GlobalDef). depth_of g.init ≤ 3007) zero_global (zero_global ∷ []) (omega arith)
        (All-cons (λ (g : GlobalDef). depth_of g.init ≤ 3007) zero_global [] (omega arith) (All-nil (λ (g : GlobalDef). depth_of g.init ≤ 3007))));
    elems = deeper (λ (e : Elem). depth_of e.offset) 1000 3007 (omega arith) m.elems levels.elems;
    segments = deeper (λ (s : Segment). depth_of s.offset) 1000 3007 (omega arith) m.segments levels.segments;
  }

  norm_locals : All (λ (f : Func). func_locals (Norm p).types f ≤ 50000) (Norm p).funcs
  unfolding Norm
  norm_locals = merged_all (Low p) (λ (f : Func). func_locals p.types f ≤ 50000) (λ f h. let e = merged_counted p f in omega (arith, e, h.1)) p.funcs funcs_low

  norm_functions : functions_of (Norm p) ≡ functions_of m + 5
  unfolding Norm with_runtime
  norm_functions =
      let a = length-map p.funcs merged_func in
      let b = length-append (inner m s which codes).funcs (runtime_funcs (length m.types) (global_space m) (global_space m + 1)) in
      let c = same_length m s which codes in omega (arith, a, b, c)

-- What is emitted of a source: its constructs nest less deep than a prepared module's may, its functions have few locals, and there are few.
pub record LowModule (q : Module) : Type 0 where
  pub levels : Levels 3007 (Norm q)
  pub locals : All (λ (f : Func). func_locals q.types f ≤ 50000) (Norm q).funcs
  pub functions : functions_of (Norm q) ≤ 100005
  pub params : All FewParams q.types

pub emitted_low : (m : Module) (s : Settings) (which : List Bool) (codes : (index : ℕ) → Func → FrameCode) (bytes : List ℕ) → IsAccepted source_bounds bytes m → Valid m
    → AllCodesHold m s which codes → FewWritten m which → LowModule (asyncified_by m s which codes)
unfolding Norm with_runtime
emitted_low m s which codes bytes a v hold few =
    let levels = levels_of 1000 a.sections m a.is_module a.within.before.nesting in
    let counts : first_above 50000 (map (func_locals m.types) m.funcs) ≡ None = subst (λ ns. first_above 50000 ns ≡ None) (spelled_locals a.sections m a.is_module) a.within.locals in
    let locals = none_above (func_locals m.types) 50000 m.funcs counts in
    let functions = functions_counted a.sections m a.is_module in
    let most = a.within.before.before.before.before.functions in
    let params = few_params_of 1000 a.sections m a.is_module a.within.before.before.before.parameters in
    let n = norm_functions m s which codes v hold few levels locals in
    record {
      levels = norm_levels m s which codes v hold few levels locals;
      locals = norm_locals m s which codes v hold few levels locals;
      functions = omega (arith, n, functions, most);
      params = All-append FewParams m.types runtime_types params three_types;
    }

-- Such a module, where its bytes spell it and aren't too many, is a prepared one.
pub low_prepared : (q : Module) → Levels 3008 (Norm q) → All (λ (f : Func). func_locals q.types f ≤ 50000) (Norm q).funcs → functions_of (Norm q) ≤ 100005 → All FewParams q.types
    → length (Enc q) ≤ 67108864 → SpellsModule (Enc q) (Norm q) → IsAccepted prepared_bounds (Enc q) (Norm q)
unfolding Norm
low_prepared q levels locals functions params short spelled = prepared (Enc q) (Norm q) spelled short functions params levels locals

-- what is written of a source is within the bounds of a prepared module
pub prepared_by : (m : Module) (s : Settings) (which : List Bool) (codes : (index : ℕ) → Func → FrameCode) (bytes : List ℕ) → IsAccepted source_bounds bytes m → Valid m
    → AllCodesHold m s which codes → FewWritten m which
    → length (Enc (asyncified_by m s which codes)) ≤ 67108864 → SpellsModule (Enc (asyncified_by m s which codes)) (Norm (asyncified_by m s which codes))
    → IsAccepted prepared_bounds (Enc (asyncified_by m s which codes)) (Norm (asyncified_by m s which codes))
prepared_by m s which codes bytes a v hold few short spelled =
    let low = emitted_low m s which codes bytes a v hold few in
    low_prepared (asyncified_by m s which codes) (wider_levels 3007 3008 (Norm (asyncified_by m s which codes)) (omega arith) low.levels) low.locals low.functions low.params short spelled

pub emitted_prepared : EmittedIsPrepared
emitted_prepared m s which pieces bytes a v slim few short spelled =
    prepared_by m s which (layout_codes m s which pieces) bytes a v (layouts_hold m s which pieces v slim) few short spelled
