-- What is emitted with asserts keeps the size rule.
use Rattle.std.proofs.Common.{◌≡◌, ◌∙◌, ℕ, zero, suc, ◌+◌, ◌-◌, ◌*◌, ◌^◌, ◌<◌, ◌≤◌, List, [], ◌∷◌, ◌++◌, length, Option, Some, None, Bool, true, false, All, refl, sym, ap, subst, arith, length-append, ⊎_elim}
use Rattle.std.specs.Prelude.{not, slice_get, if◌then◌else◌}
use Rattle.std.specs.List.{flat_map, sum_by}
use Rattle.std.proofs.lemmas.Bool.{cases_lt}
use Rattle.std.proofs.lemmas.List.{length-map}
use Rattle.std.proofs.lemmas.List.Elements.{All-cons, All-nil}
use Rattle.wa_types.specs.declared.syntax.Import.{Import}
use Rattle.wa_types.specs.declared.syntax.Run.{Run}
use Rattle.wa_types.specs.Modules.{func_imports}
use Rattle.wa_types.specs.Pausing.{Callee, Settings, callee, callee_onto, calls_of, has_number, is_told}
use Rattle.wa_types.specs.Pruned.{is_last}
use Rattle.wa_types.specs.Runtime.{global_space, runtime_funcs, with_runtime}
use Rattle.wa_types.specs.Sizes.{FuncSizes, SizeRule, all_sorts, code_items, code_lists, code_params, else_count, kind_sorts, label_count, params_of_type}
use Rattle.wa_types.specs.Syntax.{Code, branch, done, nest, plain, Func, Module}
use Rattle.wa_types.proofs.SizeBounds.{weight_fits}
use Rattle.wa_model.specs.Rewrites.{instructions_and_labels}
use Rattle.run_theory.specs.Growth.{Each}
use Rattle.run_theory.proofs.GrownSteps.{each_got}
use Rattle.run_theory.proofs.RuntimeValid.{behind}
use Rattle.run_laws.proofs.Sizes.{one_more, params_more}
use Rattle.guard_form.specs.Asserts.{any_callee, assert_code, asserted, asserted_reached, tested_behind}
use Rattle.guard_form.proofs.AssertedCode.{calls_behind, calls_stay}
use Rattle.emitted_form.specs.CodesHold.{AllCodesHold, AllCodesSmall}
use Rattle.emitted_form.specs.EmittedBy.{FrameCode, asyncified_by, func_by, written_by}
use Rattle.emitted_form.proofs.EmittedBy.{defined_of, emitted_at, funcs_are, inner, not_told, runtime, same_length, told}
use Rattle.emitted_form.proofs.EmittedSizes.{emitted_sizes, func_written, params_are, params_by_calls, params_sum, same_params}
use Rattle.emitted_form.proofs.FitsBy.{one_of_all}
use Rattle.emitted_form.specs.PolicyLaws.{CanBeEmitted}
use Rattle.assert_laws.specs.AssertedModules.{AssertedKeepsSizes}
use Rattle.assert_laws.specs.EmittedWithAsserts.{asserted_body, func_with_asserts, funcs_with_asserts, module_with_asserts}
use Rattle.assert_laws.proofs.ModuleWithAsserts.{sorts_from}
use Rattle.assert_laws.proofs.WrittenWithAsserts.{calls_few, calls_weigh, codes_of}

-- ---- what tests add to code

module _ (tests : Callee → Bool) (st : ℕ) where
  behind_items : (o : Option Callee) (c : Code) (cs : List Callee) → code_items (tested_behind tests st o c) + 6 * length cs ≤ code_items c + 6 * length (callee_onto o cs)
  unfolding code_items
  behind_items None c cs = omega arith
  behind_items (Some x) c cs = by (tests x)
    where
      by : (b : Bool) → code_items (if b then assert_code st c else c) + 6 * length cs ≤ code_items c + 6 * length (x ∷ cs)
      by true = omega arith
      by false = omega arith

  behind_lists : (n : ℕ) (o : Option Callee) (c : Code) → code_lists n c → code_lists n (tested_behind tests st o c)
  behind_lists n None c h = h
  behind_lists n (Some x) c h = by (tests x)
    where
      by : (b : Bool) → code_lists n (if b then assert_code st c else c)
      by true = (tt, (tt, (tt, ((tt, tt), tt, h))))
      by false = h

  else_asserted : (b : Code) → else_count (asserted tests st b) ≡ else_count b
  unfolding asserted
  else_asserted done = refl
  else_asserted (plain p rest) = refl
  else_asserted (nest s r body rest) = refl
  else_asserted (branch r x y rest) = refl

  items_grow : (c : Code) → code_items (asserted tests st c) ≤ code_items c + 6 * length (calls_of c)
  unfolding code_items asserted calls_of
  items_grow done = omega arith
  items_grow (plain p rest) = let ih = items_grow rest in let t = behind_items (callee p) (asserted tests st rest) (calls_of rest) in omega arith
  items_grow (nest s r body rest) = let a = items_grow body in let b = items_grow rest in let n = length-append (calls_of body) (calls_of rest) in omega arith
  items_grow (branch r a b rest) =
      let x = items_grow a in let y = items_grow b in let z = items_grow rest in let e = else_asserted b in
      let n = length-append (calls_of a ++ calls_of b) (calls_of rest) in let k = length-append (calls_of a) (calls_of b) in omega arith

  lists_stay : (n : ℕ) (c : Code) → code_lists n c → code_lists n (asserted tests st c)
  unfolding asserted
  lists_stay n done h = tt
  lists_stay n (plain p rest) h = (h.0, behind_lists n (callee p) (asserted tests st rest) (lists_stay n rest h.1))
  lists_stay n (nest s r body rest) h = (lists_stay n body h.0, lists_stay n rest h.1)
  lists_stay n (branch r a b rest) h = (lists_stay n a h.0, lists_stay n b h.1, lists_stay n rest h.2)

-- the same of functions that stay
module _ (st : ℕ) where
  else_reached : (b : Code) → else_count (asserted_reached st b) ≡ else_count b
  unfolding asserted_reached
  else_reached done = refl
  else_reached (plain p rest) = refl
  else_reached (nest s r body rest) = refl
  else_reached (branch r x y rest) = refl

  pub reached_items : (c : Code) → code_items (asserted_reached st c) ≤ code_items c + 6 * length (calls_of c)
  unfolding code_items asserted_reached calls_of
  reached_items done = omega arith
  reached_items (plain p rest) = by (is_last p) (reached_items rest)
    where
      t : code_items (tested_behind any_callee st (callee p) (asserted_reached st rest)) + 6 * length (calls_of rest)
          ≤ code_items (asserted_reached st rest) + 6 * length (callee_onto (callee p) (calls_of rest))
      t = behind_items any_callee st (callee p) (asserted_reached st rest) (calls_of rest)

      by : (b : Bool) → code_items (asserted_reached st rest) ≤ code_items rest + 6 * length (calls_of rest)
          → 1 + label_count p + code_items (if b then rest else tested_behind any_callee st (callee p) (asserted_reached st rest))
          ≤ 1 + label_count p + code_items rest + 6 * length (callee_onto (callee p) (calls_of rest))
      by true ih = omega arith
      by false ih = let u = t in omega arith
  reached_items (nest s r body rest) = let a = reached_items body in let b = reached_items rest in let n = length-append (calls_of body) (calls_of rest) in omega arith
  reached_items (branch r a b rest) =
      let x = reached_items a in let y = reached_items b in let z = reached_items rest in let e = else_reached b in
      let n = length-append (calls_of a ++ calls_of b) (calls_of rest) in let k = length-append (calls_of a) (calls_of b) in omega arith

  reached_lists : (n : ℕ) (c : Code) → code_lists n c → code_lists n (asserted_reached st c)
  unfolding asserted_reached
  reached_lists n done h = tt
  reached_lists n (plain p rest) h = (h.0, by (is_last p) (reached_lists n rest h.1))
    where
      by : (b : Bool) → code_lists n (asserted_reached st rest) → code_lists n (if b then rest else tested_behind any_callee st (callee p) (asserted_reached st rest))
      by true ih = h.1
      by false ih = behind_lists any_callee st n (callee p) (asserted_reached st rest) ih
  reached_lists n (nest s r body rest) h = (reached_lists n body h.0, reached_lists n rest h.1)
  reached_lists n (branch r a b rest) h = (reached_lists n a h.0, reached_lists n b h.1, reached_lists n rest h.2)

  pub reached_calls : (c : Code) → calls_of (asserted_reached st c) ≡ calls_of c
  unfolding asserted_reached calls_of
  reached_calls done = refl
  reached_calls (plain p rest) = ap (callee_onto (callee p)) (by (is_last p) (reached_calls rest))
    where
      by : (b : Bool) → calls_of (asserted_reached st rest) ≡ calls_of rest → calls_of (if b then rest else tested_behind any_callee st (callee p) (asserted_reached st rest)) ≡ calls_of rest
      by true ih = refl
      by false ih = calls_behind any_callee st (callee p) (asserted_reached st rest) ∙ ih
  reached_calls (nest s r body rest) = ap (λ cs. cs ++ calls_of (asserted_reached st rest)) (reached_calls body) ∙ ap (λ cs. calls_of body ++ cs) (reached_calls rest)
  reached_calls (branch r a b rest) =
      ap (λ cs. cs ++ calls_of (asserted_reached st b) ++ calls_of (asserted_reached st rest)) (reached_calls a)
      ∙ ap (λ cs. calls_of a ++ cs ++ calls_of (asserted_reached st rest)) (reached_calls b) ∙ ap (λ cs. calls_of a ++ calls_of b ++ cs) (reached_calls rest)

module _ (tests : Callee → Bool) (st : ℕ) where
  body_items : (b : Bool) (c : Code) → code_items (asserted_body tests st b c) ≤ code_items c + 6 * length (calls_of c)
  body_items true c = items_grow tests st c
  body_items false c = reached_items st c

  body_lists : (b : Bool) (n : ℕ) (c : Code) → code_lists n c → code_lists n (asserted_body tests st b c)
  body_lists true n c h = lists_stay tests st n c h
  body_lists false n c h = reached_lists st n c h

  pub body_calls : (b : Bool) (c : Code) → calls_of (asserted_body tests st b c) ≡ calls_of c
  body_calls true c = calls_stay tests st c
  body_calls false c = reached_calls st c

-- ---- one function

pub counts_items : (c : Code) → instructions_and_labels c ≤ code_items c
unfolding instructions_and_labels code_items
counts_items done = omega arith
counts_items (plain p rest) = let a = counts_items rest in omega arith
counts_items (nest s r body rest) = let a = counts_items body in let b = counts_items rest in omega arith
counts_items (branch r a b rest) = let x = counts_items a in let y = counts_items b in let z = counts_items rest in omega arith

module _ (m : Module) (s : Settings) (which : List Bool) (p0 : Module) where
  abbrev p : Module
  p = module_with_asserts m s which p0

  abbrev runs_sum : Func → ℕ
  runs_sum g = sum_by (λ (r : Run). r.count) g.locals

  -- the size rule, with room for a test behind each call
  pub record Roomy (g : Func) : Type 0 where
    pub sizes : FuncSizes (2 ^ 32) (2 ^ 56) p0 g
    pub room : 6 * length (calls_of g.body) + (code_items g.body + 1 + code_params p0 g.body + params_of_type p0.types g.sort + runs_sum g) < 2 ^ 56

  sorts_same : all_sorts p ≡ all_sorts p0
  sorts_same = ap (λ ks. flat_map (λ (i : Import). kind_sorts i.kind) p0.imports ++ ks) (sorts_from m s which (func_imports p0) p0.funcs)

  func_sizes : (x : ℕ) (g : Func) → Roomy g → FuncSizes (2 ^ 32) (2 ^ 56) p (func_with_asserts m s which x g)
  func_sizes x g h =
      let sizes = h.sizes in
      let room = h.room in
      let items = body_items (λ c. not (has_number m s which c)) (global_space m) (is_told (slice_get which x)) g.body in
      let params : code_params p (func_with_asserts m s which x g).body ≡ code_params p0 g.body =
      params_by_calls p (func_with_asserts m s which x g).body ∙ ap (params_sum p) (body_calls (λ c. not (has_number m s which c)) (global_space m) (is_told (slice_get which x)) g.body)
      ∙ sym (params_by_calls p g.body) ∙ same_params p p0 refl sorts_same g.body in
      record {
        runs = sizes.runs;
        labels = body_lists (λ c. not (has_number m s which c)) (global_space m) (is_told (slice_get which x)) (2 ^ 32) g.body sizes.labels;
        total = omega (arith, items, params, room);
      }

  all_sizes : (y : ℕ) (gs : List Func) → ((i : ℕ) (g : Func) → slice_get gs i ≡ Some g → Roomy g) → All (FuncSizes (2 ^ 32) (2 ^ 56) p) (funcs_with_asserts m s which y gs)
  all_sizes y [] h = All-nil (FuncSizes (2 ^ 32) (2 ^ 56) p)
  all_sizes y (g ∷ gs) h =
      All-cons (FuncSizes (2 ^ 32) (2 ^ 56) p) (func_with_asserts m s which y g) (funcs_with_asserts m s which (suc y) gs) (func_sizes y g (h 0 g refl))
      (all_sizes (suc y) gs (λ i k e. h (suc i) k e))

  pub sizes_too : SizeRule p0 → ((i : ℕ) (g : Func) → slice_get p0.funcs i ≡ Some g → Roomy g) → SizeRule (module_with_asserts m s which p0)
  sizes_too r each =
      let many : length p.funcs ≡ length p0.funcs =
      sym (length-map p.funcs (λ (f : Func). f.sort)) ∙ ap length (sorts_from m s which (func_imports p0) p0.funcs) ∙ length-map p0.funcs (λ (f : Func). f.sort) in
      let funcs = r.funcs in
      record {
        types = r.types;
        each_type = r.each_type;
        imports = r.imports;
        funcs = omega (arith, many, funcs);
        tables = r.tables;
        memories = r.memories;
        globals = r.globals;
        exports = r.exports;
        elems = r.elems;
        segments = r.segments;
        each_func = all_sizes (func_imports p0) p0.funcs each;
        each_global = r.each_global;
        each_elem = r.each_elem;
        each_segment = r.each_segment;
      }

-- the runtime's functions call nothing
pub runtime_none : (sort state address : ℕ) → Each (λ (g : Func). calls_of g.body ≡ []) (runtime_funcs sort state address)
unfolding calls_of
runtime_none sort state address = (refl, (refl, (refl, (refl, (refl, tt)))))

-- ---- the module, by its codes

module _ (m : Module) (s : Settings) (which : List Bool) (codes : (index : ℕ) → Func → FrameCode) (c : CanBeEmitted m s which) (hold : AllCodesHold m s which codes)
    (small : AllCodesSmall m which codes) where
  abbrev p1 : Module
  p1 = asyncified_by m s which codes

  sizes_are : SizeRule p1
  sizes_are = emitted_sizes m s which codes c.valid c.sizes hold small c.few

  the_func : (x y : Func) → Some x ≡ Some y → x ≡ y
  the_func x y e = cc

  abbrev Fine : Func → Type 0
  Fine g = Roomy m s which p1 g

  told_roomy : (i : ℕ) (f : Func) → slice_get m.funcs i ≡ Some f → is_told (slice_get which (func_imports m + i)) ≡ true → Fine (written_by m s which codes (func_imports m + i) f)
  told_roomy i f e b =
      let is = defined_of m i f e in
      let own = one_of_all (FuncSizes (2 ^ 31) (2 ^ 31) m) m.funcs i f c.sizes.each_func e in
      let h = func_written m s which codes c.valid c.sizes hold small (func_imports m + i) f is b (c.few (func_imports m + i) f is b) i e own in
      let total = h.total in
      let calls = calls_weigh m s which codes c hold small (func_imports m + i) f is b in
      let w = weight_fits (2 ^ 31) (2 ^ 31) m f own in
      record { sizes = record { runs = h.runs; labels = h.labels; total = omega (arith, total) }; room = omega (arith, total, calls, w) }

  untold_roomy : (i : ℕ) (f : Func) → slice_get m.funcs i ≡ Some f → FuncSizes (2 ^ 32) (2 ^ 56) p1 f → Fine f
  unfolding with_runtime
  untold_roomy i f e sizes =
      let own = one_of_all (FuncSizes (2 ^ 31) (2 ^ 31) m) m.funcs i f c.sizes.each_func e in
      let total = own.total in
      let calls = calls_items f.body in
      let params = params_are m s which codes c.valid c.sizes hold small f.body in
      let more = params_more m f.body in
      let sort = one_more m.types f.sort in
      record { sizes = sizes; room = omega (arith, total, calls, params, more, sort) }
    where
      calls_items : (k : Code) → length (calls_of k) ≤ code_items k
      calls_items k = let a = calls_few k in let b = counts_items k in omega arith

  func_roomy : (i : ℕ) (f : Func) → slice_get m.funcs i ≡ Some f → FuncSizes (2 ^ 32) (2 ^ 56) p1 (func_by m s which codes (func_imports m + i) f) → Fine (func_by m s which codes (func_imports m + i) f)
  func_roomy i f e = by (is_told (slice_get which (func_imports m + i))) refl
    where
      by : (b : Bool) → is_told (slice_get which (func_imports m + i)) ≡ b → FuncSizes (2 ^ 32) (2 ^ 56) p1 (func_by m s which codes (func_imports m + i) f)
          → Fine (func_by m s which codes (func_imports m + i) f)
      by true b h = subst Fine (sym (told m s which codes (func_imports m + i) f b)) (told_roomy i f e b)
      by false b h =
          let same = not_told m s which codes (func_imports m + i) f b in subst Fine (sym same) (untold_roomy i f e (subst (FuncSizes (2 ^ 32) (2 ^ 56) p1) same h))

  runtime_roomy : (g : Func) → calls_of g.body ≡ [] → FuncSizes (2 ^ 32) (2 ^ 56) p1 g → Fine g
  runtime_roomy g e h = let total = h.total in let n = ap length e in record { sizes = h; room = omega (arith, total, n) }

  each_roomy : (i : ℕ) (g : Func) → slice_get p1.funcs i ≡ Some g → Fine g
  each_roomy i g e = ⊎_elim
      (λ lt.
      let f = found_at m.funcs i lt in
      let is : func_by m s which codes (func_imports m + i) f.0 ≡ g = the_func (func_by m s which codes (func_imports m + i) f.0) g (sym (emitted_at m s which codes i f.0 f.1) ∙ e) in
      subst Fine is (func_roomy i f.0 f.1 (subst (FuncSizes (2 ^ 32) (2 ^ 56) p1) (sym is) sizes)))
      (λ ge.
      let n = same_length m s which codes in
      let at : slice_get (runtime m s which codes) (i - length m.funcs) ≡ Some g =
      sym (behind (inner m s which codes).funcs (runtime m s which codes) i (i - length m.funcs) (omega arith)) ∙ ap (λ fs. slice_get fs i) (sym (funcs_are m s which codes)) ∙ e in
      runtime_roomy g (each_got (λ (g : Func). calls_of g.body ≡ []) (runtime m s which codes) (i - length m.funcs) g (runtime_none (length m.types) (global_space m) (global_space m + 1)) at) sizes)
      (cases_lt i (length m.funcs))
    where
      sizes : FuncSizes (2 ^ 32) (2 ^ 56) p1 g
      sizes = let r = sizes_are in one_of_all (FuncSizes (2 ^ 32) (2 ^ 56) p1) p1.funcs i g r.each_func e

      found_at : (fs : List Func) (i : ℕ) → i < length fs → (f : Func) × (slice_get fs i ≡ Some f)
      found_at [] i lt = absurd (omega arith)
      found_at (f ∷ fs) zero lt = (f, refl)
      found_at (f ∷ fs) (suc i) lt = found_at fs i (omega arith)

  pub sizes_with : SizeRule (module_with_asserts m s which (asyncified_by m s which codes))
  sizes_with = sizes_too m s which p1 sizes_are each_roomy

pub sizes_law : AssertedKeepsSizes
sizes_law m s which q c h =
    let f = codes_of m s which h.without c h.emitted in
    subst SizeRule (sym (h.is ∙ ap (module_with_asserts m s which) f.is)) (sizes_with m s which f.codes c f.hold f.small)
