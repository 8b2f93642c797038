-- A suspended activation at a numbered call: which call it is, and how many operands that took.
use Rattle.std.proofs.Common.{◌≡◌, ℕ, zero, suc, ◌+◌, ◌<◌, List, [], ◌∷◌, ◌++◌, reverse, length, Option, Some, None, Bool, true, false, refl, sym, ap, ◌∙◌, subst, arith, length-append}
use Rattle.std.specs.Prelude.{slice_get, slice_index_or, Contains, if◌then◌else◌}
use Rattle.std.proofs.lemmas.List.{length-map, length-reverse}
use Rattle.wa_types.specs.Modules.{around, func_type_at, func_types, or_empty, type_at}
use Rattle.wa_types.specs.Pausing.{Callee, callee, direct, indirect, places_from}
use Rattle.wa_types.specs.Syntax.{FuncType, Module, Plain, basic, br, br_if, br_table, call, call_indirect, local_get, local_set, local_tee, return, unreachable}
use Rattle.wa_types.specs.Typing.{Takes, calls, calls_at, sig, type_of}
use Rattle.wa_types.specs.Validity.{Valid}
use Rattle.wa_types.specs.declared.values.ValType.TheVariants.{I32}
use Rattle.wa_model.specs.Configuration.{Activation}
use Rattle.run_theory.specs.Fitting.{types_of, results_of}
use Rattle.run_theory.specs.LawfulStacks.{LeadsTo}
use Rattle.wa_model.specs.Step.{param_count, same_func_type}
use Rattle.run_theory.proofs.FittingNames.{func_types_true, results_are}
use Rattle.run_laws.proofs.SpotSteps.{WaitsAtSpot}

-- ---- places that pass a test

-- a place that is listed is that of a call that passes
pub listed_passes : {X : Type 0} (test : X → Bool) (n : ℕ) (xs : List X) (place : ℕ) → Contains (places_from test n xs) place
    → (i : ℕ) × (x : X) × (place ≡ n + i) × (slice_get xs i ≡ Some x) × (test x ≡ true)
listed_passes test n [] place h = let lt = h.1 in absurd (omega arith)
listed_passes {X} test n (x ∷ xs) place h = by (test x) refl h (λ g. listed_passes test (suc n) xs place g)
  where
    later : (i : ℕ) × (y : X) × (place ≡ suc n + i) × (slice_get xs i ≡ Some y) × (test y ≡ true) → (i : ℕ) × (y : X) × (place ≡ n + i) × (slice_get (x ∷ xs) i ≡ Some y) × (test y ≡ true)
    later g = let e = g.2 in (suc g.0, g.1, omega arith, g.3, g.4)

    in_rest : (k : ℕ) → k < length (n ∷ places_from test (suc n) xs) → slice_index_or (n ∷ places_from test (suc n) xs) k place ≡ place → test x ≡ true
        → (Contains (places_from test (suc n) xs) place → (i : ℕ) × (y : X) × (place ≡ suc n + i) × (slice_get xs i ≡ Some y) × (test y ≡ true))
        → (i : ℕ) × (y : X) × (place ≡ n + i) × (slice_get (x ∷ xs) i ≡ Some y) × (test y ≡ true)
    in_rest zero lt e q on = (0, x, omega arith, refl, q)
    in_rest (suc k) lt e q on = later (on (k, omega arith, e))

    by : (b : Bool) → test x ≡ b → Contains (if test x then n ∷ places_from test (suc n) xs else places_from test (suc n) xs) place
        → (Contains (places_from test (suc n) xs) place → (i : ℕ) × (y : X) × (place ≡ suc n + i) × (slice_get xs i ≡ Some y) × (test y ≡ true))
        → (i : ℕ) × (y : X) × (place ≡ n + i) × (slice_get (x ∷ xs) i ≡ Some y) × (test y ≡ true)
    by true q c on = let d = subst (λ b. Contains (if b then n ∷ places_from test (suc n) xs else places_from test (suc n) xs) place) q c in in_rest d.0 d.1 d.2 q on
    by false q c on = let d = subst (λ b. Contains (if b then n ∷ places_from test (suc n) xs else places_from test (suc n) xs) place) q c in later (on d)

-- ---- operands taken

-- so many operands a call takes: an indirect one its table index too
abbrev pub Took : Callee → (params taken : ℕ) → Type 0
Took (direct x) params taken = taken ≡ params
Took (indirect t) params taken = taken ≡ suc params

module _ (m : Module) (v : Valid m) where
  took_by : (r below o : ℕ) {p own mids t res params results : ℕ} → own ≡ p + r → mids ≡ results + r → t + o ≡ own + below → res + o ≡ mids + below → res ≡ results → p ≡ params → t ≡ params
  took_by r below o h1 h2 h3 h4 h5 h6 = omega arith

  pub called_took : (g : ℕ) (a : Activation) (table : List (Option ℕ)) (w : WaitsAtSpot m g a) → LeadsTo m table w.callee (a.taken ++ a.operands) g
      → Took w.callee (param_count (func_type_at m g)) (length a.taken)
  called_took g a table w leads = by_call w.call w.callee w.callee_is w.takes leads
    where
      before : length a.taken + length a.operands ≡ length w.own + length w.below
      before = sym (length-append a.taken a.operands) ∙ sym (length-map (a.taken ++ a.operands) type_of) ∙ ap length w.before ∙ length-append w.own w.below

      behind : length (results_of m g) + length a.operands ≡ length w.mids + length w.below
      behind =
          ap (λ k. length (results_of m g) + k) (sym (length-map a.operands type_of)) ∙ sym (length-append (results_of m g) (types_of a.operands)) ∙ ap length w.behind ∙ length-append w.mids w.below

      results : length (results_of m g) ≡ length (func_type_at m g).results
      results = ap length (results_are m v g)

      by_direct : (y : ℕ) (o : Option FuncType) → slice_get (func_types m) y ≡ o → Takes (calls o) w.own w.mids → y ≡ g → length a.taken ≡ param_count (func_type_at m g)
      by_direct y None e h q = absurd h
      by_direct y (Some t) e h q =
          let ty : func_type_at m g ≡ t = ap (func_type_at m) (sym q) ∙ ap or_empty e in
          let l1 : length w.own ≡ length t.params + length h.0 = ap length h.1 ∙ length-append (reverse t.params) h.0 ∙ ap (λ k. k + length h.0) (length-reverse t.params) in
          let l2 : length w.mids ≡ length t.results + length h.0 = ap length h.2 ∙ length-append (reverse t.results) h.0 ∙ ap (λ k. k + length h.0) (length-reverse t.results) in
          took_by (length h.0) (length w.below) (length a.operands) l1 l2 before behind (results ∙ ap (λ (z : FuncType). length z.results) ty) (ap (λ (z : FuncType). length z.params) (sym ty))

      by_table : (sort : ℕ) (has : Bool) (o : Option FuncType) → slice_get m.types sort ≡ o → Takes (calls_at has o) w.own w.mids → same_func_type (func_type_at m g) (type_at m sort) ≡ true
          → length a.taken ≡ suc (param_count (func_type_at m g))
      by_table sort has None e h q = absurd h
      by_table sort false (Some t) e h q = absurd h
      by_table sort true (Some t) e h q =
          let ty : func_type_at m g ≡ t = func_types_true (func_type_at m g) (type_at m sort) q ∙ ap or_empty e in
          let l1 : length w.own ≡ suc (length t.params) + length h.0 = ap length h.1 ∙ length-append (I32 ∷ reverse t.params) h.0 ∙ ap (λ k. suc k + length h.0) (length-reverse t.params) in
          let l2 : length w.mids ≡ length t.results + length h.0 = ap length h.2 ∙ length-append (reverse t.results) h.0 ∙ ap (λ k. k + length h.0) (length-reverse t.results) in
          took_by (length h.0) (length w.below) (length a.operands) l1 l2 before behind (results ∙ ap (λ (z : FuncType). length z.results) ty) (ap (λ (z : FuncType). suc (length z.params)) (sym ty))

      by_call : (p : Plain) (x : Callee) → callee p ≡ Some x → Takes (sig (around m w.func) w.results p) w.own w.mids → LeadsTo m table x (a.taken ++ a.operands) g
          → Took x (param_count (func_type_at m g)) (length a.taken)
      by_call (call y) (direct z) e h l = let same : y ≡ z = cc in by_direct y (slice_get (func_types m) y) refl h (same ∙ l)
      by_call (call y) (indirect z) e h l = cc
      by_call (call_indirect y) (direct z) e h l = cc
      by_call (call_indirect y) (indirect z) e h l = let same : y ≡ z = cc in by_table y (around m w.func).table (slice_get m.types y) refl h
          (subst (λ i. same_func_type (func_type_at m g) (type_at m i) ≡ true) (sym same) l.4)
      by_call (basic b) x e h l = cc
      by_call (local_get i) x e h l = cc
      by_call (local_set i) x e h l = cc
      by_call (local_tee i) x e h l = cc
      by_call (br i) x e h l = cc
      by_call (br_if i) x e h l = cc
      by_call (br_table is i) x e h l = cc
      by_call return x e h l = cc
      by_call unreachable x e h l = cc
