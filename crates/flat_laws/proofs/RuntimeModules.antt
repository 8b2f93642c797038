-- The flat module with the runtime's parts behind, beside the original with its memory.
use Rattle.std.proofs.Common.{◌≡◌, ◌∙◌, ℕ, zero, suc, ◌+◌, ◌-◌, ◌<◌, List, [], ◌∷◌, ◌++◌, length, map, Option, Some, None, Bool, true, false, refl, sym, ap, subst, arith, length-append}
use Rattle.std.specs.Prelude.{slice_get, nat_lt, if◌then◌else◌}
use Rattle.std.specs.List.{list_any}
use Rattle.std.specs.Option.{option_map}
use Rattle.std.proofs.lemmas.Bool.{ltb-true, ltb-false, and_parts}
use Rattle.std.proofs.lemmas.List.{append_assoc, map-append, length-map}
use Rattle.std.proofs.lemmas.Option.{slice_get-map}
use Rattle.wa_types.specs.Syntax.{Func, Module}
use Rattle.wa_types.specs.Typing.{listed, Types}
use Rattle.wa_types.specs.Pruned.{pruned}
use Rattle.wa_types.specs.Pausing.{is_told}
use Rattle.wa_types.specs.Base.{Base}
use Rattle.wa_types.specs.Runtime.{global_space, runtime_types, runtime_funcs, with_runtime}
use Rattle.wa_types.specs.Validity.{Valid, all_below}
use Rattle.wa_types.specs.Points.{func_points}
use Rattle.wa_types.specs.Frames.{Pair, stands_at, greatest, pairs_from, SlotPairs, ResultPairs}
use Rattle.wa_types.specs.Modules.{imported, imported_func, func_imports, func_sorts, func_type_at, type_at, or_empty, declared_locals, defined_at, locals_of, around}
use Rattle.wa_types.proofs.TypingLemmas.{pruned_types}
use Rattle.run_theory.proofs.BaseValid.{base_valid, base_wider}
use Rattle.run_theory.proofs.GrownSteps.{front}
use Rattle.run_theory.proofs.FittingSteps.{body_typed}
use Rattle.run_theory.specs.Flat.{Stmts, FlatFunc, body_of}
use Rattle.flat_laws.specs.Flatten.{Names, names, result_of, flat, flattened}
use Rattle.flat_laws.specs.FlatModule.{extra_types, flat_module, IsPlaced, Flattened}
use Rattle.flat_laws.proofs.FlatModules.{sorts_are, valid_is_flattened, defined_in}
use Rattle.flat_laws.proofs.WiderCode.{points_wider, flat_wider}

-- ---- the original with its memory

module _ (m : Module) (v : Valid m) (x : ℕ) (f : Func) (is : defined_at m x ≡ Some f) where
  body_is : Types (around m f) ((around m f).result ∷ []) f.body (listed (around m f).result) []
  body_is = body_typed m v x f is

  base_points : func_points (Base m) f ≡ func_points m f
  unfolding Base
  base_points =
      points_wider (around m f) (around (Base m) f) (base_wider m f) ((around m f).result ∷ []) (pruned f.body) (listed (around m f).result) [] []
      (pruned_types (around m f) ((around m f).result ∷ []) f.body (listed (around m f).result) [] body_is)

  pub base_slots : SlotPairs (Base m) f ≡ SlotPairs m f
  base_slots = ap (λ ps. pairs_from (λ h t. list_any (stands_at h t) ps) 0 (greatest ps)) base_points

  pub base_results : ResultPairs (Base m) f ≡ ResultPairs m f
  unfolding Base
  base_results = refl

  -- the names and the function with these slots
  abbrev named : List Pair → Names
  named ps = let n : Names = names m f in record { first = n.first; slots = ps; results = n.results }

  abbrev with_body : List Pair → Stmts → FlatFunc
  with_body ps body = record {
    func = x;
    sort = f.sort;
    locals = locals_of m f ++ map (λ (p : Pair). p.ty) ps ++ map (λ (p : Pair). p.ty) (ResultPairs m f);
    result = result_of (named ps) (around m f).result;
    body = body;
  }

  pub base_names : names (Base m) f ≡ names m f
  unfolding Base
  base_names = ap named base_slots

  pub base_flattened : flattened (Base m) x f ≡ flattened m x f
  unfolding Base
  base_flattened =
      ap (λ ps. with_body ps (flat (named ps) (around (Base m) f) ((around m f).result ∷ []) f.body [])) base_slots
      ∙ ap (with_body (SlotPairs m f)) (flat_wider (around m f) (around (Base m) f) (base_wider m f) refl refl (names m f) ((around m f).result ∷ []) f.body (listed (around m f).result) [] [] body_is)

  base_extra : extra_types (Base m) f ≡ extra_types m f
  base_extra = ap (λ ps. map (λ (p : Pair). p.ty) ps ++ map (λ (p : Pair). p.ty) (ResultPairs (Base m) f)) base_slots
      ∙ ap (λ ps. map (λ (p : Pair). p.ty) (SlotPairs m f) ++ map (λ (p : Pair). p.ty) ps) base_results

  base_placed : (b : Bool) (o : Option Func) → IsPlaced b m x f o → IsPlaced b (Base m) x f o
  base_placed false o h = h
  base_placed true None h = h
  base_placed true (Some g) h = (h.0 ∙ ap body_of (sym base_flattened), h.1 ∙ ap (λ ts. declared_locals f.locals ++ ts) (sym base_extra))

-- ---- the flat module with the runtime's parts

below_one : (n : ℕ) (xs : List ℕ) (i k : ℕ) → all_below n xs ≡ true → slice_get xs i ≡ Some k → k < n
below_one n [] i k h e = cc
below_one n (x ∷ xs) zero k h e = let z : x ≡ k = cc in subst (λ j. j < n) z (ltb-true x n (and_parts (nat_lt x n) (all_below n xs) h).0)
below_one n (x ∷ xs) (suc i) k h e = below_one n xs i k (and_parts (nat_lt x n) (all_below n xs) h).1 e

module _ (m : Module) (which : List Bool) (v : Valid m) where
  abbrev p : Module
  p = flat_module m which

  abbrev q : Module
  q = with_runtime (flat_module m which)

  abbrev more : List Func
  more = runtime_funcs (length m.types) (global_space p) (global_space p + 1)

  type_there : (t : ℕ) → t < length m.types → type_at q t ≡ type_at m t
  unfolding with_runtime
  type_there t lt = ap or_empty (front m.types runtime_types t lt)

  sorts_there : func_sorts q ≡ func_sorts m ++ map (λ (g : Func). g.sort) more
  unfolding with_runtime
  sorts_there =
      ap (λ ks. imported imported_func m ++ ks) (map-append (λ (g : Func). g.sort) p.funcs more)
      ∙ ap (λ ks. imported imported_func m ++ (ks ++ map (λ (g : Func). g.sort) more)) (sorts_are m which)
      ∙ sym (append_assoc (imported imported_func m) (map (λ (g : Func). g.sort) m.funcs) (map (λ (g : Func). g.sort) more))

  func_type_there : (x : ℕ) → x < length (func_sorts m) → func_type_at q x ≡ func_type_at m x
  func_type_there x lt =
      ap or_empty (slice_get-map (type_at q) (func_sorts q) x)
      ∙ ap (λ o. or_empty (option_map (type_at q) o)) (ap (λ ks. slice_get ks x) sorts_there ∙ front (func_sorts m) (map (λ (g : Func). g.sort) more) x lt)
      ∙ by (slice_get (func_sorts m) x) refl
      ∙ ap or_empty (sym (slice_get-map (type_at m) (func_sorts m) x))
    where
      by : (o : Option ℕ) → slice_get (func_sorts m) x ≡ o → or_empty (option_map (type_at q) o) ≡ or_empty (option_map (type_at m) o)
      by None e = refl
      by (Some k) e = type_there k (below_one (length m.types) (func_sorts m) x k v.sorts e)

  funcs_long : length p.funcs ≡ length m.funcs
  funcs_long = sym (length-map p.funcs (λ (g : Func). g.sort)) ∙ ap length (sorts_are m which) ∙ length-map m.funcs (λ (g : Func). g.sort)

  -- a function of the original's is in its place
  there : (x : ℕ) → x < length (func_sorts m) → defined_at q x ≡ defined_at p x
  unfolding with_runtime
  there x lt = by (nat_lt x (func_imports m)) refl
    where
      by : (b : Bool) → nat_lt x (func_imports m) ≡ b → (if b then None else slice_get (p.funcs ++ more) (x - func_imports m)) ≡ (if b then None else slice_get p.funcs (x - func_imports m))
      by true e = refl
      by false e =
          let le = ltb-false x (func_imports m) e in
          let n = length-append (imported imported_func m) (map (λ (g : Func). g.sort) m.funcs) in
          let k = length-map m.funcs (λ (g : Func). g.sort) in
          let j = funcs_long in
          front p.funcs more (x - func_imports m) (omega arith)

  with_flat_there : Flattened m p which
  with_flat_there = valid_is_flattened m which v

  pub runtime_is_flattened : Flattened (Base m) q which
  unfolding Base with_runtime
  runtime_is_flattened = record {
    valid = base_valid m v;
    placed = λ x f e. subst (IsPlaced (is_told (slice_get which x)) (Base m) x f) (sym (there x (defined_in m x f e)))
        (base_placed m v x f e (is_told (slice_get which x)) (defined_at p x) (with_flat_there.placed x f e));
    none = λ x lt e. there x lt ∙ with_flat_there.none x lt e;
    func_type = func_type_there;
    sort = type_there;
    imports = refl;
    most = refl;
  }

  -- with the memory alone
  pub base_is_flattened : Flattened (Base m) (Base p) which
  unfolding Base
  base_is_flattened = record {
    valid = base_valid m v;
    placed = λ x f e. base_placed m v x f e (is_told (slice_get which x)) (defined_at p x) (with_flat_there.placed x f e);
    none = with_flat_there.none;
    func_type = with_flat_there.func_type;
    sort = λ t lt. refl;
    imports = refl;
    most = refl;
  }
