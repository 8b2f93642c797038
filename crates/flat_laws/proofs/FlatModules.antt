-- A valid module, and the one in which some functions are flat.
use Rattle.std.proofs.Common.{◌≡◌, ◌∙◌, ℕ, zero, suc, ◌+◌, ◌-◌, ◌<◌, List, [], ◌∷◌, ◌++◌, length, map, drop, Option, Some, None, Bool, true, false, refl, sym, ap, subst, arith, length-append}
use Rattle.std.specs.Prelude.{slice_get, nat_lt, nat_eq, if◌then◌else◌}
use Rattle.std.specs.List.{flat_map}
use Rattle.std.specs.Option.{option_map}
use Rattle.std.proofs.lemmas.Bool.{eq-eqb, ne_eqb, ltb-false}
use Rattle.std.proofs.lemmas.List.{append_assoc, length-map}
use Rattle.std.proofs.lemmas.Option.{slice_get_within}
use Rattle.std.proofs.Math.Seq.{drop-append_seam}
use Rattle.std.specs.Option.{option_to_list}
use Rattle.wa_types.specs.declared.values.ValType.{ValType}
use Rattle.wa_types.specs.declared.syntax.Space.TheVariants.{Func as a_func}
use Rattle.wa_types.specs.Syntax.{FuncType, Func, Elem, Module}
use Rattle.wa_types.specs.Typing.{Around, Typed}
use Rattle.wa_types.specs.Pausing.{is_told}
use Rattle.wa_types.specs.Validity.{Valid, all_below, exported, start_fits}
use Rattle.wa_types.specs.Modules.{imported, imported_func, func_imports, func_sorts, func_types, type_at, or_empty, declared_locals, defined_at, locals_of, around}
use Rattle.wa_types.specs.Frames.{Pair, SlotPairs, ResultPairs}
use Rattle.run_theory.specs.Flat.{FlatFunc}
use Rattle.run_theory.specs.FlatFits.{func_of_flat, flat_or, funcs_with_flat, one_run}
use Rattle.run_theory.specs.FlatTyped.{StmtsTyped}
use Rattle.run_theory.proofs.FittingNames.{type_small, func_type_small}
use Rattle.flat_laws.specs.Flatten.{flattened}
use Rattle.flat_laws.specs.FlatModule.{extra_types, flat_func, flat_told, flat_module, IsFlat, IsPlaced, Flattened}
use Rattle.flat_laws.proofs.Typing.{wide, body_types, body_stmts}
use Rattle.flat_laws.proofs.ValidModules.{good_body, good_func, own_result}

-- ---- which functions are flat

runs_are : (ts : List ValType) → declared_locals (map one_run ts) ≡ ts
runs_are [] = refl
runs_are (t ∷ ts) = ap (λ us. t ∷ us) (runs_are ts)

pub dropped_at : {X : Type 0} (k i : ℕ) (xs : List X) → slice_get (drop k xs) i ≡ slice_get xs (k + i)
dropped_at zero i xs = let z : 0 + i ≡ i = omega arith in ap (slice_get xs) (sym z)
dropped_at (suc k) i [] = refl
dropped_at (suc k) i (x ∷ xs) = let z : suc (k + i) ≡ suc k + i = omega arith in dropped_at k i xs ∙ ap (slice_get (x ∷ xs)) z

module _ (m : Module) where
  -- a function where it is told or not
  abbrev pub told_as : Bool → ℕ → Func → Func
  told_as true x f = flat_func m x f
  told_as false x f = f

  -- functions from index x on, by whether they are told
  abbrev mixed : (x : ℕ) → List Bool → List Func → List Func
  mixed x ws [] = []
  mixed x ws (f ∷ fs) = told_as (is_told (slice_get ws 0)) x f ∷ mixed (suc x) (drop 1 ws) fs

  -- a function before those that are told
  none_there : (x y : ℕ) (ws : List Bool) (fs : List Func) (f : Func) → x < y → flat_or m (flat_told m y ws fs) x f ≡ f
  none_there x y [] fs f lt = refl
  none_there x y (w ∷ ws) [] f lt = refl
  none_there x y (true ∷ ws) (g ∷ fs) f lt =
      let z : nat_eq y x ≡ false = ne_eqb y x (λ e. absurd (omega arith)) in
      ap (λ (b : Bool). if b then flat_func m y g else flat_or m (flat_told m (suc y) ws fs) x f) z ∙ none_there x (suc y) ws fs f (omega arith)
  none_there x y (false ∷ ws) (g ∷ fs) f lt = none_there x (suc y) ws fs f (omega arith)

  -- a flat function before all functions counts for nothing
  passed : (g : FlatFunc) (gs : List FlatFunc) (y : ℕ) (fs : List Func) → g.func < y → funcs_with_flat m (g ∷ gs) y fs ≡ funcs_with_flat m gs y fs
  passed g gs y [] lt = refl
  passed g gs y (f ∷ fs) lt =
      let z : nat_eq g.func y ≡ false = ne_eqb g.func y (λ e. absurd (omega arith)) in
      ap (λ (b : Bool). (if b then func_of_flat m g else flat_or m gs y f) ∷ funcs_with_flat m (g ∷ gs) (suc y) fs) z
      ∙ ap (λ hs. flat_or m gs y f ∷ hs) (passed g gs (suc y) fs (omega arith))

  mixed_are : (x : ℕ) (ws : List Bool) (fs : List Func) → funcs_with_flat m (flat_told m x ws fs) x fs ≡ mixed x ws fs
  mixed_are x [] [] = refl
  mixed_are x [] (f ∷ fs) = ap (λ hs. f ∷ hs) (mixed_are (suc x) [] fs)
  mixed_are x (w ∷ ws) [] = refl
  mixed_are x (true ∷ ws) (f ∷ fs) =
      let gs : List FlatFunc = flat_told m (suc x) ws fs in
      let g : FlatFunc = flattened m x f in
      ap (λ (b : Bool). (if b then flat_func m x f else flat_or m gs x f) ∷ funcs_with_flat m (g ∷ gs) (suc x) fs) (eq-eqb x x refl)
      ∙ ap (λ hs. flat_func m x f ∷ hs) (passed g gs (suc x) fs (omega arith) ∙ mixed_are (suc x) ws fs)
  mixed_are x (false ∷ ws) (f ∷ fs) =
      ap (λ h. h ∷ funcs_with_flat m (flat_told m (suc x) ws fs) (suc x) fs) (none_there x (suc x) ws fs f (omega arith))
      ∙ ap (λ hs. f ∷ hs) (mixed_are (suc x) ws fs)

  mixed_at : (x : ℕ) (ws : List Bool) (fs : List Func) (i y : ℕ) → y ≡ x + i → slice_get (mixed x ws fs) i ≡ option_map (told_as (is_told (slice_get ws i)) y) (slice_get fs i)
  mixed_at x ws [] i y e = refl
  mixed_at x ws (f ∷ fs) zero y e = let z : x ≡ y = omega arith in ap (λ j. Some (told_as (is_told (slice_get ws 0)) j f)) z
  mixed_at x [] (f ∷ fs) (suc i) y e = mixed_at (suc x) [] fs i y (omega arith)
  mixed_at x (w ∷ ws) (f ∷ fs) (suc i) y e = mixed_at (suc x) ws fs i y (omega arith)

  sort_as : (b : Bool) (x : ℕ) (f : Func) → (told_as b x f).sort ≡ f.sort
  sort_as true x f = refl
  sort_as false x f = refl

  mixed_sorts : (x : ℕ) (ws : List Bool) (fs : List Func) → map (λ (f : Func). f.sort) (mixed x ws fs) ≡ map (λ (f : Func). f.sort) fs
  mixed_sorts x ws [] = refl
  mixed_sorts x ws (f ∷ fs) =
      ap (λ k. k ∷ map (λ (g : Func). g.sort) (mixed (suc x) (drop 1 ws) fs)) (sort_as (is_told (slice_get ws 0)) x f)
      ∙ ap (λ ks. f.sort ∷ ks) (mixed_sorts (suc x) (drop 1 ws) fs)

  module _ (which : List Bool) where
    abbrev n : ℕ
    n = func_imports m

    funcs_are : (flat_module m which).funcs ≡ mixed n (drop n which) m.funcs
    funcs_are = mixed_are n (drop n which) m.funcs

    -- the function at a place among the defined ones
    func_there : (i x : ℕ) → x ≡ n + i → slice_get (flat_module m which).funcs i ≡ option_map (told_as (is_told (slice_get which x)) x) (slice_get m.funcs i)
    func_there i x e =
        ap (λ fs. slice_get fs i) funcs_are ∙ mixed_at n (drop n which) m.funcs i x e
        ∙ ap (λ o. option_map (told_as (is_told o) x) (slice_get m.funcs i)) (dropped_at n i which ∙ ap (slice_get which) (sym e))

    pub found : (x : ℕ) → defined_at (flat_module m which) x ≡ option_map (told_as (is_told (slice_get which x)) x) (defined_at m x)
    found x = by (nat_lt x n) refl
      where
        by : (b : Bool) → nat_lt x n ≡ b → (if b then None else slice_get (flat_module m which).funcs (x - n))
            ≡ option_map (told_as (is_told (slice_get which x)) x) (if b then None else slice_get m.funcs (x - n))
        by true e = refl
        by false e = let le = ltb-false x n e in func_there (x - n) x (omega arith)

    pub sorts_are : map (λ (f : Func). f.sort) (flat_module m which).funcs ≡ map (λ (f : Func). f.sort) m.funcs
    sorts_are = ap (map (λ (f : Func). f.sort)) funcs_are ∙ mixed_sorts n (drop n which) m.funcs

    pub sorts_stay : func_sorts (flat_module m which) ≡ func_sorts m
    sorts_stay = ap (λ sorts. imported imported_func m ++ sorts) sorts_are

    pub types_stay : func_types (flat_module m which) ≡ func_types m
    types_stay = ap (λ sorts. map (type_at m) sorts) sorts_stay

  -- ---- flat functions

  -- the declared locals of a flat function
  flat_locals : (x : ℕ) (f : Func) → declared_locals (flat_func m x f).locals ≡ declared_locals f.locals ++ extra_types m f
  flat_locals x f =
      let ps : List ValType = (type_at m f.sort).params in
      let ds : List ValType = declared_locals f.locals in
      let a : List ValType = map (λ (p : Pair). p.ty) (SlotPairs m f) in
      let b : List ValType = map (λ (p : Pair). p.ty) (ResultPairs m f) in
      let e : locals_of m f ++ a ++ b ≡ ps ++ (ds ++ (a ++ b)) = append_assoc (ps ++ ds) a b ∙ append_assoc ps ds (a ++ b) in
      runs_are (drop (length ps) (locals_of m f ++ a ++ b)) ∙ ap (drop (length ps)) e ∙ drop-append_seam ps (ds ++ (a ++ b))

  pub is_flat : (x : ℕ) (f : Func) → IsFlat m x f (Some (flat_func m x f))
  is_flat x f = (refl, flat_locals x f)

  is_placed : (b : Bool) (x : ℕ) (f : Func) → IsPlaced b m x f (Some (told_as b x f))
  is_placed true x f = is_flat x f
  is_placed false x f = refl

  pub valid_is_flattened : (which : List Bool) → Valid m → Flattened m (flat_module m which) which
  valid_is_flattened which v = record {
    valid = v;
    placed = λ x f e. subst (IsPlaced (is_told (slice_get which x)) m x f) (sym (found which x ∙ ap (option_map (told_as (is_told (slice_get which x)) x)) e))
        (is_placed (is_told (slice_get which x)) x f);
    none = λ x lt e. found which x ∙ ap (option_map (told_as (is_told (slice_get which x)) x)) e;
    func_type = λ x lt. ap (λ ts. or_empty (slice_get ts x)) (types_stay which);
    sort = λ t lt. refl;
    imports = refl;
    most = refl;
  }

  -- ---- types

  module _ (which : List Bool) where
    -- a context with other functions and locals
    abbrev context : Func → List FuncType → List ValType → Around
    context f fs ls = let c : Around = around m f in record { types = c.types; funcs = fs; table = c.table; memory = c.memory; globals = c.globals; locals = ls; result = c.result }

    -- the context of a flat body
    contexts : (x : ℕ) (f : Func) → wide m f ≡ around (flat_module m which) (flat_func m x f)
    contexts x f =
        let locals : locals_of m f ++ extra_types m f ≡ locals_of (flat_module m which) (flat_func m x f) =
        append_assoc (type_at m f.sort).params (declared_locals f.locals) (extra_types m f) ∙ ap (λ ts. (type_at m f.sort).params ++ ts) (sym (flat_locals x f)) in
        ap (λ ts. context f (func_types m) ts) locals ∙ ap (λ fs. context f fs (locals_of (flat_module m which) (flat_func m x f))) (sym (types_stay which))

    -- that of a body that stays
    same_context : (f : Func) → around m f ≡ around (flat_module m which) f
    same_context f = ap (λ fs. context f fs (locals_of m f)) (sym (types_stay which))

    pub flat_is_typed : (x : ℕ) (f : Func) → Valid m → defined_at m x ≡ Some f → Typed (around (flat_module m which) (flat_func m x f)) (flat_func m x f).body
    flat_is_typed x f v e =
        subst (λ c. Typed c (flat_func m x f).body) (contexts x f) (body_types m f (func_type_small m v) (type_small m v) x (good_func m f v x e) (own_result m f))

    pub flat_stmts_typed : (x : ℕ) (f : Func) → Valid m → defined_at m x ≡ Some f → StmtsTyped (around (flat_module m which) (flat_func m x f)) (None ∷ (around m f).result ∷ []) (flattened m x f).body
    flat_stmts_typed x f v e =
        subst (λ c. StmtsTyped c (None ∷ (around m f).result ∷ []) (flattened m x f).body) (contexts x f)
        (body_stmts m f (func_type_small m v) (type_small m v) x (good_func m f v x e) (own_result m f))

    -- each body of the module
    body_at : (b : Bool) (x i : ℕ) (f g : Func) → Valid m → slice_get m.funcs i ≡ Some f → told_as b x f ≡ g → Typed (around (flat_module m which) g) g.body
    body_at true x i f g v e eg =
        subst (λ (h : Func). Typed (around (flat_module m which) h) h.body) eg
        (subst (λ c. Typed c (flat_func m x f).body) (contexts x f) (body_types m f (func_type_small m v) (type_small m v) x (good_body m f (v.bodies i f e)) (own_result m f)))
    body_at false x i f g v e eg =
        subst (λ (h : Func). Typed (around (flat_module m which) h) h.body) eg (subst (λ c. Typed c f.body) (same_context f) (v.bodies i f e))

    -- what stands where a function is found
    mapped : (k : Func → Func) (o : Option Func) (g : Func) → option_map k o ≡ Some g → (f : Func) × (o ≡ Some f) × (k f ≡ g)
    mapped k None g e = cc
    mapped k (Some f) g e = let z : k f ≡ g = cc in (f, refl, z)

    pub valid_stays : Valid m → Valid (flat_module m which)
    valid_stays v = record {
      types = v.types;
      sorts = ap (all_below (length m.types)) (sorts_stay which) ∙ v.sorts;
      bodies = λ i g e.
          let x : ℕ = func_imports m + i in
          let w = mapped (told_as (is_told (slice_get which x)) x) (slice_get m.funcs i) g (sym (func_there which i x refl) ∙ e) in
          body_at (is_told (slice_get which x)) x i w.0 g v w.1 w.2;
      limits = v.limits;
      single = v.single;
      constants = v.constants;
      globals = v.globals;
      tables = v.tables;
      memories = v.memories;
      funcs = ap (λ sorts. all_below (length sorts) (exported a_func m ++ option_to_list m.start ++ flat_map (λ (e : Elem). e.funcs) m.elems)) (sorts_stay which) ∙ v.funcs;
      start = ap (start_fits m.start) (types_stay which) ∙ v.start;
      names = v.names;
    }

-- ---- what is used of it

-- a function that is placed is defined
pub is_there : (m : Module) (x : ℕ) (f : Func) (b : Bool) (o : Option Func) → IsPlaced b m x f o → (g : Func) × (o ≡ Some g)
is_there m x f true None h = absurd h
is_there m x f true (Some g) h = (g, refl)
is_there m x f false o h = (f, h)

-- a defined function is one of all
pub defined_in : (m : Module) (x : ℕ) (f : Func) → defined_at m x ≡ Some f → x < length (func_sorts m)
defined_in m x f = by (nat_lt x (func_imports m)) refl
  where
    by : (b : Bool) → nat_lt x (func_imports m) ≡ b → (if b then None else slice_get m.funcs (x - func_imports m)) ≡ Some f → x < length (func_sorts m)
    by true e h = cc
    by false e h =
        let le = ltb-false x (func_imports m) e in
        let lt = slice_get_within m.funcs (x - func_imports m) f h in
        let n = length-append (imported imported_func m) (map (λ (g : Func). g.sort) m.funcs) in
        let k = length-map m.funcs (λ (g : Func). g.sort) in
        omega arith
