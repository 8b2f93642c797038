-- The module with slim pieces beside the flat one.
use Rattle.std.proofs.Common.{◌≡◌, ◌∙◌, ℕ, zero, suc, ◌+◌, ◌-◌, ◌≤◌, List, [], ◌∷◌, ◌++◌, length, map, Option, Some, None, Bool, true, false, not, refl, sym, ap, subst, arith, length-append}
use Rattle.std.specs.Prelude.{slice_get, nat_lt, ◌&&◌, if◌then◌else◌}
use Rattle.std.specs.List.{flat_map}
use Rattle.std.specs.Option.{option_map}
use Rattle.std.proofs.lemmas.Bool.{ltb-false}
use Rattle.std.specs.Option.{option_to_list}
use Rattle.wa_types.specs.declared.values.ValType.{ValType}
use Rattle.wa_types.specs.declared.syntax.Space.TheVariants.{Func as a_func}
use Rattle.wa_types.specs.Frames.{Pair, SlotPairs, ResultPairs}
use Rattle.wa_types.specs.Modules.{around, declared_locals, defined_at, func_imports, func_sorts, func_type_at, func_types, imported, imported_func, locals_of, or_empty, type_at}
use Rattle.wa_types.specs.Pausing.{is_told}
use Rattle.wa_types.specs.Syntax.{a_block, Code, Elem, Func, FuncType, Module, nest}
use Rattle.wa_types.specs.Typing.{Around, Typed}
use Rattle.wa_types.specs.Validity.{Valid, all_below, exported, start_fits}
use Rattle.run_theory.specs.Flat.{body_of, result_got}
use Rattle.wa_model.specs.Step.{param_count}
use Rattle.run_theory.proofs.FittingNames.{defined_type}
use Rattle.flat_laws.specs.FlatModule.{extra_types, flat_func, flat_module}
use Rattle.flat_laws.specs.Flatten.{flattened}
use Rattle.flat_laws.proofs.FlatModules.{defined_in, found, is_flat, sorts_stay, told_as, valid_is_flattened, valid_stays}
use Rattle.flat_runs.specs.Beside.{first_in, first_of}
use Rattle.guard_form.specs.Pieces.{first_piece, units}
use Rattle.guard_form.proofs.Grouped.{joins_law}
use Rattle.slim_laws.specs.Slim.{Slims, Terms}
use Rattle.slim_laws.proofs.EmittedCode.{same_slim}
use Rattle.slim_laws.proofs.KeptTypes.{bodies_are_typed}
use Rattle.slim_laws.specs.Beside.{Sides, Twin, both_defined, both_import}
use Rattle.slim_laws.proofs.UnitsSlim.{body_law}
use Rattle.slim_laws.specs.SlimModule.{AllSlimPieces, Pieces, SlimPieces, body_of_func, body_with, flat_terms, module_terms, plain_terms, slim_module, terms_where, with_bodies, with_body}
use Rattle.slim_laws.specs.SlimUnitLaws.{ToHeld}
use Rattle.slim_laws.specs.SlimUnits.{untouched}
use Rattle.slim_laws.specs.SlimModuleLaws.{PlainPiecesAreSlim, SlimModuleFits, SlimModulesFit}

-- ---- functions with other bodies

sort_with : (b : Bool) (c : Code) (f : Func) → (with_body b c f).sort ≡ f.sort
sort_with true c f = refl
sort_with false c f = refl

pub locals_with : (b : Bool) (c : Code) (f : Func) → (with_body b c f).locals ≡ f.locals
locals_with true c f = refl
locals_with false c f = refl

-- what stands where a function is found
pub mapped : (k : Func → Func) (o : Option Func) (g : Func) → option_map k o ≡ Some g → (f : Func) × (o ≡ Some f) × (k f ≡ g)
mapped k None g e = cc
mapped k (Some f) g e = let z : k f ≡ g = cc in (f, refl, z)

module _ (which : List Bool) (bodies : (index : ℕ) → Code) where
  got_from : (x : ℕ) (fs : List Func) (i y : ℕ) → y ≡ x + i → slice_get (with_bodies which bodies x fs) i ≡ option_map (with_body (is_told (slice_get which y)) (bodies y)) (slice_get fs i)
  got_from x [] i y e = refl
  got_from x (f ∷ fs) zero y e = let z : x ≡ y = omega arith in ap (λ j. Some (with_body (is_told (slice_get which j)) (bodies j) f)) z
  got_from x (f ∷ fs) (suc i) y e = got_from (suc x) fs i y (omega arith)

  sorts_with : (x : ℕ) (fs : List Func) → map (λ (f : Func). f.sort) (with_bodies which bodies x fs) ≡ map (λ (f : Func). f.sort) fs
  sorts_with x [] = refl
  sorts_with x (f ∷ fs) =
      ap (λ k. k ∷ map (λ (g : Func). g.sort) (with_bodies which bodies (suc x) fs)) (sort_with (is_told (slice_get which x)) (bodies x) f)
      ∙ ap (λ ks. f.sort ∷ ks) (sorts_with (suc x) fs)

-- how many locals a flat function has
pub flat_size : (m : Module) (x : ℕ) (f : Func) → length (flattened m x f).locals ≡ param_count (type_at m f.sort) + length (declared_locals f.locals ++ extra_types m f)
flat_size m x f =
    let ps = (type_at m f.sort).params in
    let ds = declared_locals f.locals in
    let a : List ValType = map (λ (q : Pair). q.ty) (SlotPairs m f) in
    let c : List ValType = map (λ (q : Pair). q.ty) (ResultPairs m f) in
    let l1 = length-append ((ps ++ ds) ++ a) c in
    let l2 = length-append (ps ++ ds) a in
    let l3 = length-append ps ds in
    let l4 = length-append ds (a ++ c) in
    let l5 = length-append a c in
    omega arith

module _ (m : Module) (which : List Bool) (places : (index : ℕ) → Func → List ℕ) (pieces : (index : ℕ) → Pieces) where
  abbrev q : Module
  q = flat_module m which

  abbrev q1 : Module
  q1 = slim_module m which places pieces

  abbrev bodies : (index : ℕ) → Code
  bodies x = body_of_func m which places pieces x (defined_at m x)

  abbrev told : ℕ → Bool
  told x = is_told (slice_get which x)

  -- the function of an index is the flat one, with its body where it is told
  pub slim_found : (x : ℕ) → defined_at (slim_module m which places pieces) x
      ≡ option_map (with_body (is_told (slice_get which x)) (body_of_func m which places pieces x (defined_at m x))) (defined_at (flat_module m which) x)
  slim_found x = by (nat_lt x (func_imports m)) refl
    where
      by : (b : Bool) → nat_lt x (func_imports m) ≡ b
          → (if b then None else slice_get q1.funcs (x - func_imports m)) ≡ option_map (with_body (told x) (bodies x)) (if b then None else slice_get q.funcs (x - func_imports m))
      by true e = refl
      by false e = let le = ltb-false x (func_imports m) e in got_from which bodies (func_imports m) q.funcs (x - func_imports m) x (omega arith)

  sorts_of_flat : func_sorts q1 ≡ func_sorts q
  sorts_of_flat = ap (λ sorts. imported imported_func m ++ sorts) (sorts_with which bodies (func_imports m) q.funcs)

  pub slim_sorts : func_sorts (slim_module m which places pieces) ≡ func_sorts m
  slim_sorts = sorts_of_flat ∙ sorts_stay m which

  types_of_flat : func_types q1 ≡ func_types q
  types_of_flat = ap (λ sorts. map (type_at m) sorts) sorts_of_flat

  -- a context with other functions
  abbrev context : Func → List FuncType → Around
  context f fs = let c : Around = around q f in record { types = c.types; funcs = fs; table = c.table; memory = c.memory; globals = c.globals; locals = c.locals; result = c.result }

  same_context : (g : Func) → around q g ≡ around q1 g
  same_context g = ap (λ fs. context g fs) (sym types_of_flat)

  defined_by : (i : ℕ) (g : Func) → slice_get q.funcs i ≡ Some g → defined_at q (func_imports m + i) ≡ Some g
  defined_by i g e =
      let z : nat_lt (func_imports m + i) (func_imports m) ≡ false = grind arith in
      let k : func_imports m + i - func_imports m ≡ i = omega arith in
      ap (λ b. if b then None else slice_get q.funcs (func_imports m + i - func_imports m)) z ∙ ap (slice_get q.funcs) k ∙ e

  module _ (valid : Valid m) (slim : AllSlimPieces m which places pieces) where
    -- ---- one told function

    body_slim : (x : ℕ) (f : Func) (sp : SlimPieces m (places x f) x f (pieces x)) → Slims (flat_terms m (places x f) x f) 0 [] (λ y. true) sp.here [] (body_of (flattened m x f))
        (body_with (pieces x) (flattened m x f).result)
    body_slim x f sp =
        let ff = flattened m x f in
        let t = flat_terms m (places x f) x f in
        subst (λ c. Slims t 0 [] (λ y. true) sp.here [] (nest a_block None c (result_got ff.result)) (body_with (pieces x) ff.result)) (joins_law (places x f) 0 ff.body)
        (body_law t sp.here sp.out (first_piece (places x f) 0 ff.body) (pieces x).first (units (places x f) 0 ff.body) (pieces x).units ff.result sp.slim sp.result)

    -- its flat function
    flat_there : (x : ℕ) (g : Func) → told x ≡ true → defined_at q x ≡ Some g → (f : Func) × (defined_at m x ≡ Some f) × (flat_func m x f ≡ g)
    flat_there x g t e =
        let w = mapped (told_as m (told x) x) (defined_at m x) g (sym (found m which x) ∙ e) in
        (w.0, w.1, subst (λ b. told_as m b x w.0 ≡ g) t w.2)

    body_there : (x : ℕ) (f : Func) → defined_at m x ≡ Some f → bodies x ≡ body_with (pieces x) (flattened m x f).result
    body_there x f e = ap (body_of_func m which places pieces x) e

    -- ---- it is valid

    typed_at : (b : Bool) (x i : ℕ) (g h : Func) → told x ≡ b → x ≡ func_imports m + i → slice_get q.funcs i ≡ Some g → with_body b (bodies x) g ≡ h → Typed (around q1 h) h.body
    typed_at true x i g h t ex e eh =
        let at : defined_at q x ≡ Some g = subst (λ y. defined_at q y ≡ Some g) (sym ex) (defined_by i g e) in
        let w = flat_there x g t at in
        let f = w.0 in
        let sp = slim x f w.1 t in
        let was : Typed (around q g) g.body = (valid_stays m which valid).bodies i g e in
        let was2 : Typed (around q g) (body_of (flattened m x f)) = subst (λ (z : Func). Typed (around q g) z.body) (sym w.2) was in
        let now : Typed (around q g) (bodies x) = subst (λ c. Typed (around q g) c) (sym (body_there x f w.1))
        (bodies_are_typed (around q g) (flat_terms m (places x f) x f) 0 [] (λ y. true) sp.here (body_of (flattened m x f)) (body_with (pieces x) (flattened m x f).result)
        (body_slim x f sp) was2) in
        subst (λ (z : Func). Typed (around q1 z) z.body) eh (subst (λ c. Typed c (bodies x)) (same_context g) now)
    typed_at false x i g h t ex e eh =
        subst (λ (z : Func). Typed (around q1 z) z.body) eh (subst (λ c. Typed c g.body) (same_context g) ((valid_stays m which valid).bodies i g e))

    slim_valid : Valid q1
    slim_valid =
        let v = valid_stays m which valid in
        record {
          types = v.types;
          sorts = ap (all_below (length m.types)) (sorts_of_flat) ∙ v.sorts;
          bodies = λ i h e.
              let x : ℕ = func_imports m + i in
              let w = mapped (with_body (told x) (bodies x)) (slice_get q.funcs i) h (sym (got_from which bodies (func_imports m) q.funcs i x refl) ∙ e) in
              typed_at (told x) x i w.0 h refl refl w.1 w.2;
          limits = v.limits;
          single = v.single;
          constants = v.constants;
          globals = v.globals;
          tables = v.tables;
          memories = v.memories;
          funcs = ap (λ sorts. all_below (length sorts) (exported a_func m ++ option_to_list m.start ++ flat_map (λ (e : Elem). e.funcs) m.elems)) sorts_of_flat ∙ v.funcs;
          start = ap (start_fits m.start) types_of_flat ∙ v.start;
          names = v.names;
        }

    -- ---- beside the flat one

    abbrev w : Sides
    w = record { flat = flat_module m which; slim = slim_module m which places pieces; terms = module_terms m which places pieces }

    sized : (x : ℕ) (f : Func) → defined_at m x ≡ Some f → param_count (func_type_at q x) ≡ param_count (type_at m f.sort)
    sized x f e = ap param_count ((valid_is_flattened m which valid).func_type x (defined_in m x f e) ∙ defined_type m x f e)

    terms_told : (x : ℕ) (f : Func) (b : Bool) → told x ≡ b → defined_at m x ≡ Some f → terms_where m which places pieces b x (Some f) ≡ module_terms m which places pieces x
    terms_told x f b t e = ap (λ z. terms_where m which places pieces z x (Some f)) (sym t) ∙ ap (terms_where m which places pieces (told x) x) (sym e)

    twin_of : (x : ℕ) (g : Func) (b : Bool) → told x ≡ b → defined_at q x ≡ Some g → Twin w x
    twin_of x g true t e =
        let d = flat_there x g t e in
        let f = d.0 in
        let sp = slim x f d.1 t in
        let there : defined_at q1 x ≡ Some (with_body true (bodies x) g) = slim_found x ∙ ap (λ z. option_map (with_body z (bodies x)) (defined_at q x)) t
        ∙ ap (option_map (with_body true (bodies x))) e in
        let same = terms_told x f true t d.1 in
        let l1 = flat_size m x f in
        let l2 : length (declared_locals g.locals) ≡ length (declared_locals f.locals ++ extra_types m f) = ap (λ (z : Func). length (declared_locals z.locals)) (sym d.2)
        ∙ ap length (is_flat m x f).1 in
        let l3 = sized x f d.1 in
        let size : param_count (func_type_at q x) + length (declared_locals g.locals) ≡ (flat_terms m (places x f) x f).size = omega arith in
        both_defined g (with_body true (bodies x) g) e there refl (size ∙ ap (λ (z : Terms). z.size) same) (λ y. true) sp.here
        (subst (λ z. Slims z 0 [] (λ y. true) sp.here [] g.body (bodies x)) same
        (subst (λ c. Slims (flat_terms m (places x f) x f) 0 [] (λ y. true) sp.here [] g.body c) (sym (body_there x f d.1))
        (subst (λ (z : Func). Slims (flat_terms m (places x f) x f) 0 [] (λ y. true) sp.here [] z.body (body_with (pieces x) (flattened m x f).result)) d.2 (body_slim x f sp))))
    twin_of x g false t e =
        let d = mapped (told_as m (told x) x) (defined_at m x) g (sym (found m which x) ∙ e) in
        let f = d.0 in
        let same_f : f ≡ g = subst (λ b. told_as m b x f ≡ g) t d.2 in
        let there : defined_at q1 x ≡ Some g = slim_found x ∙ ap (λ z. option_map (with_body z (bodies x)) (defined_at q x)) t ∙ ap (option_map (with_body false (bodies x))) e in
        let same = terms_told x f false t d.1 in
        let l1 = length-append (type_at m f.sort).params (declared_locals f.locals) in
        let l2 : length (declared_locals g.locals) ≡ length (declared_locals f.locals) = ap (λ (z : Func). length (declared_locals z.locals)) (sym same_f) in
        let l3 = sized x f d.1 in
        let size : param_count (func_type_at q x) + length (declared_locals g.locals) ≡ (plain_terms (length (locals_of m f))).size = omega arith in
        both_defined g g e there refl (size ∙ ap (λ (z : Terms). z.size) same) (λ y. true) (λ y. false)
        (same_slim (module_terms m which places pieces x) 0 [] (λ y. true) g.body)

    twins : (x : ℕ) → Twin w x
    twins x = by (defined_at q x) refl
      where
        by : (o : Option Func) → defined_at q x ≡ o → Twin w x
        by None e = both_import e (slim_found x ∙ ap (option_map (with_body (told x) (bodies x))) e)
        by (Some g) e = twin_of x g (told x) refl e

    slots_behind : (x y : ℕ) → (module_terms m which places pieces x).slot y ≡ true → first_of m x ≤ y
    slots_behind x y = by (told x) (defined_at m x)
      where
        front : (a b : Bool) → (not a && b) ≡ true → a ≡ false
        front true b e = cc
        front false b e = refl

        by : (b : Bool) (o : Option Func) → (terms_where m which places pieces b x o).slot y ≡ true → first_in m o ≤ y
        by b None h = omega arith
        by true (Some f) h = ltb-false y (length (locals_of m f)) (front (nat_lt y (length (locals_of m f))) _ h)
        by false (Some f) h = cc

    pub fits : SlimModuleFits m which places pieces
    fits = record {
      valid = slim_valid;
      sorts = slim_sorts;
      together = record { imports = refl; func_type = λ x. ap (λ ts. or_empty (slice_get ts x)) types_of_flat; sort = λ s. refl; most = refl; twin = twins };
      behind = slots_behind;
    }

pub fit_law : SlimModulesFit
fit_law m which places pieces valid slim = fits m which places pieces valid slim

-- pieces as flattening gives them stay as they are
pub plain_slim : PlainPiecesAreSlim
plain_slim m places x f = record { out = λ y. false; here = λ y. false; slim = untouched; result = by (flattened m x f).result }
  where
    by : (r : Option ℕ) → ToHeld (λ y. false) r
    by None = tt
    by (Some x) = refl
