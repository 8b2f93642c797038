-- The locals of a guarded function as it is written: own ones, slots, and more behind.
use Rattle.std.proofs.Common.{◌≡◌, ℕ, suc, ◌+◌, ◌-◌, ◌<◌, List, [], ◌∷◌, ◌++◌, length, map, Some, None, Bool, true, false, refl, sym, ap, ◌∙◌, subst, arith, ltb-false}
use Rattle.std.specs.Prelude.{slice_get, nat_lt, if◌then◌else◌}
use Rattle.std.specs.Option.{option_map}
use Rattle.std.proofs.lemmas.List.{append_assoc}
use Rattle.std.proofs.lemmas.Option.{slice_get-map}
use Rattle.wa_types.specs.Base.{Base}
use Rattle.wa_types.specs.Frames.{Pair, ResultPairs, SlotPairs}
use Rattle.wa_types.specs.Modules.{declared_locals, defined_at, func_imports, func_sorts, imported, imported_func, locals_of, or_empty, type_at}
use Rattle.wa_types.specs.Pausing.{Settings, is_told}
use Rattle.wa_types.specs.Runtime.{runtime_types}
use Rattle.wa_types.specs.Syntax.{Func, Module}
use Rattle.wa_types.specs.declared.syntax.Import.{Import}
use Rattle.wa_types.specs.Validity.{Valid}
use Rattle.wa_types.specs.declared.values.ValType.{ValType}
use Rattle.wa_types.specs.declared.values.ValType.TheVariants.{I32, I64}
use Rattle.run_theory.proofs.BaseValid.{base_valid}
use Rattle.run_theory.proofs.GrownSteps.{front}
use Rattle.run_theory.proofs.NamedModules.{valid_named}
use Rattle.flat_laws.proofs.FlatModules.{is_flat}
use Rattle.headline.specs.EmittedModule.{Framing, Emitted, Guarded, WrittenAs}
use Rattle.headline.proofs.PairedFlat.{base_defined, types_are}

-- where a defined function stands
pub index_of : (m : Module) (x : ℕ) (f : Func) → defined_at m x ≡ Some f → (j : ℕ) × (x ≡ func_imports m + j) × (slice_get m.funcs j ≡ Some f)
index_of m x f e = by (nat_lt x (func_imports m)) refl e
  where
    by : (b : Bool) → nat_lt x (func_imports m) ≡ b → (if b then None else slice_get m.funcs (x - func_imports m)) ≡ Some f → (j : ℕ) × (x ≡ func_imports m + j) × (slice_get m.funcs j ≡ Some f)
    by true q g = cc
    by false q g = let le = ltb-false x (func_imports m) q in (x - func_imports m, omega arith, g)

behind_got : (xs ys : List ℕ) (i : ℕ) → slice_get (xs ++ ys) (length xs + i) ≡ slice_get ys i
behind_got [] ys i = let z : length {A = ℕ} [] + i ≡ i = omega arith in ap (slice_get ys) z
behind_got (x ∷ xs) ys i = let z : length (x ∷ xs) + i ≡ suc (length xs + i) = omega arith in ap (slice_get (x ∷ (xs ++ ys))) z ∙ behind_got xs ys i

-- its type is there
sort_known : (m : Module) → Valid m → (x : ℕ) (f : Func) → defined_at m x ≡ Some f → f.sort < length m.types
sort_known m v x f e =
    let q = index_of m x f e in
    let got : slice_get (func_sorts m) (func_imports m + q.0) ≡ Some f.sort =
    behind_got (imported imported_func m) (map (λ (f : Func). f.sort) m.funcs) q.0 ∙ slice_get-map (λ (f : Func). f.sort) m.funcs q.0 ∙ ap (option_map (λ (f : Func). f.sort)) q.2 in
    (valid_named m v).sorts (func_imports m + q.0) f.sort got

module _ (m : Module) (s : Settings) (which : List Bool) (frames : (index : ℕ) → Framing) (p : Module) (valid : Valid m) (em : Emitted m s which frames p) where
  abbrev b : Module
  b = Base m

  -- the written function of an index is the one of the original's
  written_of : (x : ℕ) (f g : Func) → defined_at b x ≡ Some f → defined_at p x ≡ Some g → is_told (slice_get which x) ≡ true → Guarded m s which frames x f g
  written_of x f g e eg told =
      let q = index_of m x f (sym (base_defined m x) ∙ e) in
      let q2 = index_of p x g eg in
      let imp : func_imports p ≡ func_imports m = ap (λ (is : List Import). length (Rattle.std.specs.List.filter_map (λ (i : Import). imported_func i.kind) is)) em.imports in
      let x_is : func_imports m + q.0 ≡ x = sym q.1 in
      let same : q2.0 ≡ q.0 = let e1 = q.1 in let e2 = q2.1 in omega arith in
      let w : WrittenAs m s which frames (is_told (slice_get which (func_imports m + q.0))) (func_imports m + q.0) f g = em.written q.0 f g q.2 (ap (slice_get p.funcs) (sym same) ∙ q2.2) in
      subst (λ t. WrittenAs m s which frames t x f g) told (subst (λ y. WrittenAs m s which frames (is_told (slice_get which y)) y f g) x_is w)

  -- its locals
  pub written_locals : (x : ℕ) (f g : Func) → defined_at b x ≡ Some f → defined_at p x ≡ Some g → is_told (slice_get which x) ≡ true
      → (rest : List ValType) × (locals_of p g ≡ locals_of b f ++ (map (λ (q : Pair). q.ty) (SlotPairs b f) ++ rest))
  written_locals x f g e eg told =
      let w = written_of x f g e eg told in
      let ps = (type_at b f.sort).params in
      let ds = declared_locals f.locals in
      let a : List ValType = map (λ (q : Pair). q.ty) (SlotPairs b f) in
      let c : List ValType = map (λ (q : Pair). q.ty) (ResultPairs b f) in
      let tail : List ValType = I32 ∷ I32 ∷ I64 ∷ [] in
      let ty : type_at p g.sort ≡ type_at b f.sort =
      ap (type_at p) w.sort ∙ ap (λ ts. or_empty (slice_get ts f.sort)) (em.types ∙ types_are m) ∙ ap or_empty (front b.types runtime_types f.sort (sort_known b (base_valid m valid) x f e)) in (
        c ++ tail,
        ap (λ t. t.params ++ declared_locals g.locals) ty
            ∙ ap (λ z. ps ++ z) (w.locals ∙ ap (λ z. z ++ tail) ((is_flat b x f).1) ∙ append_assoc ds (a ++ c) tail ∙ ap (λ z. ds ++ z) (append_assoc a c tail))
            ∙ sym (append_assoc ps ds (a ++ (c ++ tail))),
      )
