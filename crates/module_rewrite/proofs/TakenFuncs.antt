-- Functions taken as they are emitted, one after the other.
use Rattle.std.proofs.Common.{◌≡◌, ◌∙◌, ℕ, zero, suc, ◌+◌, ◌-◌, ◌<◌, ◌≤◌, ◌^◌, List, [], ◌∷◌, ◌++◌, length, get_or, drop, Some, Bool, true, false, Ok, Err, refl, sym, ap, subst, arith, append_assoc}
use Rattle.std.specs.Prelude.{slice_get}
use Rattle.std.specs.Vec.{vec_len}
use Rattle.std.proofs.lemmas.List.{append-nil, drop_all, length-map}
use Rattle.std.proofs.lemmas.Option.{slice_get-get_or}
use Rattle.wa_types.specs.Frames.{Count}
use Rattle.wa_types.specs.Modules.{func_imports, defined_at}
use Rattle.wa_types.specs.Pausing.{Settings, is_told}
use Rattle.wa_types.specs.Syntax.{Func, Module}
use Rattle.wa_types.specs.View.{func_of, module_of}
use Rattle.wa_types.specs.declared.syntax.Func.{Func as FuncValue}
use Rattle.wa_types.specs.declared.syntax.Module.{Module as ModuleValue}
use Rattle.run_theory.specs.Flat.{FlatFunc}
use Rattle.flat_laws.specs.Flatten.{flattened}
use Rattle.flatten.specs.Whole.{FlatAnswer}
use Rattle.flatten.specs.declared.whole.Flattened.{Flattened}
use Rattle.flatten.specs.declared.fault.FlatFault.{FlatFault}
use Rattle.flatten.specs.declared.fault.FlatFault.TheVariants as F
use Rattle.flatten.proofs.ToldLemmas.{Sofar, sofar_first, sofar_done, go_skip, go_put, go_stop}
use Rattle.func_rewrite.specs.Frames.{IsFlattened}
use Rattle.wasm_validate.proofs.FuncLemmas.{func_at}
use Rattle.emitted_form.proofs.EmittedBy.{defined_of}
use Rattle.emitted_form.specs.EmittedAs.{AreEmitted, IsEmitted, IsEmittedWhere, IsWritten}
use Rattle.module_rewrite.specs.Taking.{AllTaken, CanTake, IsRefused}

-- ---- one by one

pub drop_at : {X : Type 0} (xs : List X) (i : ℕ) (x : X) → slice_get xs i ≡ Some x → drop i xs ≡ x ∷ drop (i + 1) xs
drop_at [] i x e = cc
drop_at (y ∷ ys) zero x e = let z : y ≡ x = cc in ap (λ w. w ∷ ys) z
drop_at (y ∷ ys) (suc i) x e = let z : suc (i + 1) ≡ suc i + 1 = omega arith in drop_at ys i x e ∙ ap (λ k. x ∷ drop k (y ∷ ys)) z

-- What the program knows of the function at a place: where its answer stands, and which it is.
pub record Here (m : Module) (which : List Bool) (i at : ℕ) (f : Func) : Type 0 where
  pub many : length which ≡ func_imports m + length m.funcs
  pub within : i < length m.funcs
  pub place : at ≡ func_imports m + i
  pub is : slice_get m.funcs i ≡ Some f

pub here : (v z : ModuleValue) (which : List Bool) (i own end : ℕ) (f : FuncValue) → z ≡ v → length which ≡ func_imports (module_of v) + length (module_of v).funcs
    → own ≡ vec_len z.funcs → end ≡ vec_len z.funcs → i < end → f ≡ get_or z.funcs.items i f → Here (module_of v) which i (length which - own + i) (func_of f)
here v z which i own end f same many eo ee lt ef =
    let len = length-map v.funcs.items func_of in
    let count = ap (λ (z : ModuleValue). length z.funcs.items) same in
    let ok : vec_len z.funcs ≡ length z.funcs.items = let k = z.funcs.ok in omega arith in
    record {
      many = many;
      within = omega (arith, lt, ee, ok, count, len);
      place = omega (arith, eo, ok, many, count, len);
      is = func_at v.funcs.items i f (omega (arith, lt, ee, ok, count)) (ef ∙ ap (λ (z : ModuleValue). get_or z.funcs.items i f) same);
    }

module _ (m : Module) (s : Settings) (which : List Bool) where
  abbrev n : ℕ
  n = func_imports m

  abbrev ws : List Bool
  ws = drop n which

  -- What is known where so many functions are done.
  pub record Going (i : ℕ) (holds : List Func → Type 0) : Type 0 where
    pub flats : List FlatFunc
    pub sofar : Sofar m ws m.funcs n i flats
    pub funcs : List Func
    pub held : holds funcs
    pub emitted : (rest : List Func) → AreEmitted m s which (n + i) (drop i m.funcs) rest → AreEmitted m s which n m.funcs (funcs ++ rest)

  pub going_first : (holds : List Func → Type 0) → holds [] → Going 0 holds
  going_first holds e =
      let z : n + 0 ≡ n = omega arith in
      record {
        flats = [];
        sofar = sofar_first m ws m.funcs n [] refl;
        funcs = [];
        held = e;
        emitted = λ rest h. subst (λ k. AreEmitted m s which k m.funcs rest) z h;
      }

  pub going_end : (i : ℕ) (holds : List Func → Type 0) → Going i holds → length m.funcs ≤ i → AllTaken m s which holds
  going_end i holds g le =
      let none : drop i m.funcs ≡ [] = drop_all i m.funcs le in
      record {
        funcs = g.funcs;
        emitted = subst (AreEmitted m s which n m.funcs) (append-nil g.funcs) (g.emitted [] (subst (λ fs. AreEmitted m s which (n + i) fs []) (sym none) tt));
        held = g.held;
        few = (sofar_done m ws m.funcs n i g.flats g.sofar le).1;
      }

  -- the flat function of a place
  pub flat_is : (i at : ℕ) (f : Func) → Here m which i at f → (flat : Flattened) (y : ℕ) → y ≡ n + i → FlatAnswer m y f (Ok flat) → IsFlattened m f flat
  flat_is i at f p flat y ey h =
      let x : flat.func.func ≡ n + i = ap (λ (z : FlatFunc). z.func) h.0 ∙ ey in
      record {
        defined = ap (defined_at m) x ∙ defined_of m i f p.is;
        flat = h.0 ∙ ap (λ k. flattened m k f) (ey ∙ sym x);
        few = h.1;
        first_slot = h.2;
        first_result = h.3;
      }

  module _ (i at : ℕ) (holds : List Func → Type 0) (g : Going i holds) (f : Func) (p : Here m which i at f) where
    bit : (b : Bool) → get_or which at false ≡ b → slice_get which (n + i) ≡ Some b
    bit b e = ap (slice_get which) (sym p.place) ∙ slice_get-get_or which at false (omega (arith, p.many, p.within, p.place)) ∙ ap (λ c. Some c) e

    next_x : suc (n + i) ≡ n + (i + 1)
    next_x = omega arith

    one_more : (h : Func) → IsEmitted m s which (n + i) f h → (rest : List Func) → AreEmitted m s which (n + (i + 1)) (drop (i + 1) m.funcs) rest
        → AreEmitted m s which n m.funcs ((g.funcs ++ h ∷ []) ++ rest)
    one_more h is rest r =
        subst (AreEmitted m s which n m.funcs) (sym (append_assoc g.funcs (h ∷ []) rest))
        (g.emitted (h ∷ rest)
        (subst (λ fs. AreEmitted m s which (n + i) fs (h ∷ rest)) (sym (drop_at m.funcs i f p.is)) (is, subst (λ k. AreEmitted m s which k (drop (i + 1) m.funcs) rest) (sym next_x) r)))

    pub going_keep : (new : List Func → Type 0) → get_or which at false ≡ false → ((fs : List Func) → holds fs → new (fs ++ f ∷ [])) → Going (i + 1) new
    going_keep new e put = record {
      flats = g.flats;
      sofar = go_skip m which n i at g.flats g.sofar p.many p.within p.place e;
      funcs = g.funcs ++ f ∷ [];
      held = put g.funcs g.held;
      emitted = one_more f (subst (λ b. IsEmittedWhere b m s which (n + i) f f) (sym (ap is_told (bit false e))) refl);
    }

    -- the flat function of this place
    module _ (flat : Flattened) (y : ℕ) (ey : y ≡ n + i) (h : FlatAnswer m y f (Ok flat)) where
      index_is : flat.func.func ≡ n + i
      index_is = ap (λ (z : FlatFunc). z.func) h.0 ∙ ey

      pub is_flattened : IsFlattened m f flat
      is_flattened = flat_is i at f p flat y ey h

      -- as it is written, it is taken
      pub written_fits : (fits : Func → Type 0) → CanTake m s which fits → get_or which at false ≡ true → (w : Func) → IsWritten m s which flat.func.func f w → fits w
      written_fits fits can e w is = can.written flat.func.func f w is_flattened.defined (ap (λ k. is_told (slice_get which k)) index_is ∙ ap is_told (bit true e)) h.1 is

      pub going_written : (new : List Func → Type 0) → get_or which at false ≡ true → (w : Func) → IsWritten m s which flat.func.func f w
          → ((fs : List Func) → holds fs → new (fs ++ w ∷ [])) → Going (i + 1) new
      going_written new e w is put =
          let flats : List FlatFunc = g.flats ++ flattened m (n + i) f ∷ [] in
          record {
            flats = flats;
            sofar = go_put m which n i at g.flats g.sofar p.many p.within p.place flats (flattened m (n + i) f) (n + i) e refl refl
                (λ k ek. let z : Some f ≡ Some k = sym p.is ∙ ek in let q : f ≡ k = cc in (ap (flattened m (n + i)) q, subst (λ w. Count m w ≤ 50000) q h.1));
            funcs = g.funcs ++ w ∷ [];
            held = put g.funcs g.held;
            emitted = one_more w (subst (λ b. IsEmittedWhere b m s which (n + i) f w) (sym (ap is_told (bit true e))) (subst (λ k. IsWritten m s which k f w) index_is is));
          }

  pub going_stop : (i at y : ℕ) (holds : List Func → Type 0) → Going i holds → (f : Func) → Here m which i at f → get_or which at false ≡ true → y ≡ n + i → (fault : FlatFault)
      → ((f : Func) → slice_get m.funcs i ≡ Some f → FlatAnswer m y f (Err fault)) → IsRefused m which fault
  going_stop i at y holds g f p e ey F.Memory h = tt
  going_stop i at y holds g f p e ey (F.Locals func count) h = go_stop m which n i at g.flats g.sofar p.many p.within p.place func count y e ey h
