-- Under the policy `all` a written function has its type in the emitted module.
use Rattle.std.proofs.Common.{◌≡◌, ◌∙◌, ℕ, suc, ◌+◌, List, [], ◌∷◌, ◌++◌, length, map, Some, Bool, true, false, refl, sym, ap, subst, arith, length-append}
use Rattle.std.specs.Prelude.{slice_get, if◌then◌else◌}
use Rattle.std.proofs.lemmas.List.{append_assoc}
use Rattle.std.proofs.lemmas.Option.{slice_get_within}
use Rattle.wa_types.specs.declared.values.ValType.{ValType}
use Rattle.wa_types.specs.declared.values.ValType.TheVariants.{I32}
use Rattle.wa_types.specs.Frames.{Pair, Place, SlotPairs, ResultPairs, place_onto, named_places, slot_places, places, Saved}
use Rattle.wa_types.specs.Modules.{locals_of}
use Rattle.wa_types.specs.Pausing.{save_all, Settings}
use Rattle.wa_types.specs.Runtime.{global_space}
use Rattle.wa_types.specs.Syntax.{done, Func, Module}
use Rattle.wa_types.specs.Typing.{Around, Types}
use Rattle.run_theory.proofs.GrownSteps.{front}
use Rattle.run_theory.proofs.RuntimeValid.{behind}
use Rattle.flat_laws.specs.Flatten.{flattened}
use Rattle.frame_laws.specs.Layout.{kept, gap, restore_code, save_code}
use Rattle.frame_laws.specs.Typed.{FieldsTyped, LayoutTyped}
use Rattle.frame_laws.proofs.FrameTypes.{save_typed, restore_typed}
use Rattle.emitted_form.specs.CodesHold.{CodeTyped, three}
use Rattle.emitted_form.specs.Emitted.{is_kept, field_where, frame_layout}

-- ---- places of saved locals

-- each place is one of these locals, of its type
abbrev pub PlacesTyped : List ValType → List Place → Type 0
PlacesTyped locals [] = Unit {0}
PlacesTyped locals (p ∷ ps) = (slice_get locals p.local ≡ Some p.ty) × PlacesTyped locals ps

module _ (locals : List ValType) where
  both_typed : (ps qs : List Place) → PlacesTyped locals ps → PlacesTyped locals qs → PlacesTyped locals (ps ++ qs)
  both_typed [] qs h g = g
  both_typed (p ∷ ps) qs h g = (h.0, both_typed ps qs h.1 g)

  place_typed : (b : Bool) (x : ℕ) (t : ValType) (ps : List Place) → slice_get locals x ≡ Some t → PlacesTyped locals ps → PlacesTyped locals (place_onto b x t ps)
  place_typed true x t ps e h = (e, h)
  place_typed false x t ps e h = h

  named_typed : (keep : ℕ → Bool) (x : ℕ) (ts : List ValType) → ((i : ℕ) (t : ValType) → slice_get ts i ≡ Some t → slice_get locals (x + i) ≡ Some t) → PlacesTyped locals (named_places keep x ts)
  named_typed keep x [] h = tt
  named_typed keep x (t ∷ ts) h =
      let z : x + 0 ≡ x = omega arith in
      place_typed (keep x) x t (named_places keep (suc x) ts) (ap (slice_get locals) (sym z) ∙ h 0 t refl)
      (named_typed keep (suc x) ts (λ i u e. let k : suc x + i ≡ x + suc i = omega arith in ap (slice_get locals) k ∙ h (suc i) u e))

  slots_typed : (keep : Pair → Bool) (x : ℕ) (ps : List Pair) → ((i : ℕ) (t : ValType) → slice_get (map (λ (p : Pair). p.ty) ps) i ≡ Some t → slice_get locals (x + i) ≡ Some t)
      → PlacesTyped locals (slot_places keep x ps)
  slots_typed keep x [] h = tt
  slots_typed keep x (p ∷ ps) h =
      let z : x + 0 ≡ x = omega arith in
      place_typed (keep p) x p.ty (slot_places keep (suc x) ps) (ap (slice_get locals) (sym z) ∙ h 0 p.ty refl)
      (slots_typed keep (suc x) ps (λ i u e. let k : suc x + i ≡ x + suc i = omega arith in ap (slice_get locals) k ∙ h (suc i) u e))

  pub fields_typed : (keep : ℕ → Bool) (ps : List Place) → PlacesTyped locals ps → FieldsTyped locals (map (field_where keep) ps)
  fields_typed keep [] h = tt
  fields_typed keep (p ∷ ps) h = by (keep p.local) (fields_typed keep ps h.1)
    where
      by : (b : Bool) → FieldsTyped locals (map (field_where keep) ps) → FieldsTyped locals ((if b then kept p.local p.ty else gap p.ty) ∷ map (field_where keep) ps)
      by true k = (h.0, k)
      by false k = k

-- places of the own locals and the slots are among the first of the flat function's locals
pub places_typed : (m : Module) (f : Func) (more : List ValType) (keep : ℕ → Bool) (keep_slot : Pair → Bool)
    → PlacesTyped ((locals_of m f ++ map (λ (p : Pair). p.ty) (SlotPairs m f)) ++ more) (places m f keep keep_slot)
places_typed m f more keep keep_slot =
    let own : List ValType = locals_of m f in
    let slots : List ValType = map (λ (p : Pair). p.ty) (SlotPairs m f) in
    let all : List ValType = (own ++ slots) ++ more in
    let first : (i : ℕ) (t : ValType) → slice_get own i ≡ Some t → slice_get all (0 + i) ≡ Some t =
    λ i t e.
    let lt = slice_get_within own i t e in
    let n = length-append own slots in
    let z : 0 + i ≡ i = omega arith in
    ap (slice_get all) z ∙ front (own ++ slots) more i (omega arith) ∙ front own slots i lt ∙ e in
    let second : (i : ℕ) (t : ValType) → slice_get slots i ≡ Some t → slice_get all (length own + i) ≡ Some t =
    λ i t e.
    let lt = slice_get_within slots i t e in
    let n = length-append own slots in
    front (own ++ slots) more (length own + i) (omega arith) ∙ behind own slots (length own + i) i refl ∙ e in
    both_typed all (named_places keep 0 own) (slot_places keep_slot (length own) (SlotPairs m f)) (named_typed all keep 0 own first)
    (slots_typed all keep_slot (length own) (SlotPairs m f) second)

-- such places of the written function's locals
pub places_written : (m : Module) (x : ℕ) (f : Func) (ls : List ValType) (keep : ℕ → Bool) (keep_slot : Pair → Bool) → ls ≡ (flattened m x f).locals ++ three
    → PlacesTyped ls (places m f keep keep_slot)
places_written m x f ls keep keep_slot e =
    let own : List ValType = locals_of m f ++ map (λ (p : Pair). p.ty) (SlotPairs m f) in
    let results : List ValType = map (λ (p : Pair). p.ty) (ResultPairs m f) in
    subst (λ ts. PlacesTyped ts (places m f keep keep_slot)) (sym (append_assoc own results three) ∙ sym e) (places_typed m f (results ++ three) keep keep_slot)

-- ---- a function

module _ (m : Module) (s : Settings) (which : List Bool) (x : ℕ) (f : Func) where
  abbrev flat_locals : List ValType
  flat_locals = (flattened m x f).locals

  layout_typed : (c : Around) → c.memory ≡ true → slice_get c.globals (suc (global_space m)) ≡ Some (record { ty = I32; mutable = true }) → c.locals ≡ flat_locals ++ three
      → LayoutTyped c (frame_layout m s which x f)
  layout_typed c memory address locals =
      let n : ℕ = length flat_locals in
      record {
        memory = memory;
        address = address;
        index = ap (λ ls. slice_get ls n) locals ∙ behind flat_locals three n 0 (omega arith);
        scratch = ap (λ ls. slice_get ls (suc n)) locals ∙ behind flat_locals three (suc n) 1 (omega arith);
        fields = fields_typed c.locals (is_kept m s which x f) (Saved m save_all f 0) (places_written m x f c.locals (λ y. true) (λ p. true) locals);
      }

  pub restoring_typed : CodeTyped m x f (restore_code (frame_layout m s which x f) done)
  unfolding Types
  restoring_typed c ls memory address locals = restore_typed c ls (frame_layout m s which x f) done [] (layout_typed c memory address locals) refl

  pub saving_typed : CodeTyped m x f (save_code (frame_layout m s which x f) done)
  unfolding Types
  saving_typed c ls memory address locals = save_typed c ls (frame_layout m s which x f) done [] (layout_typed c memory address locals) refl
