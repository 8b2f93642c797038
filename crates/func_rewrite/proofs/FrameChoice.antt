-- The chosen frame's code is that of the definition's layout, and the frames of calls are the definition's.
use Rattle.std.proofs.Common.{◌≡◌, ◌∙◌, ℕ, suc, ◌+◌, ◌<◌, ◌≤◌, List, [], ◌∷◌, ◌++◌, length, map, filter, Bool, true, All, refl, sym, ap, arith}
use Rattle.std.specs.Prelude.{if◌then◌else◌}
use Rattle.std.proofs.lemmas.List.Elements.{All-nil, All-cons}
use Rattle.wa_types.specs.declared.values.ValType.{ValType}
use Rattle.wa_types.specs.Frames.{Pair, SlotPairs, width, named_places, slot_places, Saved, Place as SavedLocal}
use Rattle.wa_types.specs.Modules.{locals_of}
use Rattle.wa_types.specs.Pausing.{save_all}
use Rattle.wa_types.specs.Syntax.{Func, Module}
use Rattle.local_spill.specs.Laying.{in_a_row, row_size, saved_local}
use Rattle.local_spill.specs.declared.frames.Layout.{Layout as LayoutValue}
use Rattle.local_spill.specs.declared.frames.Place.{Place}
use Rattle.frame_laws.specs.Chosen.{fields_where}
use Rattle.frame_laws.specs.Layout.{kept, gap, fields_size, placed}
use Rattle.frame_laws.proofs.ChosenPlaces.{chosen_law}
use Rattle.emitted_form.specs.Emitted.{field_where}
use Rattle.func_rewrite.specs.WrittenFrames.{numbered_places, IsFrame, FramesFrom}
use Rattle.func_rewrite.specs.Frames.{IsFrameOf, FramesAt}

-- ---- saved locals

numbered_append : (x : ℕ) (ts us : List ValType) → numbered_places x (ts ++ us) ≡ numbered_places x ts ++ numbered_places (x + length ts) us
numbered_append x [] us = let z : x ≡ x + 0 = omega arith in ap (λ k. numbered_places k us) z
numbered_append x (t ∷ ts) us =
    let z : suc x + length ts ≡ x + suc (length ts) = omega arith in
    ap (λ ps. record { local = x; ty = t } ∷ ps) (numbered_append (suc x) ts us ∙ ap (λ k. numbered_places (suc x) ts ++ numbered_places k us) z)

named_are : (x : ℕ) (ts : List ValType) → named_places (λ y. true) x ts ≡ numbered_places x ts
named_are x [] = refl
named_are x (t ∷ ts) = ap (λ ps. record { local = x; ty = t } ∷ ps) (named_are (suc x) ts)

slots_are : (x : ℕ) (ps : List Pair) → slot_places (λ p. true) x ps ≡ numbered_places x (map (λ (p : Pair). p.ty) ps)
slots_are x [] = refl
slots_are x (p ∷ ps) = ap (λ qs. record { local = x; ty = p.ty } ∷ qs) (slots_are (suc x) ps)

pub saved_are : (m : Module) (f : Func) (place : ℕ) → Saved m save_all f place ≡ numbered_places 0 (locals_of m f ++ map (λ (p : Pair). p.ty) (SlotPairs m f))
saved_are m f place =
    let slots : List ValType = map (λ (p : Pair). p.ty) (SlotPairs m f) in
    let z : length (locals_of m f) ≡ 0 + length (locals_of m f) = omega arith in
    ap (λ ps. ps ++ slot_places (λ p. true) (length (locals_of m f)) (SlotPairs m f)) (named_are 0 (locals_of m f))
    ∙ ap (λ ps. numbered_places 0 (locals_of m f) ++ ps) (slots_are (length (locals_of m f)) (SlotPairs m f) ∙ ap (λ k. numbered_places k slots) z)
    ∙ sym (numbered_append 0 (locals_of m f) slots)

-- ---- the chosen frame

same_fields : (keep : ℕ → Bool) (ps : List Place) → fields_where keep ps ≡ map (field_where keep) (map saved_local ps)
same_fields keep [] = refl
same_fields keep (p ∷ ps) = ap (λ fs. (if keep p.local then kept p.local p.ty else gap p.ty) ∷ fs) (same_fields keep ps)

filter_same : (k l : Place → Bool) → ((p : Place) → k p ≡ l p) → (ps : List Place) → filter k ps ≡ filter l ps
filter_same k l same [] = refl
filter_same k l same (p ∷ ps) = ap (λ (b : Bool). if b then p ∷ filter k ps else filter k ps) (same p) ∙ ap (λ qs. if l p then p ∷ qs else qs) (filter_same k l same ps)

module _ (keep : ℕ → Bool) (saved : List Place) (all : List SavedLocal) (e : map saved_local saved ≡ all) where
  pub chosen_places : (k : Place → Bool) → ((p : Place) → k p ≡ keep p.local) → filter k (in_a_row 0 saved) ≡ placed 0 (map (field_where keep) all)
  chosen_places k same =
      filter_same k (λ (p : Place). keep p.local) same (in_a_row 0 saved) ∙ sym (chosen_law keep saved).places
      ∙ ap (placed 0) (same_fields keep saved ∙ ap (map (field_where keep)) e)

  pub chosen_size : row_size saved ≡ fields_size (map (field_where keep) all)
  chosen_size = sym (chosen_law keep saved).size ∙ ap fields_size (same_fields keep saved ∙ ap (map (field_where keep)) e)

-- each place of a row is one of the locals
numbered_below : (x n : ℕ) (ts : List ValType) → x + length ts ≤ n → (off : ℕ) (ps : List Place) → map saved_local ps ≡ numbered_places x ts → All (λ (p : Place). p.local < n) (in_a_row off ps)
numbered_below x n [] le off [] e = All-nil (λ (p : Place). p.local < n)
numbered_below x n [] le off (p ∷ ps) e = cc
numbered_below x n (t ∷ ts) le off [] e = cc
numbered_below x n (t ∷ ts) le off (p ∷ ps) e =
    let here : saved_local p ≡ record { local = x; ty = t } = cc in
    let rest : map saved_local ps ≡ numbered_places (suc x) ts = cc in
    let z : p.local ≡ x = ap (λ (q : SavedLocal). q.local) here in
    All-cons (λ (p : Place). p.local < n) (record { local = p.local; ty = p.ty; offset = off }) (in_a_row (off + width p.ty) ps) (omega arith)
    (numbered_below (suc x) n ts (omega arith) (off + width p.ty) ps rest)

pub row_below : (n : ℕ) (ts : List ValType) → length ts ≤ n → (ps : List Place) → map saved_local ps ≡ numbered_places 0 ts → All (λ (p : Place). p.local < n) (in_a_row 0 ps)
row_below n ts le ps e = numbered_below 0 n ts (omega arith) 0 ps e

-- ---- the frames of calls

row_again : (off : ℕ) (ps : List Place) → in_a_row off (in_a_row off ps) ≡ in_a_row off ps
row_again off [] = refl
row_again off (p ∷ ps) = ap (λ qs. record { local = p.local; ty = p.ty; offset = off } ∷ qs) (row_again (off + width p.ty) ps)

row_locals : (off : ℕ) (ps : List Place) → map saved_local (in_a_row off ps) ≡ map saved_local ps
row_locals off [] = refl
row_locals off (p ∷ ps) = ap (λ qs. saved_local p ∷ qs) (row_locals (off + width p.ty) ps)

frame_of : (m : Module) (f : Func) (saved : List Place) → map saved_local saved ≡ Saved m save_all f 0 → (k place : ℕ) (l : LayoutValue) → IsFrame saved k l → IsFrameOf m save_all f k place l
frame_of m f saved e k place l h = record {
  index = h.index;
  locals = ap (map saved_local) h.places ∙ row_locals 0 saved ∙ e;
  in_row = h.places ∙ sym (ap (in_a_row 0) h.places ∙ row_again 0 saved);
  size = h.sized m save_all f place e;
}

pub frames_at : (m : Module) (f : Func) (saved : List Place) → map saved_local saved ≡ Saved m save_all f 0 → (k : ℕ) (places : List ℕ) (ls : List LayoutValue) → length ls ≡ length places
    → FramesFrom saved k ls → FramesAt m save_all f k places ls
frames_at m f saved e k [] [] n h = tt
frames_at m f saved e k [] (l ∷ ls) n h = absurd (omega arith)
frames_at m f saved e k (p ∷ ps) [] n h = absurd (omega arith)
frames_at m f saved e k (p ∷ ps) (l ∷ ls) n h = (frame_of m f saved e k p l h.0, frames_at m f saved e (suc k) ps ls (omega arith) h.1)
