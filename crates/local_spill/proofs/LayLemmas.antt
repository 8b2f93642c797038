-- Locals in a row.
use Rattle.std.proofs.Common.{◌≡◌, ℕ, ◌+◌, ◌*◌, ◌<◌, ◌≤◌, ◌∷◌, ◌++◌, List, [], length, map, get_or, take, length-take, refl, sym, ap, ◌∙◌, arith}
use Rattle.std.specs.List.{sum_by}
use Rattle.std.proofs.lemmas.List.{take_more, take_all}
use Rattle.std.proofs.lemmas.List.Sums.{sum_by-cons}
use Rattle.wa_types.specs.declared.values.ValType.{ValType}
use Rattle.wa_types.specs.declared.values.ValType.TheVariants.{I32, I64}
use Rattle.wa_types.specs.Frames.{width}
use Rattle.wa_types.specs.Frames.{Place as SavedLocal}
use Rattle.local_spill.specs.declared.frames.Place.{Place}
use Rattle.local_spill.specs.Laying.{row_size, in_a_row, saved_local, SizedAsSaved}

row_append : (off : ℕ) (ps : List Place) (p : Place) → in_a_row off (ps ++ p ∷ []) ≡ in_a_row off ps ++ record { local = p.local; ty = p.ty; offset = off + row_size ps } ∷ []
row_append off [] p = let e : off ≡ off + 0 = omega arith in ap (λ n. record { local = p.local; ty = p.ty; offset = n } ∷ []) e
row_append off (q ∷ ps) p =
    let e : off + width q.ty + row_size ps ≡ off + (width q.ty + row_size ps) = omega arith in
    ap (λ z. record { local = q.local; ty = q.ty; offset = off } ∷ z)
    (row_append (off + width q.ty) ps p ∙ ap (λ n. in_a_row (off + width q.ty) ps ++ record { local = p.local; ty = p.ty; offset = n } ∷ []) e)

size_append : (ps : List Place) (p : Place) → row_size (ps ++ p ∷ []) ≡ row_size ps + width p.ty
size_append [] p = omega arith
size_append (q ∷ ps) p = let e = size_append ps p in omega arith

pub row_step : (ps : List Place) (i : ℕ) (d : Place) (old new : List Place) (off : ℕ) → i < length ps → old ≡ in_a_row 0 (take i ps) → off ≡ row_size (take i ps)
    → new ≡ old ++ record { local = (get_or ps i d).local; ty = (get_or ps i d).ty; offset = off } ∷ [] → new ≡ in_a_row 0 (take (i + 1) ps)
row_step ps i d old new off lt e o n =
    let p : Place = get_or ps i d in
    let z : off ≡ 0 + row_size (take i ps) = omega arith in
    n ∙ ap (λ xs. xs ++ record { local = p.local; ty = p.ty; offset = off } ∷ []) e ∙ ap (λ m. in_a_row 0 (take i ps) ++ record { local = p.local; ty = p.ty; offset = m } ∷ []) z
    ∙ sym (row_append 0 (take i ps) p) ∙ ap (in_a_row 0) (sym (take_more ps i d lt))

pub size_step : (ps : List Place) (i : ℕ) (d : Place) (off w : ℕ) → i < length ps → off ≡ row_size (take i ps) → w ≡ width (get_or ps i d).ty → off + w ≡ row_size (take (i + 1) ps)
size_step ps i d off w lt o e = let z = size_append (take i ps) (get_or ps i d) in let y = ap row_size (take_more ps i d lt) in omega arith

pub row_end : (ps : List Place) (i : ℕ) → length ps ≤ i → in_a_row 0 (take i ps) ≡ in_a_row 0 ps
row_end ps i le = ap (in_a_row 0) (take_all i ps le)

pub size_end : (ps : List Place) (i : ℕ) → length ps ≤ i → row_size (take i ps) ≡ row_size ps
size_end ps i le = ap row_size (take_all i ps le)

width_most : (t : ValType) → width t ≤ 8
width_most I32 = omega arith
width_most I64 = omega arith

pub size_most : (ps : List Place) → row_size ps ≤ 8 * length ps
size_most [] = omega arith
size_most (p ∷ ps) = let e = size_most ps in let w = width_most p.ty in omega arith

size_is_sum : (ps : List Place) → sum_by (λ (p : SavedLocal). width p.ty) (map saved_local ps) ≡ row_size ps
size_is_sum [] = refl
size_is_sum (p ∷ ps) = sum_by-cons (λ (q : SavedLocal). width q.ty) (saved_local p) (map saved_local ps) ∙ ap (λ n. width p.ty + n) (size_is_sum ps)

pub sized_law : (ps : List Place) → SizedAsSaved ps (row_size ps + 4)
sized_law ps m policy f place e =
    let z = size_is_sum ps in
    let y = ap (λ (qs : List SavedLocal). sum_by (λ (p : SavedLocal). width p.ty) qs) e in
    omega arith

-- of a part
pub part_most : (ps : List Place) (i : ℕ) → row_size (take i ps) ≤ 8 * length ps
part_most ps i = let e = size_most (take i ps) in let l = length-take i ps in grind arith
