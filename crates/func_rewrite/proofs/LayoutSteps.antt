-- Frames made from sets, place by place and call by call.
use Rattle.std.proofs.Common.{◌≡◌, ◌∙◌, ℕ, zero, suc, ◌+◌, ◌<◌, ◌≤◌, List, [], ◌∷◌, ◌++◌, length, get_or, map, take, Bool, true, false, refl, sym, ap, subst, arith}
use Rattle.std.specs.Prelude.{if◌then◌else◌, slice_get, Some, Vec}
use Rattle.std.specs.declared.alloc.Global.{Global}
use Rattle.std.proofs.lemmas.List.{map-append, take_more, take_all, length-take-le, length-map}
use Rattle.wa_types.specs.declared.values.ValType.{ValType}
use Rattle.wa_types.specs.Frames.{Saved, named_places, place_onto, width}
use Rattle.wa_types.specs.Pausing.{Policy}
use Rattle.wa_types.specs.Syntax.{Func, Module}
use Rattle.local_spill.specs.Laying.{SizedAsSaved, in_a_row, saved_local}
use Rattle.local_spill.specs.declared.frames.Layout.{Layout}
use Rattle.local_spill.specs.declared.frames.Place.{Place}
use Rattle.live_locals.specs.Sets.{has}
use Rattle.func_rewrite.specs.Frames.{FramesAt}
use Rattle.func_rewrite.specs.Layouts.{IsSetFrame, SetFrames}

-- ---- places

named_append : (keep : ℕ → Bool) (x : ℕ) (ts us : List ValType) → named_places keep x (ts ++ us) ≡ named_places keep x ts ++ named_places keep (x + length ts) us
named_append keep x [] us = let z : x ≡ x + 0 = omega arith in ap (λ k. named_places keep k us) z
named_append keep x (t ∷ ts) us =
    let z : suc x + length ts ≡ x + suc (length ts) = omega arith in
    by (keep x) (named_append keep (suc x) ts us ∙ ap (λ k. named_places keep (suc x) ts ++ named_places keep k us) z)
  where
    by : (b : Bool) → named_places keep (suc x) (ts ++ us) ≡ named_places keep (suc x) ts ++ named_places keep (x + suc (length ts)) us
        → place_onto b x t (named_places keep (suc x) (ts ++ us)) ≡ place_onto b x t (named_places keep (suc x) ts) ++ named_places keep (x + suc (length ts)) us
    by true ih = ap (λ ps. record { local = x; ty = t } ∷ ps) ih
    by false ih = ih

named_few : (keep : ℕ → Bool) (x : ℕ) (ts : List ValType) → length (named_places keep x ts) ≤ length ts
named_few keep x [] = omega arith
named_few keep x (t ∷ ts) = by (keep x) (named_few keep (suc x) ts)
  where
    by : (b : Bool) → length (named_places keep (suc x) ts) ≤ length ts → length (place_onto b x t (named_places keep (suc x) ts)) ≤ suc (length ts)
    by true le = omega (arith, le)
    by false le = omega (arith, le)

pub places_few : (places : List Place) (set : List Bool) (types : List ValType) → map saved_local places ≡ named_places (has set) 0 types → length types ≤ 50000 → length places ≤ 50000
places_few places set types e few =
    let a = ap length e in let b = length-map places saved_local in let c = named_few (has set) 0 types in omega (arith, a, b, c, few)

get_same : (set : List Bool) (i : ℕ) (d e : Bool) → i < length set → get_or set i d ≡ get_or set i e
get_same [] i d e lt = absurd (omega (arith, lt))
get_same (b ∷ bs) zero d e lt = refl
get_same (b ∷ bs) (suc i) d e lt = get_same bs i d e (omega (arith, lt))

pub set_step : (places new : List Place) (set : List Bool) (types : List ValType) (x : ℕ) (p : Place) (d : ValType) (e : Bool) → x < length set → length set ≡ length types
    → new ≡ places ++ (if get_or set x e then p ∷ [] else []) → p.local ≡ x → p.ty ≡ get_or types x d
    → map saved_local places ≡ named_places (has set) 0 (take x types) → map saved_local new ≡ named_places (has set) 0 (take (x + 1) types)
set_step places new set types x p d e within size is el et before =
    let told = get_or set x e in
    let eb : told ≡ has set x = get_same set x e false within in
    let lt : x < length types = omega (arith, within, size) in
    let len : length (take x types) ≡ x = length-take-le x types (omega (arith, lt)) in
    let z : x ≡ 0 + length (take x types) = omega (arith, len) in
    ap (map saved_local) is ∙ map-append saved_local places (if told then p ∷ [] else []) ∙ ap (λ ps. ps ++ map saved_local (if told then p ∷ [] else [])) before
    ∙ ap (λ ps. named_places (has set) 0 (take x types) ++ ps) (one told ∙ ap (λ b. place_onto b x (get_or types x d) []) eb)
    ∙ ap (λ k. named_places (has set) 0 (take x types) ++ named_places (has set) k (get_or types x d ∷ [])) z
    ∙ sym (named_append (has set) 0 (take x types) (get_or types x d ∷ []))
    ∙ ap (named_places (has set) 0) (sym (take_more types x d lt))
  where
    made : saved_local p ≡ record { local = x; ty = get_or types x d }
    made = λ i. record { local = el i; ty = et i }

    one : (b : Bool) → map saved_local (if b then p ∷ [] else []) ≡ place_onto b x (get_or types x d) []
    one true = ap (λ q. q ∷ []) made
    one false = refl

pub set_end : (places : List Place) (set : List Bool) (types : List ValType) (x : ℕ) → length types ≤ x → map saved_local places ≡ named_places (has set) 0 (take x types)
    → map saved_local places ≡ named_places (has set) 0 types
set_end places set types x le before = before ∙ ap (named_places (has set) 0) (take_all x types le)

-- ---- frames

row_again : (off : ℕ) (ps : List Place) → in_a_row off (in_a_row off ps) ≡ in_a_row off ps
row_again off [] = refl
row_again off (p ∷ ps) = ap (λ qs. record { local = p.local; ty = p.ty; offset = off } ∷ qs) (row_again (off + width p.ty) ps)

row_locals : (off : ℕ) (ps : List Place) → map saved_local (in_a_row off ps) ≡ map saved_local ps
row_locals off [] = refl
row_locals off (p ∷ ps) = ap (λ qs. saved_local p ∷ qs) (row_locals (off + width p.ty) ps)

pub set_frame : (types : List ValType) (set : List Bool) (k : ℕ) (l : Layout) (saved : List Place) → map saved_local saved ≡ named_places (has set) 0 types → l.index ≡ k
    → l.places.items ≡ in_a_row 0 saved → SizedAsSaved saved l.size → IsSetFrame types set k l
set_frame types set k l saved e ei ep sized = record {
  index = ei;
  locals = ap (map saved_local) ep ∙ row_locals 0 saved ∙ e;
  in_row = ep ∙ sym (ap (in_a_row 0) ep ∙ row_again 0 saved);
  size = λ m policy f place is. sized m policy f place (e ∙ is);
}

frames_more : (types : List ValType) (k : ℕ) (sets : List (List Bool)) (ls : List Layout) (set : List Bool) (l : Layout) → SetFrames types k sets ls → IsSetFrame types set (k + length sets) l
    → SetFrames types k (sets ++ set ∷ []) (ls ++ l ∷ [])
frames_more types k [] [] set l h e = let z : k + 0 ≡ k = omega arith in (subst (λ n. IsSetFrame types set n l) z e, tt)
frames_more types k [] (y ∷ ls) set l h e = absurd h
frames_more types k (st ∷ sets) [] set l h e = absurd h
frames_more types k (st ∷ sets) (y ∷ ls) set l h e =
    let z : k + suc (length sets) ≡ suc k + length sets = omega arith in (h.0, frames_more types (suc k) sets ls set l h.1 (subst (λ n. IsSetFrame types set n l) z e))

abbrev items : Vec Bool Global → List Bool
items v = v.items

pub frames_step : (types : List ValType) (sets : List (Vec Bool Global)) (ls new : List Layout) (i : ℕ) (d : Vec Bool Global) (l : Layout) → i < length sets → new ≡ ls ++ l ∷ []
    → IsSetFrame types (get_or sets i d).items i l → SetFrames types 0 (map items (take i sets)) ls → SetFrames types 0 (map items (take (i + 1) sets)) new
frames_step types sets ls new i d l lt e is h =
    let len : length (map items (take i sets)) ≡ i = length-map (take i sets) items ∙ length-take-le i sets (omega (arith, lt)) in
    let z : i ≡ 0 + length (map items (take i sets)) = omega (arith, len) in
    let more : map items (take (i + 1) sets) ≡ map items (take i sets) ++ (get_or sets i d).items ∷ [] =
    ap (map items) (take_more sets i d lt) ∙ map-append items (take i sets) (get_or sets i d ∷ []) in
    subst (λ ss. SetFrames types 0 ss new) (sym more)
    (subst (SetFrames types 0 (map items (take i sets) ++ (get_or sets i d).items ∷ [])) (sym e)
    (frames_more types 0 (map items (take i sets)) ls (get_or sets i d).items l h (subst (λ n. IsSetFrame types (get_or sets i d).items n l) z is)))

pub frames_end : (types : List ValType) (sets : List (Vec Bool Global)) (ls : List Layout) (i : ℕ) → length sets ≤ i → SetFrames types 0 (map items (take i sets)) ls
    → SetFrames types 0 (map items sets) ls
frames_end types sets ls i le h = subst (λ ss. SetFrames types 0 (map items ss) ls) (take_all i sets le) h

-- ---- as the policy has them

pub frames_under : (m : Module) (policy : Policy) (f : Func) (types : List ValType) (k : ℕ) (ns : List ℕ) (sets : List (List Bool)) (ls : List Layout) → length sets ≡ length ns
    → ((j place : ℕ) → slice_get ns j ≡ Some place → named_places (has (get_or sets j [])) 0 types ≡ Saved m policy f place) → SetFrames types k sets ls → FramesAt m policy f k ns ls
frames_under m policy f types k [] [] [] e h fs = tt
frames_under m policy f types k [] [] (l ∷ ls) e h fs = absurd fs
frames_under m policy f types k [] (set ∷ sets) ls e h fs = absurd (omega (arith, e))
frames_under m policy f types k (n ∷ ns) [] ls e h fs = absurd (omega (arith, e))
frames_under m policy f types k (n ∷ ns) (set ∷ sets) [] e h fs = absurd fs
frames_under m policy f types k (n ∷ ns) (set ∷ sets) (l ∷ ls) e h fs =
    let here = h 0 n refl in (
      record { index = fs.0.index; locals = fs.0.locals ∙ here; in_row = fs.0.in_row; size = fs.0.size m policy f n here },
      frames_under m policy f types (suc k) ns sets ls (omega (arith, e)) (λ j place at. h (suc j) place at) fs.1,
    )
