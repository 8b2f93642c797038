-- What was found, and its locals.
use Rattle.std.proofs.Common.{◌≡◌, ◌≢◌, ℕ, zero, suc, ◌+◌, ◌<◌, ◌≤◌, ◌||◌, ◌&&◌, ◌++◌, List, [], ◌∷◌, length, drop, slice_set, get_or, nat_eq, Some, Bool, true, false, add-one, drop-cons, refl, arith, ap, sym, ◌∙◌}
use Rattle.std.proofs.lemmas.Bool.{eq-eqb, eqb-true, eqb-false, ne_eqb}
use Rattle.std.proofs.lemmas.List.{append-nil, append_assoc, drop_all}
use Rattle.wa_types.specs.declared.values.ValType.{ValType}
use Rattle.wa_types.specs.declared.values.ValType.TheVariants.{I32, I64}
use Rattle.wa_types.specs.Encoding.{same_type}
use Rattle.wa_types.specs.Frames.{Pair, pair_onto, same_pair}
use Rattle.flat_laws.specs.Flatten.{place, past}
use Rattle.flatten.specs.declared.marks.Seen.{Seen}
use Rattle.flatten.specs.declared.numbers.Spot.{Spot}
use Rattle.flatten.specs.Numbers.{same_at, of_seen, is_marked, with_one, pairs_in, bit, pick, spots_in, spot_at}

not_same : (n m : ℕ) (t ty : ValType) (b : Bool) → n ≢ m → (nat_eq n m && same_type t ty || b) ≡ b
not_same n m t ty b ne = ap (λ z. (z && same_type t ty) || b) (ne_eqb n m ne)

up_same : (n m : ℕ) → nat_eq n m ≡ nat_eq (suc n) (suc m)
up_same n m = by (nat_eq n m) refl
  where
    by : (b : Bool) → nat_eq n m ≡ b → nat_eq n m ≡ nat_eq (suc n) (suc m)
    by true e = e ∙ sym (eq-eqb (suc n) (suc m) (ap suc (eqb-true n m e)))
    by false e = e ∙ sym (ne_eqb (suc n) (suc m) (λ f. eqb-false n m e (omega (arith, f))))

-- one type more at a number
pub set_marked : (seen : List Seen) (number : ℕ) (ty : ValType) (d : Seen) → number < length seen → (n : ℕ) (t : ValType)
    → is_marked (slice_set seen number (with_one (get_or seen number d) ty)) n t ≡ (same_at n t number ty || is_marked seen n t)
set_marked [] number ty d lt n t = absurd (omega arith)
set_marked (s ∷ seen) zero ty d lt zero t = here s t ty
  where
    here : (s : Seen) (t ty : ValType) → of_seen t (Some (with_one s ty)) ≡ (same_type t ty || of_seen t (Some s))
    here s I32 I32 = refl
    here s I32 I64 = refl
    here s I64 I32 = refl
    here s I64 I64 = refl
set_marked (s ∷ seen) zero ty d lt (suc n) t = sym (not_same (suc n) zero t ty (is_marked (s ∷ seen) (suc n) t) (λ e. absurd (omega (arith, e))))
set_marked (s ∷ seen) (suc number) ty d lt zero t = sym (not_same zero (suc number) t ty (is_marked (s ∷ seen) zero t) (λ e. absurd (omega (arith, e))))
set_marked (s ∷ seen) (suc number) ty d lt (suc n) t = set_marked seen number ty d (omega arith) n t ∙ ap (λ b. (b && same_type t ty) || is_marked seen n t) (up_same n number)

onto_count : (b : Bool) (n : ℕ) (t : ValType) (ps : List Pair) → length (pair_onto b n t ps) ≡ bit b + length ps
onto_count true n t ps = omega arith
onto_count false n t ps = omega arith

with_few : (s : Seen) (ty : ValType) → bit (with_one s ty).narrow + bit (with_one s ty).wide ≤ bit s.narrow + bit s.wide + 1
with_few s I32 = by s.narrow s.wide
  where
    by : (a b : Bool) → bit true + bit b ≤ bit a + bit b + 1
    by true b = omega arith
    by false b = omega arith
with_few s I64 = by s.narrow s.wide
  where
    by : (a b : Bool) → bit a + bit true ≤ bit a + bit b + 1
    by a true = omega arith
    by a false = omega arith

both_count : (s : Seen) (n : ℕ) (ps : List Pair) → length (pair_onto s.narrow n I32 (pair_onto s.wide n I64 ps)) ≡ bit s.narrow + bit s.wide + length ps
both_count s n ps = omega (arith, onto_count s.narrow n I32 (pair_onto s.wide n I64 ps), onto_count s.wide n I64 ps)

pub set_few : (seen : List Seen) (number : ℕ) (ty : ValType) (d : Seen) (n : ℕ) → number < length seen
    → length (pairs_in n (slice_set seen number (with_one (get_or seen number d) ty))) ≤ length (pairs_in n seen) + 1
set_few [] number ty d n lt = absurd (omega arith)
set_few (s ∷ seen) zero ty d n lt = omega (arith, both_count s n (pairs_in (suc n) seen), both_count (with_one s ty) n (pairs_in (suc n) seen), with_few s ty)
set_few (s ∷ seen) (suc number) ty d n lt =
    omega (
      arith,
      both_count s n (pairs_in (suc n) seen),
      both_count s n (pairs_in (suc n) (slice_set seen number (with_one (get_or seen number d) ty))),
      set_few seen number ty d (suc n) (omega arith),
    )

-- nothing found at one number more
pub more_marked : (seen : List Seen) (n : ℕ) (t : ValType) → is_marked (seen ++ record { narrow = false; wide = false } ∷ []) n t ≡ is_marked seen n t
more_marked [] zero I32 = refl
more_marked [] zero I64 = refl
more_marked [] (suc n) I32 = refl
more_marked [] (suc n) I64 = refl
more_marked (s ∷ seen) zero I32 = refl
more_marked (s ∷ seen) zero I64 = refl
more_marked (s ∷ seen) (suc n) t = more_marked seen n t

pub more_pairs : (seen : List Seen) (n : ℕ) → pairs_in n (seen ++ record { narrow = false; wide = false } ∷ []) ≡ pairs_in n seen
more_pairs [] n = refl
more_pairs (s ∷ seen) n = ap (λ ps. pair_onto s.narrow n I32 (pair_onto s.wide n I64 ps)) (more_pairs seen (suc n))

pub ruleset growing = (more_marked, more_pairs)

-- ---- one number after the other

pub pairs_step : (seen : List Seen) (j : ℕ) (s : Seen) → j < length seen → s ≡ get_or seen j s
    → pairs_in j (drop j seen) ≡ pair_onto s.narrow j I32 (pair_onto s.wide j I64 (pairs_in (j + 1) (drop (j + 1) seen)))
pairs_step seen j s lt e =
    ap (pairs_in j) (drop-cons seen j s lt)
    ∙ ap (λ (z : Seen). pair_onto z.narrow j I32 (pair_onto z.wide j I64 (pairs_in (suc j) (drop (suc j) seen)))) (sym e)
    ∙ ap (λ k. pair_onto s.narrow j I32 (pair_onto s.wide j I64 (pairs_in k (drop k seen)))) (sym (add-one j))

pub pairs_end : (seen : List Seen) (j : ℕ) → length seen ≤ j → pairs_in j (drop j seen) ≡ []
pairs_end seen j le = ap (pairs_in j) (drop_all j seen le)

onto_front : (b : Bool) (n : ℕ) (t : ValType) (xs ps : List Pair) → (xs ++ pair_onto b n t []) ++ ps ≡ xs ++ pair_onto b n t ps
onto_front true n t xs ps = append_assoc xs (record { number = n; ty = t } ∷ []) ps
onto_front false n t xs ps = ap (λ z. z ++ ps) (append-nil xs)

pub pairs_on : (seen : List Seen) (j : ℕ) (s : Seen) (xs ys zs all : List Pair) → j < length seen → s ≡ get_or seen j s → ys ≡ xs ++ pair_onto s.narrow j I32 []
    → zs ≡ ys ++ pair_onto s.wide j I64 [] → xs ++ pairs_in j (drop j seen) ≡ all → zs ++ pairs_in (j + 1) (drop (j + 1) seen) ≡ all
pairs_on seen j s xs ys zs all lt e ey ez before =
    let rest : List Pair = pairs_in (j + 1) (drop (j + 1) seen) in
    ap (λ z. z ++ rest) ez ∙ onto_front s.wide j I64 ys rest ∙ ap (λ z. z ++ pair_onto s.wide j I64 rest) ey ∙ onto_front s.narrow j I32 xs (pair_onto s.wide j I64 rest)
    ∙ ap (λ z. xs ++ z) (sym (pairs_step seen j s lt e)) ∙ before

pub pairs_done : (seen : List Seen) (j : ℕ) (xs all : List Pair) → length seen ≤ j → xs ++ pairs_in j (drop j seen) ≡ all → xs ≡ all
pairs_done seen j xs all le before = sym (append-nil xs) ∙ ap (λ z. xs ++ z) (sym (pairs_end seen j le)) ∙ before

pub spots_step : (seen : List Seen) (end next j : ℕ) (s : Seen) → j < length seen → s ≡ get_or seen j s
    → spots_in end next (drop j seen) ≡ record { narrow = pick s.narrow next end; wide = pick s.wide (next + bit s.narrow) end } ∷ spots_in end (next + bit s.narrow + bit s.wide) (drop (j + 1) seen)
spots_step seen end next j s lt e =
    ap (spots_in end next) (drop-cons seen j s lt)
    ∙ ap (λ (z : Seen). record { narrow = pick z.narrow next end; wide = pick z.wide (next + bit z.narrow) end } ∷ spots_in end (next + bit z.narrow + bit z.wide) (drop (suc j) seen)) (sym e)
    ∙ ap (λ k. record { narrow = pick s.narrow next end; wide = pick s.wide (next + bit s.narrow) end } ∷ spots_in end (next + bit s.narrow + bit s.wide) (drop k seen)) (sym (add-one j))

pub room_step : (seen : List Seen) (end next j : ℕ) (s : Seen) → j < length seen → s ≡ get_or seen j s → next + length (pairs_in j (drop j seen)) ≡ end
    → next + bit s.narrow + bit s.wide + length (pairs_in (j + 1) (drop (j + 1) seen)) ≡ end
room_step seen end next j s lt e h = omega (arith, h, ap length (pairs_step seen j s lt e), both_count s j (pairs_in (j + 1) (drop (j + 1) seen)))

pub spots_on : (seen : List Seen) (end next j narrow wide : ℕ) (s : Seen) (xs ys all : List Spot) → j < length seen → s ≡ get_or seen j s → narrow ≡ pick s.narrow next end
    → wide ≡ pick s.wide (next + bit s.narrow) end → ys ≡ xs ++ record { narrow = narrow; wide = wide } ∷ []
    → xs ++ spots_in end next (drop j seen) ≡ all → ys ++ spots_in end (next + bit s.narrow + bit s.wide) (drop (j + 1) seen) ≡ all
spots_on seen end next j narrow wide s xs ys all lt e en ew ey before =
    let rest : List Spot = spots_in end (next + bit s.narrow + bit s.wide) (drop (j + 1) seen) in
    ap (λ z. z ++ rest) ey ∙ append_assoc xs (record { narrow = narrow; wide = wide } ∷ []) rest ∙ ap (λ z. xs ++ record { narrow = z; wide = wide } ∷ rest) en
    ∙ ap (λ z. xs ++ record { narrow = pick s.narrow next end; wide = z } ∷ rest) ew
    ∙ ap (λ z. xs ++ z) (sym (spots_step seen end next j s lt e)) ∙ before

pub spots_done : (seen : List Seen) (end next j : ℕ) (xs all : List Spot) → length seen ≤ j → xs ++ spots_in end next (drop j seen) ≡ all → xs ≡ all
spots_done seen end next j xs all le before = sym (append-nil xs) ∙ ap (λ z. xs ++ z) (sym (ap (spots_in end next) (drop_all j seen le))) ∙ before

-- ---- the locals are the places

later : (m n : ℕ) (t ty : ValType) → n < m → same_pair n t (record { number = m; ty = ty }) ≡ false
later m n t ty lt = ap (λ b. b && same_type t ty) (ne_eqb n m (λ e. absurd (omega (arith, e))))

place_past : (m n : ℕ) (t ty : ValType) (b : Bool) (ps : List Pair) → n ≢ m → place n t (pair_onto b m ty ps) ≡ bit b + place n t ps
place_past m n t ty true ps ne = ap (λ b. past b (place n t ps)) (ap (λ b. b && same_type t ty) (ne_eqb n m ne)) ∙ omega arith
place_past m n t ty false ps ne = omega arith

absent : (seen : List Seen) (m n : ℕ) (t : ValType) → n < m → place n t (pairs_in m seen) ≡ length (pairs_in m seen)
absent [] m n t lt = refl
absent (s ∷ seen) m n t lt =
    let ne : n ≢ m = (λ e. absurd (omega (arith, e))) in
    let rest : List Pair = pairs_in (suc m) seen in
    omega (arith, place_past m n t I32 s.narrow (pair_onto s.wide m I64 rest) ne, place_past m n t I64 s.wide rest ne, absent seen (suc m) n t (omega arith), both_count s m rest)

-- an i32 isn't an i64
aside : (m n : ℕ) (t ty : ValType) (b : Bool) (ps : List Pair) → same_type t ty ≡ false → place n t (pair_onto b m ty ps) ≡ bit b + place n t ps
aside m n t ty true ps e = ap (λ z. past z (place n t ps)) (ap (λ z. nat_eq n m && z) e ∙ and_false (nat_eq n m)) ∙ omega arith
  where
    and_false : (b : Bool) → (b && false) ≡ false
    and_false true = refl
    and_false false = refl
aside m n t ty false ps e = omega arith

first_place : (m n : ℕ) (t : ValType) (ps : List Pair) → n ≡ m → same_type t t ≡ true → place n t (pair_onto true m t ps) ≡ 0
first_place m n t ps e same = ap (λ b. past b (place n t ps)) (ap (λ b. b && same_type t t) (eq-eqb n m e) ∙ same)

narrow_spot : (b w : Bool) (next end m n : ℕ) (seen : List Seen) → n ≡ m → next + (bit b + bit w + length (pairs_in (suc m) seen)) ≡ end
    → pick b next end ≡ next + place n I32 (pair_onto b m I32 (pair_onto w m I64 (pairs_in (suc m) seen)))
narrow_spot true w next end m n seen e h = omega (arith, first_place m n I32 (pair_onto w m I64 (pairs_in (suc m) seen)) e refl)
narrow_spot false w next end m n seen e h = omega (arith, h, aside m n I32 I64 w (pairs_in (suc m) seen) refl, absent seen (suc m) n I32 (omega (arith, e)))

wide_spot : (b w : Bool) (next end m n : ℕ) (seen : List Seen) → n ≡ m → next + (bit b + bit w + length (pairs_in (suc m) seen)) ≡ end
    → pick w (next + bit b) end ≡ next + place n I64 (pair_onto b m I32 (pair_onto w m I64 (pairs_in (suc m) seen)))
wide_spot b true next end m n seen e h = omega (arith, aside m n I64 I32 b (pair_onto true m I64 (pairs_in (suc m) seen)) refl, first_place m n I64 (pairs_in (suc m) seen) e refl)
wide_spot b false next end m n seen e h = omega (arith, h, aside m n I64 I32 b (pairs_in (suc m) seen) refl, absent seen (suc m) n I64 (omega (arith, e)))

pub spots_are : (seen : List Seen) (end next m j : ℕ) (t : ValType) → next + length (pairs_in m seen) ≡ end → spot_at (spots_in end next seen) end j t ≡ next + place (m + j) t (pairs_in m seen)
spots_are [] end next m zero I32 e = omega (arith, e)
spots_are [] end next m zero I64 e = omega (arith, e)
spots_are [] end next m (suc j) I32 e = omega (arith, e)
spots_are [] end next m (suc j) I64 e = omega (arith, e)
spots_are (s ∷ seen) end next m zero I32 e = narrow_spot s.narrow s.wide next end m (m + 0) seen (omega arith) (omega (arith, e, both_count s m (pairs_in (suc m) seen)))
spots_are (s ∷ seen) end next m zero I64 e = wide_spot s.narrow s.wide next end m (m + 0) seen (omega arith) (omega (arith, e, both_count s m (pairs_in (suc m) seen)))
spots_are (s ∷ seen) end next m (suc j) t e =
    let ne : m + suc j ≢ m = (λ f. absurd (omega (arith, f))) in
    let rest : List Pair = pairs_in (suc m) seen in
    let ih = spots_are seen end (next + bit s.narrow + bit s.wide) (suc m) j t (omega (arith, e, both_count s m rest)) in
    let same : suc m + j ≡ m + suc j = omega arith in
    ih ∙ ap (λ k. next + bit s.narrow + bit s.wide + place k t rest) same ∙ omega (
      arith,
      place_past m (m + suc j) t I32 s.narrow (pair_onto s.wide m I64 rest) ne,
      place_past m (m + suc j) t I64 s.wide rest ne,
    )

pub table_is : (seen : List Seen) (end first : ℕ) (spots : List Spot) (pairs : List Pair) → first + length pairs ≡ end → spots ≡ spots_in end first seen → pairs ≡ pairs_in 0 seen
    → (number : ℕ) (t : ValType) → spot_at spots end number t ≡ first + place number t pairs
table_is seen end first spots pairs e es ep number t =
    let same : 0 + number ≡ number = omega arith in
    ap (λ z. spot_at z end number t) es ∙ spots_are seen end first 0 number t (omega (arith, e, ap length ep)) ∙ ap (λ k. first + place k t (pairs_in 0 seen)) same
    ∙ ap (λ ps. first + place number t ps) (sym ep)

pub get_either : (seen : List Seen) (j : ℕ) (d e : Seen) → j < length seen → get_or seen j d ≡ get_or seen j e
get_either [] j d e lt = absurd (omega arith)
get_either (s ∷ seen) zero d e lt = refl
get_either (s ∷ seen) (suc j) d e lt = get_either seen j d e (omega arith)

pub next_is : (next one two : ℕ) (s : Seen) → one ≡ next + bit s.narrow → two ≡ one + bit s.wide → two ≡ next + bit s.narrow + bit s.wide
next_is next one two s e f = omega (arith, e, f)
