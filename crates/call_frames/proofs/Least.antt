-- What calls keep together, local by local and set by set.
use Rattle.std.proofs.Common.{◌≡◌, ◌∙◌, ℕ, zero, suc, ◌+◌, ◌<◌, List, [], ◌∷◌, ◌++◌, length, get_or, take, Bool, true, false, All, refl, ap, arith, length-append}
use Rattle.std.specs.Prelude.{if◌then◌else◌}
use Rattle.std.proofs.lemmas.List.{map_more}
use Rattle.std.proofs.lemmas.List.Elements.{All-head, All-tail}
use Rattle.wa_types.specs.declared.values.ValType.{ValType}
use Rattle.frame_laws.specs.Layout.{kept_count}
use Rattle.call_frames.specs.CallTests.{CallRow}
use Rattle.call_frames.specs.CallRows.{numbers_in, row_view, row_views, upto}
use Rattle.call_frames.specs.Classes.{AreKept, calls_total, set_keepers}
use Rattle.call_frames.specs.Views.{fields_in, kept_total}
use Rattle.call_frames.specs.declared.rows.Row.{Row}

-- ---- counted by rows

upto_long : (k n : ℕ) → length (upto k n) ≡ suc n
upto_long k zero = refl
upto_long k (suc n) = ap suc (upto_long (suc k) n)

numbers_more : (rs : List CallRow) (r : CallRow) → length (numbers_in (rs ++ r ∷ [])) ≡ length (numbers_in rs) + suc r.more
numbers_more [] r = let e = length-append (upto r.first r.more) [] in let u = upto_long r.first r.more in omega (arith, e, u)
numbers_more (s ∷ rs) r =
    let ih = numbers_more rs r in
    let e = length-append (upto s.first s.more) (numbers_in (rs ++ r ∷ [])) in
    let f = length-append (upto s.first s.more) (numbers_in rs) in omega (arith, ih, e, f)

-- one row more
pub rows_more : (rows : List Row) (at : ℕ) (d : Row) → at < length rows
    → length (numbers_in (row_views (take (at + 1) rows))) ≡ length (numbers_in (row_views (take at rows))) + suc (get_or rows at d).more
rows_more rows at d lt = ap (λ rs. length (numbers_in rs)) (map_more row_view rows at d lt) ∙ numbers_more (row_views (take at rows)) (row_view (get_or rows at d))

-- one local more
pub calls_more : (kss : List (List ℕ)) (at : ℕ) (d : List ℕ) → at < length kss → calls_total (take (at + 1) kss) ≡ calls_total (take at kss) + length (get_or kss at d)
calls_more [] at d lt = absurd (omega (arith, lt))
calls_more (ks ∷ kss) zero d lt = omega arith
calls_more (ks ∷ kss) (suc at) d lt =
    let ih = calls_more kss at d (omega (arith, lt)) in
    let z : suc at + 1 ≡ suc (at + 1) = omega arith in
    ap (λ n. calls_total (take n (ks ∷ kss))) z ∙ omega (arith, ih)

-- ---- counted by sets

-- the calls of so many locals, from this one on
abbrev spread : (x n call : ℕ) → List (List Bool) → ℕ
spread x zero j sets = 0
spread x (suc n) j sets = length (set_keepers x j sets) + spread (suc x) n j sets

-- how many of so many locals a set has
abbrev ones : (x n : ℕ) → List Bool → ℕ
ones x zero s = 0
ones x (suc n) s = (if get_or s x false then 1 else 0) + ones (suc x) n s

no_spread : (x n j : ℕ) → spread x n j [] ≡ 0
no_spread x zero j = refl
no_spread x (suc n) j = let ih = no_spread (suc x) n j in omega (arith, ih)

one_call : (b : Bool) (j : ℕ) (ks : List ℕ) → length ((if b then j ∷ [] else []) ++ ks) ≡ (if b then 1 else 0) + length ks
one_call true j ks = omega arith
one_call false j ks = omega arith

spread_more : (x n j : ℕ) (s : List Bool) (sets : List (List Bool)) → spread x n j (s ∷ sets) ≡ ones x n s + spread x n (suc j) sets
spread_more x zero j s sets = refl
spread_more x (suc n) j s sets =
    let one = one_call (get_or s x false) j (set_keepers x (suc j) sets) in
    let ih = spread_more (suc x) n j s sets in omega (arith, one, ih)

ones_later : (x n : ℕ) (b : Bool) (s : List Bool) → ones (suc x) n (b ∷ s) ≡ ones x n s
ones_later x zero b s = refl
ones_later x (suc n) b s = ap (λ m. (if get_or s x false then 1 else 0) + m) (ones_later (suc x) n b s)

ones_kept : (k : ℕ) (s : List Bool) (types : List ValType) → length s ≡ length types → ones 0 (length types) s ≡ kept_count (fields_in k s types)
ones_kept k [] [] e = refl
ones_kept k [] (t ∷ ts) e = absurd (omega (arith, e))
ones_kept k (b ∷ s) [] e = absurd (omega (arith, e))
ones_kept k (true ∷ s) (t ∷ ts) e = let l = ones_later 0 (length ts) true s in let ih = ones_kept (suc k) s ts (omega (arith, e)) in omega (arith, l, ih)
ones_kept k (false ∷ s) (t ∷ ts) e = let l = ones_later 0 (length ts) false s in let ih = ones_kept (suc k) s ts (omega (arith, e)) in omega (arith, l, ih)

spread_kept : (types : List ValType) (j : ℕ) (sets : List (List Bool)) → All (λ (s : List Bool). length s ≡ length types) sets → spread 0 (length types) j sets ≡ kept_total types sets
spread_kept types j [] sized = no_spread 0 (length types) j
spread_kept types j (s ∷ sets) sized =
    let more = spread_more 0 (length types) j s sets in
    let own = ones_kept 0 s types (All-head (λ (z : List Bool). length z ≡ length types) s sets sized) in
    let ih = spread_kept types (suc j) sets (All-tail (λ (z : List Bool). length z ≡ length types) s sets sized) in omega (arith, more, own, ih)

total_spread : (x : ℕ) (kss : List (List ℕ)) (sets : List (List Bool)) → ((y : ℕ) → y < length kss → get_or kss y [] ≡ set_keepers (x + y) 0 sets)
    → calls_total kss ≡ spread x (length kss) 0 sets
total_spread x [] sets h = refl
total_spread x (ks ∷ kss) sets h =
    let z : x + 0 ≡ x = omega arith in
    let own : length ks ≡ length (set_keepers x 0 sets) = ap length (h 0 (omega arith) ∙ ap (λ m. set_keepers m 0 sets) z) in
    let ih = total_spread (suc x) kss sets (λ y lt. h (suc y) (omega (arith, lt)) ∙ (let w : x + suc y ≡ suc x + y = omega arith in ap (λ m. set_keepers m 0 sets) w)) in omega (arith, own, ih)

-- both are the same
pub total_kept : (types : List ValType) (count : ℕ) (sets : List (List Bool)) (kss : List (List ℕ)) → AreKept (length types) count sets kss → calls_total kss ≡ kept_total types sets
total_kept types count sets kss kept =
    let n = kept.keepers.size in
    total_spread 0 kss sets (λ y lt. kept.keepers.each y (omega (arith, n, lt)) ∙ (let w : y ≡ 0 + y = omega arith in ap (λ m. set_keepers m 0 sets) w))
    ∙ ap (λ m. spread 0 m 0 sets) n ∙ spread_kept types 0 sets kept.sized
