-- Lengths that are added up part by part.
use Rattle.std.proofs.Common.{◌≡◌, ℕ, suc, ◌+◌, ◌*◌, ◌≤◌, ◌<◌, List, [], ◌∷◌, ◌++◌, length, map, take, get_or, ap, sym, ◌∙◌, arith, length-append}
use Rattle.std.proofs.lemmas.List.{take_all, take_more}
use Rattle.std.proofs.lemmas.Grind.{flat_map-append}
use Rattle.std.specs.List.{flat_map}
use Rattle.snapshot_store.specs.Snapshots.{ProgramRecord, record_bytes, snapshot_bytes}

-- A count of bytes, of so many parts that each have so many at most, beside some first ones.
pub record IsCount (first most bytes parts total : ℕ) : Type 0 where
  pub is : total ≡ bytes
  pub bound : total ≤ first + most * parts

-- one part more
pub length_more : {X : Type 0} (spell : X → List ℕ) (xs : List X) (i : ℕ) (x : X) → i < length xs → x ≡ get_or xs i x
    → length (flat_map spell (take (i + 1) xs)) ≡ length (flat_map spell (take i xs)) + length (spell x)
length_more {X = X} spell xs i x h is =
    ap (λ (ys : List X). length (flat_map spell ys)) (take_more xs i x h ∙ ap (λ (y : X). take i xs ++ y ∷ []) (sym is))
    ∙ ap (λ (bs : List ℕ). length bs) (flat_map-append spell (take i xs) (x ∷ []))
    ∙ length-append (flat_map spell (take i xs)) (spell x ++ [])
    ∙ ap (λ (n : ℕ). length (flat_map spell (take i xs)) + n) (length-append (spell x) [] ∙ omega arith)

twenty : (n : ℕ) → 20 + n ≡ suc (suc (suc (suc (suc (suc (suc (suc (suc (suc (suc (suc (suc (suc (suc (suc (suc (suc (suc (suc n)))))))))))))))))))
twenty n = omega arith

-- the whole, where all are counted
pub length_whole : {X : Type 0} (view : X → ProgramRecord) (events : ℕ) (rs : List X) (i : ℕ) → length rs ≤ i
    → 20 + length (flat_map record_bytes (map view (take i rs))) ≡ length (snapshot_bytes (record { events = events; programs = map view rs }))
unfolding snapshot_bytes
length_whole {X = X} view events rs i h =
    ap (λ (xs : List X). 20 + length (flat_map record_bytes (map view xs))) (take_all i rs h) ∙ twenty (length (flat_map record_bytes (map view rs)))
