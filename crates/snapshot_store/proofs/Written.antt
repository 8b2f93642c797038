-- What is written part by part is the whole text.
use Rattle.std.proofs.Common.{◌≡◌, ℕ, ◌+◌, ◌<◌, ◌≤◌, List, [], ◌∷◌, ◌++◌, length, map, take, get_or, sym, ◌∙◌, ap, arith, append_assoc, codes, subst, All}
use Rattle.std.proofs.lemmas.List.{append-nil, take_more, map-append, take_all, length-map, get_or-map}
use Rattle.std.proofs.lemmas.List.Elements.{All-get_or}
use Rattle.std.proofs.lemmas.Grind.{flat_map-append}
use Rattle.std.specs.List.{flat_map}
use Rattle.wa_types.specs.Memory.{bytes_of}
use Rattle.snapshot_store.specs.declared.snapshot.ProgramRecord.{ProgramRecord as RecordValue}
use Rattle.snapshot_store.specs.Views.{record_of}
use Rattle.snapshot_store.specs.Snapshots.{PausedParts, ProgramRecord, paused, global_bytes, parts_bytes, record_bytes, snapshot_bytes}

-- one part more, in front of the same
onto : (old a b new : List ℕ) → new ≡ (old ++ a) ++ b → new ≡ old ++ (a ++ b)
onto old a b new e = e ∙ append_assoc old a b

-- the parts of a paused program, from its steps on, one behind another
pub parts_put : (x : PausedParts) (memory o0 o1 o2 o3 o4 o5 o6 o7 : List ℕ) → o1 ≡ o0 ++ bytes_of 8 x.steps_used → o2 ≡ o1 ++ bytes_of 4 x.entry → o3 ≡ o2 ++ bytes_of 4 x.answers
    → o4 ≡ o3 ++ bytes_of 4 x.import → o5 ≡ o4 ++ (bytes_of 4 (length x.globals) ++ flat_map global_bytes x.globals) → o6 ≡ o5 ++ bytes_of 4 x.pages → o7 ≡ o6 ++ memory
    → o7 ≡ o0 ++ parts_bytes x memory
parts_put x memory o0 o1 o2 o3 o4 o5 o6 o7 e1 e2 e3 e4 e5 e6 e7 = seven (bytes_of 8 x.steps_used) (bytes_of 4 x.entry) (bytes_of 4 x.answers) (bytes_of 4 x.import)
    (bytes_of 4 (length x.globals)) (flat_map global_bytes x.globals) (bytes_of 4 x.pages) e1 e2 e3 e4 e5 e6 e7
  where
    seven : (a b c d n g p : List ℕ) → o1 ≡ o0 ++ a → o2 ≡ o1 ++ b → o3 ≡ o2 ++ c → o4 ≡ o3 ++ d → o5 ≡ o4 ++ (n ++ g) → o6 ≡ o5 ++ p → o7 ≡ o6 ++ memory
        → o7 ≡ o0 ++ (a ++ (b ++ (c ++ (d ++ (n ++ (g ++ (p ++ memory)))))))
    seven a b c d n g p e1 e2 e3 e4 e5 e6 e7 = simp (e7, e6, e5, e4, e3, e2, e1, append_assoc)

-- the whole record of a paused program: its kind, its due tick, and its parts
pub paused_put : (due : ℕ) (x : PausedParts) (memory o0 o1 o2 o3 : List ℕ) → o1 ≡ o0 ++ (1 ∷ []) → o2 ≡ o1 ++ bytes_of 8 due → o3 ≡ o2 ++ parts_bytes x memory
    → o3 ≡ o0 ++ record_bytes (paused due x memory)
paused_put due x memory o0 o1 o2 o3 e1 e2 e3 = three (bytes_of 8 due) (parts_bytes x memory) e1 e2 e3
  where
    three : (a b : List ℕ) → o1 ≡ o0 ++ (1 ∷ []) → o2 ≡ o1 ++ a → o3 ≡ o2 ++ b → o3 ≡ o0 ++ (1 ∷ (a ++ b))
    three a b e1 e2 e3 = simp (e3, e2, e1, append_assoc)

-- one more record behind those that were written
pub record_put : {X : Type 0} (view : X → ProgramRecord) (front o o' : List ℕ) (rs : List X) (i : ℕ) (r : X) → i < length rs → r ≡ get_or rs i r
    → o ≡ front ++ flat_map record_bytes (map view (take i rs)) → o' ≡ o ++ record_bytes (view r) → o' ≡ front ++ flat_map record_bytes (map view (take (i + 1) rs))
record_put {X = X} view front o o' rs i r h is e e' =
    e'
    ∙ ap (λ (xs : List ℕ). xs ++ record_bytes (view r)) e
    ∙ append_assoc front (flat_map record_bytes (map view (take i rs))) (record_bytes (view r))
    ∙ ap (λ (xs : List ℕ). front ++ xs)
    (ap (λ (xs : List ℕ). flat_map record_bytes (map view (take i rs)) ++ xs) (sym (append-nil (record_bytes (view r))))
    ∙ sym (flat_map-append record_bytes (map view (take i rs)) (view r ∷ []))
    ∙ ap (flat_map record_bytes) (sym (map-append view (take i rs) (r ∷ [])) ∙ ap (map view) (ap (λ (x : X). take i rs ++ x ∷ []) is ∙ sym (take_more rs i r h))))

-- .. behind a beginning, the events and how many there are
pub records_more : (events count o o' : List ℕ) (rs : List RecordValue) (i : ℕ) (r : RecordValue) → i < length rs → r ≡ get_or rs i r
    → o ≡ codes "ASYNCS01" ++ (events ++ (count ++ flat_map record_bytes (map record_of (take i rs)))) → o' ≡ o ++ record_bytes (record_of r)
    → o' ≡ codes "ASYNCS01" ++ (events ++ (count ++ flat_map record_bytes (map record_of (take (i + 1) rs))))
records_more events count o o' rs i r h is e e' =
    let front = codes "ASYNCS01" ++ (events ++ count) in
    let near : (tail : List ℕ) → front ++ tail ≡ codes "ASYNCS01" ++ (events ++ (count ++ tail)) =
    λ tail. append_assoc (codes "ASYNCS01") (events ++ count) tail ∙ ap (λ (bs : List ℕ). codes "ASYNCS01" ++ bs) (append_assoc events count tail) in
    record_put record_of front o o' rs i r h is (e ∙ sym (near (flat_map record_bytes (map record_of (take i rs))))) e' ∙ near (flat_map record_bytes (map record_of (take (i + 1) rs)))

-- each one of a list that is gone through fits
pub each_fits : {X : Type 0} (Fits : ProgramRecord → Type 0) (view : X → ProgramRecord) (rs : List X) (i : ℕ) (r : X) → All Fits (map view rs) → i < length rs → r ≡ get_or rs i r → Fits (view r)
each_fits {X = X} Fits view rs i r all h is =
    subst Fits (get_or-map view rs i r (view r) h ∙ ap view (sym is)) (All-get_or Fits (map view rs) i (view r) (omega (arith, length-map rs view)) all)

-- the whole, where all are written
pub snapshot_put : {X : Type 0} (view : X → ProgramRecord) (events : ℕ) (rs : List X) (i : ℕ) (out : List ℕ) → length rs ≤ i
    → out ≡ codes "ASYNCS01" ++ (bytes_of 8 events ++ (bytes_of 4 (length rs) ++ flat_map record_bytes (map view (take i rs))))
    → out ≡ snapshot_bytes (record { events = events; programs = map view rs })
unfolding snapshot_bytes
snapshot_put {X = X} view events rs i out h e =
    e
    ∙ ap (λ (n : ℕ). codes "ASYNCS01" ++ (bytes_of 8 events ++ (bytes_of 4 n ++ flat_map record_bytes (map view (take i rs))))) (sym (length-map rs view))
    ∙ ap (λ (xs : List X). codes "ASYNCS01" ++ (bytes_of 8 events ++ (bytes_of 4 (length (map view rs)) ++ flat_map record_bytes (map view xs)))) (take_all i rs h)
