-- Where a part can't be read, none stands there.
use Rattle.std.proofs.Common.{◌≡◌, ℕ, ◌*◌, ◌<◌, ◌≤◌, ◌^◌, List, [], ◌∷◌, ◌++◌, length, drop, sym, ◌∙◌, ap, subst, arith, append_assoc, length-append, All, codes}
use Rattle.std.proofs.lemmas.List.{append-nil}
use Rattle.std.specs.List.{flat_map}
use Rattle.wa_types.specs.declared.values.Value.{Value}
use Rattle.wa_types.specs.declared.values.Value.TheVariants.{I32, I64}
use Rattle.wa_types.specs.Memory.{bytes_of, page_size}
use Rattle.wa_types.specs.Sizes.{value_fits}
use Rattle.wa_types.proofs.MemoryLemmas.{length-bytes_of}
use Rattle.snapshot_store.specs.Snapshots.{PausedParts, ProgramRecord, fresh, paused, over, Snapshot, PartsFit, RecordFits, SnapText, global_bytes, parts_bytes, record_bytes, snapshot_bytes}
use Rattle.snapshot_store.specs.Parts.{AreGlobals, AreRecords, HasNone, Head, HeadFits, head_bytes}
use Rattle.snapshot_store.proofs.Splits.{differ, behind_byte, u32_split, u64_split, global_split, record_split, list_split, next_stands, head_split, behind_head}

-- ---- globals

-- too few bytes behind the byte of a type
pub no_short_32 : (bytes : List ℕ) → length bytes < 4 → HasNone value_fits global_bytes (127 ∷ bytes)
no_short_32 bytes few (I32 n) rest f e =
    omega (arith, few, ap length (behind_byte 127 127 bytes (bytes_of 4 n ++ rest) e), length-append (bytes_of 4 n) rest, length-bytes_of 4 n)
no_short_32 bytes few (I64 n) rest f e = differ 127 126 e (omega arith)

pub no_short_64 : (bytes : List ℕ) → length bytes < 8 → HasNone value_fits global_bytes (126 ∷ bytes)
no_short_64 bytes few (I64 n) rest f e =
    omega (arith, few, ap length (behind_byte 126 126 bytes (bytes_of 8 n ++ rest) e), length-append (bytes_of 8 n) rest, length-bytes_of 8 n)
no_short_64 bytes few (I32 n) rest f e = differ 126 127 e (omega arith)

-- the globals so far and none behind them
pub no_globals : (bytes : List ℕ) (count : ℕ) (done : List Value) (here : List ℕ) → bytes ≡ flat_map global_bytes done ++ here → All value_fits done → length done < count
    → HasNone value_fits global_bytes here → HasNone (AreGlobals count) (flat_map global_bytes) bytes
no_globals bytes count done here is fit few none gs rest f e =
    let h = next_stands value_fits global_bytes global_split done gs here rest fit f.0 (omega (arith, few, f.1)) (sym is ∙ e) in
    none h.0 h.1 h.2 h.3

-- ---- records

pub no_records : (bytes : List ℕ) (count : ℕ) (done : List ProgramRecord) (here : List ℕ) → bytes ≡ flat_map record_bytes done ++ here → All RecordFits done → length done < count
    → HasNone RecordFits record_bytes here → HasNone (AreRecords count) (flat_map record_bytes) bytes
no_records bytes count done here is fit few none rs rest f e =
    let h = next_stands RecordFits record_bytes record_split done rs here rest fit f.0 (omega (arith, few, f.1)) (sym is ∙ e) in
    none h.0 h.1 h.2 h.3

-- what a part of a paused program would have to be, where none is there
abbrev Needs : List ℕ → Type 0
Needs bytes = (due : ℕ) (x : PausedParts) (memory rest : List ℕ) → due < 2 ^ 64 → PartsFit x memory → bytes ≡ (bytes_of 8 due ++ parts_bytes x memory) ++ rest → ⊥

no_paused : (bytes : List ℕ) → Needs bytes → HasNone RecordFits record_bytes (1 ∷ bytes)
no_paused bytes none fresh rest f e = differ 1 0 e (omega arith)
no_paused bytes none (paused due x memory) rest f e = none due x memory rest f.0 f.1 (behind_byte 1 1 bytes ((bytes_of 8 due ++ parts_bytes x memory) ++ rest) e)
no_paused bytes none over rest f e = differ 1 2 e (omega arith)

-- too few bytes for the numbers
pub no_head : (bytes : List ℕ) → length bytes < 32 → HasNone RecordFits record_bytes (1 ∷ bytes)
no_head bytes few = no_paused bytes (λ due x memory rest d p e. omega (arith, few, ap length e, long due x memory rest))
  where
    long : (due : ℕ) (x : PausedParts) (memory rest : List ℕ) → 32 ≤ length ((bytes_of 8 due ++ parts_bytes x memory) ++ rest)
    long due x memory rest =
        let b = bytes_of 4 (length x.globals) ++ behind_head x memory in
        let c = bytes_of 4 x.import ++ b in
        let d = bytes_of 4 x.answers ++ c in
        let e = bytes_of 4 x.entry ++ d in
        omega (
          arith,
          length-append (bytes_of 8 due ++ parts_bytes x memory) rest,
          length-append (bytes_of 8 due) (parts_bytes x memory),
          length-append (bytes_of 8 x.steps_used) e,
          length-append (bytes_of 4 x.entry) d,
          length-append (bytes_of 4 x.answers) c,
          length-append (bytes_of 4 x.import) b,
          length-append (bytes_of 4 (length x.globals)) (behind_head x memory),
          length-bytes_of 8 due,
          length-bytes_of 8 x.steps_used,
          length-bytes_of 4 x.entry,
          length-bytes_of 4 x.answers,
          length-bytes_of 4 x.import,
          length-bytes_of 4 (length x.globals),
        )

-- fewer globals than there have to be
pub no_globals_behind : (bytes : List ℕ) (h : Head) (here : List ℕ) → HeadFits h → bytes ≡ head_bytes h ++ here → HasNone (AreGlobals h.globals) (flat_map global_bytes) here
    → HasNone RecordFits record_bytes (1 ∷ bytes)
no_globals_behind bytes h here f is none = no_paused bytes (λ due x memory rest d p e.
    let k = head_split h due x memory here rest f d p (sym is ∙ e) in
    none x.globals ((bytes_of 4 x.pages ++ memory) ++ rest) (p.globals, sym (ap (λ (g : Head). g.globals) k.0)) (k.1 ∙ append_assoc (flat_map global_bytes x.globals) (bytes_of 4 x.pages ++ memory) rest))

-- what stands behind the globals that were read
pages_stand : (bytes : List ℕ) (h : Head) (gs : List Value) (here : List ℕ) (due : ℕ) (x : PausedParts) (memory rest : List ℕ) → HeadFits h
    → bytes ≡ head_bytes h ++ (flat_map global_bytes gs ++ here) → AreGlobals h.globals gs → due < 2 ^ 64 → PartsFit x memory
    → bytes ≡ (bytes_of 8 due ++ parts_bytes x memory) ++ rest → here ≡ (bytes_of 4 x.pages ++ memory) ++ rest
pages_stand bytes h gs here due x memory rest f is are d p e =
    let k = head_split h due x memory (flat_map global_bytes gs ++ here) rest f d p (sym is ∙ e) in
    let count : length gs ≡ length x.globals = are.1 ∙ ap (λ (g : Head). g.globals) k.0 in
    (list_split value_fits global_bytes global_split gs x.globals here ((bytes_of 4 x.pages ++ memory) ++ rest) are.0 p.globals count
    (k.1 ∙ append_assoc (flat_map global_bytes x.globals) (bytes_of 4 x.pages ++ memory) rest)).1

-- too few bytes for the number of pages
pub no_pages : (bytes : List ℕ) (h : Head) (gs : List Value) (here : List ℕ) → HeadFits h → bytes ≡ head_bytes h ++ (flat_map global_bytes gs ++ here) → AreGlobals h.globals gs
    → length here < 4 → HasNone RecordFits record_bytes (1 ∷ bytes)
no_pages bytes h gs here f is are few = no_paused bytes (λ due x memory rest d p e.
    omega (
      arith,
      few,
      ap length (pages_stand bytes h gs here due x memory rest f is are d p e),
      length-append (bytes_of 4 x.pages ++ memory) rest,
      length-append (bytes_of 4 x.pages) memory,
      length-bytes_of 4 x.pages,
    ))

-- too few bytes for the pages
pub no_memory : (bytes : List ℕ) (h : Head) (gs : List Value) (pages : ℕ) (here : List ℕ) → HeadFits h
    → bytes ≡ head_bytes h ++ (flat_map global_bytes gs ++ (bytes_of 4 pages ++ here)) → AreGlobals h.globals gs → pages < 2 ^ 32 → length here < pages * page_size
    → HasNone RecordFits record_bytes (1 ∷ bytes)
no_memory bytes h gs pages here f is are small few = no_paused bytes (λ due x memory rest d p e.
    let s = pages_stand bytes h gs (bytes_of 4 pages ++ here) due x memory rest f is are d p e in
    let k = u32_split pages x.pages here (memory ++ rest) small p.pages (s ∙ append_assoc (bytes_of 4 x.pages) memory rest) in
    omega (arith, few, ap length k.1, length-append memory rest, p.whole, ap (λ n. n * page_size) k.0))

-- the parts that were read are those of a paused program
pub paused_stands : (bytes : List ℕ) (due : ℕ) (x : PausedParts) (memory here : List ℕ)
    → bytes ≡ head_bytes (record { due = due; steps_used = x.steps_used; entry = x.entry; answers = x.answers; import = x.import; globals = length x.globals })
    ++ (flat_map global_bytes x.globals ++ (bytes_of 4 x.pages ++ (memory ++ here)))
    → 1 ∷ bytes ≡ record_bytes (paused due x memory) ++ here
paused_stands bytes due x memory here is = ap (λ (xs : List ℕ). 1 ∷ xs) is ∙ simp append_assoc

-- ---- whole snapshots, behind the number of events

-- what a snapshot is behind its beginning
behind_beginning : (bytes here : List ℕ) (events : ℕ) (s : Snapshot) → bytes ≡ codes "ASYNCS01" ++ (bytes_of 8 events ++ here) → events < 2 ^ 64 → SnapText bytes s
    → (events ≡ s.events) × (here ≡ bytes_of 4 (length s.programs) ++ flat_map record_bytes s.programs)
unfolding snapshot_bytes
behind_beginning bytes here events s is small t =
    u64_split events s.events here (bytes_of 4 (length s.programs) ++ flat_map record_bytes s.programs) small t.fits.events (ap (drop 8) (sym is ∙ t.spells))

pub no_beginning : (bytes : List ℕ) → ((n : ℕ) (rest : List ℕ) → bytes ≡ codes "ASYNCS01" ++ (bytes_of 8 n ++ rest) → ⊥) → (s : Snapshot) → SnapText bytes s → ⊥
unfolding snapshot_bytes
no_beginning bytes none s t = none s.events (bytes_of 4 (length s.programs) ++ flat_map record_bytes s.programs) t.spells

pub no_count : (bytes here : List ℕ) (events : ℕ) → bytes ≡ codes "ASYNCS01" ++ (bytes_of 8 events ++ here) → events < 2 ^ 64 → length here < 4 → (s : Snapshot) → SnapText bytes s → ⊥
no_count bytes here events is small few s t =
    omega (
      arith,
      few,
      ap length (behind_beginning bytes here events s is small t).1,
      length-append (bytes_of 4 (length s.programs)) (flat_map record_bytes s.programs),
      length-bytes_of 4 (length s.programs),
    )

-- the records of a snapshot behind the numbers that were read
records_stand : (bytes here : List ℕ) (events count : ℕ) (s : Snapshot) → bytes ≡ codes "ASYNCS01" ++ (bytes_of 8 events ++ (bytes_of 4 count ++ here)) → events < 2 ^ 64 → count < 2 ^ 32
    → SnapText bytes s → (count ≡ length s.programs) × (here ≡ flat_map record_bytes s.programs)
records_stand bytes here events count s is small few t =
    u32_split count (length s.programs) here (flat_map record_bytes s.programs) few t.fits.count (behind_beginning bytes (bytes_of 4 count ++ here) events s is small t).1

pub no_programs : (bytes here : List ℕ) (events count : ℕ) → bytes ≡ codes "ASYNCS01" ++ (bytes_of 8 events ++ (bytes_of 4 count ++ here)) → events < 2 ^ 64 → count < 2 ^ 32
    → HasNone (AreRecords count) (flat_map record_bytes) here → (s : Snapshot) → SnapText bytes s → ⊥
no_programs bytes here events count is small few none s t =
    let h = records_stand bytes here events count s is small few t in
    none s.programs [] (t.fits.programs, sym h.0) (h.1 ∙ sym (append-nil (flat_map record_bytes s.programs)))

-- bytes behind the last record
pub no_more : (bytes here : List ℕ) (events count : ℕ) (rs : List ProgramRecord) → bytes ≡ codes "ASYNCS01" ++ (bytes_of 8 events ++ (bytes_of 4 count ++ (flat_map record_bytes rs ++ here)))
    → events < 2 ^ 64 → count < 2 ^ 32 → AreRecords count rs → 0 < length here → (s : Snapshot) → SnapText bytes s → ⊥
no_more bytes here events count rs is small few are more s t =
    let h = records_stand bytes (flat_map record_bytes rs ++ here) events count s is small few t in
    let k = list_split RecordFits record_bytes record_split rs s.programs here [] are.0 t.fits.programs (are.1 ∙ h.0) (h.1 ∙ sym (append-nil (flat_map record_bytes s.programs))) in
    omega (arith, more, ap length k.1)

pub snapshot_stands : (bytes here : List ℕ) (events count : ℕ) (rs : List ProgramRecord) → bytes ≡ codes "ASYNCS01" ++ (bytes_of 8 events ++ (bytes_of 4 count ++ (flat_map record_bytes rs ++ here)))
    → events < 2 ^ 64 → count < 2 ^ 32 → AreRecords count rs → here ≡ [] → SnapText bytes (record { events = events; programs = rs })
unfolding snapshot_bytes
snapshot_stands bytes here events count rs is small few are none = record {
  fits = record { events = small; count = subst (λ n. n < 2 ^ 32) (sym are.1) few; programs = are.0 };
  spells = is
      ∙ ap (λ (xs : List ℕ). codes "ASYNCS01" ++ (bytes_of 8 events ++ (bytes_of 4 count ++ (flat_map record_bytes rs ++ xs)))) none
      ∙ ap (λ (xs : List ℕ). codes "ASYNCS01" ++ (bytes_of 8 events ++ (bytes_of 4 count ++ xs))) (append-nil (flat_map record_bytes rs))
      ∙ ap (λ n. codes "ASYNCS01" ++ (bytes_of 8 events ++ (bytes_of 4 n ++ flat_map record_bytes rs))) (sym are.1);
}
