-- Snapshots of paused programs, and the bytes that spell them. Numbers stand with the lowest byte first.
use Rattle.std.specs.Prelude.{◌≡◌, ℕ, ◌*◌, ◌<◌, ◌^◌, List, [], ◌∷◌, ◌++◌, length, All, codes}
use Rattle.std.specs.List.{flat_map}
use Rattle.wa_types.specs.declared.values.Value.{Value}
use Rattle.wa_types.specs.declared.values.Value.TheVariants.{I32, I64}
use Rattle.wa_types.specs.Memory.{bytes_of, page_size}
use Rattle.wa_types.specs.Sizes.{value_fits}

-- A program at a pause: the steps that it has taken, the entry that runs, how many answers it has taken, the import that waits, its globals, and
-- the pages of its memory.
pub record PausedParts : Type 0 where
  pub steps_used : ℕ
  pub entry : ℕ
  pub answers : ℕ
  pub import : ℕ
  pub globals : List Value
  pub pages : ℕ

-- A program has not begun; or waits until a tick, with these parts and this memory; or has ended, and all of it is shown.
pub data ProgramRecord : Type 0 where
  fresh : ProgramRecord
  paused : (due : ℕ) → (parts : PausedParts) → (memory : List ℕ) → ProgramRecord
  over : ProgramRecord

-- What stands behind so many events, program by program.
pub record Snapshot : Type 0 where
  pub events : ℕ
  pub programs : List ProgramRecord

-- ---- which numbers there may be

-- parts and a memory of whole pages
pub record PartsFit (x : PausedParts) (memory : List ℕ) : Type 0 where
  pub steps_used : x.steps_used < 2 ^ 64
  pub entry : x.entry < 2 ^ 32
  pub answers : x.answers < 2 ^ 32
  pub import : x.import < 2 ^ 32
  pub count : length x.globals < 2 ^ 32
  pub globals : All value_fits x.globals
  pub pages : x.pages < 2 ^ 32
  pub whole : length memory ≡ x.pages * page_size
  pub bytes : All (λ b. b < 2 ^ 8) memory

-- the record of a program
abbrev pub RecordFits : ProgramRecord → Type 0
RecordFits fresh = Unit {0}
RecordFits (paused due x memory) = (due < 2 ^ 64) × PartsFit x memory
RecordFits over = Unit {0}

-- a whole snapshot
pub record SnapshotFits (s : Snapshot) : Type 0 where
  pub events : s.events < 2 ^ 64
  pub count : length s.programs < 2 ^ 32
  pub programs : All RecordFits s.programs

-- ---- the bytes

-- a global, behind the byte of its type
abbrev pub global_bytes : Value → List ℕ
global_bytes (I32 n) = 0x7F ∷ bytes_of 4 n
global_bytes (I64 n) = 0x7E ∷ bytes_of 8 n

-- the parts of a paused program behind its due tick
abbrev pub parts_bytes : PausedParts → List ℕ → List ℕ
parts_bytes x memory =
    bytes_of 8 x.steps_used
    ++ (bytes_of 4 x.entry
    ++ (bytes_of 4 x.answers
    ++ (bytes_of 4 x.import
    ++ (bytes_of 4 (length x.globals) ++ (flat_map global_bytes x.globals ++ (bytes_of 4 x.pages ++ memory))))))

-- a record, behind the byte that tells which it is
abbrev pub record_bytes : ProgramRecord → List ℕ
record_bytes fresh = 0x00 ∷ []
record_bytes (paused due x memory) = 0x01 ∷ (bytes_of 8 due ++ parts_bytes x memory)
record_bytes over = 0x02 ∷ []

-- the events, and the programs behind their number
unfoldable pub snapshot_bytes : Snapshot → List ℕ
snapshot_bytes s = codes "ASYNCS01" ++ (bytes_of 8 s.events ++ (bytes_of 4 (length s.programs) ++ flat_map record_bytes s.programs))

-- The bytes spell the snapshot.
pub record SnapText (bytes : List ℕ) (s : Snapshot) : Type 0 where
  pub fits : SnapshotFits s
  pub spells : bytes ≡ snapshot_bytes s
