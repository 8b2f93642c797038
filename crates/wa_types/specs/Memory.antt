-- Memories as lists of bytes, and what loads, stores, copies, fills and growth do to them (standard, sections 4.2.8 and 4.4.4).
use Rattle.std.specs.Prelude.{◌≡◌, ◌≤◌, ℕ, ◌+◌, ◌*◌, ◌/◌, ◌%◌, min, nat_le, if◌then◌else◌, List, [], ◌∷◌, ◌++◌, length, take, drop, replicate, Option, Some, None}
use Rattle.std.specs.Int.{bytes_low_first}

-- A memory instance (4.2.8): its bytes, and where told the greatest number of pages that its type allows.
pub record Memory : Type 0 where
  pub bytes : List ℕ
  pub max : Option ℕ

-- the bytes of a page (4.2.8)
abbrev pub page_size : ℕ
page_size = 65536

-- the number of pages of some bytes (4.4.4.3 memory.size)
abbrev pub pages_of : List ℕ → ℕ
pages_of bytes = length bytes / page_size

-- whole pages (4.2.8), and no more than 1,024 of them
pub record IsWholePages (bytes : List ℕ) : Type 0 where
  pub whole : length bytes % page_size ≡ 0
  pub bounded : length bytes ≤ 1024 * page_size

-- ---- little-endian bytes

-- the low bytes of a number, as many as told, the lowest first (4.3.1 bytes_iN)
abbrev pub bytes_of : ℕ → ℕ → List ℕ
bytes_of width n = bytes_low_first 0 width n

-- the number that bytes spell, the lowest first (4.3.1, the inverse of bytes_iN)
abbrev pub number_of_bytes : List ℕ → ℕ
number_of_bytes [] = 0
number_of_bytes (b ∷ bs) = b + 256 * number_of_bytes bs

-- ---- loads and stores (4.4.4.1, 4.4.4.2), taken without wrapping; None past the end

-- so many bytes at an address
abbrev pub bytes_at : List ℕ → ℕ → ℕ → List ℕ
bytes_at bytes at width = take width (drop at bytes)

-- the number that the bytes at an address spell (4.4.4.1)
abbrev pub number_at : List ℕ → ℕ → ℕ → Option ℕ
number_at bytes at width = if nat_le (at + width) (length bytes) then Some (number_of_bytes (bytes_at bytes at width)) else None

-- the bytes with a piece written over those at an address
abbrev pub overwritten : List ℕ → ℕ → List ℕ → List ℕ
overwritten bytes at piece = take at bytes ++ piece ++ drop (at + length piece) bytes

-- the same, where the piece lies inside
abbrev pub with_piece : List ℕ → ℕ → List ℕ → Option (List ℕ)
with_piece bytes at piece = if nat_le (at + length piece) (length bytes) then Some (overwritten bytes at piece) else None

-- the bytes after a store of the low bytes of a number (4.4.4.2)
abbrev pub with_number : List ℕ → ℕ → ℕ → ℕ → Option (List ℕ)
with_number bytes at width n = with_piece bytes at (bytes_of width n)

-- ---- copies and fills (version 2.0, 4.4.7), taken without wrapping; None past the end

-- the bytes after a copy of one range over another of that length, as it stood before; both lie inside (memory.copy)
abbrev pub copied : List ℕ → (to from len : ℕ) → Option (List ℕ)
copied bytes to from len = if nat_le (from + len) (length bytes) then with_piece bytes to (bytes_at bytes from len) else None

-- the bytes after one byte is written all over a range (memory.fill)
abbrev pub filled_with : List ℕ → (at byte len : ℕ) → Option (List ℕ)
filled_with bytes at byte len = with_piece bytes at (replicate len byte)

-- ---- growth (4.4.4.4 memory.grow), within the type's greatest number of pages and 1,024

-- the most pages that a memory may have, by what its type tells
abbrev pub page_bound : Option ℕ → ℕ
page_bound None = 1024
page_bound (Some most) = min most 1024

-- a memory with so many pages of zeros more, where they are within its bound (4.4.4.4)
abbrev pub grown : Memory → ℕ → Option Memory
grown memory by =
    if nat_le (pages_of memory.bytes + by) (page_bound memory.max)
    then Some (record memory { bytes = memory.bytes ++ replicate (by * page_size) 0 })
    else None
