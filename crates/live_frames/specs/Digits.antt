-- The sizes of what not all calls keep, call by call, and their binary digits.
use Rattle.std.specs.Prelude.{◌≡◌, ◌≤◌, ◌^◌, ℕ, ◌+◌, ◌%◌, List, map, nat_eq, get_or, if◌then◌else◌}
use Rattle.call_frames.specs.PlainFrames.{is_one_of, WeighedCalls}
use Rattle.live_frames.specs.declared.digits.OwnSize.{OwnSize}
use Rattle.live_frames.specs.declared.digits.Plane.{Plane}

abbrev pub plane_view : Plane → WeighedCalls
plane_view p = record { calls = p.calls; bytes = p.bytes }

abbrev pub plane_views : List Plane → List WeighedCalls
plane_views ps = map plane_view ps

abbrev pub no_size : OwnSize
no_size = record { bytes = 0; part = 0 }

-- the size of a call
abbrev pub size_in : List OwnSize → ℕ → ℕ
size_in sizes k = (get_or sizes k no_size).bytes

-- a size with the bytes of a part, unless they are in it
abbrev pub summed : (bytes part : ℕ) → OwnSize → OwnSize
summed n p size = if nat_eq size.part p then size else record { bytes = (size.bytes + n) % 2 ^ 32; part = p }

-- Sizes are these sums, of parts up to this number.
pub record Sums (sums : ℕ → ℕ) (last : ℕ) (sizes : List OwnSize) : Type 0 where
  pub size : (k : ℕ) → size_in sizes k ≡ sums k % 2 ^ 32
  pub within : (k : ℕ) → (get_or sizes k no_size).part ≤ last

-- .. and those of these calls have so many bytes more, of the part of this number
pub record HoldSums (sums : ℕ → ℕ) (bytes part : ℕ) (named : List ℕ) (sizes : List OwnSize) : Type 0 where
  pub size : (k : ℕ) → size_in sizes k ≡ (sums k + (if is_one_of named k then bytes else 0)) % 2 ^ 32
  pub told : (k : ℕ) → nat_eq (get_or sizes k no_size).part part ≡ is_one_of named k
  pub within : (k : ℕ) → (get_or sizes k no_size).part ≤ part
