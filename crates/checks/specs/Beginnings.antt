-- Whether bytes begin a file, whether they are one, and where others fail, computed item by item.
use Rattle.std.specs.Prelude.{ℕ, zero, suc, ◌+◌, ◌++◌, ◌==◌, ◌&&◌, nat_lt, List, [], ◌∷◌, length, take, drop, slice_index, ◌<◌, Option, Some, None, Result, Ok, Err, Bool, true, false, if◌then◌else◌}
use Rattle.std.specs.Str.{is_utf8}
use Rattle.leb_numbers.specs.declared.leb.LebFault.{LebFault}
use Rattle.leb_numbers.specs.declared.leb.LebFault.TheVariants.{Short, Long, Bits}
use Rattle.leb_numbers.specs.Leb.{unsigned_at, signed_at}
use Rattle.wa_types.specs.Begun.{Goal, sections, Item, a_byte, an_unsigned, a_signed, a_name, a_constant_of, wants, next, settled, end_of, start, IsWhole, FaultAt}

-- what stands at the front of bytes: a part of an item, none whatever follows, or one of this value and so many bytes
pub data Front : Type 0 where
  a_part wrong : Front
  whole : (v used : ℕ) → Front

-- by what reading a number answers, and how many bytes it takes
abbrev pub of_number : Result ℕ LebFault → (used : ℕ) → Front
of_number (Ok v) used = whole v used
of_number (Err Short) used = a_part
of_number (Err Long) used = wrong
of_number (Err Bits) used = wrong

-- n bytes, where they pass
abbrev pub of_bytes : (n : ℕ) → (pass : Bool) → List ℕ → Front
of_bytes n pass bytes =
    if n == 0 then wrong else (if nat_lt (length bytes) n then a_part else (if pass then whole 0 n else wrong))

-- by the first byte
abbrev pub of_byte : List ℕ → Front
of_byte [] = a_part
of_byte (b ∷ bs) = whole b 1

-- what stands there for an item
abbrev pub front_of : Item → List ℕ → Front
front_of a_byte bytes = of_byte bytes
front_of an_unsigned bytes = of_number (unsigned_at 32 bytes 0).0 (unsigned_at 32 bytes 0).1
front_of (a_signed bits) bytes = of_number (signed_at bits bytes 0).0 (signed_at bits bytes 0).1
front_of (a_name n) bytes = of_bytes n (is_utf8 (take n bytes)) bytes
front_of (a_constant_of n) bytes = of_bytes n true bytes

-- by what stands at the front
abbrev pub on_front : Front → (part : Bool) → (item : ℕ → ℕ → Bool) → Bool
on_front a_part part item = part
on_front wrong part item = false
on_front (whole v used) part item = item v used

-- a test of goals that are there
abbrev pub on_goals : Option (List Goal) → (List Goal → Bool) → Bool
on_goals None f = false
on_goals (Some gs) f = f gs

-- a place is before an end, where there is one
abbrev pub is_before : ℕ → Option ℕ → Bool
is_before at None = true
is_before at (Some end) = nat_lt at end

-- no content ends at this place or before it
unfoldable pub is_inside : ℕ → List Goal → Bool
is_inside at [] = true
is_inside at (g ∷ gs) = is_before at (end_of g) && is_inside at gs

-- Items are taken from the front as long as they stand there; what is left is judged by a test. No more items
-- than the bound.
unfoldable pub walks : (test : ℕ → List Goal → List ℕ → Bool) → (bound at : ℕ) → List Goal → List ℕ → Bool
walks test zero at gs bytes = false
walks test (suc n) at [] bytes = test at [] bytes
walks test (suc n) at (g ∷ gs) bytes =
    on_front (front_of (wants g) bytes) (test at (g ∷ gs) bytes) (λ v used.
    on_goals (next g v (at + used)) (λ new.
    on_goals (settled (at + used) (new ++ gs)) (λ hs.
    is_inside (at + used) hs && walks test n (at + used) hs (drop used bytes))))

-- nothing is left
abbrev pub is_none : List ℕ → Bool
is_none [] = true
is_none (b ∷ bs) = false

-- a part of an item is left, or nothing
abbrev pub part_left : ℕ → List Goal → List ℕ → Bool
part_left at [] bytes = is_none bytes
part_left at (g ∷ gs) bytes = is_inside (at + length bytes) (g ∷ gs)

-- sections may follow, and no function is without a body
abbrev pub owes_none : Goal → Bool
owes_none (sections last owed) = owed == 0
owes_none _ = false

-- a file may end with these goals
abbrev pub is_end : List Goal → Bool
is_end [] = false
is_end (g ∷ []) = owes_none g
is_end (g ∷ h ∷ gs) = false

-- nothing is left, and nothing is wanted
abbrev pub nothing_left : ℕ → List Goal → List ℕ → Bool
nothing_left at gs bytes = is_none bytes && is_end gs

-- the bytes begin a file, computed
abbrev pub is_begun : List ℕ → Bool
is_begun bytes = walks part_left (suc (length bytes)) 0 start bytes

-- the bytes are a whole file, computed
abbrev pub is_whole : List ℕ → Bool
is_whole bytes = walks nothing_left (suc (length bytes)) 0 start bytes

-- a place, unless told: then what stands behind
abbrev pub or_else : Bool → (otherwise : Option ℕ) → ℕ → Option ℕ
or_else true otherwise k = otherwise
or_else false otherwise k = Some k

-- the first of n lengths, from k on, at which the bytes so far aren't begun
unfoldable pub search : (n k : ℕ) → List ℕ → Option ℕ
search zero k bytes = None
search (suc n) k bytes = or_else (is_begun (take k bytes)) (search n (suc k) bytes) k

-- a place that is told, else the end, where the bytes are no file
abbrev pub at_the_end : Option ℕ → (is_file : Bool) → (end : ℕ) → Option ℕ
at_the_end (Some k) is_file end = Some k
at_the_end None true end = None
at_the_end None false end = Some end

-- where the bytes fail; None for a whole file
abbrev pub fault_place : List ℕ → Option ℕ
fault_place bytes = at_the_end (search (suc (length bytes)) 0 bytes) (is_whole bytes) (length bytes)

-- the bytes fail there; None for a whole file
abbrev pub FaultFound : List ℕ → Option ℕ → Type 0
FaultFound bytes None = IsWhole bytes
FaultFound bytes (Some k) = FaultAt bytes k

-- Where any bytes fail is computed.
abbrev pub EachFileDecided : Type 0
EachFileDecided = (bytes : List ℕ) → ((i : ℕ) → slice_index bytes i < 256) → FaultFound bytes (fault_place bytes)
