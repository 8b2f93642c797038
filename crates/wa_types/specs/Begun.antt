-- Which bytes begin a file: items in an order that the grammar allows, and a part of one more (standard,
-- section 5). The grammar is a stack of goals, which say what may come next; an item takes the first goal away
-- and puts in its place what has to follow.
use Rattle.std.specs.Prelude.{◌≡◌, ℕ, ◌+◌, ◌-◌, ◌<◌, ◌≤◌, ◌⊎◌, ◌==◌, ◌&&◌, ◌||◌, nat_le, nat_lt, List, [], ◌∷◌, ◌++◌, map, length, take, Option, Some, None, Err, Bool, true, false, not, if◌then◌else◌, IsUtf8}
use Rattle.std.specs.Option.{option_map}
use Rattle.leb_numbers.specs.declared.leb.LebFault.TheVariants.{Short}
use Rattle.leb_numbers.specs.Leb.{IsUnsigned, IsSigned, unsigned_at, signed_at}
use Rattle.wa_types.specs.Encoding.{preamble}
use Rattle.wa_types.specs.Opcodes.{Form, no_immediate, a_zero, an_index, an_index_and_zero, an_access, some_labels, a_bulk, a_constant, a_float, follows, zeros_of, is_value_type, is_block_type, is_nest}

-- What a vector counts.
pub data EntryKind : Type 0 where
  some_types some_imports some_functions some_tables some_memories some_globals some_exports some_elements some_bodies some_segments : EntryKind
  some_value_types some_runs some_indices some_bytes : EntryKind

-- What may come next.
pub data Goal : Type 0 where
  exact : (byte : ℕ) → Goal  -- this byte
  sections : (last owed : ℕ) → Goal  -- sections above this id, with so many functions without a body so far
  size : (id last owed : ℕ) → Goal  -- the size of a section behind these
  head : (id end last owed : ℕ) → Goal  -- the first number of a section whose content ends there
  until : (end : ℕ) → Goal  -- a content is complete, and ends there
  rest : (end : ℕ) → Goal  -- any bytes up to there
  entries : EntryKind → (n : ℕ) → Goal  -- so many entries
  count : EntryKind → Goal  -- a number of entries, and the entries
  number name value_type block_type mutable import_kind space limits : Goal
  signed : (bits : ℕ) → Goal  -- a signed number
  bulk_number : Goal  -- the number of a copy or fill of memory, and its zero bytes
  name_bytes float_bytes : (n : ℕ) → Goal  -- the bytes of a name, or of a float
  code : (first_arm : Bool) → Goal  -- instructions up to their end

-- an item: an unsigned or a signed number, the bytes of a name or of a float, or any other single byte
pub data Item : Type 0 where
  a_byte : Item
  an_unsigned : Item
  a_signed : (bits : ℕ) → Item
  a_name a_constant_of : (n : ℕ) → Item

-- the item that an entry begins with
abbrev pub first_of : EntryKind → Item
first_of some_types = a_byte
first_of some_imports = an_unsigned
first_of some_functions = an_unsigned
first_of some_tables = a_byte
first_of some_memories = a_byte
first_of some_globals = a_byte
first_of some_exports = an_unsigned
first_of some_elements = an_unsigned
first_of some_bodies = an_unsigned
first_of some_segments = an_unsigned
first_of some_value_types = a_byte
first_of some_runs = an_unsigned
first_of some_indices = an_unsigned
first_of some_bytes = a_byte

-- the item that a goal wants
abbrev pub wants : Goal → Item
wants (size id last owed) = an_unsigned
wants (head id end last owed) = an_unsigned
wants (entries k n) = first_of k
wants (count k) = an_unsigned
wants number = an_unsigned
wants name = an_unsigned
wants bulk_number = an_unsigned
wants (signed bits) = a_signed bits
wants (name_bytes n) = a_name n
wants (float_bytes n) = a_constant_of n
wants _ = a_byte

-- The bytes are an item of this value, at least one.
abbrev pub IsItem : Item → List ℕ → ℕ → Type 0
IsItem a_byte bytes v = bytes ≡ v ∷ []
IsItem an_unsigned bytes v = IsUnsigned 32 bytes v
IsItem (a_signed bits) bytes v = IsSigned bits bytes v
IsItem (a_name n) bytes v = (0 < n) × (length bytes ≡ n) × IsUtf8 bytes × (v ≡ 0)
IsItem (a_constant_of n) bytes v = (0 < n) × (length bytes ≡ n) × (v ≡ 0)

-- The bytes are a part of an item: a number is judged at each byte, a name and a float when all their bytes
-- are there.
abbrev pub IsPart : Item → List ℕ → Type 0
IsPart a_byte bytes = bytes ≡ []
IsPart an_unsigned bytes = (unsigned_at 32 bytes 0).0 ≡ Err Short
IsPart (a_signed bits) bytes = (signed_at bits bytes 0).0 ≡ Err Short
IsPart (a_name n) bytes = length bytes < n
IsPart (a_constant_of n) bytes = length bytes < n

-- these goals, where something holds
abbrev pub where_true : Bool → List Goal → Option (List Goal)
where_true true gs = Some gs
where_true false gs = None

-- so many entries
abbrev pub some_of : EntryKind → ℕ → List Goal
some_of k n = if n == 0 then [] else entries k n ∷ []

-- so many bytes of a name
abbrev pub name_of : ℕ → List Goal
name_of n = if n == 0 then [] else name_bytes n ∷ []

-- behind the byte that says whether limits have a maximum (5.3.4)
abbrev pub behind_flag : ℕ → Option (List Goal)
behind_flag v =
    if v == 0x00 then Some (number ∷ [])
    else (if v == 0x01 then Some (number ∷ number ∷ [])
    else None)

-- behind the first item of an entry, of value v, that ends at this place (5.3, 5.5.4 to 5.5.14)
abbrev pub entry : EntryKind → (v at : ℕ) → Option (List Goal)
entry some_types v at = where_true (v == 0x60) (count some_value_types ∷ count some_value_types ∷ [])
entry some_imports v at = Some (name_of v ++ name ∷ import_kind ∷ [])
entry some_functions v at = Some []
entry some_tables v at = where_true (v == 0x70) (limits ∷ [])
entry some_memories v at = behind_flag v
entry some_globals v at = where_true (is_value_type v) (mutable ∷ code false ∷ [])
entry some_exports v at = Some (name_of v ++ space ∷ number ∷ [])
entry some_elements v at = Some (code false ∷ count some_indices ∷ [])
entry some_bodies v at = Some (count some_runs ∷ code false ∷ until (at + v) ∷ [])
entry some_segments v at = Some (code false ∷ count some_bytes ∷ [])
entry some_value_types v at = where_true (is_value_type v) []
entry some_runs v at = Some (value_type ∷ [])
entry some_indices v at = Some []
entry some_bytes v at = Some []

-- with more goals behind
abbrev pub and_then : Option (List Goal) → List Goal → Option (List Goal)
and_then None more = None
and_then (Some gs) more = Some (gs ++ more)

-- the entries that are left behind one of so many
abbrev pub others : EntryKind → ℕ → List Goal
others k n = if nat_le n 1 then [] else entries k (n - 1) ∷ []

-- a section may stand behind sections of ids up to `last`; the data section owes no body (5.5.15)
abbrev pub may_follow : (id last owed : ℕ) → Bool
may_follow id last owed = id == 0 || (nat_lt last id && nat_le id 11 && not (id == 11 && nat_lt 0 owed))

-- behind the first number of a section's content (5.5.3 to 5.5.14); there are as many bodies as functions
abbrev pub content : (id end last owed v : ℕ) → Option (List Goal)
content id end last owed v =
    if id == 0 then Some (name_of v ++ rest end ∷ sections last owed ∷ [])
    else (if id == 1 then Some (some_of some_types v ++ until end ∷ sections 1 owed ∷ [])
    else (if id == 2 then Some (some_of some_imports v ++ until end ∷ sections 2 owed ∷ [])
    else (if id == 3 then Some (some_of some_functions v ++ until end ∷ sections 3 v ∷ [])
    else (if id == 4 then Some (some_of some_tables v ++ until end ∷ sections 4 owed ∷ [])
    else (if id == 5 then Some (some_of some_memories v ++ until end ∷ sections 5 owed ∷ [])
    else (if id == 6 then Some (some_of some_globals v ++ until end ∷ sections 6 owed ∷ [])
    else (if id == 7 then Some (some_of some_exports v ++ until end ∷ sections 7 owed ∷ [])
    else (if id == 8 then Some (until end ∷ sections 8 owed ∷ [])
    else (if id == 9 then Some (some_of some_elements v ++ until end ∷ sections 9 owed ∷ [])
    else (if id == 10 then where_true (v == owed) (some_of some_bodies v ++ until end ∷ sections 10 0 ∷ [])
    else (if id == 11 then Some (some_of some_segments v ++ until end ∷ sections 11 owed ∷ [])
    else None)))))))))))

-- behind the byte that says what is imported (5.5.5)
abbrev pub behind_kind : ℕ → Option (List Goal)
behind_kind v =
    if v == 0x00 then Some (number ∷ [])
    else (if v == 0x01 then Some (exact 0x70 ∷ limits ∷ [])
    else (if v == 0x02 then Some (limits ∷ [])
    else (if v == 0x03 then Some (value_type ∷ mutable ∷ [])
    else None)))

-- what follows an opcode (5.4)
abbrev pub immediates : Form → List Goal
immediates no_immediate = []
immediates a_zero = exact 0x00 ∷ []
immediates an_index = number ∷ []
immediates an_index_and_zero = number ∷ exact 0x00 ∷ []
immediates an_access = number ∷ number ∷ []
immediates some_labels = count some_indices ∷ number ∷ []
immediates (a_constant bits) = signed bits ∷ []
immediates (a_float n) = float_bytes n ∷ []
immediates a_bulk = bulk_number ∷ []

-- the goals of what follows an opcode, where it is one, and more behind (5.4)
abbrev pub immediates_of : Option Form → List Goal → Option (List Goal)
immediates_of None more = None
immediates_of (Some f) more = Some (immediates f ++ more)

-- behind an opcode (5.4.1, 5.4.6)
abbrev pub behind_opcode : (first_arm : Bool) → (op : ℕ) → Option (List Goal)
behind_opcode first_arm op =
    if op == 0x0B then Some []
    else (if op == 0x05 then where_true first_arm (code false ∷ [])
    else (if is_nest op then Some (block_type ∷ code false ∷ code first_arm ∷ [])
    else (if op == 0x04 then Some (block_type ∷ code true ∷ code first_arm ∷ [])
    else immediates_of (follows op) (code first_arm ∷ []))))

-- What comes in the place of a goal, where its item has value v and ends at this place.
unfoldable pub next : Goal → (v at : ℕ) → Option (List Goal)
next (exact byte) v at = where_true (v == byte) []
next (sections last owed) v at = where_true (may_follow v last owed) (size v last owed ∷ [])
next (size id last owed) v at = Some (head id (at + v) last owed ∷ [])
next (head id end last owed) v at = content id end last owed v
next (until end) v at = None
next (rest end) v at = Some (rest end ∷ [])
next (entries k n) v at = and_then (entry k v at) (others k n)
next (count k) v at = Some (some_of k v)
next number v at = Some []
next name v at = Some (name_of v)
next value_type v at = where_true (is_value_type v) []
next block_type v at = where_true (is_block_type v) []
next mutable v at = where_true (nat_le v 0x01) []
next import_kind v at = behind_kind v
next space v at = where_true (nat_le v 0x03) []
next limits v at = behind_flag v
next (signed bits) v at = Some []
next bulk_number v at = option_map (map exact) (zeros_of v)
next (name_bytes n) v at = Some []
next (float_bytes n) v at = Some []
next (code first_arm) v at = behind_opcode first_arm v

-- How a goal stands to an end: it has none, its content must be complete exactly there, or it may be from
-- anywhere before.
pub data Closing : Type 0 where
  open_ended : Closing
  must must_not_before : (end : ℕ) → Closing

-- how a goal stands to an end
abbrev pub closing : Goal → Closing
closing (until end) = must end
closing (rest end) = must_not_before end
closing _ = open_ended

-- what is wanted at this place, by how the first goal stands to its end: `here` with it, `later` behind it
abbrev pub passed : ℕ → Closing → (later here : Option (List Goal)) → Option (List Goal)
passed at open_ended later here = here
passed at (must end) later here = if at == end then later else None
passed at (must_not_before end) later here = if at == end then later else here

-- What is still wanted at this place: contents that end here are complete, and none is complete before its end.
unfoldable pub settled : ℕ → List Goal → Option (List Goal)
settled at [] = Some []
settled at (g ∷ gs) = passed at (closing g) (settled at gs) (Some (g ∷ gs))

-- the end of a content
abbrev pub end_of : Goal → Option ℕ
end_of (head id end last owed) = Some end
end_of (until end) = Some end
end_of (rest end) = Some end
end_of _ = None

-- this place is before the end, where there is one
abbrev pub IsBefore : ℕ → Option ℕ → Type 0
IsBefore at None = Unit {0}
IsBefore at (Some end) = at < end

-- no content ends at this place or before it
unfoldable pub Inside : ℕ → List Goal → Type 0
Inside at [] = Unit {0}
Inside at (g ∷ gs) = IsBefore at (end_of g) × Inside at gs

-- The goals behind an item of value v that ends at this place.
pub record Steps (g : Goal) (gs : List Goal) (v at : ℕ) (hs : List Goal) : Type 0 where
  pub new : List Goal
  pub pushed : next g v at ≡ Some new
  pub settles : settled at (new ++ gs) ≡ Some hs
  pub inside : Inside at hs

-- From this place and these goals the bytes are items that lead to those goals.
pub data Leads : ℕ → List Goal → List ℕ → List Goal → Type 0 where
  arrived : {at : ℕ} {gs : List Goal} → Leads at gs [] gs
  item : {at : ℕ} {g : Goal} {gs : List Goal} {bytes : List ℕ} {hs : List Goal} →
      (a b : List ℕ) (v : ℕ) (ks : List Goal) →
      bytes ≡ a ++ b → IsItem (wants g) a v → Steps g gs v (at + length a) ks → Leads (at + length a) ks b hs →
      Leads at (g ∷ gs) bytes hs

-- From this place and these goals the bytes are items, followed by nothing or by a part of one more.
pub data BegunFrom : ℕ → List Goal → List ℕ → Type 0 where
  ends : {at : ℕ} → BegunFrom at [] []
  part : {at : ℕ} {g : Goal} {gs : List Goal} {bytes : List ℕ} →
      IsPart (wants g) bytes → Inside (at + length bytes) (g ∷ gs) → BegunFrom at (g ∷ gs) bytes
  then : {at : ℕ} {g : Goal} {gs : List Goal} {bytes : List ℕ} →
      (a b : List ℕ) (v : ℕ) (ks : List Goal) →
      bytes ≡ a ++ b → IsItem (wants g) a v → Steps g gs v (at + length a) ks → BegunFrom (at + length a) ks b →
      BegunFrom at (g ∷ gs) bytes

-- a file: the preamble, and sections (5.5.15)
abbrev pub start : List Goal
start = map exact preamble ++ sections 0 0 ∷ []

-- The bytes begin a file.
abbrev pub Begun : List ℕ → Type 0
Begun bytes = BegunFrom 0 start bytes

-- The bytes are a whole file (5.5.15): they lead to where sections may stand, and no function is without a body.
abbrev pub IsWhole : List ℕ → Type 0
IsWhole bytes = (last : ℕ) × Leads 0 start bytes (sections last 0 ∷ [])

-- The least k such that the first k bytes aren't begun, or the length where there is none and the bytes are no
-- whole file.
pub record FaultAt (bytes : List ℕ) (k : ℕ) : Type 0 where
  pub within : k ≤ length bytes
  pub before : (j : ℕ) → j < k → Begun (take j bytes)
  pub stops : (Begun (take k bytes) → ⊥) ⊎ ((k ≡ length bytes) × (IsWhole bytes → ⊥))
