-- What stands at the front of bytes where an item is wanted.
use Rattle.std.specs.Prelude.{◌≡◌, ℕ, ◌-◌, ◌<◌, ◌≤◌, List, ◌++◌, length, take}
use Rattle.leb_numbers.specs.declared.leb.LebFault.{LebFault}
use Rattle.leb_numbers.specs.declared.leb.LebFault.TheVariants.{Short, Long, Bits}
use Rattle.wa_types.specs.Begun.{Item, a_byte, an_unsigned, a_signed, a_name, a_constant_of, IsItem, IsPart}
use Rattle.wasm_grammar.specs.declared.items.Item.{Item as Wanted}
use Rattle.wasm_grammar.specs.declared.items.Item.TheVariants.{Byte, Unsigned, Signed32, Signed64, Text, Float32, Float64}
use Rattle.wasm_grammar.specs.declared.items.Front.{Front}
use Rattle.wasm_grammar.specs.declared.items.Front.TheVariants.{Part, Wrong, Whole}

-- the item of the grammar
abbrev pub item_of : Wanted → Item
item_of Byte = a_byte
item_of Unsigned = an_unsigned
item_of Signed32 = a_signed 32
item_of Signed64 = a_signed 64
item_of (Text n) = a_name n.count
item_of Float32 = a_constant_of 4
item_of Float64 = a_constant_of 8

-- where no number was read, whose last byte that was looked at stands before a place
abbrev pub unread : LebFault → ℕ → Front
unread Short used = Part
unread Long used = Wrong used
unread Bits used = Wrong used

-- the value that is told of an item's: the grammar asks for no signed number
abbrev pub IsTold : Item → (v told : ℕ) → Type 0
IsTold (a_signed bits) v told = Unit {0}
IsTold _ v told = v ≡ told

-- The bytes are no part of an item, and no item stands at their front.
pub record Never (i : Item) (bytes : List ℕ) : Type 0 where
  pub no_part : IsPart i bytes → ⊥
  pub no_item : (a b : List ℕ) (v : ℕ) → bytes ≡ a ++ b → IsItem i a v → ⊥

-- The first so many bytes are an item, of a value that is told.
pub record IsWholeItem (i : Item) (bytes : List ℕ) (told used : ℕ) : Type 0 where
  pub within : used ≤ length bytes
  pub value : ℕ
  pub is_item : IsItem i (take used bytes) value
  pub is_told : IsTold i value told

-- The first so many bytes are wrong, and fewer are a part of an item.
pub record IsWrong (i : Item) (bytes : List ℕ) (used : ℕ) : Type 0 where
  pub some : 0 < used
  pub within : used ≤ length bytes
  pub before : IsPart i (take (used - 1) bytes)
  pub never : Never i (take used bytes)

-- what stands at the front of bytes, where this item is wanted
abbrev pub FrontIs : Item → List ℕ → Front → Type 0
FrontIs i bytes Part = IsPart i bytes
FrontIs i bytes (Wrong used) = IsWrong i bytes used
FrontIs i bytes (Whole told used) = IsWholeItem i bytes told used
