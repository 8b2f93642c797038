-- Tests of a configuration's next reduction, by which a module's own machine can be kept from going on: it writes nothing
-- of the original's store; it makes no call and leaves the store, without loads; what it reaches stays off the area. They compute.
use Rattle.std.specs.Prelude.{ℕ, ◌+◌, List, [], ◌∷◌, Bool, true, false, not, ◌&&◌, ◌||◌, nat_le, length, take}
use Rattle.std.specs.List.{list_all}
use Rattle.wa_types.specs.declared.values.Value.{Value}
use Rattle.wa_types.specs.Syntax.{Basic, global_set, load, store, memory_grow, memory_copy, memory_fill, Plain, basic, call, call_indirect, Code, plain}
use Rattle.wa_model.specs.declared.answers.Area.{Area}
use Rattle.wa_model.specs.Store.{Range, reached, takes}
use Rattle.wa_model.specs.Configuration.{Configuration}
use Rattle.wa_model.specs.Blocking.{overlap}
use Rattle.wa_model.specs.Untouched.{next_ranges}

-- ---- nothing of the original's store is written

-- the first of these ranges, that of the bytes that are written, lies in the area
abbrev pub in_area : Area → List Range → Bool
in_area area [] = true
in_area area (x ∷ xs) = nat_le area.at x.at && nat_le (x.at + x.len) (area.at + area.len)

-- With its own operands an instruction on operands and the store writes none of so many globals and no byte outside the
-- area, and doesn't grow the memory.
abbrev pub keeps_basic : (globals : ℕ) → Area → Basic → List Value → Bool
keeps_basic globals area (global_set x) ops = nat_le globals x
keeps_basic globals area (store op align offset) ops = in_area area (reached (store op align offset) ops)
keeps_basic globals area memory_grow ops = false
keeps_basic globals area memory_copy ops = in_area area (reached memory_copy ops)
keeps_basic globals area memory_fill ops = in_area area (reached memory_fill ops)
keeps_basic globals area _ ops = true

-- the same of code by the instruction that stands next
abbrev pub keeps_code : (globals : ℕ) → Area → List Value → Code → Bool
keeps_code globals area ops (plain (basic b) rest) = keeps_basic globals area b (take (takes b) ops)
keeps_code globals area ops _ = true

-- The next reduction writes none of so many globals and no byte outside the area, and doesn't grow the memory.
abbrev pub keeps : (globals : ℕ) → Area → Configuration → Bool
keeps globals area c = keeps_code globals area c.here.operands c.here.code

-- ---- no call, and the store left as it is, without loads

-- the instruction leaves the store, and reaches nothing of the memory
abbrev pub silent_basic : Basic → Bool
silent_basic (global_set x) = false
silent_basic (load op align offset) = false
silent_basic (store op align offset) = false
silent_basic memory_grow = false
silent_basic memory_copy = false
silent_basic memory_fill = false
silent_basic _ = true

-- so it is, and no call
abbrev pub silent_plain : Plain → Bool
silent_plain (basic b) = silent_basic b
silent_plain (call x) = false
silent_plain (call_indirect sort) = false
silent_plain _ = true

-- so is the instruction that stands next
abbrev pub silent_code : Code → Bool
silent_code (plain p rest) = silent_plain p
silent_code _ = true

-- The next reduction is no call, load, store, copy, fill, change of a global or growth of the memory.
abbrev pub silent : Configuration → Bool
silent c = silent_code c.here.code

-- ---- the area is not touched

-- ranges stay off the area where all of them lie inside a memory of this size
abbrev pub stays_off : Area → (size : ℕ) → List Range → Bool
stays_off area size xs = not (list_all (λ (x : Range). nat_le (x.at + x.len) size) xs) || list_all (λ (x : Range). not (overlap x.at x.len area.at area.len)) xs

-- The next reduction traps, or what it reaches of the memory stays off the area.
abbrev pub calm : Area → Configuration → Bool
calm area c = stays_off area (length c.store.memory) (next_ranges c)
