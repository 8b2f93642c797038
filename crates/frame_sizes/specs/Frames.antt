-- Places and suspended activations, of the program's values.
use Rattle.std.specs.Prelude.{ℕ, List, [], map, Option, Bool, true, false, slice_get}
use Rattle.wa_types.specs.declared.values.ValType.{ValType}
use Rattle.wa_types.specs.Syntax.{Code}
use Rattle.wa_types.specs.Pausing.{Policy, save_all, save_live, is_told}
use Rattle.wa_types.specs.Frames.{Pair, Place, Suspended, is_on_stack}
use Rattle.frame_sizes.specs.Lives.{lives}
use Rattle.frame_sizes.specs.declared.frames.Place.{Place as PlaceValue}
use Rattle.frame_sizes.specs.declared.frames.Suspended.{Suspended as SuspendedValue}

-- a local that is saved
abbrev pub place_of : PlaceValue → Place
place_of p = record { local = p.local; ty = p.ty }

-- locals that are saved
abbrev pub places_of : List PlaceValue → List Place
places_of ps = map place_of ps

-- its values don't matter for sizes
abbrev pub suspended_of : SuspendedValue → Suspended
suspended_of a = record { func = a.func; place = a.place; locals = []; operands = [] }

-- the parameter or declared local is kept, given the pruned body
abbrev pub keep_local : Policy → Code → (place x : ℕ) → Bool
keep_local save_all body place x = true
keep_local save_live body place x = is_told (slice_get (lives x [] false body) place)

-- the slot is kept, given the operands just before the call
abbrev pub keep_slot : Policy → Option (List ValType) → Pair → Bool
keep_slot save_all ops p = true
keep_slot save_live ops p = is_on_stack ops p
