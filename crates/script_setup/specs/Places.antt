-- Places of lines that bind imports, by the names of these.
use Rattle.std.specs.Prelude.{◌≡◌, ℕ, List, Option, Some, None, slice_get}
use Rattle.std.specs.Borrow.{Bor}
use Rattle.std.specs.BTreeMap.{BTreeMap, get_by}
use Rattle.std.specs.Cmp.Lexicographic.{slice_cmp}
use Rattle.std.specs.Option.{option_map}
use Rattle.std.specs.Ordering.{nat_cmp}
use Rattle.script_model.specs.Script.{BindText}
use Rattle.script_setup.specs.Bindings.{last_device}

-- the place under a name
abbrev pub place_in : BTreeMap (Bor (List ℕ)) ℕ → List ℕ → Option ℕ
place_in places name = get_by (λ (k : Bor (List ℕ)). slice_cmp nat_cmp name k.now) places

-- the device of the line at a place
abbrev pub device_at : List BindText → Option ℕ → Option (List ℕ)
device_at binds None = None
device_at binds (Some place) = option_map (λ (b : BindText). b.device) (slice_get binds place)

-- Of these lines, the first of all, they are the last of each name.
abbrev pub TellsDevices : BTreeMap (Bor (List ℕ)) ℕ → (all front : List BindText) → Type 0
TellsDevices places all front = (name : List ℕ) → device_at all (place_in places name) ≡ last_device name front
