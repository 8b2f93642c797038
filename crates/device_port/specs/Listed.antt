-- Devices in a list.
use Rattle.std.specs.Prelude.{◌≡◌, ℕ, List, take, map, slice_get, slice_set, Some, true, false}
use Rattle.std.specs.List.{list_any}
use Rattle.std.specs.declared.dyn_box.DynBox.{DynBox}
use Rattle.std.specs.Global.{Global}
use Rattle.world_model.specs.World.{Device, is_named}
use Rattle.device_port.specs.declared.devices.Devices.{Devices}

-- a meaning of each device, in order
abbrev pub of_each : {X A : Type 0} {F : X → Type 0} → (DynBox X Global F → A) → Devices X F → List A
of_each meaning devices = map meaning devices.list.now.items

-- the same of a meaning as clauses name it that see no box: of a vtable and the value behind it
abbrev pub of_all : {X A : Type 0} {F : X → Type 0} → ((x : X) × F x → A) → Devices X F → List A
of_all meaning devices = of_each (λ b. meaning (b.vtable, b.value)) devices

-- The device at this place has the name, and none before it has.
pub record IsFirstOf (devices : List Device) (name : List ℕ) (place : ℕ) : Type 0 where
  pub device : Device
  pub there : slice_get devices place ≡ Some device
  pub named : is_named name device ≡ true
  pub first : list_any (is_named name) (take place devices) ≡ false

-- What stands at this place changed so, and the others are as before.
pub record ChangesAt {A : Type 0} (R : A → A → Type 0) (place : ℕ) (old new : List A) : Type 0 where
  pub before : A
  pub after : A
  pub there : slice_get old place ≡ Some before
  pub changed : R before after
  pub others : new ≡ slice_set old place after
