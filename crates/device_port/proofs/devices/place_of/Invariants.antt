use Rattle.std.proofs.Common.{◌≡◌, false, map, take}
use Rattle.std.specs.List.{list_any}
use Rattle.world_model.specs.World.{is_named}
use Rattle.device_port.proofs.devices.place_of.Given as goal

abbrev pub invariant-loop-place : goal.invariant-loop-place
invariant-loop-place g l =
    list_any (is_named l.name) (map (λ b. (goal.Device-dyn g (b.vtable, b.value)).seen b.value) (take l.place l.list)) ≡ false
