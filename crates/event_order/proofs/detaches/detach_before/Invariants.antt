use Rattle.std.proofs.Common.{◌≡◌, drop}
use Rattle.world_model.specs.World.{detached}
use Rattle.device_port.specs.Listed.{of_each}
use Rattle.event_order.specs.Left.{left_before}
use Rattle.event_order.proofs.detaches.detach_before.Given as goal

-- what is left to be taken out leaves the same
abbrev pub invariant-loop-detach : goal.invariant-loop-detach
invariant-loop-detach g l =
    (l.devices.list.ghost_name ≡ l.fn.devices.list.ghost_name)
    × (detached l.fn.event (drop l.detach-index l.fn.detaches) (of_each (λ b. (goal.Device-dyn g (b.vtable, b.value)).seen b.value) l.devices)
    ≡ detached l.fn.event l.fn.detaches (of_each (λ b. (goal.Device-dyn g (b.vtable, b.value)).seen b.value) l.fn.devices))
    × (left_before l.fn.event (drop l.detach-index l.fn.detaches)
    (of_each (λ b. record { device = (goal.Device-dyn g (b.vtable, b.value)).seen b.value; faults = (goal.Device-dyn g (b.vtable, b.value)).faults b.value }) l.devices)
    ≡ left_before l.fn.event l.fn.detaches
    (of_each (λ b. record { device = (goal.Device-dyn g (b.vtable, b.value)).seen b.value; faults = (goal.Device-dyn g (b.vtable, b.value)).faults b.value }) l.fn.devices))
