-- Boxed devices of a list.
use Rattle.std.specs.Prelude.{ℕ, List, map}
use Rattle.world_model.specs.World.{Device}
use Rattle.event_order.specs.Left.{Counted}

-- each as a world sees it, with its count of faults
abbrev pub counted_boxes : {B : Type 0} → (B → Device) → (B → ℕ) → List B → List Counted
counted_boxes seen faults boxes = map (λ b. record { device = seen b; faults = faults b }) boxes
