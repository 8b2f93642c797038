-- The devices that are left once some are taken out, each with its count of faults.
use Rattle.std.specs.Prelude.{ℕ, List, [], ◌∷◌, Bool, true, false, nat_eq, if◌then◌else◌}
use Rattle.wa_model.specs.declared.answers.Detach.{Detach}
use Rattle.world_model.specs.World.{Device, is_named}

-- a device as a world sees it, with its count of faults
pub record Counted : Type 0 where
  pub device : Device
  pub faults : ℕ

-- without the first of a name
abbrev pub without : List ℕ → List Counted → List Counted
without name [] = []
without name (x ∷ xs) = if is_named name x.device then xs else x ∷ without name xs

-- the devices without the first of a name, where told
abbrev pub without_if : Bool → List ℕ → List Counted → List Counted
without_if true name xs = without name xs
without_if false name xs = xs

-- those that are left when the event of this number begins
abbrev pub left_before : (number : ℕ) → List Detach → List Counted → List Counted
left_before number [] xs = xs
left_before number (d ∷ ds) xs = left_before number ds (without_if (nat_eq d.before number) d.device xs)
