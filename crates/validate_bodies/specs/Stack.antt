-- What the validator's stack of operand types stands for.
use Rattle.std.specs.Prelude.{◌≡◌, ℕ, ◌≤◌, List, reverse, length, take, drop, Option, Some, None, Bool, if◌then◌else◌}
use Rattle.wa_types.specs.declared.rules.Rule.{Rule}
use Rattle.wa_types.specs.declared.rules.Rule.TheVariants.{StackTypes}
use Rattle.wa_types.specs.declared.values.ValType.{ValType}
use Rattle.validate_bodies.specs.declared.stack.Operands.{Operands}
use Rattle.validate_bodies.specs.Running.{StackAfter, goes, stops}

-- the operands of the innermost construct, the topmost first
unfoldable pub known_at : ℕ → List (Option ValType) → List (Option ValType)
known_at base xs = reverse (drop base xs)

-- the same by a stack of operands
abbrev pub known : Operands → List (Option ValType)
known o = known_at o.base o.types.items

-- the stack reaches to the innermost construct
abbrev pub Deep : Operands → Type 0
Deep o = o.base ≤ length o.types.items

-- the operands of the other constructs stay
pub record Level (a b : Operands) : Type 0 where
  pub base : b.base ≡ a.base
  pub kept : take a.base b.types.items ≡ take a.base a.types.items
  pub deep : Deep b

-- what is left where an operand was there
abbrev pub popped : Bool → List (Option ValType) → Option (List (Option ValType))
popped b os = if b then Some os else None

-- what comes of an instruction whose operand was there, else the rule on operands fails
abbrev pub passed : Bool → List (Option ValType) → Bool → StackAfter
passed b os free = if b then goes os free else stops StackTypes

-- what became of the operands: the next ones, or a rule that fails
abbrev pub Applied : StackAfter → Option Rule → List (Option ValType) → Bool → Type 0
Applied (goes os free) None os' free' = (os' ≡ os) × (free' ≡ free)
Applied (stops r) (Some q) os' free' = q ≡ r
Applied _ _ os' free' = ⊥
