-- What memory holds while small programs wait: the area begins at 1024 and has 64 bytes.
use Rattle.std.specs.Prelude.{ℕ, List, [], ◌∷◌, ◌++◌, replicate, true, false}
use Rattle.wa_types.specs.declared.values.Value.{Value}
use Rattle.wa_types.specs.declared.values.Value.TheVariants.{I32 as value_32, I64 as value_64}
use Rattle.wa_types.specs.Syntax.{Module}
use Rattle.wa_types.specs.Pausing.{Policy, save_all, save_live, Settings, every}
use Rattle.wa_types.specs.Frames.{Suspended, Image}
use Rattle.checks.specs.Rows.{one_call, countdown, two_widths}

-- settings that list every import
abbrev pub all_imports : Policy → Settings
all_imports policy = record { choice = every; ignore_indirect = false; policy = policy }

-- this stack of the one defined function stands in these bytes
abbrev pub StandsIn : Module → Policy → List Suspended → List ℕ → Type 0
StandsIn m policy stack bytes = Image m (all_imports policy) (false ∷ true ∷ []) stack 1024 64 (replicate 1024 0 ++ bytes)

-- function 1 at the call of this place, with one local
abbrev pub at_call : (place : ℕ) → Value → List Value → Suspended
at_call place local operands = record { func = 1; place = place; locals = local ∷ []; operands = operands }

-- the one call waits with 7 as its parameter and argument
abbrev pub waiting : List Suspended
waiting = at_call 0 (value_32 7) (value_32 7 ∷ []) ∷ []

-- 1044, 1088, the parameter, the argument's slot and the number of the call
abbrev pub waiting_bytes : (slot : ℕ) → List ℕ
waiting_bytes slot = 0x14 ∷ 4 ∷ 0 ∷ 0 ∷ 0x40 ∷ 4 ∷ 0 ∷ 0 ∷ 7 ∷ 0 ∷ 0 ∷ 0 ∷ slot ∷ 0 ∷ 0 ∷ 0 ∷ 0 ∷ 0 ∷ 0 ∷ 0 ∷ []

-- The image of a stack of one call.
abbrev pub OneCallImage : Type 0
OneCallImage = StandsIn one_call save_all waiting (waiting_bytes 7)

-- Another value in the slot of the call's argument is no image, nor is another number of the call.
pub record NoImages : Type 0 where
  pub other_argument : StandsIn one_call save_all waiting (waiting_bytes 6) → ⊥
  pub other_place : StandsIn one_call save_all (at_call 1 (value_32 7) (value_32 7 ∷ []) ∷ []) (waiting_bytes 7) → ⊥

-- the division waits with 5,000,000,000 as its local, 6,000,000,000 below the call and 2 as its argument
abbrev pub dividing_at_call : List Suspended
dividing_at_call = at_call 0 (value_64 5000000000) (value_32 2 ∷ value_64 6000000000 ∷ []) ∷ []

-- 1068, 1088, the local, the slots of height 0, those of height 1 and the number of the call; those that hold no
-- operand may hold anything
abbrev pub dividing_bytes : (any : ℕ) → List ℕ
dividing_bytes any =
    0x2C ∷ 4 ∷ 0 ∷ 0 ∷ 0x40 ∷ 4 ∷ 0 ∷ 0 ∷ 0 ∷ 0xF2 ∷ 5 ∷ 0x2A ∷ 1 ∷ 0 ∷ 0 ∷ 0
    ∷ any ∷ any ∷ any ∷ any ∷ 0 ∷ 0xBC ∷ 0xA0 ∷ 0x65 ∷ 1 ∷ 0 ∷ 0 ∷ 0
    ∷ 2 ∷ 0 ∷ 0 ∷ 0 ∷ any ∷ any ∷ any ∷ any ∷ any ∷ any ∷ any ∷ any ∷ 0 ∷ 0 ∷ 0 ∷ 0 ∷ []

-- 1048, 1088, the slots of the two operands and the number of the call
abbrev pub dividing_live_bytes : List ℕ
dividing_live_bytes =
    0x18 ∷ 4 ∷ 0 ∷ 0 ∷ 0x40 ∷ 4 ∷ 0 ∷ 0 ∷ 0 ∷ 0xBC ∷ 0xA0 ∷ 0x65 ∷ 1 ∷ 0 ∷ 0 ∷ 0 ∷ 2 ∷ 0 ∷ 0 ∷ 0 ∷ 0 ∷ 0 ∷ 0 ∷ 0 ∷ []

-- two activations of the recursion, the innermost first, at its calls 0 and 1
abbrev pub counting_at_calls : List Suspended
counting_at_calls = at_call 0 (value_32 9) (value_32 8 ∷ []) ∷ at_call 1 (value_32 7) (value_32 6 ∷ []) ∷ []

-- 1064, 1088, and of each activation its parameter, the slot of its argument, the slot above it, which may hold
-- anything, and the number of its call
abbrev pub counting_bytes : (any : ℕ) → List ℕ
counting_bytes any =
    0x28 ∷ 4 ∷ 0 ∷ 0 ∷ 0x40 ∷ 4 ∷ 0 ∷ 0
    ∷ 9 ∷ 0 ∷ 0 ∷ 0 ∷ 8 ∷ 0 ∷ 0 ∷ 0 ∷ any ∷ 0 ∷ 0 ∷ any ∷ 0 ∷ 0 ∷ 0 ∷ 0
    ∷ 7 ∷ 0 ∷ 0 ∷ 0 ∷ 6 ∷ 0 ∷ 0 ∷ 0 ∷ any ∷ 0 ∷ 0 ∷ any ∷ 1 ∷ 0 ∷ 0 ∷ 0 ∷ []

-- Images of other stacks.
pub record Images : Type 0 where
  pub of_wide_values : (any : ℕ) → StandsIn two_widths save_all dividing_at_call (dividing_bytes any)
  pub of_live_values : StandsIn two_widths save_live dividing_at_call dividing_live_bytes
  pub of_two_frames : (any : ℕ) → StandsIn countdown save_all counting_at_calls (counting_bytes any)
