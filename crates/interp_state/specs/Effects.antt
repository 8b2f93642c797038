-- What an instruction that touches only its operands and the store does to all operands, topmost first.
use Rattle.std.specs.Prelude.{◌≡◌, ◌<◌, ◌≤◌, ◌⊎◌, ℕ, List, ◌∷◌, ◌++◌, take, drop, Option}
use Rattle.wa_types.specs.declared.values.Value.{Value}
use Rattle.wa_types.specs.declared.values.Value.TheVariants as V
use Rattle.wa_types.specs.declared.values.Trap.{Trap}
use Rattle.wa_types.specs.Syntax.{Basic, memory_copy, memory_fill}
use Rattle.wa_model.specs.Store.{Store, Did, works, fails, lacks, takes, act}
use Rattle.interp_state.specs.declared.flow.Flow.{Flow}
use Rattle.interp_state.specs.declared.flow.Flow.TheVariants.{Moved, Trapped, Spent}

-- What an instruction did to all operands and the store.
pub data Effect : Type 0 where
  worked : (store : Store) → (operands : List Value) → Effect
  trapped : (trap : Trap) → Effect
  nothing : Effect

-- the effect of what it did with its own operands, over those below
abbrev pub effect_over : List Value → Did → Effect
effect_over below (works s results) = worked s (results ++ below)
effect_over below (fails trap) = trapped trap
effect_over below lacks = nothing

-- the effect of an instruction on a store and all operands
abbrev pub effect : Option ℕ → Basic → Store → List Value → Effect
effect most b s ops = effect_over (drop (takes b) ops) (act most b s (take (takes b) ops))

-- a reduction that costs 1 came to this effect, with this store and these operands behind it
abbrev pub Shows : Effect → Flow → Store → List Value → Type 0
Shows e (Moved more) s ops = (more ≡ 0) × (e ≡ worked s ops)
Shows e (Trapped more trap) s ops = (more ≡ 0) × (e ≡ trapped trap)
Shows e Spent s ops = e ≡ nothing
Shows e _ s ops = ⊥

-- the instruction worked
abbrev pub HasWorked : Effect → Type 0
HasWorked (worked s ops) = Unit {0}
HasWorked _ = ⊥

-- A reduction that costs so much past 1 where it works came to this effect, with so much left to pay: a trap costs 1, and comes before
-- steps that are spent.
abbrev pub ShowsPaid : Effect → (extra left : ℕ) → Flow → Store → List Value → Type 0
ShowsPaid e extra left (Moved more) s ops = (more ≡ extra) × (extra < left) × (e ≡ worked s ops)
ShowsPaid e extra left (Trapped more trap) s ops = (more ≡ 0) × (e ≡ trapped trap)
ShowsPaid e extra left Spent s ops = (e ≡ nothing) ⊎ (HasWorked e × (left ≤ extra))
ShowsPaid e extra left _ s ops = ⊥

-- three i32 stand on top of these, the first one topmost
abbrev pub topped : (len middle at : ℕ) → (below : List Value) → List Value
topped len middle at below = V.I32 len ∷ V.I32 middle ∷ V.I32 at ∷ below

-- three don't, so that a copy and a fill aren't defined
abbrev pub LacksThree : List Value → Type 0
LacksThree ops = (most : Option ℕ) (s : Store) → (effect most memory_copy s ops ≡ nothing) × (effect most memory_fill s ops ≡ nothing)

-- a reduction that led to no next configuration
abbrev pub Unmoved : Flow → Type 0
Unmoved (Moved more) = ⊥
Unmoved _ = Unit {0}
