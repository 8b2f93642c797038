-- Configurations that differ in locals that no path from there reads before it writes them.
use Rattle.std.specs.Prelude.{◌≡◌, ℕ, List, [], ◌∷◌, length, map}
use Rattle.wa_types.specs.Liveness.{Position, ReadsFirst, goes_again, goes_behind, position}
use Rattle.wa_types.specs.Liveness as L
use Rattle.wa_types.specs.Pausing.{save_live}
use Rattle.wa_types.specs.Pruned.{pruned}
use Rattle.wa_types.specs.Syntax.{Code, Module}
use Rattle.wa_types.specs.declared.values.Value.{Value}
use Rattle.wa_model.specs.Configuration.{Activation, Configuration, Label, block_label, loop_label, waiting}
use Rattle.wa_model.specs.Step.{step}
use Rattle.wa_model.specs.Store.{Store, value_at}
use Rattle.run_laws.proofs.SpotSteps.{WaitingAtSpots}
use Rattle.headline.specs.LiveLaw.{LiveLaw, LiveNext}
use Rattle.headline.specs.World.{World, base}

-- where a label leads, in pruned code
abbrev pub leads_to : Label → L.Label
leads_to (block_label height arity rest skipped) = goes_behind (pruned rest)
leads_to (loop_label height body rest) = goes_again (pruned body) (pruned rest)

-- where code stands inside its labels
abbrev pub place : Code → List Label → Position
place code labels = position (pruned code) (map leads_to labels)

-- the same values of each local that some path from there reads first
abbrev pub AgreeAt : Position → (ls ls' : List Value) → Type 0
AgreeAt at ls ls' = (x : ℕ) → ReadsFirst x at → value_at ls' x ≡ value_at ls x

-- as many locals, and the same values of those that are read first
abbrev pub SameLocals : Code → List Label → (ls ls' : List Value) → Type 0
SameLocals code labels ls ls' = (length ls' ≡ length ls) × AgreeAt (place code labels) ls ls'

-- activations that wait, with such locals
pub data SameUnder : List Activation → List Activation → Type 0 where
  none : SameUnder [] []
  also : {fn : ℕ} {ls ls' ops taken : List Value} {code : Code} {labels : List Label} {under under' : List Activation}
      → SameLocals code labels ls ls' → SameUnder under under' → SameUnder (waiting fn ls ops taken code labels ∷ under) (waiting fn ls' ops taken code labels ∷ under')

-- the same but for such locals
pub data SameLive : Configuration → Configuration → Type 0 where
  alike : {s : Store} {fn : ℕ} {ls ls' ops taken : List Value} {code : Code} {labels : List Label} {under under' : List Activation}
      → SameLocals code labels ls ls' → SameUnder under under'
      → SameLive (record { store = s; here = waiting fn ls ops taken code labels; under = under }) (record { store = s; here = waiting fn ls' ops taken code labels; under = under' })

-- What they do next is the same, and they stay so.
abbrev pub LiveLocalsSuffice : Type 0
LiveLocalsSuffice = (m : Module) (c d : Configuration) → SameLive c d → LiveNext SameLive (step m c) (step m d)

-- the original's configuration stands behind calls of its bodies
abbrev pub WaitsThere : World → (top import : ℕ) → (d f : Configuration) → Type 0
WaitsThere w top i d f = WaitingAtSpots (base w) i d

-- For the policy `live` it is such a step as the headline allows in between: what isn't saved no path from the calls reads first, so
-- frames that stand for the one configuration stand for the other.
abbrev pub LiveLocalsStand : Type 0
LiveLocalsStand = (w : World) → w.settings.policy ≡ save_live → LiveLaw w SameLive (WaitsThere w)
