-- What is known of locals along a run under the protocol.
use Rattle.std.specs.Prelude.{◌≡◌, ℕ, List, ◌∷◌, All}
use Rattle.wa_types.specs.Syntax.{Module}
use Rattle.wa_types.specs.Validity.{Valid}
use Rattle.wa_model.specs.Blocking.{Left}
use Rattle.wa_model.specs.Configuration.{Configuration}
use Rattle.wa_model.specs.Plan.{AreaFits, Fits, Outcome, OutcomeFits, Plan}
use Rattle.wa_model.specs.Protocol.{Phase, Protocol, busy}
use Rattle.run_laws.specs.Ranges.{CodesIn}
use Rattle.run_laws.specs.FittingStates.{ExportsTyped}
use Rattle.headline.specs.FlatLaw.{AllLocalsFit}

-- Where a run under the protocol stands at a running program, each activation's locals have their function's types and are in range:
-- behind a pause too, when frames have put them back.
abbrev pub LocalsStayTyped : Type 0
LocalsStayTyped =
    (p : Module) (plan : Plan) (os : List Outcome) (n : ℕ) → Valid p → CodesIn p → Fits p plan → AreaFits p plan.area → ExportsTyped p → All OutcomeFits os
    → (ph : Phase) (c : Configuration) (l : Left) → (Protocol p plan os n).last ≡ busy ph c l → AllLocalsFit p (c.here ∷ c.under)
