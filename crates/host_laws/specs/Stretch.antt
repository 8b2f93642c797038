-- Stretches of a run under the host's protocol, told for all outcomes that the calls behind them may meet.
use Rattle.std.specs.Prelude.{◌≡◌, ℕ, ◌++◌, List, Bool, true, false}
use Rattle.wa_types.specs.Syntax.{Module}
use Rattle.wa_model.specs.Machine.{Leads, CostsMore}
use Rattle.wa_model.specs.Plan.{Plan, Outcome}
use Rattle.wa_model.specs.Blocking.{Note, with_outcomes}
use Rattle.wa_model.specs.Protocol.{Held, free, starting, busy, calling, aside, entering, over, exports_of, protocol}

-- where a run stands, if these are the outcomes that its calls will meet
abbrev pub meeting : List Outcome → Held → Held
meeting os (free s l) = free s (with_outcomes l os)
meeting os (starting f s l) = starting f s (with_outcomes l os)
meeting os (busy ph c l) = busy ph c (with_outcomes l os)
meeting os (calling ph s f args th l) = calling ph s f args th (with_outcomes l os)
meeting os (aside ph c th l) = aside ph c th (with_outcomes l os)
meeting os (entering ph e s l) = entering ph e s (with_outcomes l os)
meeting os (over s) = over s

-- A run goes from one place to another by moves of this total cost and these notes, and its calls on the way meet these
-- outcomes, whatever later ones meet.
abbrev pub Stretch : Module → Plan → Held → List Outcome → List Note → ℕ → Held → Type 0
Stretch p plan h os notes cost h' = (more : List Outcome) → Leads (protocol p (exports_of p) plan) (meeting (os ++ more) h) cost notes (meeting more h')

-- all is over
abbrev pub is_over : Held → Bool
is_over (over s) = true
is_over _ = false

-- The run isn't over, and its next move would cost more than is left, whatever outcome a call meets.
pub record IsSpent (p : Module) (plan : Plan) (left : ℕ) (h : Held) : Type 0 where
  pub goes_on : is_over h ≡ false
  pub dearer : (more : List Outcome) → CostsMore left (protocol p (exports_of p) plan (meeting more h))
