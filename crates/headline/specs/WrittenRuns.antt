-- What is known of the written module's states along its run.
use Rattle.std.specs.Prelude.{◌≡◌, ℕ, List, ◌∷◌, All}
use Rattle.wa_model.specs.Blocking.{Left, Note, Task}
use Rattle.wa_model.specs.Configuration.{Configuration}
use Rattle.run_theory.specs.DeterminedRuns.{held_start_of}
use Rattle.wa_model.specs.Machine.{goes}
use Rattle.wa_model.specs.Plan.{Entry, Outcome, OutcomeFits}
use Rattle.wa_model.specs.Protocol.{Held, busy, calling, exports_of, give_zero, is_running, protocol, unwinds}
use Rattle.wa_model.specs.Outside.{Answer}
use Rattle.wa_model.specs.Store.{Store}
use Rattle.wa_types.specs.declared.values.Value.{Value}
use Rattle.headline.specs.FlatLaw.{AllLocalsFit}
use Rattle.headline.specs.Given.{LetsPause}
use Rattle.headline.specs.World.{World}

-- It holds before the first move, moves keep it, and where the program runs, or is about to unwind, it says that
-- locals have their types and are in range, if the plan lets some import pause.
pub record WrittenLaw (w : World) (Known : Held → Type 0) : Type 0 where
  pub begins : (os : List Outcome) → All OutcomeFits os → Known (held_start_of w.written w.plan os).last
  pub keeps : (b t : Held) (k : ℕ) (es : List Note) → Known b → protocol w.written (exports_of w.written) w.plan b ≡ goes k es t → Known t
  pub waits : LetsPause w.plan → (e : Entry) (i : ℕ) (a : Answer) (s : Store) (x : ℕ) (args : List Value) (c : Configuration) (l : Left) → Known (calling (unwinds e i a) s x args (give_zero c) l)
      → AllLocalsFit w.written (c.here ∷ c.under)
  pub locals : LetsPause w.plan → (task : Task) (c : Configuration) (l : Left) → Known (busy (is_running task) c l) → AllLocalsFit w.written (c.here ∷ c.under)
