-- What the emitted module owes its original for the policy `live`.
use Rattle.std.specs.Prelude.{◌≡◌, ℕ, List, Bool}
use Rattle.wa_types.specs.Pausing.{Settings, TellsMayPause, save_live}
use Rattle.wa_types.specs.Syntax.{Module}
use Rattle.wa_types.specs.Validity.{Valid}
use Rattle.run_laws.specs.Ranges.{CodesIn}
use Rattle.headline.specs.EmittedModule.{Emitted, Framing}
use Rattle.headline.specs.Given.{BehavesGiven}
use Rattle.emitted_form.specs.LiveFraming.{LiveFraming}

-- A valid emitted module behaves like its original, pauses included, where its frames keep what the policy saves at each call.
abbrev pub LiveEmittedBehaves : Type 0
LiveEmittedBehaves =
    (m : Module) (s : Settings) (which : List Bool) (frames : (index : ℕ) → Framing) (p : Module) → Valid m → Valid p → CodesIn p → s.policy ≡ save_live → TellsMayPause m s which
    → Emitted m s which frames p → LiveFraming m s which frames → BehavesGiven m s p
