-- Laws of what a module's bytes spell.
use Rattle.std.specs.Prelude.{◌≡◌, ℕ, List}
use Rattle.wa_types.specs.Syntax.{Module}
use Rattle.wa_types.specs.Norm.{Norm}
use Rattle.wa_types.specs.Validity.{Valid}
use Rattle.wa_types.specs.Pausing.{Settings}
use Rattle.wa_model.specs.Configuration.{Configuration}
use Rattle.wa_model.specs.Step.{step}
use Rattle.wa_model.specs.Plan.{Plan, Outcome}
use Rattle.wa_model.specs.Blocking.{Blocking}
use Rattle.wa_model.specs.Protocol.{Protocol}
use Rattle.wa_model.specs.Rewrites.{Rewrites}
use Rattle.norm_laws.specs.Bare.{bare}

-- A module goes from each configuration as does what runs see of it,
abbrev pub BareSteps : Type 0
BareSteps = (m : Module) (c : Configuration) → step (bare m) c ≡ step m c

-- makes the same notes, and comes to the same states, with blocking imports
abbrev pub BareBlocking : Type 0
BareBlocking = (m : Module) (plan : Plan) (os : List Outcome) (n : ℕ) → Blocking (bare m) plan os n ≡ Blocking m plan os n

-- and under the protocol.
abbrev pub BareProtocol : Type 0
BareProtocol = (p : Module) (plan : Plan) (os : List Outcome) (n : ℕ) → Protocol (bare p) plan os n ≡ Protocol p plan os n

-- So does what its bytes spell.
abbrev pub NormBlocking : Type 0
NormBlocking = (m : Module) (plan : Plan) (os : List Outcome) (n : ℕ) → Blocking (Norm m) plan os n ≡ Blocking m plan os n

-- So it is under the protocol.
abbrev pub NormProtocol : Type 0
NormProtocol = (p : Module) (plan : Plan) (os : List Outcome) (n : ℕ) → Protocol (Norm p) plan os n ≡ Protocol p plan os n

-- What the bytes of a valid module spell is valid,
abbrev pub NormIsValid : Type 0
NormIsValid = (m : Module) → Valid m → Valid (Norm m)

-- and what those of a rewritten module spell is the original rewritten.
abbrev pub NormIsRewritten : Type 0
NormIsRewritten = (m : Module) (s : Settings) (p : Module) → Rewrites m s p → Rewrites m s (Norm p)
