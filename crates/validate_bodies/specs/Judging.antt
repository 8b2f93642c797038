-- What the validator says of a body against what is computed of it.
use Rattle.std.specs.Prelude.{◌≡◌, ℕ, Result, Ok, Err}
use Rattle.wa_types.specs.Rules.{number}
use Rattle.validate_bodies.specs.declared.bodies.BodyFail.{BodyFail}
use Rattle.validate_bodies.specs.declared.bodies.BodyFail.TheVariants as B
use Rattle.validate_bodies.specs.declared.bodies.Flaw.{Flaw}
use Rattle.validate_bodies.specs.declared.bodies.Flaw.TheVariants as F
use Rattle.validate_bodies.specs.Running.{Verdict, fine, fault}

-- the rule that fails at this place
abbrev pub Blames : Flaw → ℕ → Verdict → Type 0
Blames F.Memory at v = Unit {0}
Blames (F.Breaks rule) at v = v ≡ fault (number rule) at

-- a verdict that is that of the rest, or a fault at this place
abbrev pub Judged : {A : Type 0} → Result A Flaw → ℕ → Verdict → Verdict → Type 0
Judged (Ok u) at v w = v ≡ w
Judged (Err e) at v w = Blames e at v

-- the verdict on a whole body
abbrev pub Finds : {A : Type 0} → Result A BodyFail → Verdict → Type 0
Finds (Ok u) v = v ≡ fine
Finds (Err B.Memory) v = Unit {0}
Finds (Err (B.Invalid rule at)) v = v ≡ fault (number rule) at
