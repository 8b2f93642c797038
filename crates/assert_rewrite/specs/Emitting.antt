-- What writing a module that is rewritten with asserts answers.
use Rattle.std.specs.Prelude.{◌≡◌, ◌<◌, ◌≤◌, ℕ, List, length, Bool, Result, Ok, Err}
use Rattle.wa_types.specs.Encoding.{Enc}
use Rattle.wa_types.specs.Pausing.{Settings}
use Rattle.wa_types.specs.Syntax.{Module}
use Rattle.guard_form.specs.AssertedRuns.{RewritesWithAsserts}
use Rattle.assert_laws.specs.AssertedModules.{EachReadsFewWithAsserts}
use Rattle.assert_laws.specs.EmittedWithAsserts.{EmittedWithAsserts}
use Rattle.module_rewrite.specs.Whole.{FirstTooMany}
use Rattle.module_rewrite.specs.WholeBytes.{CanBeWritten}
use Rattle.module_rewrite.specs.declared.byte_fault.EmitFault.{EmitFault}
use Rattle.module_rewrite.specs.declared.byte_fault.EmitFault.TheVariants.{Memory, Locals, TooLong}
use Rattle.module_rewrite.specs.declared.bytes_whole.Emitted.{Emitted}

-- The text is the bytes of a module that is emitted with asserts, by the policy of the settings, which aren't too many. It is the original,
-- rewritten with asserts: it behaves like it under every plan of pauses, whichever calls its activations stand at where it pauses.
pub record IsWrittenWithAsserts (m : Module) (s : Settings) (r : Emitted) : Type 0 where
  pub can : CanBeWritten m s r.instrumented.items
  pub written : Module
  pub emitted : EmittedWithAsserts m s r.instrumented.items written
  pub rewrites : RewritesWithAsserts m s written
  pub reads : EachReadsFewWithAsserts m s r.instrumented.items written
  pub text : r.text.items ≡ Enc written
  pub short : length (Enc written) ≤ 67108864

-- One that is the original, rewritten with asserts, has so many bytes, too many.
pub record IsTooLongWithAsserts (m : Module) (s : Settings) (len : ℕ) : Type 0 where
  pub which : List Bool
  pub can : CanBeWritten m s which
  pub written : Module
  pub emitted : EmittedWithAsserts m s which written
  pub rewrites : RewritesWithAsserts m s written
  pub is : len ≡ length (Enc written)
  pub over : 67108864 < len

-- Too many locals come first, then too many bytes.
abbrev pub EmitsWithAsserts : Module → Settings → Result Emitted EmitFault → Type 0
EmitsWithAsserts m s (Ok r) = IsWrittenWithAsserts m s r
EmitsWithAsserts m s (Err Memory) = Unit {0}
EmitsWithAsserts m s (Err (Locals func count)) = FirstTooMany m s func count
EmitsWithAsserts m s (Err (TooLong len)) = IsTooLongWithAsserts m s len
