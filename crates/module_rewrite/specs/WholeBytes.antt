-- What writing a rewritten module answers.
use Rattle.std.specs.Prelude.{◌≡◌, ◌<◌, ◌≤◌, ℕ, List, drop, length, Bool, Result, Ok, Err}
use Rattle.wa_types.specs.Encoding.{Enc}
use Rattle.wa_types.specs.Modules.{func_imports}
use Rattle.wa_types.specs.Pausing.{Settings, TellsMayPause}
use Rattle.wa_types.specs.Syntax.{Module}
use Rattle.wa_model.specs.Rewrites.{Rewrites}
use Rattle.flatten.specs.Whole.{NonePasses}
use Rattle.emitted_form.specs.EmittedAs.{EmittedAs}
use Rattle.emitted_form.specs.PolicyLaws.{EachReadsFew}
use Rattle.module_rewrite.specs.Whole.{FirstTooMany}
use Rattle.module_rewrite.specs.declared.byte_fault.EmitFault.{EmitFault}
use Rattle.module_rewrite.specs.declared.byte_fault.EmitFault.TheVariants.{Memory, Locals, TooLong}
use Rattle.module_rewrite.specs.declared.bytes_whole.Emitted.{Emitted}

-- These are the functions that may pause, none of which has too many locals when it is written.
pub record CanBeWritten (m : Module) (s : Settings) (which : List Bool) : Type 0 where
  pub tells : TellsMayPause m s which
  pub few : NonePasses m (drop (func_imports m) which) m.funcs

-- The text is the bytes of a module that is emitted by the policy of the settings, which aren't too many. It is the original, rewritten: it
-- behaves like it under every plan of pauses; and its functions read the global of the state few times.
pub record IsWritten (m : Module) (s : Settings) (r : Emitted) : Type 0 where
  pub can : CanBeWritten m s r.instrumented.items
  pub written : Module
  pub emitted : EmittedAs m s r.instrumented.items written
  pub rewrites : Rewrites m s written
  pub reads : EachReadsFew m s r.instrumented.items written
  pub text : r.text.items ≡ Enc written
  pub short : length (Enc written) ≤ 67108864

-- One that is the original, rewritten, has so many bytes, too many.
pub record IsTooLong (m : Module) (s : Settings) (len : ℕ) : Type 0 where
  pub which : List Bool
  pub can : CanBeWritten m s which
  pub written : Module
  pub emitted : EmittedAs m s which written
  pub rewrites : Rewrites m s written
  pub is : len ≡ length (Enc written)
  pub over : 67108864 < len

-- Too many locals come first, then too many bytes.
abbrev pub EmitsModule : Module → Settings → Result Emitted EmitFault → Type 0
EmitsModule m s (Ok r) = IsWritten m s r
EmitsModule m s (Err Memory) = Unit {0}
EmitsModule m s (Err (Locals func count)) = FirstTooMany m s func count
EmitsModule m s (Err (TooLong len)) = IsTooLong m s len
