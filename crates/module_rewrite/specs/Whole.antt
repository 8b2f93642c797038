-- What rewriting a module answers.
use Rattle.std.specs.Prelude.{◌≡◌, ℕ, List, drop, None, Some, Bool, Result, Ok, Err}
use Rattle.wa_types.specs.Modules.{func_imports}
use Rattle.wa_types.specs.Pausing.{Listed, Settings, TellsMayPause}
use Rattle.wa_types.specs.Syntax.{Module}
use Rattle.wa_types.specs.View.{module_of}
use Rattle.wa_model.specs.Rewrites.{Rewrites}
use Rattle.local_spill.specs.Reserved.{reserved_at}
use Rattle.flatten.specs.Whole.{NonePasses, FirstPasses}
use Rattle.emitted_form.specs.EmittedAs.{EmittedAs}
use Rattle.emitted_form.specs.PolicyLaws.{EachReadsFew}
use Rattle.module_rewrite.specs.Layouts.{LaidOut}
use Rattle.module_rewrite.specs.declared.fault.RewriteFault.{RewriteFault}
use Rattle.module_rewrite.specs.declared.fault.RewriteFault.TheVariants.{Memory, Locals, Reserved}
use Rattle.module_rewrite.specs.declared.whole.Instrumented.{Instrumented}
use Rattle.module_rewrite.specs.declared.whole.Rewritten.{Rewritten}

-- The module is one that is emitted by the policy, where those functions are written that may pause, none of which has too many locals;
-- it is the original, rewritten: it behaves like it under every plan of pauses. Its functions read the global of the state few times.
-- The frames are those of the written functions.
pub record IsAsyncified (m : Module) (s : Settings) (r : Rewritten) : Type 0 where
  pub free : reserved_at m ≡ None
  pub tells : TellsMayPause m s r.instrumented.items
  pub few : NonePasses m (drop (func_imports m) r.instrumented.items) m.funcs
  pub emitted : EmittedAs m s r.instrumented.items (module_of r.«module»)
  pub rewrites : Rewrites m s (module_of r.«module»)
  pub reads : EachReadsFew m s r.instrumented.items (module_of r.«module»)
  pub layouts : LaidOut m s r.instrumented.items (func_imports m) (drop (func_imports m) r.instrumented.items) m.funcs r.layouts.items

-- The first function that may pause and would have too many locals.
pub record FirstTooMany (m : Module) (s : Settings) (func count : ℕ) : Type 0 where
  pub free : reserved_at m ≡ None
  pub which : List Bool
  pub tells : TellsMayPause m s which
  pub first : FirstPasses m func count (func_imports m) (drop (func_imports m) which) m.funcs

-- The same without the frames, and with the imports that are listed.
pub record IsInstrumented (m : Module) (s : Settings) (r : Instrumented) : Type 0 where
  pub free : reserved_at m ≡ None
  pub tells : TellsMayPause m s r.instrumented.items
  pub listed : r.listed.items ≡ Listed m s
  pub few : NonePasses m (drop (func_imports m) r.instrumented.items) m.funcs
  pub emitted : EmittedAs m s r.instrumented.items (module_of r.«module»)
  pub rewrites : Rewrites m s (module_of r.«module»)
  pub reads : EachReadsFew m s r.instrumented.items (module_of r.«module»)

-- A reserved name comes first, then too many locals.
abbrev pub Refuses : Module → Settings → RewriteFault → Type 0
Refuses m s Memory = Unit {0}
Refuses m s (Locals func count) = FirstTooMany m s func count
Refuses m s (Reserved at) = reserved_at m ≡ Some at

abbrev pub Asyncifies : Module → Settings → Result Rewritten RewriteFault → Type 0
Asyncifies m s (Ok r) = IsAsyncified m s r
Asyncifies m s (Err e) = Refuses m s e

abbrev pub Instruments : Module → Settings → Result Instrumented RewriteFault → Type 0
Instruments m s (Ok r) = IsInstrumented m s r
Instruments m s (Err e) = Refuses m s e
