-- In which manner a module is rewritten, and what it owes its original by that.
use Rattle.std.specs.Prelude.{Bool, true, false, Result}
use Rattle.wa_types.specs.Pausing.{Settings}
use Rattle.wa_types.specs.Runtime.{global_space}
use Rattle.wa_types.specs.Syntax.{Func, Module}
use Rattle.wa_model.specs.Behaves.{Behaves}
use Rattle.wa_model.specs.Rewrites.{RewritesBy, SameFunc}
use Rattle.script_model.specs.Command.{Manner}
use Rattle.guard_form.specs.Asserts.{Asserted}
use Rattle.guard_form.specs.AssertedRuns.{BehavesWithAsserts}
use Rattle.call_graph.specs.Settings.{settings_of}
use Rattle.call_graph.specs.declared.settings.Settings.{Settings as SettingsValue}
use Rattle.module_rewrite.specs.WholeBytes.{EmitsModule}
use Rattle.module_rewrite.specs.declared.byte_fault.EmitFault.{EmitFault}
use Rattle.module_rewrite.specs.declared.bytes_whole.Emitted.{Emitted}
use Rattle.assert_rewrite.specs.Emitting.{EmitsWithAsserts}

-- settings of the program, with asserts or without
abbrev pub manner_of : SettingsValue → Manner
manner_of s = record { settings = settings_of s; asserts = s.asserts }

-- without asserts
abbrev pub plainly : Settings → Manner
plainly s = record { settings = s; asserts = false }

-- what became of a function that can't pause: it stays, or has a test behind each of its calls
abbrev pub StaysBy : (asserts : Bool) → Module → Func → Func → Type 0
StaysBy false m = SameFunc
StaysBy true m = Asserted (global_space m)

-- what its runs owe those of the original
abbrev pub RunsBy : (asserts : Bool) → Module → Settings → Module → Type 0
RunsBy false m s p = Behaves m s p
RunsBy true m s p = BehavesWithAsserts m s p

-- p is the module m, rewritten in this manner. With asserts it behaves like it under every plan of pauses; without them where each pause finds
-- its activations at numbered calls.
abbrev pub RewritesAs : Manner → Module → Module → Type 0
RewritesAs how m p = RewritesBy (StaysBy how.asserts m) (RunsBy how.asserts m how.settings p) m how.settings p

-- what emitting it answers
abbrev pub EmitsBy : (asserts : Bool) → Module → Settings → Result Emitted EmitFault → Type 0
EmitsBy false m s r = EmitsModule m s r
EmitsBy true m s r = EmitsWithAsserts m s r
