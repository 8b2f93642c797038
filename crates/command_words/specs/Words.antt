-- The words of a command, of the program's values.
use Rattle.std.specs.Prelude.{◌≡◌, ◌≤◌, List, ℕ, Option, Some, None, Result, Ok, Err}
use Rattle.std.specs.Option.{option_map}
use denote.Ref.{Bor}
use Rattle.call_graph.specs.Settings.{settings_of}
use Rattle.call_graph.specs.declared.settings.Settings.{Settings}
use Rattle.script_model.specs.Command.{Manner, transform}
use Rattle.script_model.specs.Spelled.{Spelled, rewrites, hosts, runs, generates, saves, continues}
use Rattle.command_words.specs.declared.words.Command.{Command as CommandValue}
use Rattle.command_words.specs.declared.words.Command.TheVariants.{Transform, Host, Run, Gen, Save, Continue}
use Rattle.command_words.specs.declared.words.WordsFault.{WordsFault}
use Rattle.command_words.specs.declared.words.WordsFault.TheVariants.{Memory, Usage}

-- settings, as the manner of a `transform`
abbrev pub manner_of : Settings → Manner
manner_of s = record { settings = settings_of s; asserts = s.asserts }

-- a command
abbrev pub spelled_of : CommandValue → Spelled
spelled_of (Transform settings input output) = rewrites (transform (manner_of settings) input.now output.now)
spelled_of (Host script) = hosts script.now
spelled_of (Run script) = runs script.now
spelled_of (Gen number output) = generates number output.now
spelled_of (Save script events snap) = saves script.now events snap.now
spelled_of (Continue script snap) = continues script.now snap.now

-- The number of a command is in its range: a generated module has 1 to 4,000 functions, and a script runs for 1 to 1,000,000,000
-- events.
abbrev pub HasItsNumber : CommandValue → Type 0
HasItsNumber (Gen number output) = (1 ≤ number) × (number ≤ 4000)
HasItsNumber (Save script events snap) = (1 ≤ events) × (events ≤ 1000000000)
HasItsNumber _ = Unit {0}

-- What was read is what the words spell; `Usage` says that they spell nothing.
abbrev pub Reads : {X Y : Type 0} → (X → Y) → Result X WordsFault → Option Y → Type 0
Reads view (Ok x) spelled = spelled ≡ Some (view x)
Reads view (Err Memory) spelled = Unit {0}
Reads view (Err Usage) spelled = spelled ≡ None

-- a text that is told
abbrev pub text_of : Option (Bor (List ℕ)) → Option (List ℕ)
text_of text = option_map (λ (t : Bor (List ℕ)). t.now) text
