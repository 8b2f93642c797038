-- Modules of which nothing may pause: the module with the runtime's parts behind its own is theirs, rewritten.
use Rattle.std.specs.Prelude.{◌≡◌, ℕ, List, Bool, false, All, Contains}
use Rattle.std.specs.List.{list_any}
use Rattle.wa_types.specs.declared.syntax.Export.{Export}
use Rattle.wa_types.specs.Syntax.{Module}
use Rattle.wa_types.specs.Validity.{Valid}
use Rattle.wa_types.specs.Pausing.{Settings, MayPause, TellsMayPause}
use Rattle.wa_types.specs.Runtime.{runtime_names, with_runtime}
use Rattle.wa_model.specs.Behaves.{Behaves}
use Rattle.wa_model.specs.Rewrites.{Rewrites}

-- no function of the module may pause
abbrev pub NeverPauses : Module → Settings → Type 0
NeverPauses m s = (x : ℕ) → MayPause m s x → ⊥

-- no export has one of the five names of the runtime
abbrev pub FreeOfNames : Module → Type 0
FreeOfNames m = All (λ (e : Export). Contains runtime_names e.name → ⊥) m.exports

-- ---- laws

-- Where no function is told as one that may pause, none may.
abbrev pub NoneTold : Type 0
NoneTold = (m : Module) (s : Settings) (which : List Bool) → TellsMayPause m s which → list_any (λ told. told) which ≡ false → NeverPauses m s

-- The module with the runtime's parts is valid.
abbrev pub RuntimeIsValid : Type 0
RuntimeIsValid = (m : Module) → Valid m → FreeOfNames m → Valid (with_runtime m)

-- Where nothing may pause it behaves like its original.
abbrev pub QuietBehave : Type 0
QuietBehave = (m : Module) (s : Settings) → Valid m → NeverPauses m s → Behaves m s (with_runtime m)

-- And it is the original, rewritten.
abbrev pub QuietAreRewritten : Type 0
QuietAreRewritten = (m : Module) (s : Settings) → Valid m → FreeOfNames m → NeverPauses m s → Rewrites m s (with_runtime m)
