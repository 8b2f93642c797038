-- Laws of what is asked of a program.
use Rattle.std.specs.Prelude.{◌≡◌, ◌≤◌, ℕ, List, length, All, Ok}
use Rattle.script_model.specs.Script.{Script}
use Rattle.script_model.specs.ScriptText.{script_text}
use Rattle.world_hosting.specs.Worlds.{FitsPlan, HasRanges}

-- Each program of a script of at most 1,048,576 bytes fits a plan.
abbrev pub ScriptsFit : Type 0
ScriptsFit = (bytes : List ℕ) (s : Script) → length bytes ≤ 1048576 → script_text bytes ≡ Ok s → All FitsPlan s.programs

-- What is told in each program of a script lies in the ranges of its types.
abbrev pub ScriptsInRange : Type 0
ScriptsInRange = (bytes : List ℕ) (s : Script) → script_text bytes ≡ Ok s → All HasRanges s.programs
