-- Which scripts commands take, and why others are refused.
use Rattle.std.specs.Prelude.{◌≡◌, ◌⊎◌, ℕ, suc, ◌<◌, ◌≤◌, List, length, Ok, Err}
use Rattle.wa_types.specs.declared.bounds.LimitKind.TheVariants.{Script as a_script, Programs as some_programs}
use Rattle.script_model.specs.Script.{Script, ScriptFault, breaks, too_many}
use Rattle.script_model.specs.ScriptText.{script_text}
use Rattle.script_model.specs.Transcript.{Refusal, limit, script}

-- a script has at most so many bytes
abbrev pub most_bytes : ℕ
most_bytes = 1048576

-- The bytes, not too many, are the text of this script.
pub record IsScript (bytes : List ℕ) (s : Script) : Type 0 where
  pub few : length bytes ≤ most_bytes
  pub text : script_text bytes ≡ Ok s

-- the refusal of a fault
abbrev pub refusal_for : ScriptFault → Refusal
refusal_for (breaks line rule) = script line rule
refusal_for (too_many found) = limit some_programs found

-- a fault of bytes that aren't too many
pub record HasFault (bytes : List ℕ) (f : ScriptFault) : Type 0 where
  pub few : length bytes ≤ most_bytes
  pub text : script_text bytes ≡ Err f

-- The bytes are refused for this: they are too many, of which one more is looked at than there may be; or for their first fault.
abbrev pub IsNoScript : List ℕ → Refusal → Type 0
IsNoScript bytes r = ((most_bytes < length bytes) × (r ≡ limit a_script (suc most_bytes))) ⊎ ((f : ScriptFault) × HasFault bytes f × (r ≡ refusal_for f))
