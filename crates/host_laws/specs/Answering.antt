-- What a call meets, as the program has it.
use Rattle.std.specs.Prelude.{◌<◌, ◌^◌, ℕ, List, [], ◌∷◌, length, Option, Some, None, Bool, if◌then◌else◌}
use Rattle.std.specs.Option.{option_map}
use Rattle.std.specs.Borrow.{Bor}
use Rattle.wa_types.specs.Validity.{same_name}
use Rattle.wa_model.specs.declared.events.End.{End}
use Rattle.wa_model.specs.declared.events.End.TheVariants.{NoAnswer, OtherImport}
use Rattle.wa_model.specs.Outside.{Poke, AnswerLine}
use Rattle.wa_model.specs.Plan.{Outcome, given, refused}
use Rattle.wa_model.specs.View.{answer_of}
use Rattle.host_laws.specs.declared.lines.Met.{Met}
use Rattle.host_laws.specs.declared.lines.Met.TheVariants.{Given, Refused}

-- what a call meets
abbrev pub outcome_of : Met → Outcome
outcome_of (Given answer) = given (answer_of answer)
outcome_of (Refused end) = refused end

-- why no answer line answers a call
abbrev pub line_fault : (import : ℕ) → (name : List ℕ) → List AnswerLine → Option End
line_fault import name [] = Some (NoAnswer import)
line_fault import name (l ∷ ls) = if same_name l.import name then None else Some (OtherImport import l.import)

-- which function imports are listed, where that is told
abbrev pub listed_of : Option (Bor (List Bool)) → Option (List Bool)
listed_of listed = option_map (λ (l : Bor (List Bool)). l.now) listed

-- a poke's bytes are numbered in 32 bits
abbrev pub IsShort : Poke → Type 0
IsShort p = length p.bytes < 2 ^ 32
