-- What reading a part of a line answers.
use Rattle.std.specs.Prelude.{◌≡◌, ℕ, ◌==◌, not, if◌then◌else◌, Bool, false, List, [], ◌∷◌, length, Option, Some, None, Result, Ok, Err, map, ◌++◌}
use Rattle.std.specs.List.{filter}
use Rattle.std.specs.Option.{option_map}
use Rattle.script_model.specs.ScriptLines.{all_told, has_bytes, word_text}
use Rattle.script_reader.specs.declared.word_fault.LineFault.{LineFault}
use Rattle.script_reader.specs.declared.word_fault.LineFault.TheVariants.{Memory, Rule}

-- The rule that is broken is this; want of memory may come at any time.
abbrev pub Blames : {Y : Type 0} → LineFault → Result Y ℕ → Type 0
Blames Memory said = Unit {0}
Blames (Rule rule) said = said ≡ Err rule

-- What was read is what is said, or the fault tells what is broken.
abbrev pub Reads : {X Y : Type 0} → (X → Y) → Result X LineFault → Result Y ℕ → Type 0
Reads view (Ok x) said = said ≡ Ok (view x)
Reads view (Err fault) said = Blames fault said

-- what is told, or else the rule is broken
abbrev pub or_breaks : {Y : Type 0} → (rule : ℕ) → Option Y → Result Y ℕ
or_breaks rule None = Err rule
or_breaks rule (Some x) = Ok x

-- no sign stands in front of digits, and no zero in front of further ones
abbrev pub begins_plainly : List ℕ → Bool
begins_plainly [] = false
begins_plainly (c ∷ cs) = if c == 48 then length cs == 0 else not (c == 43)

-- what the words among the pieces of a line say
abbrev pub told_words : List (List ℕ) → Option (List (List ℕ))
told_words pieces = all_told (map word_text (filter has_bytes pieces))

-- words behind earlier ones
abbrev pub behind_words : List (List ℕ) → Option (List (List ℕ)) → Option (List (List ℕ))
behind_words earlier more = option_map (λ words. earlier ++ words) more
