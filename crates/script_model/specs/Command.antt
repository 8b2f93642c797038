-- The commands that words spell.
use Rattle.std.specs.Prelude.{ℕ, List, [], ◌∷◌, Option, Some, None, is_some, Bool, true, false, not, ◌||◌, ◌==◌, if◌then◌else◌, Result, Ok, Err, codes}
use Rattle.std.specs.Option.{option_and_then}
use Rattle.std.specs.Str.{bytes_eq}
use Rattle.wa_types.specs.Pausing.{Choice, every, nobody, of_list, Entry, ListError, list_of, Policy, save_all, save_live, Settings}

-- How a module is rewritten: by these settings, and with asserts or without.
pub record Manner : Type 0 where
  pub settings : Settings
  pub asserts : Bool

-- Rewrite, in this manner, the module in one file into another.
pub data Command : Type 0 where
  transform : (manner : Manner) → (input output : List ℕ) → Command

-- What a word is where an option may stand: an option, one with `=` and its value, a flag, the end of options, a name, or none of these.
pub data Word : Type 0 where
  imports_word save_word ignore_imports_word ignore_indirect_word asserts_word end_word unknown_word : Word
  imports_with save_with name_word : (text : List ℕ) → Word

-- where the next word stands: an option may come; the value of `--imports` or of `--save` must; only files may
pub data Place : Type 0 where
  anywhere behind_imports behind_save behind_options : Place

-- what the words have said so far
pub record Said : Type 0 where
  pub place : Place
  pub imports : Option (List ℕ)
  pub save : Option (List ℕ)
  pub ignore_imports : Bool
  pub ignore_indirect : Bool
  pub asserts : Bool
  pub input : Option (List ℕ)
  pub output : Option (List ℕ)
  pub third : Option (List ℕ)

-- nothing yet
abbrev pub nothing_said : Said
nothing_said = record { place = anywhere; imports = None; save = None; ignore_imports = false; ignore_indirect = false; asserts = false; input = None; output = None; third = None }

-- the word begins with `-`
abbrev pub is_hyphened : List ℕ → Bool
is_hyphened [] = false
is_hyphened (b ∷ bs) = b == 45

-- what stands behind this beginning of a text
abbrev pub behind : List ℕ → List ℕ → Option (List ℕ)
behind [] text = Some text
behind (b ∷ bs) [] = None
behind (b ∷ bs) (c ∷ cs) = if c == b then behind bs cs else None

-- a name is `-`, or doesn't begin with `-`
abbrev pub named_word : List ℕ → Word
named_word word = if not (is_hyphened word) || bytes_eq word (codes "-") then name_word word else unknown_word

-- the value of an option that a word gives with it, else what another word is
abbrev pub with_value : (imports save : Option (List ℕ)) → List ℕ → Word
with_value (Some text) save word = imports_with text
with_value None (Some text) word = save_with text
with_value None None word = named_word word

-- what a word is in front of `--`
abbrev pub word_of : List ℕ → Word
word_of word =
    if bytes_eq word (codes "--imports") then imports_word
    else (if bytes_eq word (codes "--save") then save_word
    else (if bytes_eq word (codes "--ignore-imports") then ignore_imports_word
    else (if bytes_eq word (codes "--ignore-indirect") then ignore_indirect_word
    else (if bytes_eq word (codes "--asserts") then asserts_word
    else (if bytes_eq word (codes "--") then end_word
    else with_value (behind (codes "--imports=") word) (behind (codes "--save=") word) word)))))

-- an option or a flag that was given before isn't given again
abbrev pub once : (before : Bool) → Said → Option Said
once true s = None
once false s = Some s

-- the files are three at most, IN before OUT before a third
abbrev pub say_file : (input output third : Option (List ℕ)) → List ℕ → Said → Option Said
say_file None output third name s = Some (record s { input = Some name })
say_file (Some input) None third name s = Some (record s { output = Some name })
say_file (Some input) (Some output) None name s = Some (record s { third = Some name })
say_file (Some input) (Some output) (Some third) name s = None

-- what is said with a word of this kind
abbrev pub say_word : Word → Said → Option Said
say_word imports_word s = Some (record s { place = behind_imports })
say_word (imports_with text) s = once (is_some s.imports) (record s { place = anywhere; imports = Some text })
say_word save_word s = Some (record s { place = behind_save })
say_word (save_with text) s = once (is_some s.save) (record s { place = anywhere; save = Some text })
say_word ignore_imports_word s = once s.ignore_imports (record s { ignore_imports = true })
say_word ignore_indirect_word s = once s.ignore_indirect (record s { ignore_indirect = true })
say_word asserts_word s = once s.asserts (record s { asserts = true })
say_word end_word s = Some (record s { place = behind_options })
say_word unknown_word s = None
say_word (name_word name) s = say_file s.input s.output s.third name s

-- a value in a word of its own doesn't begin with `-`
abbrev pub say_at : Place → List ℕ → Said → Option Said
say_at anywhere word s = say_word (word_of word) s
say_at behind_imports word s = if is_hyphened word then None else say_word (imports_with word) s
say_at behind_save word s = if is_hyphened word then None else say_word (save_with word) s
say_at behind_options word s = say_file s.input s.output s.third word s

-- the words from left to right
abbrev pub said : Option Said → List (List ℕ) → Option Said
said s [] = s
said s (word ∷ words) = said (option_and_then (λ (x : Said). say_at x.place word x) s) words

-- those of a LIST, where the text is one
abbrev pub listed_choice : Result (List Entry) ListError → Option Choice
listed_choice (Ok entries) = Some (of_list entries)
listed_choice (Err e) = None

-- Every import is listed, or none, or those of a LIST; one of the two options at most.
abbrev pub choice_said : Option (List ℕ) → Bool → Option Choice
choice_said None false = Some every
choice_said None true = Some nobody
choice_said (Some text) false = listed_choice (list_of text)
choice_said (Some text) true = None

-- Frames keep all locals, or those that are live: all where it isn't said.
abbrev pub policy_said : Option (List ℕ) → Option Policy
policy_said None = Some save_all
policy_said (Some text) = if bytes_eq text (codes "all") then Some save_all else (if bytes_eq text (codes "live") then Some save_live else None)

-- a `transform`, where its settings and both files are there
abbrev pub with_files : Option Choice → (ignore_indirect asserts : Bool) → Option Policy → Option (List ℕ) → Option (List ℕ) → Option Command
with_files (Some choice) ignore asserts (Some policy) (Some input) (Some output) =
    Some (transform (record { settings = record { choice = choice; ignore_indirect = ignore; policy = policy }; asserts = asserts }) input output)
with_files _ ignore asserts policy input output = None

-- nothing, where there is a third file
abbrev pub unless_third : {A : Type 0} → (third : Option (List ℕ)) → Option A → Option A
unless_third None spelled = spelled
unless_third (Some third) spelled = None

-- what was said is a `transform`, where no option still wants its value, and the files are two
abbrev pub transform_at : Place → Said → Option Command
transform_at behind_imports s = None
transform_at behind_save s = None
transform_at _ s = unless_third s.third (with_files (choice_said s.imports s.ignore_imports) s.ignore_indirect s.asserts (policy_said s.save) s.input s.output)

-- `transform [--imports LIST] [--ignore-imports] [--ignore-indirect] [--asserts] [--save all|live] IN OUT`: options stand
-- before, between and behind the files, each at most once; a value is the next word or follows `=`; `--` ends the options.
abbrev pub command : List (List ℕ) → Option Command
command [] = None
command (word ∷ words) = if bytes_eq word (codes "transform") then option_and_then (λ (s : Said). transform_at s.place s) (said (Some nothing_said) words) else None

-- what holds of the manner and the two files where the words are a `transform`
abbrev pub OnTransform : Option Command → (Manner → List ℕ → List ℕ → Type 0) → Type 0
OnTransform None P = Unit {0}
OnTransform (Some (transform manner input output)) P = P manner input output
