-- What the words of a command tell one after another, as `clap` goes over them: an option of another command, or one more
-- file than the command takes, tells nothing at once, and the value `-` may stand in a word of its own.
use Rattle.std.proofs.Common.{◌≡◌, ◌∙◌, ℕ, List, [], ◌∷◌, Option, Some, None, IfSome, option_map, option_and_then, Bool, true, false, not, ◌&&◌, refl, sym, ap, codes, bytes_eq, if◌then◌else◌, is_some, true≢false, ◌||◌}
use Rattle.std.proofs.lemmas.Slice.Eq.{bytes_eq-Decides}
use Rattle.wa_types.specs.Pausing.{Choice}
use Rattle.script_model.specs.Command.{Command, Said, Place, anywhere, behind_imports, behind_save, behind_options, Word, imports_word, save_word, ignore_imports_word, ignore_indirect_word, asserts_word, end_word, unknown_word, imports_with, save_with, name_word, word_of, is_hyphened, said, say_at, say_word, once, say_file, unless_third, transform_at, with_files, choice_said, policy_said}
use Rattle.script_model.specs.Spelled.{Spelled, rewrites, hosts, runs, files_alone, is_plain, one_file, two_files, number_and_file, script_and_snap, script_events_snap}
use Rattle.command_words.specs.Grammar.{Kind, transform_words, host_words, run_words, gen_words, save_words, continue_words}

-- what the options and flags say, by whether they were given before
abbrev pub say_imports : Option (List ℕ) → List ℕ → Said → Option Said
say_imports earlier text s = once (is_some earlier) (record s { place = anywhere; imports = Some text })

abbrev pub say_save : Option (List ℕ) → List ℕ → Said → Option Said
say_save earlier text s = once (is_some earlier) (record s { place = anywhere; save = Some text })

abbrev pub say_ignore_imports : Bool → Said → Option Said
say_ignore_imports before s = once before (record s { ignore_imports = true })

abbrev pub say_ignore_indirect : Bool → Said → Option Said
say_ignore_indirect before s = once before (record s { ignore_indirect = true })

abbrev pub say_asserts : Bool → Said → Option Said
say_asserts before s = once before (record s { asserts = true })

abbrev pub one_at_most : Option (List ℕ) → List ℕ → Said → Option Said
one_at_most None name s = Some (record s { input = Some name })
one_at_most (Some input) name s = None

abbrev pub two_at_most : (input output : Option (List ℕ)) → List ℕ → Said → Option Said
two_at_most None output name s = Some (record s { input = Some name })
two_at_most (Some input) None name s = Some (record s { output = Some name })
two_at_most (Some input) (Some output) name s = None

abbrev pub tell_file : Kind → List ℕ → Said → Option Said
tell_file transform_words name s = two_at_most s.input s.output name s
tell_file host_words name s = one_at_most s.input name s
tell_file run_words name s = one_at_most s.input name s
tell_file gen_words name s = two_at_most s.input s.output name s
tell_file save_words name s = say_file s.input s.output s.third name s
tell_file continue_words name s = two_at_most s.input s.output name s

-- an option, where the command has them
abbrev pub tell_option : Kind → Word → Said → Option Said
tell_option transform_words word s = say_word word s
tell_option _ word s = None

abbrev pub tell_word : Kind → Word → Said → Option Said
tell_word k (name_word name) s = tell_file k name s
tell_word k end_word s = Some (record s { place = behind_options })
tell_word k word s = tell_option k word s

-- the options with a value
pub data Valued : Type 0 where
  list_option save_option : Valued

abbrev pub say_value : Valued → List ℕ → Said → Option Said
say_value list_option text s = say_imports s.imports text s
say_value save_option text s = say_save s.save text s

abbrev pub tell_value : Valued → List ℕ → Said → Option Said
tell_value v word s = if is_hyphened word && not (bytes_eq word (codes "-")) then None else say_value v word s

abbrev pub tell_valued : Kind → Valued → List ℕ → Said → Option Said
tell_valued transform_words v word s = tell_value v word s
tell_valued _ v word s = None

abbrev pub tell_at : Kind → Place → List ℕ → Said → Option Said
tell_at k anywhere word s = tell_word k (word_of word) s
tell_at k behind_imports word s = tell_valued k list_option word s
tell_at k behind_save word s = tell_valued k save_option word s
tell_at k behind_options word s = tell_file k word s

abbrev pub tell : Kind → List ℕ → Option Said → Option Said
tell k word None = None
tell k word (Some s) = tell_at k s.place word s

abbrev pub told : Kind → Option Said → List (List ℕ) → Option Said
told k s [] = s
told k s (word ∷ words) = told k (tell k word s) words

pub told_none : (k : Kind) (words : List (List ℕ)) → told k None words ≡ None
told_none k [] = refl
told_none k (word ∷ words) = told_none k words

said_none : (words : List (List ℕ)) → said None words ≡ None
said_none [] = refl
said_none (word ∷ words) = said_none words

-- what the words of a command spell, by what they have said
abbrev pub spells : Kind → Option Said → Option Spelled
spells transform_words s = option_map rewrites (option_and_then (λ (x : Said). transform_at x.place x) s)
spells host_words s = files_alone (two_files (one_file hosts)) s
spells run_words s = files_alone (two_files (one_file runs)) s
spells gen_words s = files_alone (two_files number_and_file) s
spells save_words s = files_alone script_events_snap s
spells continue_words s = files_alone (two_files script_and_snap) s

-- ---- the value `-` is no LIST and no policy

pub data HasDash (s : Said) : Type 0 where
  lists_dash : s.imports ≡ Some (codes "-") → HasDash s
  saves_dash : s.save ≡ Some (codes "-") → HasDash s

-- another said that has the values of this one
dash_stays : (s t : Said) → t.imports ≡ s.imports → t.save ≡ s.save → HasDash s → HasDash t
dash_stays s t e f (lists_dash h) = lists_dash (e ∙ h)
dash_stays s t e f (saves_dash h) = saves_dash (f ∙ h)

dash_file : (input output : Option (List ℕ)) (name : List ℕ) (s : Said) → HasDash s → IfSome (two_at_most input output name s) HasDash
dash_file None output name s h = dash_stays s (record s { input = Some name }) refl refl h
dash_file (Some input) None name s h = dash_stays s (record s { output = Some name }) refl refl h
dash_file (Some input) (Some output) name s h = tt

dash_imports : (imports : Option (List ℕ)) (text : List ℕ) (s : Said) → s.imports ≡ imports → HasDash s → IfSome (say_imports imports text s) HasDash
dash_imports None text s e (lists_dash h) = absurd (true≢false (sym (ap is_some (sym e ∙ h))))
dash_imports None text s e (saves_dash h) = saves_dash h
dash_imports (Some earlier) text s e h = tt

dash_save : (save : Option (List ℕ)) (text : List ℕ) (s : Said) → s.save ≡ save → HasDash s → IfSome (say_save save text s) HasDash
dash_save None text s e (lists_dash h) = lists_dash h
dash_save None text s e (saves_dash h) = absurd (true≢false (sym (ap is_some (sym e ∙ h))))
dash_save (Some earlier) text s e h = tt

dash_value : (v : Valued) (text : List ℕ) (s : Said) → HasDash s → IfSome (say_value v text s) HasDash
dash_value list_option text s h = dash_imports s.imports text s refl h
dash_value save_option text s h = dash_save s.save text s refl h

dash_word : (word : Word) (s : Said) → HasDash s → IfSome (tell_word transform_words word s) HasDash
dash_word imports_word s h = dash_stays s (record s { place = behind_imports }) refl refl h
dash_word save_word s h = dash_stays s (record s { place = behind_save }) refl refl h
dash_word ignore_imports_word s h = go s.ignore_imports
  where
    go : (b : Bool) → IfSome (say_ignore_imports b s) HasDash
    go true = tt
    go false = dash_stays s (record s { ignore_imports = true }) refl refl h
dash_word ignore_indirect_word s h = go s.ignore_indirect
  where
    go : (b : Bool) → IfSome (say_ignore_indirect b s) HasDash
    go true = tt
    go false = dash_stays s (record s { ignore_indirect = true }) refl refl h
dash_word asserts_word s h = go s.asserts
  where
    go : (b : Bool) → IfSome (say_asserts b s) HasDash
    go true = tt
    go false = dash_stays s (record s { asserts = true }) refl refl h
dash_word end_word s h = dash_stays s (record s { place = behind_options }) refl refl h
dash_word unknown_word s h = tt
dash_word (imports_with text) s h = dash_value list_option text s h
dash_word (save_with text) s h = dash_value save_option text s h
dash_word (name_word name) s h = dash_file s.input s.output name s h

dash_told : (v : Valued) (word : List ℕ) (s : Said) → HasDash s → IfSome (tell_value v word s) HasDash
dash_told v word s h = go (is_hyphened word && not (bytes_eq word (codes "-")))
  where
    go : (b : Bool) → IfSome (if b then None else say_value v word s) HasDash
    go true = tt
    go false = dash_value v word s h

dash_at : (place : Place) (word : List ℕ) (s : Said) → HasDash s → IfSome (tell_at transform_words place word s) HasDash
dash_at anywhere word s h = dash_word (word_of word) s h
dash_at behind_imports word s h = dash_told list_option word s h
dash_at behind_save word s h = dash_told save_option word s h
dash_at behind_options word s h = dash_file s.input s.output word s h

no_choice : (ignored : Bool) → choice_said (Some (codes "-")) ignored ≡ None
no_choice true = refl
no_choice false = refl

no_policy : (c : Option Choice) (ignore asserts : Bool) (input output : Option (List ℕ)) → with_files c ignore asserts None input output ≡ None
no_policy None ignore asserts input output = refl
no_policy (Some c) ignore asserts input output = refl

-- what is spelled at the end, by the two values
abbrev spelled_by : (imports save : Option (List ℕ)) → Said → Option Command
spelled_by imports save s = with_files (choice_said imports s.ignore_imports) s.ignore_indirect s.asserts (policy_said save) s.input s.output

dash_none : (s : Said) → HasDash s → spelled_by s.imports s.save s ≡ None
dash_none s (lists_dash h) =
    ap (λ (i : Option (List ℕ)). spelled_by i s.save s) h
    ∙ ap (λ c. with_files c s.ignore_indirect s.asserts (policy_said s.save) s.input s.output) (no_choice s.ignore_imports)
dash_none s (saves_dash h) =
    ap (λ (v : Option (List ℕ)). spelled_by s.imports v s) h
    ∙ no_policy (choice_said s.imports s.ignore_imports) s.ignore_indirect s.asserts s.input s.output

nothing_either : {A : Type 0} (third : Option (List ℕ)) → unless_third {A = A} third None ≡ None
nothing_either None = refl
nothing_either (Some name) = refl

dash_spelled : (s : Said) → HasDash s → option_map rewrites (unless_third s.third (spelled_by s.imports s.save s)) ≡ None
dash_spelled s h = ap (λ c. option_map rewrites (unless_third s.third c)) (dash_none s h) ∙ ap (option_map rewrites) (nothing_either s.third)

dash_ends : (place : Place) (s : Said) → HasDash s → option_map rewrites (transform_at place s) ≡ None
dash_ends anywhere s h = dash_spelled s h
dash_ends behind_imports s h = refl
dash_ends behind_save s h = refl
dash_ends behind_options s h = dash_spelled s h

dash_spells : (words : List (List ℕ)) (s : Option Said) → IfSome s HasDash → spells transform_words (told transform_words s words) ≡ None
dash_spells [] None h = refl
dash_spells [] (Some s) h = dash_ends s.place s h
dash_spells (word ∷ words) None h = ap (spells transform_words) (told_none transform_words words)
dash_spells (word ∷ words) (Some s) h = dash_spells words (tell_at transform_words s.place word s) (dash_at s.place word s h)

-- ---- the commands of a script and of a number have no option, and the first have one file

-- the value of an option is owed
abbrev pub is_owed : Place → Bool
is_owed behind_imports = true
is_owed behind_save = true
is_owed _ = false

-- an option was said, or its value is owed
pub data HasOption (s : Said) : Type 0 where
  owes : is_owed s.place ≡ true → HasOption s
  lists : is_some s.imports ≡ true → HasOption s
  saves : is_some s.save ≡ true → HasOption s
  ignores_imports : s.ignore_imports ≡ true → HasOption s
  ignores_indirect : s.ignore_indirect ≡ true → HasOption s
  wants_asserts : s.asserts ≡ true → HasOption s

-- another said that has what this one has
option_stays : (s t : Said) → t.place ≡ s.place → t.imports ≡ s.imports → t.save ≡ s.save → t.ignore_imports ≡ s.ignore_imports → t.ignore_indirect ≡ s.ignore_indirect → t.asserts ≡ s.asserts
    → HasOption s → HasOption t
option_stays s t p i v a b c (owes h) = owes (ap is_owed p ∙ h)
option_stays s t p i v a b c (lists h) = lists (ap is_some i ∙ h)
option_stays s t p i v a b c (saves h) = saves (ap is_some v ∙ h)
option_stays s t p i v a b c (ignores_imports h) = ignores_imports (a ∙ h)
option_stays s t p i v a b c (ignores_indirect h) = ignores_indirect (b ∙ h)
option_stays s t p i v a b c (wants_asserts h) = wants_asserts (c ∙ h)

option_file : (input output third : Option (List ℕ)) (name : List ℕ) (s : Said) → HasOption s → IfSome (say_file input output third name s) HasOption
option_file None output third name s h = option_stays s (record s { input = Some name }) refl refl refl refl refl refl h
option_file (Some input) None third name s h = option_stays s (record s { output = Some name }) refl refl refl refl refl refl h
option_file (Some input) (Some output) None name s h = option_stays s (record s { third = Some name }) refl refl refl refl refl refl h
option_file (Some input) (Some output) (Some third) name s h = tt

option_imports : (imports : Option (List ℕ)) (text : List ℕ) (s : Said) → IfSome (say_imports imports text s) HasOption
option_imports None text s = lists refl
option_imports (Some earlier) text s = tt

option_save : (save : Option (List ℕ)) (text : List ℕ) (s : Said) → IfSome (say_save save text s) HasOption
option_save None text s = saves refl
option_save (Some earlier) text s = tt

option_value : (v : Valued) (text : List ℕ) (s : Said) → IfSome (say_value v text s) HasOption
option_value list_option text s = option_imports s.imports text s
option_value save_option text s = option_save s.save text s

-- the place is one where options may stand
option_word : (word : Word) (s : Said) → s.place ≡ anywhere → HasOption s → IfSome (say_word word s) HasOption
option_word imports_word s at h = owes refl
option_word save_word s at h = owes refl
option_word ignore_imports_word s at h = go s.ignore_imports
  where
    go : (b : Bool) → IfSome (say_ignore_imports b s) HasOption
    go true = tt
    go false = ignores_imports refl
option_word ignore_indirect_word s at h = go s.ignore_indirect
  where
    go : (b : Bool) → IfSome (say_ignore_indirect b s) HasOption
    go true = tt
    go false = ignores_indirect refl
option_word asserts_word s at h = go s.asserts
  where
    go : (b : Bool) → IfSome (say_asserts b s) HasOption
    go true = tt
    go false = wants_asserts refl
option_word end_word s at (owes h) = absurd (true≢false (sym h ∙ ap is_owed at))
option_word end_word s at (lists h) = lists h
option_word end_word s at (saves h) = saves h
option_word end_word s at (ignores_imports h) = ignores_imports h
option_word end_word s at (ignores_indirect h) = ignores_indirect h
option_word end_word s at (wants_asserts h) = wants_asserts h
option_word unknown_word s at h = tt
option_word (imports_with text) s at h = option_value list_option text s
option_word (save_with text) s at h = option_value save_option text s
option_word (name_word name) s at h = option_file s.input s.output s.third name s h

-- a value in a word of its own
option_said : (v : Valued) (word : List ℕ) (s : Said) → IfSome (if is_hyphened word then None else say_value v word s) HasOption
option_said v word s = go (is_hyphened word)
  where
    go : (b : Bool) → IfSome (if b then None else say_value v word s) HasOption
    go true = tt
    go false = option_value v word s

option_at : (place : Place) (word : List ℕ) (s : Said) → s.place ≡ place → HasOption s → IfSome (say_at place word s) HasOption
option_at anywhere word s at h = option_word (word_of word) s at h
option_at behind_imports word s at h = option_said list_option word s
option_at behind_save word s at h = option_said save_option word s
option_at behind_options word s at h = option_file s.input s.output s.third word s h

or_true : (b : Bool) → (b || true) ≡ true
or_true true = refl
or_true false = refl

-- one of six holds
abbrev one_holds : (owed list save imports indirect asserts : Bool) → Bool
one_holds owed list save imports indirect asserts = ((((owed || list) || save) || imports) || indirect) || asserts

some_option : (s : Said) → HasOption s → one_holds (is_owed s.place) (is_some s.imports) (is_some s.save) s.ignore_imports s.ignore_indirect s.asserts ≡ true
some_option s (owes h) = ap (λ (b : Bool). one_holds b (is_some s.imports) (is_some s.save) s.ignore_imports s.ignore_indirect s.asserts) h
some_option s (lists h) =
    ap (λ (b : Bool). one_holds (is_owed s.place) b (is_some s.save) s.ignore_imports s.ignore_indirect s.asserts) h
    ∙ ap (λ (b : Bool). (((b || is_some s.save) || s.ignore_imports) || s.ignore_indirect) || s.asserts) (or_true (is_owed s.place))
some_option s (saves h) =
    ap (λ (b : Bool). one_holds (is_owed s.place) (is_some s.imports) b s.ignore_imports s.ignore_indirect s.asserts) h
    ∙ ap (λ (b : Bool). ((b || s.ignore_imports) || s.ignore_indirect) || s.asserts) (or_true (is_owed s.place || is_some s.imports))
some_option s (ignores_imports h) =
    ap (λ (b : Bool). one_holds (is_owed s.place) (is_some s.imports) (is_some s.save) b s.ignore_indirect s.asserts) h
    ∙ ap (λ (b : Bool). (b || s.ignore_indirect) || s.asserts) (or_true ((is_owed s.place || is_some s.imports) || is_some s.save))
some_option s (ignores_indirect h) =
    ap (λ (b : Bool). one_holds (is_owed s.place) (is_some s.imports) (is_some s.save) s.ignore_imports b s.asserts) h
    ∙ ap (λ (b : Bool). b || s.asserts) (or_true (((is_owed s.place || is_some s.imports) || is_some s.save) || s.ignore_imports))
some_option s (wants_asserts h) =
    ap (λ (b : Bool). one_holds (is_owed s.place) (is_some s.imports) (is_some s.save) s.ignore_imports s.ignore_indirect b) h
    ∙ or_true ((((is_owed s.place || is_some s.imports) || is_some s.save) || s.ignore_imports) || s.ignore_indirect)

plain_by : (p : Place) (i v : Option (List ℕ)) (a b c : Bool) → one_holds (is_owed p) (is_some i) (is_some v) a b c ≡ true → is_plain p i v a b c ≡ false
plain_by behind_imports i v a b c e = refl
plain_by behind_save i v a b c e = refl
plain_by anywhere (Some t) v a b c e = refl
plain_by anywhere None (Some t) a b c e = refl
plain_by anywhere None None true b c e = refl
plain_by anywhere None None false true c e = refl
plain_by anywhere None None false false true e = refl
plain_by anywhere None None false false false e = absurd (true≢false (sym e))
plain_by behind_options (Some t) v a b c e = refl
plain_by behind_options None (Some t) a b c e = refl
plain_by behind_options None None true b c e = refl
plain_by behind_options None None false true c e = refl
plain_by behind_options None None false false true e = refl
plain_by behind_options None None false false false e = absurd (true≢false (sym e))

not_plain : (s : Said) → HasOption s → is_plain s.place s.imports s.save s.ignore_imports s.ignore_indirect s.asserts ≡ false
not_plain s h = plain_by s.place s.imports s.save s.ignore_imports s.ignore_indirect s.asserts (some_option s h)

-- behind an option the words of such a command spell nothing
option_spells : (spell : (input output third : Option (List ℕ)) → Option Spelled) (words : List (List ℕ)) (s : Option Said) → IfSome s HasOption → files_alone spell (said s words) ≡ None
option_spells spell [] None h = refl
option_spells spell [] (Some s) h = ap (λ (b : Bool). if b then spell s.input s.output s.third else None) (not_plain s h)
option_spells spell (word ∷ words) None h = ap (files_alone spell) (said_none words)
option_spells spell (word ∷ words) (Some s) h = option_spells spell words (say_at s.place word s) (option_at s.place word s refl h)

-- ---- one file too many

-- the word names no file
abbrev IsNoName : Word → Type 0
IsNoName (name_word name) = ⊥
IsNoName _ = Unit {0}

-- what the files alone decide stays behind every other word
module _ (P : Said → Type 0) (stays : (s t : Said) → t.input ≡ s.input → t.output ≡ s.output → t.third ≡ s.third → P s → P t) where
  kept_imports : (imports : Option (List ℕ)) (text : List ℕ) (s : Said) → P s → IfSome (say_imports imports text s) P
  kept_imports None text s h = stays s (record s { place = anywhere; imports = Some text }) refl refl refl h
  kept_imports (Some earlier) text s h = tt

  kept_save : (save : Option (List ℕ)) (text : List ℕ) (s : Said) → P s → IfSome (say_save save text s) P
  kept_save None text s h = stays s (record s { place = anywhere; save = Some text }) refl refl refl h
  kept_save (Some earlier) text s h = tt

  kept_value : (v : Valued) (text : List ℕ) (s : Said) → P s → IfSome (say_value v text s) P
  kept_value list_option text s h = kept_imports s.imports text s h
  kept_value save_option text s h = kept_save s.save text s h

  kept_option : (word : Word) (s : Said) → IsNoName word → P s → IfSome (say_word word s) P
  kept_option imports_word s plain h = stays s (record s { place = behind_imports }) refl refl refl h
  kept_option save_word s plain h = stays s (record s { place = behind_save }) refl refl refl h
  kept_option ignore_imports_word s plain h = go s.ignore_imports
    where
      go : (b : Bool) → IfSome (say_ignore_imports b s) P
      go true = tt
      go false = stays s (record s { ignore_imports = true }) refl refl refl h
  kept_option ignore_indirect_word s plain h = go s.ignore_indirect
    where
      go : (b : Bool) → IfSome (say_ignore_indirect b s) P
      go true = tt
      go false = stays s (record s { ignore_indirect = true }) refl refl refl h
  kept_option asserts_word s plain h = go s.asserts
    where
      go : (b : Bool) → IfSome (say_asserts b s) P
      go true = tt
      go false = stays s (record s { asserts = true }) refl refl refl h
  kept_option end_word s plain h = stays s (record s { place = behind_options }) refl refl refl h
  kept_option unknown_word s plain h = tt
  kept_option (imports_with text) s plain h = kept_value list_option text s h
  kept_option (save_with text) s plain h = kept_value save_option text s h
  kept_option (name_word name) s plain h = absurd plain

  -- a value in a word of its own
  kept_told : (v : Valued) (word : List ℕ) (s : Said) → (barred : Bool) → P s → IfSome (if barred then None else say_value v word s) P
  kept_told v word s true h = tt
  kept_told v word s false h = kept_value v word s h

  module _ (file : (name : List ℕ) (s : Said) → P s → IfSome (say_file s.input s.output s.third name s) P) where
    kept_word : (word : Word) (s : Said) → P s → IfSome (say_word word s) P
    kept_word imports_word s h = kept_option imports_word s tt h
    kept_word save_word s h = kept_option save_word s tt h
    kept_word ignore_imports_word s h = kept_option ignore_imports_word s tt h
    kept_word ignore_indirect_word s h = kept_option ignore_indirect_word s tt h
    kept_word asserts_word s h = kept_option asserts_word s tt h
    kept_word end_word s h = kept_option end_word s tt h
    kept_word unknown_word s h = tt
    kept_word (imports_with text) s h = kept_option (imports_with text) s tt h
    kept_word (save_with text) s h = kept_option (save_with text) s tt h
    kept_word (name_word name) s h = file name s h

    kept_at : (place : Place) (word : List ℕ) (s : Said) → P s → IfSome (say_at place word s) P
    kept_at anywhere word s h = kept_word (word_of word) s h
    kept_at behind_imports word s h = kept_told list_option word s (is_hyphened word) h
    kept_at behind_save word s h = kept_told save_option word s (is_hyphened word) h
    kept_at behind_options word s h = file word s h

    -- where such files spell nothing, nothing is spelled behind them
    kept_spells : (k : Kind) → ((s : Said) → P s → spells k (Some s) ≡ None) → (nothing : spells k None ≡ None)
        → (words : List (List ℕ)) (s : Option Said) → IfSome s P → spells k (said s words) ≡ None
    kept_spells k ends nothing [] None h = nothing
    kept_spells k ends nothing [] (Some s) h = ends s h
    kept_spells k ends nothing (word ∷ words) None h = ap (spells k) (said_none words) ∙ nothing
    kept_spells k ends nothing (word ∷ words) (Some s) h = kept_spells k ends nothing words (say_at s.place word s) (kept_at s.place word s h)

-- a second file
abbrev HasSecond : Said → Type 0
HasSecond s = (is_some s.input ≡ true) × (is_some s.output ≡ true)

second_stays : (s t : Said) → t.input ≡ s.input → t.output ≡ s.output → t.third ≡ s.third → HasSecond s → HasSecond t
second_stays s t i o u h = (ap is_some i ∙ h.0, ap is_some o ∙ h.1)

second_file : (name : List ℕ) (s : Said) → HasSecond s → IfSome (say_file s.input s.output s.third name s) HasSecond
second_file name s h = go s.input s.output s.third h.0 h.1
  where
    go : (input output third : Option (List ℕ)) → is_some input ≡ true → is_some output ≡ true → IfSome (say_file input output third name s) HasSecond
    go None output third i o = absurd (true≢false (sym i))
    go (Some input) None third i o = absurd (true≢false (sym o))
    go (Some input) (Some output) None i o = h
    go (Some input) (Some output) (Some third) i o = tt

-- .. is one too many behind a script
no_script : (spell : List ℕ → Spelled) (plain : Bool) (input output third : Option (List ℕ)) → is_some output ≡ true → (if plain then two_files (one_file spell) input output third else None) ≡ None
no_script spell false input output third h = refl
no_script spell true None output third h = nothing_either third
no_script spell true (Some input) None third h = absurd (true≢false (sym h))
no_script spell true (Some input) (Some output) third h = nothing_either third

-- a third file
abbrev HasThird : Said → Type 0
HasThird s = HasSecond s × (is_some s.third ≡ true)

third_stays : (s t : Said) → t.input ≡ s.input → t.output ≡ s.output → t.third ≡ s.third → HasThird s → HasThird t
third_stays s t i o u h = (second_stays s t i o u h.0, ap is_some u ∙ h.1)

third_file : (name : List ℕ) (s : Said) → HasThird s → IfSome (say_file s.input s.output s.third name s) HasThird
third_file name s h = go s.input s.output s.third h.0.0 h.0.1 h.1
  where
    go : (input output third : Option (List ℕ)) → is_some input ≡ true → is_some output ≡ true → is_some third ≡ true → IfSome (say_file input output third name s) HasThird
    go None output third i o u = absurd (true≢false (sym i))
    go (Some input) None third i o u = absurd (true≢false (sym o))
    go (Some input) (Some output) None i o u = absurd (true≢false (sym u))
    go (Some input) (Some output) (Some third) i o u = tt

-- .. is one too many where there are two
unless_some : {A : Type 0} (third : Option (List ℕ)) (o : Option A) → is_some third ≡ true → unless_third third o ≡ None
unless_some None o h = absurd (true≢false (sym h))
unless_some (Some third) o h = refl

no_third : (spell : (input output : Option (List ℕ)) → Option Spelled) (plain : Bool) (input output third : Option (List ℕ)) → is_some third ≡ true
    → (if plain then two_files spell input output third else None) ≡ None
no_third spell false input output third h = refl
no_third spell true input output third h = unless_some third (spell input output) h

no_more : (place : Place) (s : Said) → is_some s.third ≡ true → option_map rewrites (transform_at place s) ≡ None
no_more anywhere s h = ap (option_map rewrites) (unless_some s.third (spelled_by s.imports s.save s) h)
no_more behind_imports s h = refl
no_more behind_save s h = refl
no_more behind_options s h = ap (option_map rewrites) (unless_some s.third (spelled_by s.imports s.save s) h)

-- ---- what is told and what is said spell the same

spells_none : (k : Kind) → spells k None ≡ None
spells_none transform_words = refl
spells_none host_words = refl
spells_none run_words = refl
spells_none gen_words = refl
spells_none save_words = refl
spells_none continue_words = refl

-- What is said and what is told are alike, or one of them is nothing and the other comes to nothing.
data Agree (k : Kind) (o o' : Option Said) : Type 0 where
  alike : o ≡ o' → Agree k o o'
  beyond : o' ≡ None → ((words : List (List ℕ)) → spells k (said o words) ≡ None) → Agree k o o'
  dashed : o ≡ None → ((words : List (List ℕ)) → spells k (told k o' words) ≡ None) → Agree k o o'

-- the command has no options
abbrev pub IsOther : Kind → Type 0
IsOther transform_words = ⊥
IsOther _ = Unit {0}

no_option : (k : Kind) → IsOther k → (word : Word) (s : Said) → tell_option k word s ≡ None
no_option transform_words other word s = absurd other
no_option host_words other word s = refl
no_option run_words other word s = refl
no_option gen_words other word s = refl
no_option save_words other word s = refl
no_option continue_words other word s = refl

no_value : (k : Kind) → IsOther k → (v : Valued) (word : List ℕ) (s : Said) → tell_valued k v word s ≡ None
no_value transform_words other v word s = absurd other
no_value host_words other v word s = refl
no_value run_words other v word s = refl
no_value gen_words other v word s = refl
no_value save_words other v word s = refl
no_value continue_words other v word s = refl

beyond_option : (k : Kind) → IsOther k → (o : Option Said) → IfSome o HasOption → (words : List (List ℕ)) → spells k (said o words) ≡ None
beyond_option transform_words other o h words = absurd other
beyond_option host_words other o h words = option_spells (two_files (one_file hosts)) words o h
beyond_option run_words other o h words = option_spells (two_files (one_file runs)) words o h
beyond_option gen_words other o h words = option_spells (two_files number_and_file) words o h
beyond_option save_words other o h words = option_spells script_events_snap words o h
beyond_option continue_words other o h words = option_spells (two_files script_and_snap) words o h

-- the command is of one file
abbrev IsShort : Kind → Type 0
IsShort host_words = Unit {0}
IsShort run_words = Unit {0}
IsShort _ = ⊥

-- .. of two
abbrev IsLong : Kind → Type 0
IsLong host_words = ⊥
IsLong run_words = ⊥
IsLong save_words = ⊥
IsLong _ = Unit {0}

no_second : (k : Kind) → IsShort k → (s : Said) → HasSecond s → spells k (Some s) ≡ None
no_second transform_words short s h = absurd short
no_second host_words short s h = no_script hosts (is_plain s.place s.imports s.save s.ignore_imports s.ignore_indirect s.asserts) s.input s.output s.third h.1
no_second run_words short s h = no_script runs (is_plain s.place s.imports s.save s.ignore_imports s.ignore_indirect s.asserts) s.input s.output s.third h.1
no_second gen_words short s h = absurd short
no_second save_words short s h = absurd short
no_second continue_words short s h = absurd short

none_past : (k : Kind) → IsLong k → (s : Said) → HasThird s → spells k (Some s) ≡ None
none_past transform_words long s h = no_more s.place s h.1
none_past host_words long s h = absurd long
none_past run_words long s h = absurd long
none_past gen_words long s h = no_third number_and_file (is_plain s.place s.imports s.save s.ignore_imports s.ignore_indirect s.asserts) s.input s.output s.third h.1
none_past save_words long s h = absurd long
none_past continue_words long s h = no_third script_and_snap (is_plain s.place s.imports s.save s.ignore_imports s.ignore_indirect s.asserts) s.input s.output s.third h.1

second_spells : (k : Kind) → IsShort k → (s : Said) → HasSecond s → (words : List (List ℕ)) → spells k (said (Some s) words) ≡ None
second_spells k short s h words = kept_spells HasSecond second_stays second_file k (no_second k short) (spells_none k) words (Some s) h

third_spells : (k : Kind) → IsLong k → (s : Said) → HasThird s → (words : List (List ℕ)) → spells k (said (Some s) words) ≡ None
third_spells k long s h words = kept_spells HasThird third_stays third_file k (none_past k long) (spells_none k) words (Some s) h

short_file : (k : Kind) → IsShort k → (s : Said) (name : List ℕ) (input output third : Option (List ℕ)) → s.input ≡ input → s.output ≡ output
    → Agree k (say_file input output third name s) (one_at_most input name s)
short_file k short s name None output third e f = alike refl
short_file k short s name (Some input) None third e f = beyond refl (second_spells k short (record s { output = Some name }) (ap is_some e, refl))
short_file k short s name (Some input) (Some output) None e f = beyond refl (second_spells k short (record s { third = Some name }) (ap is_some e, ap is_some f))
short_file k short s name (Some input) (Some output) (Some third) e f = alike refl

long_file : (k : Kind) → IsLong k → (s : Said) (name : List ℕ) (input output third : Option (List ℕ)) → s.input ≡ input → s.output ≡ output
    → Agree k (say_file input output third name s) (two_at_most input output name s)
long_file k long s name None output third e f = alike refl
long_file k long s name (Some input) None third e f = alike refl
long_file k long s name (Some input) (Some output) None e f = beyond refl (third_spells k long (record s { third = Some name }) ((ap is_some e, ap is_some f), refl))
long_file k long s name (Some input) (Some output) (Some third) e f = alike refl

file_agrees : (k : Kind) (name : List ℕ) (s : Said) → Agree k (say_file s.input s.output s.third name s) (tell_file k name s)
file_agrees transform_words name s = long_file transform_words tt s name s.input s.output s.third refl refl
file_agrees host_words name s = short_file host_words tt s name s.input s.output s.third refl refl
file_agrees run_words name s = short_file run_words tt s name s.input s.output s.third refl refl
file_agrees gen_words name s = long_file gen_words tt s name s.input s.output s.third refl refl
file_agrees save_words name s = alike refl
file_agrees continue_words name s = long_file continue_words tt s name s.input s.output s.third refl refl

other_word : (k : Kind) → IsOther k → (word : Word) (s : Said) → Agree k (say_word word s) (tell_word k word s)
other_word k other imports_word s = beyond (no_option k other imports_word s) (beyond_option k other (Some (record s { place = behind_imports })) (owes refl))
other_word k other save_word s = beyond (no_option k other save_word s) (beyond_option k other (Some (record s { place = behind_save })) (owes refl))
other_word k other ignore_imports_word s = beyond (no_option k other ignore_imports_word s) (beyond_option k other (say_ignore_imports s.ignore_imports s) (go s.ignore_imports))
  where
    go : (b : Bool) → IfSome (say_ignore_imports b s) HasOption
    go true = tt
    go false = ignores_imports refl
other_word k other ignore_indirect_word s = beyond (no_option k other ignore_indirect_word s) (beyond_option k other (say_ignore_indirect s.ignore_indirect s) (go s.ignore_indirect))
  where
    go : (b : Bool) → IfSome (say_ignore_indirect b s) HasOption
    go true = tt
    go false = ignores_indirect refl
other_word k other asserts_word s = beyond (no_option k other asserts_word s) (beyond_option k other (say_asserts s.asserts s) (go s.asserts))
  where
    go : (b : Bool) → IfSome (say_asserts b s) HasOption
    go true = tt
    go false = wants_asserts refl
other_word k other end_word s = alike refl
other_word k other unknown_word s = alike (sym (no_option k other unknown_word s))
other_word k other (imports_with text) s = beyond (no_option k other (imports_with text) s) (beyond_option k other (say_value list_option text s) (option_value list_option text s))
other_word k other (save_with text) s = beyond (no_option k other (save_with text) s) (beyond_option k other (say_value save_option text s) (option_value save_option text s))
other_word k other (name_word name) s = file_agrees k name s

other_agrees : (k : Kind) → IsOther k → (place : Place) (word : List ℕ) (s : Said) → s.place ≡ place → Agree k (say_at place word s) (tell_at k place word s)
other_agrees k other anywhere word s at = other_word k other (word_of word) s
other_agrees k other behind_imports word s at = beyond (no_value k other list_option word s) (beyond_option k other (say_at behind_imports word s) (option_said list_option word s))
other_agrees k other behind_save word s at = beyond (no_value k other save_option word s) (beyond_option k other (say_at behind_save word s) (option_said save_option word s))
other_agrees k other behind_options word s at = file_agrees k word s

word_agrees : (word : Word) (s : Said) → Agree transform_words (say_word word s) (tell_word transform_words word s)
word_agrees imports_word s = alike refl
word_agrees save_word s = alike refl
word_agrees ignore_imports_word s = alike refl
word_agrees ignore_indirect_word s = alike refl
word_agrees asserts_word s = alike refl
word_agrees end_word s = alike refl
word_agrees unknown_word s = alike refl
word_agrees (imports_with text) s = alike refl
word_agrees (save_with text) s = alike refl
word_agrees (name_word name) s = file_agrees transform_words name s

imports_dash : (imports : Option (List ℕ)) (word : List ℕ) (s : Said) → word ≡ codes "-" → IfSome (say_imports imports word s) HasDash
imports_dash None word s e = lists_dash (ap Some e)
imports_dash (Some earlier) word s e = tt

save_dash : (save : Option (List ℕ)) (word : List ℕ) (s : Said) → word ≡ codes "-" → IfSome (say_save save word s) HasDash
save_dash None word s e = saves_dash (ap Some e)
save_dash (Some earlier) word s e = tt

says_dash : (v : Valued) (word : List ℕ) (s : Said) → word ≡ codes "-" → IfSome (say_value v word s) HasDash
says_dash list_option word s e = imports_dash s.imports word s e
says_dash save_option word s e = save_dash s.save word s e

value_agrees : (v : Valued) (word : List ℕ) (s : Said) → Agree transform_words (if is_hyphened word then None else say_value v word s) (tell_value v word s)
value_agrees v word s = go (is_hyphened word) (bytes_eq word (codes "-")) refl
  where
    go : (hyphened dash : Bool) → bytes_eq word (codes "-") ≡ dash
        → Agree transform_words (if hyphened then None else say_value v word s) (if hyphened && not dash then None else say_value v word s)
    go false dash e = alike refl
    go true false e = alike refl
    go true true e = dashed refl (λ words. dash_spells words (say_value v word s) (says_dash v word s ((bytes_eq-Decides word (codes "-")).0 e)))

transform_agrees : (place : Place) (word : List ℕ) (s : Said) → Agree transform_words (say_at place word s) (tell_at transform_words place word s)
transform_agrees anywhere word s = word_agrees (word_of word) s
transform_agrees behind_imports word s = value_agrees list_option word s
transform_agrees behind_save word s = value_agrees save_option word s
transform_agrees behind_options word s = file_agrees transform_words word s

step_agrees : (k : Kind) (word : List ℕ) (s : Said) → Agree k (say_at s.place word s) (tell_at k s.place word s)
step_agrees transform_words word s = transform_agrees s.place word s
step_agrees host_words word s = other_agrees host_words tt s.place word s refl
step_agrees run_words word s = other_agrees run_words tt s.place word s refl
step_agrees gen_words word s = other_agrees gen_words tt s.place word s refl
step_agrees save_words word s = other_agrees save_words tt s.place word s refl
step_agrees continue_words word s = other_agrees continue_words tt s.place word s refl

-- what is told by all the words spells what they say
pub agrees : (k : Kind) (words : List (List ℕ)) (o : Option Said) → spells k (said o words) ≡ spells k (told k o words)
agrees k [] o = refl
agrees k (word ∷ words) None = ap (spells k) (said_none words ∙ sym (told_none k words))
agrees k (word ∷ words) (Some s) = go (say_at s.place word s) (tell_at k s.place word s) (step_agrees k word s) (agrees k words (tell_at k s.place word s))
  where
    go : (o o' : Option Said) → Agree k o o' → spells k (said o' words) ≡ spells k (told k o' words) → spells k (said o words) ≡ spells k (told k o' words)
    go o o' (alike e) h = ap (λ (x : Option Said). spells k (said x words)) e ∙ h
    go o o' (beyond e f) h = f words ∙ sym (ap (λ (x : Option Said). spells k (told k x words)) e ∙ ap (spells k) (told_none k words) ∙ spells_none k)
    go o o' (dashed e f) h = ap (λ (x : Option Said). spells k (said x words)) e ∙ ap (spells k) (said_none words) ∙ spells_none k ∙ sym (f words)

-- ---- what a command without options tells

abbrev pub HasNone : Said → Type 0
HasNone s = (is_owed s.place ≡ false) × (s.imports ≡ None) × (s.save ≡ None) × (s.ignore_imports ≡ false) × (s.ignore_indirect ≡ false) × (s.asserts ≡ false)

abbrev pub HasNoThird : Said → Type 0
HasNoThird s = s.third ≡ None

no_third_stays : (s t : Said) → t.input ≡ s.input → t.output ≡ s.output → t.third ≡ s.third → HasNoThird s → HasNoThird t
no_third_stays s t i o u h = u ∙ h

abbrev pub Bare : Kind → Said → Type 0
Bare transform_words s = HasNoThird s
Bare host_words s = HasNone s × (s.output ≡ None) × HasNoThird s
Bare run_words s = HasNone s × (s.output ≡ None) × HasNoThird s
Bare gen_words s = HasNone s × HasNoThird s
Bare save_words s = HasNone s
Bare continue_words s = HasNone s × HasNoThird s

none_file : (input output third : Option (List ℕ)) (name : List ℕ) (s : Said) → HasNone s → IfSome (say_file input output third name s) HasNone
none_file None output third name s h = h
none_file (Some input) None third name s h = h
none_file (Some input) (Some output) None name s h = h
none_file (Some input) (Some output) (Some third) name s h = tt

one_only : (input : Option (List ℕ)) (name : List ℕ) (s : Said) → HasNone s → s.output ≡ None → HasNoThird s
    → IfSome (one_at_most input name s) (λ t. HasNone t × (t.output ≡ None) × HasNoThird t)
one_only None name s h o u = (h, o, u)
one_only (Some input) name s h o u = tt

two_only : (input output : Option (List ℕ)) (name : List ℕ) (s : Said) → HasNone s → HasNoThird s
    → IfSome (two_at_most input output name s) (λ t. HasNone t × HasNoThird t)
two_only None output name s h u = (h, u)
two_only (Some input) None name s h u = (h, u)
two_only (Some input) (Some output) name s h u = tt

bare_file : (k : Kind) (name : List ℕ) (s : Said) → Bare k s → IfSome (tell_file k name s) (Bare k)
bare_file transform_words name s h = go s.input s.output
  where
    go : (input output : Option (List ℕ)) → IfSome (two_at_most input output name s) (Bare transform_words)
    go None output = h
    go (Some input) None = h
    go (Some input) (Some output) = tt
bare_file host_words name s h = one_only s.input name s h.0 h.1 h.2
bare_file run_words name s h = one_only s.input name s h.0 h.1 h.2
bare_file gen_words name s h = two_only s.input s.output name s h.0 h.1
bare_file save_words name s h = none_file s.input s.output s.third name s h
bare_file continue_words name s h = two_only s.input s.output name s h.0 h.1

none_at_end : (s : Said) → HasNone s → HasNone (record s { place = behind_options })
none_at_end s h = (refl, h.1, h.2, h.3, h.4, h.5)

at_end : (k : Kind) (s : Said) → Bare k s → Bare k (record s { place = behind_options })
at_end transform_words s h = h
at_end host_words s h = (none_at_end s h.0, h.1, h.2)
at_end run_words s h = (none_at_end s h.0, h.1, h.2)
at_end gen_words s h = (none_at_end s h.0, h.1)
at_end save_words s h = none_at_end s h
at_end continue_words s h = (none_at_end s h.0, h.1)

bare_option : (k : Kind) (word : Word) (s : Said) → IsNoName word → Bare k s → IfSome (tell_option k word s) (Bare k)
bare_option transform_words word s plain h = kept_option HasNoThird no_third_stays word s plain h
bare_option host_words word s plain h = tt
bare_option run_words word s plain h = tt
bare_option gen_words word s plain h = tt
bare_option save_words word s plain h = tt
bare_option continue_words word s plain h = tt

bare_word : (k : Kind) (word : Word) (s : Said) → Bare k s → IfSome (tell_word k word s) (Bare k)
bare_word k imports_word s h = bare_option k imports_word s tt h
bare_word k save_word s h = bare_option k save_word s tt h
bare_word k ignore_imports_word s h = bare_option k ignore_imports_word s tt h
bare_word k ignore_indirect_word s h = bare_option k ignore_indirect_word s tt h
bare_word k asserts_word s h = bare_option k asserts_word s tt h
bare_word k end_word s h = at_end k s h
bare_word k unknown_word s h = bare_option k unknown_word s tt h
bare_word k (imports_with text) s h = bare_option k (imports_with text) s tt h
bare_word k (save_with text) s h = bare_option k (save_with text) s tt h
bare_word k (name_word name) s h = bare_file k name s h

bare_value : (k : Kind) (v : Valued) (word : List ℕ) (s : Said) → Bare k s → IfSome (tell_valued k v word s) (Bare k)
bare_value transform_words v word s h = kept_told HasNoThird no_third_stays v word s (is_hyphened word && not (bytes_eq word (codes "-"))) h
bare_value host_words v word s h = tt
bare_value run_words v word s h = tt
bare_value gen_words v word s h = tt
bare_value save_words v word s h = tt
bare_value continue_words v word s h = tt

pub bare_at : (k : Kind) (place : Place) (word : List ℕ) (s : Said) → Bare k s → IfSome (tell_at k place word s) (Bare k)
bare_at k anywhere word s h = bare_word k (word_of word) s h
bare_at k behind_imports word s h = bare_value k list_option word s h
bare_at k behind_save word s h = bare_value k save_option word s h
bare_at k behind_options word s h = bare_file k word s h
