-- What `clap` makes of the words of a command line is what they spell.
use Rattle.std.proofs.Common.{◌≡◌, ◌∙◌, ℕ, suc, List, [], ◌∷◌, Option, Some, None, option_map, option_and_then, Bool, true, false, ◌||◌, refl, sym, ap, subst, codes, cond, bytes_eq, if◌then◌else◌, is_some, map, string_bytes, String, slice_get, chars, length}
use Rattle.std.proofs.lemmas.Str.{IsUtf8-string_bytes}
use Rattle.std.specs.Option.{option_map_or}
use Rattle.clap.specs.Lexer.{long_of, short_of}
use Rattle.clap.specs.Walk.{Held, Names, Text, Walk, finished, idle, nothing_held, rows_after, settled, subcommand_met, walk, walk_from, walked, value, Step, long_or_other, short_or_plain, subcommand_or_other, trailing, word_met}
use Rattle.clap.specs.Simple.{App, Shape, built, entered, is_simple, names_of, subcommand_of}
use Rattle.clap.specs.Kinds.{Kinds, or_else}
use Rattle.clap.specs.Faults.{bundle_fault, bundle_step_fault, built_fault, check_fault, defaults_fault, entered_fault, fault_of, flag_word_fault, flags_fault, is_simple_and_free, other_fault, settle_fault, step_fault, turn_fault, walk_fault, word_fault}
use Rattle.clap.specs.declared.error.kind.ErrorKind.TheVariants as kind
use Rattle.clap.proofs.FaultLemmas.{stopped_fault}
use Rattle.clap.proofs.WalkLemmas.{walk_stopped}
use Rattle.script_model.specs.Command.{Said, nothing_said, said, transform_at}
use Rattle.script_model.specs.Spelled.{Spelled, spelled, rewrites, hosts, runs, files_alone, one_file, two_files, number_and_file, script_and_snap, script_events_snap}
use Rattle.command_words.specs.Grammar.{Kind, transform_words, host_words, run_words, gen_words, save_words, continue_words, MatchesSpell, line, line_shape, name_of, rules, shape}
use Rattle.command_words.proofs.Views.{View, is_end, is_list, is_save, is_imports, is_indirect, is_asserts, is_list_with, is_save_with, is_named, is_long, is_short, view, same_is, differ, clash}
use Rattle.command_words.proofs.Telling.{spells}
use Rattle.command_words.proofs.Steps.{first_passes, some_kind}
use Rattle.command_words.proofs.Walking.{AllText, second_passes}
use Rattle.command_words.proofs.Ending.{command_spells, level}

-- ---- the line, built

abbrev top : Shape
top = record line_shape { is_leaf = false; is_built = true }

abbrev built_line : App
built_line = record { top = top; subs = shape transform_words ∷ shape host_words ∷ shape run_words ∷ shape gen_words ∷ shape save_words ∷ shape continue_words ∷ [] }

line_is : built line ≡ built_line
line_is = refl

pub line_is_simple : is_simple line ≡ true
line_is_simple = refl

pub line_is_free : is_simple_and_free line ≡ true
line_is_free = refl

abbrev commands : Names
commands = names_of built_line

-- the faults of the line, by its walk
abbrev line_faults : Kinds → Walk → Kinds
line_faults kinds w =
    or_else kinds (or_else (entered_fault built_line w.stopped) (or_else (settle_fault [] false w.held)
    (or_else (defaults_fault (settled [] w.held).rows []) (check_fault top (finished [] w.held) (is_some (entered built_line w.stopped))))))

abbrev line_walk : List Text → Walk
line_walk words = walk [] commands nothing_held words

faults_are : (words : List Text) → fault_of line words ≡ line_faults (walk_fault top commands (walk_from nothing_held) words) (line_walk words)
faults_are words = ap (λ (a : App). built_fault a nothing_held words) line_is

matches_are : (words : List Text) → subcommand_of line words ≡ entered built_line (line_walk words).stopped
matches_are words = refl

-- ---- a first word that names a command

-- the walk goes no further than that word
abbrev stopped_at : Text → List Text → Walk
stopped_at name words = record (walk_from nothing_held) { stopped = Some (name, words) }

walk_is : (k : Kind) (words : List Text) → line_walk (name_of k ∷ words) ≡ stopped_at (name_of k) words
unfolding walked
walk_is transform_words words = sym (walk_stopped [] commands (walk_from nothing_held) (name_of transform_words) [] words)
walk_is host_words words = sym (walk_stopped [] commands (walk_from nothing_held) (name_of host_words) [] words)
walk_is run_words words = sym (walk_stopped [] commands (walk_from nothing_held) (name_of run_words) [] words)
walk_is gen_words words = sym (walk_stopped [] commands (walk_from nothing_held) (name_of gen_words) [] words)
walk_is save_words words = sym (walk_stopped [] commands (walk_from nothing_held) (name_of save_words) [] words)
walk_is continue_words words = sym (walk_stopped [] commands (walk_from nothing_held) (name_of continue_words) [] words)

walk_passes : (k : Kind) (words : List Text) → walk_fault top commands (walk_from nothing_held) (name_of k ∷ words) ≡ []
unfolding walk_fault walked
walk_passes transform_words words = stopped_fault top commands (walk_from nothing_held) (name_of transform_words, []) words
walk_passes host_words words = stopped_fault top commands (walk_from nothing_held) (name_of host_words, []) words
walk_passes run_words words = stopped_fault top commands (walk_from nothing_held) (name_of run_words, []) words
walk_passes gen_words words = stopped_fault top commands (walk_from nothing_held) (name_of gen_words, []) words
walk_passes save_words words = stopped_fault top commands (walk_from nothing_held) (name_of save_words, []) words
walk_passes continue_words words = stopped_fault top commands (walk_from nothing_held) (name_of continue_words, []) words

or_else_none : (a : Kinds) → or_else a [] ≡ a
or_else_none [] = refl
or_else_none (k ∷ ks) = refl

stopped_faults : (k : Kind) (words : List Text) → line_faults [] (stopped_at (name_of k) words) ≡ level k words
unfolding defaults_fault
stopped_faults transform_words words = or_else_none (level transform_words words)
stopped_faults host_words words = or_else_none (level host_words words)
stopped_faults run_words words = or_else_none (level run_words words)
stopped_faults gen_words words = or_else_none (level gen_words words)
stopped_faults save_words words = or_else_none (level save_words words)
stopped_faults continue_words words = or_else_none (level continue_words words)

enters : (k : Kind) (words : List Text) → entered built_line (Some (name_of k, words)) ≡ Some (name_of k, rows_after (rules k) [] words)
enters transform_words words = refl
enters host_words words = refl
enters run_words words = refl
enters gen_words words = refl
enters save_words words = refl
enters continue_words words = refl

named_fault : (k : Kind) (words : List Text) → fault_of line (name_of k ∷ words) ≡ level k words
named_fault k words = faults_are (name_of k ∷ words) ∙ (λ i. line_faults (walk_passes k words i) (walk_is k words i)) ∙ stopped_faults k words

named_matches : (k : Kind) (words : List Text) → subcommand_of line (name_of k ∷ words) ≡ Some (name_of k, rows_after (rules k) [] words)
named_matches k words = matches_are (name_of k ∷ words) ∙ ap (λ (w : Walk). entered built_line w.stopped) (walk_is k words) ∙ enters k words

named_spells : (k : Kind) (words : List Text) → spelled (name_of k ∷ words) ≡ spells k (said (Some nothing_said) words)
named_spells transform_words words = refl
named_spells host_words words = refl
named_spells run_words words = refl
named_spells gen_words words = refl
named_spells save_words words = refl
named_spells continue_words words = refl

-- ---- any other first word, and none

record IsOther (word : Text) : Type 0 where
  pub transform : word ≡ codes "transform" → ⊥
  pub host : word ≡ codes "host" → ⊥
  pub run : word ≡ codes "run" → ⊥
  pub gen : word ≡ codes "gen" → ⊥
  pub save : word ≡ codes "save" → ⊥
  pub continues : word ≡ codes "continue" → ⊥

-- what such words spell, by their tests
abbrev spelled_by : (host run gen save continues transform : Bool) → List Text → Option Spelled
spelled_by host run gen save continues transform words =
    if host then files_alone (two_files (one_file hosts)) (said (Some nothing_said) words)
    else (if run then files_alone (two_files (one_file runs)) (said (Some nothing_said) words)
    else (if gen then files_alone (two_files number_and_file) (said (Some nothing_said) words)
    else (if save then files_alone script_events_snap (said (Some nothing_said) words)
    else (if continues then files_alone (two_files script_and_snap) (said (Some nothing_said) words)
    else option_map rewrites (if transform then option_and_then (λ (s : Said). transform_at s.place s) (said (Some nothing_said) words) else None)))))

other_spells : (word : Text) (words : List Text) → IsOther word → spelled (word ∷ words) ≡ None
other_spells word words h =
    λ i. spelled_by (differ word (codes "host") h.host i) (differ word (codes "run") h.run i) (differ word (codes "gen") h.gen i) (differ word (codes "save") h.save i)
    (differ word (codes "continue") h.continues i) (differ word (codes "transform") h.transform i) words

abbrev named_by : (transform host run gen save continues : Bool) → Option Text
named_by transform host run gen save continues =
    option_map (λ (s : Text × List Text). s.0) (cond (transform || false) (Some (codes "transform", [])) (cond (host || false) (Some (codes "host", []))
    (cond (run || false) (Some (codes "run", [])) (cond (gen || false) (Some (codes "gen", [])) (cond (save || false) (Some (codes "save", []))
    (cond (continues || false) (Some (codes "continue", [])) None))))))

-- no command has this name
no_command : (word : Text) → IsOther word → subcommand_met commands idle word ≡ None
no_command word h =
    λ i. named_by (away (codes "transform") h.transform i) (away (codes "host") h.host i) (away (codes "run") h.run i) (away (codes "gen") h.gen i) (away (codes "save") h.save i)
    (away (codes "continue") h.continues i)
  where
    away : (name : Text) → (word ≡ name → ⊥) → bytes_eq name word ≡ false
    away name apart = differ name word (λ e. apart (sym e))

-- ---- such a word fails

bundle_first : (n : ℕ) (flags : Text) (x : ℕ) → slice_get (chars flags) 0 ≡ Some x → flags_fault [] false (suc n) flags 0 nothing_held ≡ [] → ⊥
unfolding flags_fault
bundle_first n flags x first e =
    some_kind kind.UnknownArgument [] (ap (λ (o : Option ℕ). bundle_step_fault [] false o flags 0 nothing_held (flags_fault [] false n)) (sym first) ∙ e)

abbrev begun : Walk
begun = walk_from nothing_held

abbrev Fails : Text → Type 0
Fails word = turn_fault top commands begun word ≡ [] → ⊥

module _ (word : Text) (h : IsOther word) (no_end : bytes_eq word (codes "--") ≡ false) where
  first_fault : (o : Option (Text × Option Text)) → long_of word ≡ o → word_fault top commands false idle word nothing_held ≡ flag_word_fault [] false o word nothing_held
  first_fault o e = ap (λ (n : Option Text). other_fault top n word nothing_held) (no_command word h) ∙ (λ i. if no_end i then [] else flag_word_fault [] false (e i) word nothing_held)

  fault_fails : (word_fault top commands false idle word nothing_held ≡ [] → ⊥) → Fails word
  fault_fails f e = f (first_passes (word_fault top commands false idle word nothing_held) _ e)

  long_first : (p : Text × Option Text) → long_of word ≡ Some p → Fails word
  long_first p e = fault_fails (λ f. some_kind kind.UnknownArgument [] (sym (first_fault (Some p) e) ∙ f))

  short_first : long_of word ≡ None → (y : ℕ) (ys : Text) → short_of word ≡ Some (y ∷ ys) → (x : ℕ) → slice_get (chars (y ∷ ys)) 0 ≡ Some x → Fails word
  short_first none y ys e x first =
      fault_fails (λ f. bundle_first (length ys) (y ∷ ys) x first
      (sym (first_fault None none ∙ ap (λ (o : Option Text). option_map_or (λ (flags : Text). bundle_fault [] false flags nothing_held) o []) e) ∙ f))

  name_first : long_of word ≡ None → short_of word ≡ None → Fails word
  name_first none no_short f =
      some_kind kind.UnknownArgument (kind.InvalidSubcommand ∷ [])
      (ap (λ (p : Held × Step). step_fault top 1 p.0 p.1) (sym met) ∙ second_passes (word_fault top commands false idle word nothing_held) _ f)
    where
      met : word_met [] commands false idle 1 word nothing_held ≡ (nothing_held, value)
      met =
          ap (λ (n : Option Text). subcommand_or_other [] n idle 1 word nothing_held) (no_command word h)
          ∙ (λ i. if no_end i then (nothing_held, trailing 1) else long_or_other [] idle word (none i) nothing_held) ∙ ap (λ (o : Option Text). short_or_plain [] idle word o nothing_held) no_short

-- behind `--` any word is one too many, and no command came
ends_first : (words : List Text) → fault_of line (codes "--" ∷ words) ≡ [] → ⊥
unfolding walk_fault walked defaults_fault
ends_first [] e = some_kind kind.MissingSubcommand [] e
ends_first (word ∷ words) e = some_kind kind.UnknownArgument (kind.InvalidSubcommand ∷ []) e

word_fails : (word : Text) (words : List Text) → Fails word → fault_of line (word ∷ words) ≡ [] → ⊥
unfolding walk_fault
word_fails word words f e = f (first_passes (turn_fault top commands begun word) _ (first_passes (walk_fault top commands begun (word ∷ words)) _ e))

other_fails : (word : Text) (words : List Text) → View word → IsOther word → fault_of line (word ∷ words) ≡ [] → ⊥
other_fails word words (is_end e) h = subst (λ (w : Text). fault_of line (w ∷ words) ≡ [] → ⊥) (sym e) (ends_first words)
other_fails word words (is_list e) h = word_fails word words (subst Fails (sym e) (λ f. some_kind kind.UnknownArgument [] f))
other_fails word words (is_save e) h = word_fails word words (subst Fails (sym e) (λ f. some_kind kind.UnknownArgument [] f))
other_fails word words (is_imports e) h = word_fails word words (subst Fails (sym e) (λ f. some_kind kind.UnknownArgument [] f))
other_fails word words (is_indirect e) h = word_fails word words (subst Fails (sym e) (λ f. some_kind kind.UnknownArgument [] f))
other_fails word words (is_asserts e) h = word_fails word words (subst Fails (sym e) (λ f. some_kind kind.UnknownArgument [] f))
other_fails word words (is_list_with text e) h = word_fails word words (subst Fails (sym e) (λ f. some_kind kind.UnknownArgument [] f))
other_fails word words (is_save_with text e) h = word_fails word words (subst Fails (sym e) (λ f. some_kind kind.UnknownArgument [] f))
other_fails word words (is_named n) h = word_fails word words (name_first word h n.no_end n.no_long n.no_short)
other_fails word words (is_long u p e strange) h = word_fails word words (long_first word h u.no_end p e)
other_fails word words (is_short u none y ys e x first) h = word_fails word words (short_first word h u.no_end none y ys e x first)

none_fails : fault_of line [] ≡ [] → ⊥
unfolding walk_fault walked defaults_fault
none_fails e = some_kind kind.MissingSubcommand [] e

-- ---- all words

-- a word is the name of a command or another word
data First (word : Text) : Type 0 where
  named : (k : Kind) → word ≡ name_of k → First word
  other : IsOther word → First word

-- the word isn't this one
abbrev Differs : Text → Text → Type 0
Differs word name = bytes_eq word name ≡ false

first_word : (word : Text) → First word
first_word word = at_transform (bytes_eq word (codes "transform")) refl
  where
    at_continue : Differs word (codes "transform") → Differs word (codes "host") → Differs word (codes "run") → Differs word (codes "gen") → Differs word (codes "save") → (b : Bool)
        → bytes_eq word (codes "continue") ≡ b → First word
    at_continue t h r g s true e = named continue_words (same_is word (codes "continue") e)
    at_continue t h r g s false e = other (record {
      transform = clash word (codes "transform") t;
      host = clash word (codes "host") h;
      run = clash word (codes "run") r;
      gen = clash word (codes "gen") g;
      save = clash word (codes "save") s;
      continues = clash word (codes "continue") e;
    })

    at_save : Differs word (codes "transform") → Differs word (codes "host") → Differs word (codes "run") → Differs word (codes "gen") → (b : Bool) → bytes_eq word (codes "save") ≡ b → First word
    at_save t h r g true e = named save_words (same_is word (codes "save") e)
    at_save t h r g false e = at_continue t h r g e (bytes_eq word (codes "continue")) refl

    at_gen : Differs word (codes "transform") → Differs word (codes "host") → Differs word (codes "run") → (b : Bool) → bytes_eq word (codes "gen") ≡ b → First word
    at_gen t h r true e = named gen_words (same_is word (codes "gen") e)
    at_gen t h r false e = at_save t h r e (bytes_eq word (codes "save")) refl

    at_run : Differs word (codes "transform") → Differs word (codes "host") → (b : Bool) → bytes_eq word (codes "run") ≡ b → First word
    at_run t h true e = named run_words (same_is word (codes "run") e)
    at_run t h false e = at_gen t h e (bytes_eq word (codes "gen")) refl

    at_host : Differs word (codes "transform") → (b : Bool) → bytes_eq word (codes "host") ≡ b → First word
    at_host t true e = named host_words (same_is word (codes "host") e)
    at_host t false e = at_run t e (bytes_eq word (codes "run")) refl

    at_transform : (b : Bool) → bytes_eq word (codes "transform") ≡ b → First word
    at_transform true e = named transform_words (same_is word (codes "transform") e)
    at_transform false e = at_host e (bytes_eq word (codes "host")) refl

-- A parse that passes says what the words spell, and where it fails they spell nothing.
abbrev pub Exact : List Text → Type 0
Exact words = (fault_of line words ≡ [] → MatchesSpell (subcommand_of line words) (spelled words)) × ((fault_of line words ≡ [] → ⊥) → spelled words ≡ None)

named_exact : (k : Kind) (words : List Text) → AllText words → Exact (name_of k ∷ words)
named_exact k words all =
    let c = command_spells k words all in (
      (λ e. let x = c.0 (sym (named_fault k words) ∙ e) in (k, rows_after (rules k) [] words, named_matches k words, x.0, named_spells k words ∙ x.1)),
      (λ h. named_spells k words ∙ c.1 (λ e. h (named_fault k words ∙ e))),
    )

pub exact : (words : List Text) → AllText words → Exact words
exact [] all = ((λ e. absurd (none_fails e)), (λ h. refl))
exact (word ∷ words) all = go (first_word word)
  where
    go : First word → Exact (word ∷ words)
    go (named k e) = subst (λ (w : Text). Exact (w ∷ words)) (sym e) (named_exact k words all.1)
    go (other h) = ((λ e. absurd (other_fails word words (view word all.0) h e)), (λ f. other_spells word words h))

-- strings are text
pub all_text : {Z : Type 0} (words : List (String Z)) → AllText (map string_bytes words)
all_text [] = tt
all_text (word ∷ words) = (IsUtf8-string_bytes word, all_text words)
