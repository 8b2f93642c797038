-- Each word of a command, as `clap`'s walk goes over it and as it tells something.
use Rattle.std.proofs.Common.{◌≡◌, ◌∙◌, List, [], ◌∷◌, ◌++◌, Option, Some, None, Bool, true, false, inl, inr, refl, sym, ap, subst, codes, if◌then◌else◌, is_some, true≢false}
use Rattle.clap.specs.Walk.{Row, Text, Walk, Waiting, arg_by_index, idle, next, option, plain_word, to_positional, value, walked, with_values, without, word_met}
use Rattle.clap.specs.Kinds.{Kinds, or_else}
use Rattle.clap.specs.Faults.{repeat_fault, settle_fault, step_fault, turn_fault, word_fault}
use Rattle.clap.specs.declared.builder.value_parser.Reading.TheVariants.{AsWritten}
use Rattle.clap.specs.declared.parser.matches.ValueSource.TheVariants.{CommandLine}
use Rattle.clap.specs.declared.error.kind.ErrorKind.TheVariants as kind
use Rattle.script_model.specs.Command.{Said, Place, anywhere, behind_imports, behind_save, behind_options, word_of, unknown_word}
use Rattle.command_words.specs.Grammar.{Kind, transform_words, host_words, run_words, gen_words, save_words, continue_words, rules, shape}
use Rattle.command_words.proofs.Views.{View, is_end, is_list, is_save, is_imports, is_indirect, is_asserts, is_list_with, is_save_with, is_named, is_long, is_short, IsName, IsUnknown}
use Rattle.command_words.proofs.Telling.{tell_at, tell_file, tell_value, tell_word, say_value, say_imports, say_save, say_ignore_imports, say_ignore_indirect, say_asserts, Valued, list_option, save_option}
use Rattle.command_words.proofs.Rows.{Slot, list_slot, save_slot, imports_slot, indirect_slot, asserts_slot, input_slot, output_slot, third_slot, same_slot, said_at, value_slot, option_id, flag_text, Tells, taken, repeated}
use Rattle.command_words.proofs.Steps.{After, HasFlags, Ordered, Owes, Settles, Stands, after_as, at_walk, first_passes, held, name_is, name_met, position, refused, shows, some_kind, trails, unknown_fails, waits, walk_of, whole}
use Rattle.command_words.proofs.Placing.{place_word, stands_at}

-- what is pending fails so
abbrev pends : Kind → List Row → Option (Text × List Text) → Kinds
pends k rows pending = settle_fault (rules k) false (held rows pending)

-- one more use of an argument fails so
abbrev comes : Text → List Row → Kinds
comes id rows = or_else (repeat_fault false id rows) []

-- the rows with one that is used now
abbrev added : Text → Text → List Row → List Row
added id text rows = with_values id AsWritten CommandLine (text ∷ []) (without id rows)

-- an option was given this value
abbrev imports_with : Valued → Text → Option Text → Option Text
imports_with list_option text earlier = Some text
imports_with save_option text earlier = earlier

abbrev save_with : Valued → Text → Option Text → Option Text
save_with list_option text earlier = earlier
save_with save_option text earlier = Some text

abbrev given_value : Valued → Text → Said → Said
given_value v text s = record s { place = anywhere; imports = imports_with v text s.imports; save = save_with v text s.save }

-- what a word leaves as it was
keeps_value : (v : Valued) (s : Said) (text : Text) (other : Slot) → same_slot (value_slot v) other ≡ false → said_at other (given_value v text s) ≡ said_at other s
keeps_value list_option s text list_slot e = absurd (true≢false e)
keeps_value list_option s text save_slot e = refl
keeps_value save_option s text list_slot e = refl
keeps_value save_option s text save_slot e = absurd (true≢false e)
keeps_value v s text imports_slot e = refl
keeps_value v s text indirect_slot e = refl
keeps_value v s text asserts_slot e = refl
keeps_value v s text input_slot e = refl
keeps_value v s text output_slot e = refl
keeps_value v s text third_slot e = refl

has_value : (v : Valued) (s : Said) (text : Text) → said_at (value_slot v) (given_value v text s) ≡ Some text
has_value list_option s text = refl
has_value save_option s text = refl

-- an option is given a value once
say_once : (v : Valued) (text : Text) (s : Said) (o : Option Text) → said_at (value_slot v) s ≡ o → say_value v text s ≡ (if is_some o then None else Some (given_value v text s))
say_once list_option text s (Some earlier) e = ap (λ (o : Option Text). say_imports o text s) e
say_once list_option text s None e = ap (λ (o : Option Text). say_imports o text s) e
say_once save_option text s (Some earlier) e = ap (λ (o : Option Text). say_save o text s) e
say_once save_option text s None e = ap (λ (o : Option Text). say_save o text s) e

keeps_imports : (s : Said) (other : Slot) → same_slot imports_slot other ≡ false → said_at other (record s { ignore_imports = true }) ≡ said_at other s
keeps_imports s list_slot e = refl
keeps_imports s save_slot e = refl
keeps_imports s imports_slot e = absurd (true≢false e)
keeps_imports s indirect_slot e = refl
keeps_imports s asserts_slot e = refl
keeps_imports s input_slot e = refl
keeps_imports s output_slot e = refl
keeps_imports s third_slot e = refl

keeps_indirect : (s : Said) (other : Slot) → same_slot indirect_slot other ≡ false → said_at other (record s { ignore_indirect = true }) ≡ said_at other s
keeps_indirect s list_slot e = refl
keeps_indirect s save_slot e = refl
keeps_indirect s imports_slot e = refl
keeps_indirect s indirect_slot e = absurd (true≢false e)
keeps_indirect s asserts_slot e = refl
keeps_indirect s input_slot e = refl
keeps_indirect s output_slot e = refl
keeps_indirect s third_slot e = refl

keeps_asserts : (s : Said) (other : Slot) → same_slot asserts_slot other ≡ false → said_at other (record s { asserts = true }) ≡ said_at other s
keeps_asserts s list_slot e = refl
keeps_asserts s save_slot e = refl
keeps_asserts s imports_slot e = refl
keeps_asserts s indirect_slot e = refl
keeps_asserts s asserts_slot e = absurd (true≢false e)
keeps_asserts s input_slot e = refl
keeps_asserts s output_slot e = refl
keeps_asserts s third_slot e = refl

both_pass : (a b : Kinds) → a ≡ [] → b ≡ [] → or_else (or_else a b) [] ≡ []
both_pass a b e f = λ i. or_else (or_else (e i) (f i)) []

second_fails : (a b : Kinds) → a ≡ [] → (b ≡ [] → ⊥) → or_else (or_else a b) [] ≡ [] → ⊥
second_fails a b e h f = h (ap (λ (x : Kinds). or_else x b) (sym e) ∙ first_passes (or_else a b) [] f)

no_word : (k : Kind) (s : Said) → tell_word k unknown_word s ≡ None
no_word transform_words s = refl
no_word host_words s = refl
no_word run_words s = refl
no_word gen_words s = refl
no_word save_words s = refl
no_word continue_words s = refl

-- ---- where an option may stand

abbrev idle_walk : Said → List Row → Option (Text × List Text) → Walk
idle_walk s rows pending = at_walk rows pending idle (position s.input s.output s.third) false

-- the walk behind the word is as what it tells says
abbrev Idly : Kind → Said → List Row → Option (Text × List Text) → Text → Type 0
Idly k s rows pending word = After k (tell_word k (word_of word) s) (turn_fault (shape k) [] (idle_walk s rows pending) word) (walked (rules k) [] (idle_walk s rows pending) word)

idle_end : (k : Kind) (s : Said) (rows : List Row) (pending : Option (Text × List Text)) → Settles k rows pending → Tells k s (whole k rows pending) → Ordered s → Idly k s rows pending (codes "--")
unfolding walked
idle_end k s rows pending settles tells ordered = (refl, rows, pending, refl, (settles, tells, ordered))

-- an option in a word of its own
abbrev option_word : Valued → Text
option_word list_option = codes "--imports"
option_word save_option = codes "--save"

idle_option : (v : Valued) (k : Kind) (s : Said) (rows : List Row) (pending : Option (Text × List Text)) → Settles k rows pending → Tells k s (whole k rows pending) → Ordered s
    → Idly k s rows pending (option_word v)
unfolding walked
idle_option list_option transform_words s rows pending settles tells ordered =
    (ap (λ (x : Kinds). or_else x []) settles, whole transform_words rows pending, Some (codes "imports", []), refl, (refl, tells, ordered))
idle_option save_option transform_words s rows pending settles tells ordered =
    (ap (λ (x : Kinds). or_else x []) settles, whole transform_words rows pending, Some (codes "save", []), refl, (refl, tells, ordered))
idle_option list_option host_words s rows pending settles tells ordered = λ e. absurd (some_kind kind.UnknownArgument [] e)
idle_option list_option run_words s rows pending settles tells ordered = λ e. absurd (some_kind kind.UnknownArgument [] e)
idle_option list_option gen_words s rows pending settles tells ordered = λ e. absurd (some_kind kind.UnknownArgument [] e)
idle_option list_option save_words s rows pending settles tells ordered = λ e. absurd (some_kind kind.UnknownArgument [] e)
idle_option list_option continue_words s rows pending settles tells ordered = λ e. absurd (some_kind kind.UnknownArgument [] e)
idle_option save_option host_words s rows pending settles tells ordered = λ e. absurd (some_kind kind.UnknownArgument [] e)
idle_option save_option run_words s rows pending settles tells ordered = λ e. absurd (some_kind kind.UnknownArgument [] e)
idle_option save_option gen_words s rows pending settles tells ordered = λ e. absurd (some_kind kind.UnknownArgument [] e)
idle_option save_option save_words s rows pending settles tells ordered = λ e. absurd (some_kind kind.UnknownArgument [] e)
idle_option save_option continue_words s rows pending settles tells ordered = λ e. absurd (some_kind kind.UnknownArgument [] e)

-- the walk where an option may stand
anywhere_walk : (s : Said) (rows : List Row) (pending : Option (Text × List Text)) → s.place ≡ anywhere → idle_walk s rows pending ≡ walk_of s rows pending
anywhere_walk s rows pending at = ap (λ (p : Place). at_walk rows pending (waits p) (position s.input s.output s.third) (trails p)) (sym at)

idle_imports : (k : Kind) (s : Said) (rows : List Row) (pending : Option (Text × List Text)) → Settles k rows pending → Tells k s (whole k rows pending) → Ordered s → s.place ≡ anywhere
    → Idly k s rows pending (codes "--ignore-imports")
unfolding walked
idle_imports transform_words s rows pending settles tells ordered at = go s.ignore_imports refl
  where
    go : (b : Bool) → s.ignore_imports ≡ b → After transform_words (say_ignore_imports b s) (turn_fault (shape transform_words) [] (idle_walk s rows pending) (codes "--ignore-imports"))
        (walked (rules transform_words) [] (idle_walk s rows pending) (codes "--ignore-imports"))
    go true e = λ f. absurd (second_fails (pends transform_words rows pending) (comes (codes "ignore-imports") (whole transform_words rows pending)) settles
        (repeated transform_words imports_slot (codes "true") s (whole transform_words rows pending) (ap flag_text e) tells) f)
    go false e =
        let t : Said = record s { ignore_imports = true } in
        let new = added (codes "ignore-imports") (codes "true") (whole transform_words rows pending) in
        let once = taken transform_words imports_slot (codes "true") s t (whole transform_words rows pending) (ap flag_text e) refl (keeps_imports s) tells in (
          both_pass (pends transform_words rows pending) (comes (codes "ignore-imports") (whole transform_words rows pending)) settles once.0,
          new,
          None,
          anywhere_walk s new None at,
          stands_at s.place transform_words t new None (ap waits at) refl once.1 ordered,
        )
idle_imports host_words s rows pending settles tells ordered at = λ e. absurd (some_kind kind.UnknownArgument [] e)
idle_imports run_words s rows pending settles tells ordered at = λ e. absurd (some_kind kind.UnknownArgument [] e)
idle_imports gen_words s rows pending settles tells ordered at = λ e. absurd (some_kind kind.UnknownArgument [] e)
idle_imports save_words s rows pending settles tells ordered at = λ e. absurd (some_kind kind.UnknownArgument [] e)
idle_imports continue_words s rows pending settles tells ordered at = λ e. absurd (some_kind kind.UnknownArgument [] e)

idle_indirect : (k : Kind) (s : Said) (rows : List Row) (pending : Option (Text × List Text)) → Settles k rows pending → Tells k s (whole k rows pending) → Ordered s → s.place ≡ anywhere
    → Idly k s rows pending (codes "--ignore-indirect")
unfolding walked
idle_indirect transform_words s rows pending settles tells ordered at = go s.ignore_indirect refl
  where
    go : (b : Bool) → s.ignore_indirect ≡ b → After transform_words (say_ignore_indirect b s) (turn_fault (shape transform_words) [] (idle_walk s rows pending) (codes "--ignore-indirect"))
        (walked (rules transform_words) [] (idle_walk s rows pending) (codes "--ignore-indirect"))
    go true e = λ f. absurd (second_fails (pends transform_words rows pending) (comes (codes "ignore-indirect") (whole transform_words rows pending)) settles
        (repeated transform_words indirect_slot (codes "true") s (whole transform_words rows pending) (ap flag_text e) tells) f)
    go false e =
        let t : Said = record s { ignore_indirect = true } in
        let new = added (codes "ignore-indirect") (codes "true") (whole transform_words rows pending) in
        let once = taken transform_words indirect_slot (codes "true") s t (whole transform_words rows pending) (ap flag_text e) refl (keeps_indirect s) tells in (
          both_pass (pends transform_words rows pending) (comes (codes "ignore-indirect") (whole transform_words rows pending)) settles once.0,
          new,
          None,
          anywhere_walk s new None at,
          stands_at s.place transform_words t new None (ap waits at) refl once.1 ordered,
        )
idle_indirect host_words s rows pending settles tells ordered at = λ e. absurd (some_kind kind.UnknownArgument [] e)
idle_indirect run_words s rows pending settles tells ordered at = λ e. absurd (some_kind kind.UnknownArgument [] e)
idle_indirect gen_words s rows pending settles tells ordered at = λ e. absurd (some_kind kind.UnknownArgument [] e)
idle_indirect save_words s rows pending settles tells ordered at = λ e. absurd (some_kind kind.UnknownArgument [] e)
idle_indirect continue_words s rows pending settles tells ordered at = λ e. absurd (some_kind kind.UnknownArgument [] e)

idle_asserts : (k : Kind) (s : Said) (rows : List Row) (pending : Option (Text × List Text)) → Settles k rows pending → Tells k s (whole k rows pending) → Ordered s → s.place ≡ anywhere
    → Idly k s rows pending (codes "--asserts")
unfolding walked
idle_asserts transform_words s rows pending settles tells ordered at = go s.asserts refl
  where
    go : (b : Bool) → s.asserts ≡ b → After transform_words (say_asserts b s) (turn_fault (shape transform_words) [] (idle_walk s rows pending) (codes "--asserts"))
        (walked (rules transform_words) [] (idle_walk s rows pending) (codes "--asserts"))
    go true e = λ f. absurd (second_fails (pends transform_words rows pending) (comes (codes "asserts") (whole transform_words rows pending)) settles
        (repeated transform_words asserts_slot (codes "true") s (whole transform_words rows pending) (ap flag_text e) tells) f)
    go false e =
        let t : Said = record s { asserts = true } in
        let new = added (codes "asserts") (codes "true") (whole transform_words rows pending) in
        let once = taken transform_words asserts_slot (codes "true") s t (whole transform_words rows pending) (ap flag_text e) refl (keeps_asserts s) tells in (
          both_pass (pends transform_words rows pending) (comes (codes "asserts") (whole transform_words rows pending)) settles once.0,
          new,
          None,
          anywhere_walk s new None at,
          stands_at s.place transform_words t new None (ap waits at) refl once.1 ordered,
        )
idle_asserts host_words s rows pending settles tells ordered at = λ e. absurd (some_kind kind.UnknownArgument [] e)
idle_asserts run_words s rows pending settles tells ordered at = λ e. absurd (some_kind kind.UnknownArgument [] e)
idle_asserts gen_words s rows pending settles tells ordered at = λ e. absurd (some_kind kind.UnknownArgument [] e)
idle_asserts save_words s rows pending settles tells ordered at = λ e. absurd (some_kind kind.UnknownArgument [] e)
idle_asserts continue_words s rows pending settles tells ordered at = λ e. absurd (some_kind kind.UnknownArgument [] e)

-- a value behind `=`
value_comes : (v : Valued) (text : Text) (s : Said) (rows : List Row) (pending : Option (Text × List Text)) → Settles transform_words rows pending
    → Tells transform_words s (whole transform_words rows pending) → Ordered s
    → After transform_words (say_value v text s) (or_else (or_else (pends transform_words rows pending) (comes (option_id v) (whole transform_words rows pending))) [])
    (idle_walk s (added (option_id v) text (whole transform_words rows pending)) None)
value_comes v text s rows pending settles tells ordered = go (said_at (value_slot v) s) refl
  where
    go : (o : Option Text) → said_at (value_slot v) s ≡ o
        → After transform_words (say_value v text s) (or_else (or_else (pends transform_words rows pending) (comes (option_id v) (whole transform_words rows pending))) [])
        (idle_walk s (added (option_id v) text (whole transform_words rows pending)) None)
    go (Some earlier) e =
        subst (λ (o : Option Said). After transform_words o (or_else (or_else (pends transform_words rows pending) (comes (option_id v) (whole transform_words rows pending))) [])
        (idle_walk s (added (option_id v) text (whole transform_words rows pending)) None)) (sym (say_once v text s (Some earlier) e))
        (λ f. absurd (second_fails (pends transform_words rows pending) (comes (option_id v) (whole transform_words rows pending)) settles
        (repeated transform_words (value_slot v) earlier s (whole transform_words rows pending) e tells) f))
    go None e =
        let t : Said = given_value v text s in
        let new = added (option_id v) text (whole transform_words rows pending) in
        let once = taken transform_words (value_slot v) text s t (whole transform_words rows pending) e (has_value v s text) (keeps_value v s text) tells in
        subst (λ (o : Option Said). After transform_words o (or_else (or_else (pends transform_words rows pending) (comes (option_id v) (whole transform_words rows pending))) [])
        (idle_walk s new None)) (sym (say_once v text s None e))
        (both_pass (pends transform_words rows pending) (comes (option_id v) (whole transform_words rows pending)) settles once.0, new, None, refl, (refl, once.1, ordered))

abbrev option_with : Valued → Text → Text
option_with list_option text = codes "--imports=" ++ text
option_with save_option text = codes "--save=" ++ text

idle_with : (v : Valued) (k : Kind) (text : Text) (s : Said) (rows : List Row) (pending : Option (Text × List Text)) → Settles k rows pending → Tells k s (whole k rows pending) → Ordered s
    → Idly k s rows pending (option_with v text)
unfolding walked
idle_with list_option transform_words text s rows pending settles tells ordered = value_comes list_option text s rows pending settles tells ordered
idle_with save_option transform_words text s rows pending settles tells ordered = value_comes save_option text s rows pending settles tells ordered
idle_with list_option host_words text s rows pending settles tells ordered = λ e. absurd (some_kind kind.UnknownArgument [] e)
idle_with list_option run_words text s rows pending settles tells ordered = λ e. absurd (some_kind kind.UnknownArgument [] e)
idle_with list_option gen_words text s rows pending settles tells ordered = λ e. absurd (some_kind kind.UnknownArgument [] e)
idle_with list_option save_words text s rows pending settles tells ordered = λ e. absurd (some_kind kind.UnknownArgument [] e)
idle_with list_option continue_words text s rows pending settles tells ordered = λ e. absurd (some_kind kind.UnknownArgument [] e)
idle_with save_option host_words text s rows pending settles tells ordered = λ e. absurd (some_kind kind.UnknownArgument [] e)
idle_with save_option run_words text s rows pending settles tells ordered = λ e. absurd (some_kind kind.UnknownArgument [] e)
idle_with save_option gen_words text s rows pending settles tells ordered = λ e. absurd (some_kind kind.UnknownArgument [] e)
idle_with save_option save_words text s rows pending settles tells ordered = λ e. absurd (some_kind kind.UnknownArgument [] e)
idle_with save_option continue_words text s rows pending settles tells ordered = λ e. absurd (some_kind kind.UnknownArgument [] e)

-- a name, or a word behind `--`, goes to its place
to_place : (k : Kind) (s : Said) (rows : List Row) (pending : Option (Text × List Text)) (word : Text) → waits s.place ≡ idle → Settles k rows pending → Tells k s (whole k rows pending) → Ordered s
    → (waiting : Waiting) (trail : Bool) → waiting ≡ waits s.place → trail ≡ trails s.place
    → word_fault (shape k) [] trail waiting word (held rows pending) ≡ [] → word_met (rules k) [] trail waiting (position s.input s.output s.third) word (held rows pending) ≡ (held rows pending, value)
    → After k (tell_file k word s) (turn_fault (shape k) [] (at_walk rows pending waiting (position s.input s.output s.third) trail) word)
    (walked (rules k) [] (at_walk rows pending waiting (position s.input s.output s.third) trail) word)
to_place k s rows pending word idles settles tells ordered waiting trail w t faults met =
    let at = position s.input s.output s.third in
    let seen = shows k rows pending waiting at trail word [] (held rows pending) value faults met in
    after_as k (tell_file k word s) (turn_fault (shape k) [] (at_walk rows pending waiting at trail) word) (step_fault (shape k) at (held rows pending) value)
    (walked (rules k) [] (at_walk rows pending waiting at trail) word)
    (to_positional (rules k) (arg_by_index (rules k) at) word (at_walk rows pending (waits s.place) at (trails s.place)) (held rows pending)) seen.0
    (seen.1 ∙ (λ i. to_positional (rules k) (arg_by_index (rules k) at) word (at_walk rows pending (w i) at (t i)) (held rows pending)))
    (place_word k word s rows pending idles settles tells ordered)

idle_name : (k : Kind) (s : Said) (rows : List Row) (pending : Option (Text × List Text)) (word : Text) → Settles k rows pending → Tells k s (whole k rows pending) → Ordered s → s.place ≡ anywhere
    → IsName word → Idly k s rows pending word
idle_name k s rows pending word settles tells ordered at n =
    let h = held rows pending in
    subst (λ o. After k (tell_word k o s) (turn_fault (shape k) [] (idle_walk s rows pending) word) (walked (rules k) [] (idle_walk s rows pending) word)) (sym n.told)
    (to_place k s rows pending word (ap waits at) settles tells ordered idle false (ap waits (sym at)) (ap trails (sym at))
    (name_is k h idle word n.no_end n.no_long n.no_short) (name_met k h idle (position s.input s.output s.third) word n.no_end n.no_long n.no_short))

idle_unknown : (k : Kind) (s : Said) (rows : List Row) (pending : Option (Text × List Text)) (word : Text) → IsUnknown word → HasFlags word → Idly k s rows pending word
idle_unknown k s rows pending word h f =
    refused k (tell_word k (word_of word) s) (turn_fault (shape k) [] (idle_walk s rows pending) word) (walked (rules k) [] (idle_walk s rows pending) word)
    (ap (λ o. tell_word k o s) h.told ∙ no_word k s) (unknown_fails k rows pending idle (position s.input s.output s.third) word h f)

idle_step : (k : Kind) (s : Said) (rows : List Row) (pending : Option (Text × List Text)) (word : Text) → View word → s.place ≡ anywhere → Settles k rows pending → Tells k s (whole k rows pending)
    → Ordered s → Idly k s rows pending word
idle_step k s rows pending word (is_end e) at settles tells ordered = subst (Idly k s rows pending) (sym e) (idle_end k s rows pending settles tells ordered)
idle_step k s rows pending word (is_list e) at settles tells ordered = subst (Idly k s rows pending) (sym e) (idle_option list_option k s rows pending settles tells ordered)
idle_step k s rows pending word (is_save e) at settles tells ordered = subst (Idly k s rows pending) (sym e) (idle_option save_option k s rows pending settles tells ordered)
idle_step k s rows pending word (is_imports e) at settles tells ordered = subst (Idly k s rows pending) (sym e) (idle_imports k s rows pending settles tells ordered at)
idle_step k s rows pending word (is_indirect e) at settles tells ordered = subst (Idly k s rows pending) (sym e) (idle_indirect k s rows pending settles tells ordered at)
idle_step k s rows pending word (is_asserts e) at settles tells ordered = subst (Idly k s rows pending) (sym e) (idle_asserts k s rows pending settles tells ordered at)
idle_step k s rows pending word (is_list_with text e) at settles tells ordered = subst (Idly k s rows pending) (sym e) (idle_with list_option k text s rows pending settles tells ordered)
idle_step k s rows pending word (is_save_with text e) at settles tells ordered = subst (Idly k s rows pending) (sym e) (idle_with save_option k text s rows pending settles tells ordered)
idle_step k s rows pending word (is_named n) at settles tells ordered = idle_name k s rows pending word settles tells ordered at n
idle_step k s rows pending word (is_long h p e strange) at settles tells ordered = idle_unknown k s rows pending word h (inl (p, e, strange))
idle_step k s rows pending word (is_short h none y ys e x first) at settles tells ordered = idle_unknown k s rows pending word h (inr (none, y, ys, e, x, first))

-- ---- where a value is owed

-- the walk where the value is owed
abbrev owing_walk : Valued → Said → List Row → Walk
owing_walk v s rows = at_walk rows (Some (option_id v, [])) (option (option_id v)) (position s.input s.output s.third) false

abbrev Owing : Valued → Said → List Row → Text → Type 0
Owing v s rows word = After transform_words (tell_value v word s) (turn_fault (shape transform_words) [] (owing_walk v s rows) word) (walked (rules transform_words) [] (owing_walk v s rows) word)

-- an option without its value fails
never_settles : (v : Valued) (rows : List Row) → Settles transform_words rows (Some (option_id v, [])) → ⊥
never_settles list_option rows e = some_kind kind.InvalidValue [] e
never_settles save_option rows e = some_kind kind.InvalidValue [] e

-- .. and with it is used once
settles_once : (v : Valued) (text : Text) (rows : List Row) → settle_fault (rules transform_words) false (held rows (Some (option_id v, text ∷ []))) ≡ comes (option_id v) rows
settles_once list_option text rows = refl
settles_once save_option text rows = refl

whole_once : (v : Valued) (text : Text) (rows : List Row) → whole transform_words rows (Some (option_id v, text ∷ [])) ≡ added (option_id v) text rows
whole_once list_option text rows = refl
whole_once save_option text rows = refl

owing_end : (v : Valued) (s : Said) (rows : List Row) → Owing v s rows (codes "--")
unfolding walked
owing_end v s rows = λ e. record {
  rows = rows;
  pending = Some (option_id v, []);
  waiting = option (option_id v);
  place = position s.input s.output s.third;
  trail = true;
  is = refl;
  fails = never_settles v rows;
  closed = inr refl;
}

-- the word is the value
value_met : (v : Valued) (word : Text) (rows : List Row)
    → plain_word (rules transform_words) (option (option_id v)) word (held rows (Some (option_id v, []))) ≡ (held rows (Some (option_id v, word ∷ [])), next idle)
value_met list_option word rows = refl
value_met save_option word rows = refl

-- the walk behind the value
value_owed : (v : Valued) (s : Said) (rows : List Row) (word : Text) → Tells transform_words s rows → Ordered s
    → After transform_words (say_value v word s) [] (at_walk rows (Some (option_id v, word ∷ [])) idle (position s.input s.output s.third) false)
value_owed v s rows word tells ordered = go (said_at (value_slot v) s) refl
  where
    go : (o : Option Text) → said_at (value_slot v) s ≡ o → After transform_words (say_value v word s) [] (at_walk rows (Some (option_id v, word ∷ [])) idle (position s.input s.output s.third) false)
    go None e =
        let t : Said = given_value v word s in
        let once = taken transform_words (value_slot v) word s t rows e (has_value v s word) (keeps_value v s word) tells in
        subst (λ (o : Option Said). After transform_words o [] (at_walk rows (Some (option_id v, word ∷ [])) idle (position s.input s.output s.third) false)) (sym (say_once v word s None e))
        (refl, rows, Some (option_id v, word ∷ []), refl, (settles_once v word rows ∙ once.0, subst (Tells transform_words t) (sym (whole_once v word rows)) once.1, ordered))
    go (Some earlier) e =
        subst (λ (o : Option Said). After transform_words o [] (at_walk rows (Some (option_id v, word ∷ [])) idle (position s.input s.output s.third) false)) (sym (say_once v word s (Some earlier) e))
        (λ f. record {
          rows = rows;
          pending = Some (option_id v, word ∷ []);
          waiting = idle;
          place = position s.input s.output s.third;
          trail = false;
          is = refl;
          fails = λ h. repeated transform_words (value_slot v) earlier s rows e tells (sym (settles_once v word rows) ∙ h);
          closed = inl refl;
        })

owing_name : (v : Valued) (s : Said) (rows : List Row) (word : Text) → IsName word → Tells transform_words s rows → Ordered s → Owing v s rows word
unfolding walked
owing_name v s rows word n tells ordered =
    let h = held rows (Some (option_id v, [])) in
    let at = position s.input s.output s.third in
    let seen = shows transform_words rows (Some (option_id v, [])) (option (option_id v)) at false word [] (held rows (Some (option_id v, word ∷ []))) (next idle)
    (name_is transform_words h (option (option_id v)) word n.no_end n.no_long n.no_short)
    (name_met transform_words h (option (option_id v)) at word n.no_end n.no_long n.no_short ∙ value_met v word rows) in
    subst (λ (b : Bool). After transform_words (if b then None else say_value v word s) (turn_fault (shape transform_words) [] (owing_walk v s rows) word)
    (walked (rules transform_words) [] (owing_walk v s rows) word)) (sym n.listed)
    (after_as transform_words (say_value v word s) (turn_fault (shape transform_words) [] (owing_walk v s rows) word) []
    (walked (rules transform_words) [] (owing_walk v s rows) word) (at_walk rows (Some (option_id v, word ∷ [])) idle at false) seen.0 seen.1 (value_owed v s rows word tells ordered))

owing_unknown : (v : Valued) (s : Said) (rows : List Row) (word : Text) → IsUnknown word → HasFlags word → Owing v s rows word
owing_unknown v s rows word h f =
    refused transform_words (tell_value v word s) (turn_fault (shape transform_words) [] (owing_walk v s rows) word) (walked (rules transform_words) [] (owing_walk v s rows) word)
    (ap (λ (b : Bool). if b then None else say_value v word s) h.listed)
    (unknown_fails transform_words rows (Some (option_id v, [])) (option (option_id v)) (position s.input s.output s.third) word h f)

owing_step : (v : Valued) (s : Said) (rows : List Row) (word : Text) → View word → Tells transform_words s rows → Ordered s → Owing v s rows word
owing_step v s rows word (is_end e) tells ordered = subst (Owing v s rows) (sym e) (owing_end v s rows)
owing_step list_option s rows word (is_list e) tells ordered = subst (Owing list_option s rows) (sym e) (λ f. absurd (some_kind kind.InvalidValue [] f))
owing_step save_option s rows word (is_list e) tells ordered = subst (Owing save_option s rows) (sym e) (λ f. absurd (some_kind kind.InvalidValue [] f))
owing_step list_option s rows word (is_save e) tells ordered = subst (Owing list_option s rows) (sym e) (λ f. absurd (some_kind kind.InvalidValue [] f))
owing_step save_option s rows word (is_save e) tells ordered = subst (Owing save_option s rows) (sym e) (λ f. absurd (some_kind kind.InvalidValue [] f))
owing_step list_option s rows word (is_imports e) tells ordered = subst (Owing list_option s rows) (sym e) (λ f. absurd (some_kind kind.InvalidValue [] f))
owing_step save_option s rows word (is_imports e) tells ordered = subst (Owing save_option s rows) (sym e) (λ f. absurd (some_kind kind.InvalidValue [] f))
owing_step list_option s rows word (is_indirect e) tells ordered = subst (Owing list_option s rows) (sym e) (λ f. absurd (some_kind kind.InvalidValue [] f))
owing_step save_option s rows word (is_indirect e) tells ordered = subst (Owing save_option s rows) (sym e) (λ f. absurd (some_kind kind.InvalidValue [] f))
owing_step list_option s rows word (is_asserts e) tells ordered = subst (Owing list_option s rows) (sym e) (λ f. absurd (some_kind kind.InvalidValue [] f))
owing_step save_option s rows word (is_asserts e) tells ordered = subst (Owing save_option s rows) (sym e) (λ f. absurd (some_kind kind.InvalidValue [] f))
owing_step list_option s rows word (is_list_with text e) tells ordered = subst (Owing list_option s rows) (sym e) (λ f. absurd (some_kind kind.InvalidValue [] f))
owing_step save_option s rows word (is_list_with text e) tells ordered = subst (Owing save_option s rows) (sym e) (λ f. absurd (some_kind kind.InvalidValue [] f))
owing_step list_option s rows word (is_save_with text e) tells ordered = subst (Owing list_option s rows) (sym e) (λ f. absurd (some_kind kind.InvalidValue [] f))
owing_step save_option s rows word (is_save_with text e) tells ordered = subst (Owing save_option s rows) (sym e) (λ f. absurd (some_kind kind.InvalidValue [] f))
owing_step v s rows word (is_named n) tells ordered = owing_name v s rows word n tells ordered
owing_step v s rows word (is_long h p e strange) tells ordered = owing_unknown v s rows word h (inl (p, e, strange))
owing_step v s rows word (is_short h none y ys e x first) tells ordered = owing_unknown v s rows word h (inr (none, y, ys, e, x, first))

-- ---- one word anywhere

abbrev Stepped : Kind → Said → List Row → Option (Text × List Text) → Text → Place → Type 0
Stepped k s rows pending word place =
    After k (tell_at k place word s) (turn_fault (shape k) [] (at_walk rows pending (waits place) (position s.input s.output s.third) (trails place)) word)
    (walked (rules k) [] (at_walk rows pending (waits place) (position s.input s.output s.third) (trails place)) word)

abbrev owed_place : Valued → Place
owed_place list_option = behind_imports
owed_place save_option = behind_save

owed_step : (o : Valued) (k : Kind) (s : Said) (rows : List Row) (pending : Option (Text × List Text)) (word : Text) → View word → Owes k o s rows pending
    → Stepped k s rows pending word (owed_place o)
owed_step list_option transform_words s rows pending word v owes =
    subst (λ p. Stepped transform_words s rows p word behind_imports) (sym owes.0) (owing_step list_option s rows word v owes.1 owes.2)
owed_step save_option transform_words s rows pending word v owes =
    subst (λ p. Stepped transform_words s rows p word behind_save) (sym owes.0) (owing_step save_option s rows word v owes.1 owes.2)
owed_step o host_words s rows pending word v owes = absurd owes
owed_step o run_words s rows pending word v owes = absurd owes
owed_step o gen_words s rows pending word v owes = absurd owes
owed_step o save_words s rows pending word v owes = absurd owes
owed_step o continue_words s rows pending word v owes = absurd owes

place_step : (k : Kind) (s : Said) (rows : List Row) (pending : Option (Text × List Text)) (word : Text) → View word → (place : Place) → s.place ≡ place → Stands place k s rows pending
    → Stepped k s rows pending word place
place_step k s rows pending word v anywhere at h = idle_step k s rows pending word v at h.0 h.1 h.2
place_step k s rows pending word v behind_imports at h = owed_step list_option k s rows pending word v h
place_step k s rows pending word v behind_save at h = owed_step save_option k s rows pending word v h
place_step k s rows pending word v behind_options at h =
    to_place k s rows pending word (ap waits at) h.0 h.1 h.2 idle true (ap waits (sym at)) (ap trails (sym at)) refl refl

-- each word goes on as what it tells says
pub step : (k : Kind) (s : Said) (rows : List Row) (pending : Option (Text × List Text)) (word : Text) → View word → Stands s.place k s rows pending
    → After k (tell_at k s.place word s) (turn_fault (shape k) [] (walk_of s rows pending) word) (walked (rules k) [] (walk_of s rows pending) word)
step k s rows pending word v h = place_step k s rows pending word v s.place refl h
