-- A word that goes to a place: IN, OUT, SCRIPT, N, E or SNAP.
use Rattle.std.proofs.Common.{◌≡◌, ◌∙◌, ◌+◌, ℕ, List, [], ◌∷◌, Option, Some, None, Bool, true, false, refl, sym, ap, subst, if◌then◌else◌, is_some, true≢false, min}
use Rattle.std.specs.Option.{option_map_or}
use Rattle.clap.specs.Lexer.{usize_max}
use Rattle.clap.specs.Walk.{Held, Row, Rule, Text, Walk, Waiting, arg_by_index, arg_by_id, idle, is_pending, pushed, settled, to_positional, used_by_id, value}
use Rattle.clap.specs.Kinds.{or_else}
use Rattle.clap.specs.Faults.{positional_fault, repeat_fault, settle_fault, step_fault, stray_fault, use_fault}
use Rattle.clap.specs.declared.error.kind.ErrorKind.TheVariants as kind
use Rattle.script_model.specs.Command.{Said, Place, anywhere, behind_imports, behind_save, behind_options}
use Rattle.command_words.specs.Grammar.{Kind, transform_words, host_words, run_words, gen_words, save_words, continue_words, rules, shape}
use Rattle.command_words.proofs.Telling.{tell_file}
use Rattle.command_words.proofs.Rows.{Slot, list_slot, save_slot, imports_slot, indirect_slot, asserts_slot, input_slot, output_slot, third_slot, id_of, input_id, output_id, third_id, same_slot, said_at, Tells, taken}
use Rattle.command_words.proofs.Steps.{After, Ordered, Settles, Stands, and_false, at_walk, file_by, held, or_false, placed_built, position, some_kind, tell_file_is, trails, waits, whole}

abbrev is_owed : Waiting → Bool
is_owed idle = false
is_owed _ = true

-- no value is owed
pub stands_at : (place : Place) (k : Kind) (s : Said) (rows : List Row) (pending : Option (Text × List Text)) → waits place ≡ idle → Settles k rows pending → Tells k s (whole k rows pending)
    → Ordered s
    → Stands place k s rows pending
stands_at anywhere k s rows pending e settles tells ordered = (settles, tells, ordered)
stands_at behind_imports k s rows pending e settles tells ordered = absurd (true≢false (ap is_owed e))
stands_at behind_save k s rows pending e settles tells ordered = absurd (true≢false (ap is_owed e))
stands_at behind_options k s rows pending e settles tells ordered = (settles, tells, ordered)

module _ (k : Kind) (slot : Slot) (at : ℕ) (word : Text) (s t : Said) (rows : List Row) (pending : Option (Text × List Text))
    (by_index : arg_by_index (rules k) at ≡ Some (placed_built at (id_of k slot))) (by_id : arg_by_id (rules k) (id_of k slot) ≡ Some (placed_built at (id_of k slot)))
    (waiting : waits s.place ≡ idle) (settles : Settles k rows pending) (tells : Tells k s (whole k rows pending))
    (none : said_at slot s ≡ None) (some : said_at slot t ≡ Some word) (others : (other : Slot) → same_slot slot other ≡ false → said_at other t ≡ said_at other s) where
  abbrev a : Rule
  a = placed_built at (id_of k slot)

  abbrev h : Held
  h = held rows pending

  abbrev next_rows : List Row
  next_rows = whole k rows pending

  abbrev next_pending : Option (Text × List Text)
  next_pending = Some (id_of k slot, word ∷ [])

  turn_passes : step_fault (shape k) at h value ≡ []
  turn_passes =
      ap (λ (o : Option Rule). option_map_or (λ (r : Rule). positional_fault (rules k) false r h) o (stray_fault (shape k))) by_index
      ∙ ap (λ (b : Bool). if b then [] else settle_fault (rules k) false h) (and_false (is_pending a pending)) ∙ settles

  walk_is : to_positional (rules k) (arg_by_index (rules k) at) word (at_walk rows pending (waits s.place) at (trails s.place)) h
      ≡ at_walk next_rows next_pending (waits s.place) (min (at + 1) usize_max) (trails s.place)
  walk_is =
      ap (λ (o : Option Rule). to_positional (rules k) o word (at_walk rows pending (waits s.place) at (trails s.place)) h) by_index
      ∙ (λ i. record {
        held = pushed (id_of k slot) word (if and_false (is_pending a pending) i then h else settled (rules k) h);
        waiting = (sym waiting) i;
        position = min (at + 1) usize_max;
        is_trailing = or_false (trails s.place) i;
        stopped = None;
      })

  one_more : (or_else (repeat_fault false (id_of k slot) next_rows) [] ≡ []) × Tells k t (used_by_id (Some a) (word ∷ []) next_rows)
  one_more = taken k slot word s t next_rows none some others tells

  still_settles : Settles k next_rows next_pending
  still_settles = ap (λ (o : Option Rule). option_map_or (λ (r : Rule). use_fault false r (word ∷ []) next_rows) o []) by_id ∙ one_more.0

  still_tells : Tells k t (whole k next_rows next_pending)
  still_tells = subst (λ (o : Option Rule). Tells k t (used_by_id o (word ∷ []) next_rows)) (sym by_id) one_more.1

keeps_input : (s : Said) (text : Text) (other : Slot) → same_slot input_slot other ≡ false → said_at other (record s { input = Some text }) ≡ said_at other s
keeps_input s text list_slot e = refl
keeps_input s text save_slot e = refl
keeps_input s text imports_slot e = refl
keeps_input s text indirect_slot e = refl
keeps_input s text asserts_slot e = refl
keeps_input s text input_slot e = absurd (true≢false e)
keeps_input s text output_slot e = refl
keeps_input s text third_slot e = refl

keeps_output : (s : Said) (text : Text) (other : Slot) → same_slot output_slot other ≡ false → said_at other (record s { output = Some text }) ≡ said_at other s
keeps_output s text list_slot e = refl
keeps_output s text save_slot e = refl
keeps_output s text imports_slot e = refl
keeps_output s text indirect_slot e = refl
keeps_output s text asserts_slot e = refl
keeps_output s text input_slot e = refl
keeps_output s text output_slot e = absurd (true≢false e)
keeps_output s text third_slot e = refl

keeps_third : (s : Said) (text : Text) (other : Slot) → same_slot third_slot other ≡ false → said_at other (record s { third = Some text }) ≡ said_at other s
keeps_third s text list_slot e = refl
keeps_third s text save_slot e = refl
keeps_third s text imports_slot e = refl
keeps_third s text indirect_slot e = refl
keeps_third s text asserts_slot e = refl
keeps_third s text input_slot e = refl
keeps_third s text output_slot e = refl
keeps_third s text third_slot e = absurd (true≢false e)

-- the walk behind a word at this place
abbrev goes : Kind → ℕ → Text → Said → List Row → Option (Text × List Text) → Walk
goes k at word s rows pending = to_positional (rules k) (arg_by_index (rules k) at) word (at_walk rows pending (waits s.place) at (trails s.place)) (held rows pending)

module _ (k : Kind) (word : Text) (s : Said) (rows : List Row) (pending : Option (Text × List Text))
    (waiting : waits s.place ≡ idle) (settles : Settles k rows pending) (tells : Tells k s (whole k rows pending)) (ordered : Ordered s) where
  first : arg_by_index (rules k) 1 ≡ Some (placed_built 1 (input_id k)) → arg_by_id (rules k) (input_id k) ≡ Some (placed_built 1 (input_id k))
      → s.input ≡ None → s.output ≡ None → After k (Some (record s { input = Some word })) (step_fault (shape k) 1 (held rows pending) value) (goes k 1 word s rows pending)
  first by_index by_id input output =
      let t : Said = record s { input = Some word } in
      let r = whole k rows pending in
      let p : Option (Text × List Text) = Some (input_id k, word ∷ []) in (
        turn_passes k input_slot 1 word s t rows pending by_index by_id waiting settles tells input refl (keeps_input s word),
        r,
        p,
        walk_is k input_slot 1 word s t rows pending by_index by_id waiting settles tells input refl (keeps_input s word)
            ∙ ap (λ (o : Option Text). at_walk r p (waits s.place) (position (Some word) o s.third) (trails s.place)) (sym output),
        stands_at s.place k t r p waiting (still_settles k input_slot 1 word s t rows pending by_index by_id waiting settles tells input refl (keeps_input s word))
            (still_tells k input_slot 1 word s t rows pending by_index by_id waiting settles tells input refl (keeps_input s word)) ((λ e. refl), ordered.1),
      )

  second : arg_by_index (rules k) 2 ≡ Some (placed_built 2 (output_id k)) → arg_by_id (rules k) (output_id k) ≡ Some (placed_built 2 (output_id k))
      → (input : Text) → s.input ≡ Some input → s.output ≡ None → s.third ≡ None
      → After k (Some (record s { output = Some word })) (step_fault (shape k) 2 (held rows pending) value) (goes k 2 word s rows pending)
  second by_index by_id input some output third =
      let t : Said = record s { output = Some word } in
      let r = whole k rows pending in
      let p : Option (Text × List Text) = Some (output_id k, word ∷ []) in (
        turn_passes k output_slot 2 word s t rows pending by_index by_id waiting settles tells output refl (keeps_output s word),
        r,
        p,
        walk_is k output_slot 2 word s t rows pending by_index by_id waiting settles tells output refl (keeps_output s word)
            ∙ (λ i. at_walk r p (waits s.place) (position (sym some i) (Some word) (sym third i)) (trails s.place)),
        stands_at s.place k t r p waiting (still_settles k output_slot 2 word s t rows pending by_index by_id waiting settles tells output refl (keeps_output s word))
            (still_tells k output_slot 2 word s t rows pending by_index by_id waiting settles tells output refl (keeps_output s word)) ((λ e. ap is_some some), (λ e. refl)),
      )

  last : arg_by_index (rules k) 3 ≡ Some (placed_built 3 (third_id k)) → arg_by_id (rules k) (third_id k) ≡ Some (placed_built 3 (third_id k))
      → (input output : Text) → s.input ≡ Some input → s.output ≡ Some output → s.third ≡ None
      → After k (Some (record s { third = Some word })) (step_fault (shape k) 3 (held rows pending) value) (goes k 3 word s rows pending)
  last by_index by_id input output some more third =
      let t : Said = record s { third = Some word } in
      let r = whole k rows pending in
      let p : Option (Text × List Text) = Some (third_id k, word ∷ []) in (
        turn_passes k third_slot 3 word s t rows pending by_index by_id waiting settles tells third refl (keeps_third s word),
        r,
        p,
        walk_is k third_slot 3 word s t rows pending by_index by_id waiting settles tells third refl (keeps_third s word)
            ∙ (λ i. at_walk r p (waits s.place) (position (sym some i) (sym more i) (Some word)) (trails s.place)),
        stands_at s.place k t r p waiting (still_settles k third_slot 3 word s t rows pending by_index by_id waiting settles tells third refl (keeps_third s word))
            (still_tells k third_slot 3 word s t rows pending by_index by_id waiting settles tells third refl (keeps_third s word)) (ordered.0, (λ e. ap is_some more)),
      )

  -- no file stands before the one in front of it
  disordered : (output : Text) → s.input ≡ None → s.output ≡ Some output → ⊥
  disordered output none some = true≢false (sym (ordered.0 (ap is_some some)) ∙ ap is_some none)

  third_alone : (third : Text) → s.output ≡ None → s.third ≡ Some third → ⊥
  third_alone third none some = true≢false (sym (ordered.1 (ap is_some some)) ∙ ap is_some none)

at_place : (k : Kind) (word : Text) (s : Said) (rows : List Row) (pending : Option (Text × List Text)) → waits s.place ≡ idle → Settles k rows pending → Tells k s (whole k rows pending) → Ordered s
    → (input output third : Option Text) → s.input ≡ input → s.output ≡ output → s.third ≡ third
    → After k (file_by k input output third word s) (step_fault (shape k) (position input output third) (held rows pending) value) (goes k (position input output third) word s rows pending)
at_place k word s rows pending w settles tells ordered None (Some output) third i o t = absurd (disordered k word s rows pending w settles tells ordered output i o)
at_place k word s rows pending w settles tells ordered None None (Some third) i o t = absurd (third_alone k word s rows pending w settles tells ordered third o t)
at_place k word s rows pending w settles tells ordered (Some input) None (Some third) i o t = absurd (third_alone k word s rows pending w settles tells ordered third o t)
at_place transform_words word s rows pending w settles tells ordered None None None i o t = first transform_words word s rows pending w settles tells ordered refl refl i o
at_place host_words word s rows pending w settles tells ordered None None None i o t = first host_words word s rows pending w settles tells ordered refl refl i o
at_place run_words word s rows pending w settles tells ordered None None None i o t = first run_words word s rows pending w settles tells ordered refl refl i o
at_place gen_words word s rows pending w settles tells ordered None None None i o t = first gen_words word s rows pending w settles tells ordered refl refl i o
at_place save_words word s rows pending w settles tells ordered None None None i o t = first save_words word s rows pending w settles tells ordered refl refl i o
at_place continue_words word s rows pending w settles tells ordered None None None i o t = first continue_words word s rows pending w settles tells ordered refl refl i o
at_place transform_words word s rows pending w settles tells ordered (Some input) None None i o t = second transform_words word s rows pending w settles tells ordered refl refl input i o t
at_place host_words word s rows pending w settles tells ordered (Some input) None None i o t = λ e. absurd (some_kind kind.UnknownArgument [] e)
at_place run_words word s rows pending w settles tells ordered (Some input) None None i o t = λ e. absurd (some_kind kind.UnknownArgument [] e)
at_place gen_words word s rows pending w settles tells ordered (Some input) None None i o t = second gen_words word s rows pending w settles tells ordered refl refl input i o t
at_place save_words word s rows pending w settles tells ordered (Some input) None None i o t = second save_words word s rows pending w settles tells ordered refl refl input i o t
at_place continue_words word s rows pending w settles tells ordered (Some input) None None i o t = second continue_words word s rows pending w settles tells ordered refl refl input i o t
at_place transform_words word s rows pending w settles tells ordered (Some input) (Some output) None i o t = λ e. absurd (some_kind kind.UnknownArgument [] e)
at_place host_words word s rows pending w settles tells ordered (Some input) (Some output) None i o t = λ e. absurd (some_kind kind.UnknownArgument [] e)
at_place run_words word s rows pending w settles tells ordered (Some input) (Some output) None i o t = λ e. absurd (some_kind kind.UnknownArgument [] e)
at_place gen_words word s rows pending w settles tells ordered (Some input) (Some output) None i o t = λ e. absurd (some_kind kind.UnknownArgument [] e)
at_place save_words word s rows pending w settles tells ordered (Some input) (Some output) None i o t = last save_words word s rows pending w settles tells ordered refl refl input output i o t
at_place continue_words word s rows pending w settles tells ordered (Some input) (Some output) None i o t = λ e. absurd (some_kind kind.UnknownArgument [] e)
at_place transform_words word s rows pending w settles tells ordered (Some input) (Some output) (Some third) i o t = λ e. absurd (some_kind kind.UnknownArgument [] e)
at_place host_words word s rows pending w settles tells ordered (Some input) (Some output) (Some third) i o t = λ e. absurd (some_kind kind.UnknownArgument [] e)
at_place run_words word s rows pending w settles tells ordered (Some input) (Some output) (Some third) i o t = λ e. absurd (some_kind kind.UnknownArgument [] e)
at_place gen_words word s rows pending w settles tells ordered (Some input) (Some output) (Some third) i o t = λ e. absurd (some_kind kind.UnknownArgument [] e)
at_place save_words word s rows pending w settles tells ordered (Some input) (Some output) (Some third) i o t = λ e. absurd (some_kind kind.UnknownArgument [] e)
at_place continue_words word s rows pending w settles tells ordered (Some input) (Some output) (Some third) i o t = λ e. absurd (some_kind kind.UnknownArgument [] e)

-- a word that goes to a place tells a file, or is one too many
pub place_word : (k : Kind) (word : Text) (s : Said) (rows : List Row) (pending : Option (Text × List Text)) → waits s.place ≡ idle → Settles k rows pending → Tells k s (whole k rows pending)
    → Ordered s
    → After k (tell_file k word s) (step_fault (shape k) (position s.input s.output s.third) (held rows pending) value) (goes k (position s.input s.output s.third) word s rows pending)
place_word k word s rows pending w settles tells ordered =
    subst (λ o. After k o (step_fault (shape k) (position s.input s.output s.third) (held rows pending) value) (goes k (position s.input s.output s.third) word s rows pending)) (sym (tell_file_is k word s))
    (at_place k word s rows pending w settles tells ordered s.input s.output s.third refl refl refl)
