-- One word of a command, as `clap`'s walk goes over it and as it tells something.
use Rattle.std.proofs.Common.{◌≡◌, ◌⊎◌, ◌∙◌, ℕ, List, [], ◌∷◌, Option, Some, None, Bool, true, false, cond, ◌&&◌, ◌||◌, suc, inl, inr, refl, sym, ap, subst, codes, bytes_eq, if◌then◌else◌, is_some, true≢false, slice_get, chars, length, drop, encode_utf8}
use Rattle.std.specs.Option.{option_map_or}
use Rattle.clap.specs.Lexer.{long_of, short_of}
use Rattle.clap.specs.Walk.{Held, Row, Rule, Step, Text, Waiting, Walk, after_step, arg_by_long, arg_by_short, idle, long_or_other, option, plain_word, positional, settled_rows, short_or_plain, subcommand_met, subcommand_or_other, trailing, walked, word_met}
use Rattle.clap.specs.Simple.{filled, with_index}
use Rattle.clap.specs.Kinds.{Kinds, or_else}
use Rattle.clap.specs.Faults.{bundle_fault, flag_word_fault, flags_fault, long_fault, other_fault, bundle_step_fault, short_fault, settle_fault, step_fault, turn_fault, word_fault}
use Rattle.clap.specs.declared.error.kind.ErrorKind.{ErrorKind}
use Rattle.clap.specs.declared.error.kind.ErrorKind.TheVariants as kind
use Rattle.script_model.specs.Command.{Said, Place, behind_imports, behind_save, behind_options, say_file}
use Rattle.command_words.specs.Grammar.{Kind, transform_words, host_words, run_words, gen_words, save_words, continue_words, rules, shape, option_rule, flag_rule, placed_rule}
use Rattle.command_words.proofs.Views.{IsUnknown, Strange}
use Rattle.command_words.proofs.Telling.{tell_file, one_at_most, two_at_most, Valued, list_option, save_option}
use Rattle.command_words.proofs.Rows.{Tells, is_any, option_id}

-- ---- the arguments, built

abbrev pub option_built : Text → Rule
option_built name = with_index 1 (filled (option_rule name))

abbrev pub flag_built : Text → Rule
flag_built name = with_index 1 (filled (flag_rule name))

abbrev pub placed_built : ℕ → Text → Rule
placed_built place id = with_index place (filled (placed_rule id))

-- ---- kinds of error

pub some_kind : (k : ErrorKind) (ks : Kinds) → k ∷ ks ≡ [] → ⊥
some_kind k ks e = true≢false (ap is_any e)

pub first_passes : (a b : Kinds) → or_else a b ≡ [] → a ≡ []
first_passes [] b e = refl
first_passes (k ∷ ks) b e = absurd (some_kind k ks e)

-- ---- where the walk stands

abbrev pub held : List Row → Option (Text × List Text) → Held
held rows pending = record { rows = rows; pending = pending; skip = 0 }

abbrev pub waits : Place → Waiting
waits behind_imports = option (codes "imports")
waits behind_save = option (codes "save")
waits _ = idle

abbrev pub trails : Place → Bool
trails behind_options = true
trails _ = false

abbrev pub position : (input output third : Option Text) → ℕ
position None output third = 1
position (Some input) None third = 2
position (Some input) (Some output) None = 3
position (Some input) (Some output) (Some third) = 4

abbrev pub at_walk : (rows : List Row) (pending : Option (Text × List Text)) (waiting : Waiting) (place : ℕ) (trail : Bool) → Walk
at_walk rows pending waiting place trail = record { held = held rows pending; waiting = waiting; position = place; is_trailing = trail; stopped = None }

abbrev pub walk_of : Said → List Row → Option (Text × List Text) → Walk
walk_of s rows pending = at_walk rows pending (waits s.place) (position s.input s.output s.third) (trails s.place)

-- what is pending passes
abbrev pub Settles : Kind → List Row → Option (Text × List Text) → Type 0
Settles k rows pending = settle_fault (rules k) false (held rows pending) ≡ []

-- the rows with what is pending
abbrev pub whole : Kind → List Row → Option (Text × List Text) → List Row
whole k rows pending = settled_rows (rules k) pending rows

-- the files come in their order
abbrev pub Ordered : Said → Type 0
Ordered s = (is_some s.output ≡ true → is_some s.input ≡ true) × (is_some s.third ≡ true → is_some s.output ≡ true)

-- the value of an option is owed
abbrev pub Owes : Kind → Valued → Said → List Row → Option (Text × List Text) → Type 0
Owes transform_words v s rows pending = (pending ≡ Some (option_id v, [])) × Tells transform_words s rows × Ordered s
Owes _ v s rows pending = ⊥

abbrev pub Stands : Place → Kind → Said → List Row → Option (Text × List Text) → Type 0
Stands behind_imports k s rows pending = Owes k list_option s rows pending
Stands behind_save k s rows pending = Owes k save_option s rows pending
Stands _ k s rows pending = Settles k rows pending × Tells k s (whole k rows pending) × Ordered s

-- what is pending fails, and no word mends it
pub record Doomed (k : Kind) (w : Walk) : Type 0 where
  pub rows : List Row
  pub pending : Option (Text × List Text)
  pub waiting : Waiting
  pub place : ℕ
  pub trail : Bool
  pub is : w ≡ at_walk rows pending waiting place trail
  pub fails : Settles k rows pending → ⊥
  pub closed : (waiting ≡ idle) ⊎ (trail ≡ true)

-- The walk behind a word: it stands where what is told says, or has failed, or will.
abbrev pub After : Kind → Option Said → Kinds → Walk → Type 0
After k None kinds w = kinds ≡ [] → Doomed k w
After k (Some s) kinds w =
    (kinds ≡ []) × (rows : List Row) × (pending : Option (Text × List Text)) × (w ≡ walk_of s rows pending) × Stands s.place k s rows pending

-- ---- a word, by what it meets

abbrev shown : Kind → Walk → Text → Kinds → Held → Step → Type 0
shown k w word kinds h step =
    (turn_fault (shape k) [] w word ≡ or_else kinds (step_fault (shape k) w.position h step)) × (walked (rules k) [] w word ≡ after_step (rules k) word w h step)

pub shows : (k : Kind) (rows : List Row) (pending : Option (Text × List Text)) (waiting : Waiting) (place : ℕ) (trail : Bool) (word : Text) (kinds : Kinds) (h : Held) (step : Step)
    → word_fault (shape k) [] trail waiting word (held rows pending) ≡ kinds → word_met (rules k) [] trail waiting place word (held rows pending) ≡ (h, step)
    → shown k (at_walk rows pending waiting place trail) word kinds h step
unfolding walked
shows k rows pending waiting place trail word kinds h step faults met =
    ((λ i. or_else (faults i) (step_fault (shape k) place (met i).0 (met i).1)), (λ i. after_step (rules k) word (at_walk rows pending waiting place trail) (met i).0 (met i).1))

pub after_as : (k : Kind) (o : Option Said) (kinds faults : Kinds) (w v : Walk) → kinds ≡ faults → w ≡ v → After k o faults v → After k o kinds w
after_as k o kinds faults w v e f h = subst (λ (x : Kinds). After k o x w) (sym e) (subst (λ (x : Walk). After k o faults x) (sym f) h)

-- a word that tells nothing and is refused
pub refused : (k : Kind) (o : Option Said) (kinds : Kinds) (w : Walk) → o ≡ None → (kinds ≡ [] → ⊥) → After k o kinds w
refused k o kinds w e h = subst (λ (x : Option Said). After k x kinds w) (sym e) (λ f. absurd (h f))

-- ---- faults of words

no_subcommand : (waiting : Waiting) (word : Text) → subcommand_met [] waiting word ≡ None
no_subcommand idle word = refl
no_subcommand (option id) word = refl
no_subcommand positional word = refl

module _ (k : Kind) (h : Held) (waiting : Waiting) (word : Text) (no_end : bytes_eq word (codes "--") ≡ false) where
  abbrev fault_by : Bool → Option (Text × Option Text) → Kinds
  fault_by dash o = if dash then [] else flag_word_fault (rules k) false o word h

  other_is : word_fault (shape k) [] false waiting word h ≡ fault_by (bytes_eq word (codes "--")) (long_of word)
  other_is = ap (λ (o : Option Text). other_fault (shape k) o word h) (no_subcommand waiting word)

  -- a long word fails as its option does
  pub long_is : (p : Text × Option Text) → long_of word ≡ Some p → word_fault (shape k) [] false waiting word h ≡ long_fault (rules k) false (arg_by_long (rules k) p.0) p.1 h
  long_is p e = other_is ∙ (λ i. fault_by (no_end i) (e i))

  pub flags_are : long_of word ≡ None → word_fault (shape k) [] false waiting word h ≡ option_map_or (λ (flags : Text). bundle_fault (rules k) false flags h) (short_of word) []
  flags_are e = other_is ∙ (λ i. fault_by (no_end i) (e i))

  -- a name passes
  pub name_is : long_of word ≡ None → short_of word ≡ None → word_fault (shape k) [] false waiting word h ≡ []
  name_is e f = flags_are e ∙ ap (λ (o : Option Text). option_map_or (λ (flags : Text). bundle_fault (rules k) false flags h) o []) f

module _ (k : Kind) (h : Held) (waiting : Waiting) (place : ℕ) (word : Text) (no_end : bytes_eq word (codes "--") ≡ false) where
  abbrev met_by : Bool → Option (Text × Option Text) → Held × Step
  met_by dash o = if dash then (h, trailing place) else long_or_other (rules k) waiting word o h

  other_met : word_met (rules k) [] false waiting place word h ≡ met_by (bytes_eq word (codes "--")) (long_of word)
  other_met = ap (λ (o : Option Text). subcommand_or_other (rules k) o waiting place word h) (no_subcommand waiting word)

  pub name_met : long_of word ≡ None → short_of word ≡ None → word_met (rules k) [] false waiting place word h ≡ plain_word (rules k) waiting word h
  name_met e f = other_met ∙ (λ i. met_by (no_end i) (e i)) ∙ ap (λ (o : Option Text). short_or_plain (rules k) waiting word o h) f

-- no argument has a short name
short_fails : (k : Kind) (x : ℕ) (rest : Text) (h : Held) (more : Held → Kinds) → short_fault (rules k) false (arg_by_short (rules k) x) rest h more ≡ [] → ⊥
short_fails transform_words x rest h more e = some_kind kind.UnknownArgument [] e
short_fails host_words x rest h more e = some_kind kind.UnknownArgument [] e
short_fails run_words x rest h more e = some_kind kind.UnknownArgument [] e
short_fails gen_words x rest h more e = some_kind kind.UnknownArgument [] e
short_fails save_words x rest h more e = some_kind kind.UnknownArgument [] e
short_fails continue_words x rest h more e = some_kind kind.UnknownArgument [] e

bundle_fails : (k : Kind) (n : ℕ) (flags : Text) (x : ℕ) (h : Held) → slice_get (chars flags) 0 ≡ Some x → flags_fault (rules k) false (suc n) flags 0 h ≡ [] → ⊥
unfolding flags_fault
bundle_fails k n flags x h first e =
    short_fails k x (drop (length (encode_utf8 x)) flags) h (flags_fault (rules k) false n (drop (length (encode_utf8 x)) flags) 0)
    (ap (λ (o : Option ℕ). bundle_step_fault (rules k) false o flags 0 h (flags_fault (rules k) false n)) (sym first) ∙ e)

-- the fault of a long word, by the options that it may be
abbrev long_by : (lists imports indirect asserts saves : Bool) → Option Text → Held → Kinds
long_by lists imports indirect asserts saves v h =
    long_fault (rules transform_words) false (cond (lists || false) (Some (option_built (codes "imports"))) (cond (imports || false) (Some (flag_built (codes "ignore-imports")))
    (cond (indirect || false) (Some (flag_built (codes "ignore-indirect"))) (cond (asserts || false) (Some (flag_built (codes "asserts")))
    (cond (saves || false) (Some (option_built (codes "save"))) None))))) v h

-- a long word that is no option
strange_fails : (k : Kind) (p : Text × Option Text) (h : Held) → Strange p → long_fault (rules k) false (arg_by_long (rules k) p.0) p.1 h ≡ [] → ⊥
strange_fails transform_words p h s e =
    go (bytes_eq (codes "ignore-imports") p.0) (bytes_eq (codes "ignore-indirect") p.0) (bytes_eq (codes "asserts") p.0) p.1 s.2
    ((λ i. long_by (sym s.0 i) (bytes_eq (codes "ignore-imports") p.0) (bytes_eq (codes "ignore-indirect") p.0) (bytes_eq (codes "asserts") p.0) (sym s.1 i) p.1 h) ∙ e)
  where
    go : (imports indirect asserts : Bool) (v : Option Text) → (v ≡ None → (imports ≡ false) × (indirect ≡ false) × (asserts ≡ false)) → long_by false imports indirect asserts false v h ≡ []
        → ⊥
    go true indirect asserts None n e = absurd (true≢false (n refl).0)
    go true indirect asserts (Some v) n e = some_kind kind.TooManyValues [] e
    go false true asserts None n e = absurd (true≢false (n refl).1)
    go false true asserts (Some v) n e = some_kind kind.TooManyValues [] e
    go false false true None n e = absurd (true≢false (n refl).2)
    go false false true (Some v) n e = some_kind kind.TooManyValues [] e
    go false false false v n e = some_kind kind.UnknownArgument [] e
strange_fails host_words p h s e = some_kind kind.UnknownArgument [] e
strange_fails run_words p h s e = some_kind kind.UnknownArgument [] e
strange_fails gen_words p h s e = some_kind kind.UnknownArgument [] e
strange_fails save_words p h s e = some_kind kind.UnknownArgument [] e
strange_fails continue_words p h s e = some_kind kind.UnknownArgument [] e

-- the turn fails where its word does
pub turn_fails : (k : Kind) (rows : List Row) (pending : Option (Text × List Text)) (waiting : Waiting) (place : ℕ) (trail : Bool) (word : Text) (kinds : Kinds)
    → word_fault (shape k) [] trail waiting word (held rows pending) ≡ kinds → (kinds ≡ [] → ⊥) → turn_fault (shape k) [] (at_walk rows pending waiting place trail) word ≡ [] → ⊥
turn_fails k rows pending waiting place trail word kinds faults fails e =
    let met = word_met (rules k) [] trail waiting place word (held rows pending) in
    fails (sym faults ∙ first_passes (word_fault (shape k) [] trail waiting word (held rows pending)) (step_fault (shape k) place met.0 met.1) e)

-- a long word that is no option, or short flags
abbrev pub HasFlags : Text → Type 0
HasFlags word =
    ((p : Text × Option Text) × (long_of word ≡ Some p) × Strange p)
    ⊎ ((long_of word ≡ None) × (y : ℕ) × (ys : Text) × (short_of word ≡ Some (y ∷ ys)) × (x : ℕ) × (slice_get (chars (y ∷ ys)) 0 ≡ Some x))

-- a word that begins with `-` and is no option is refused at each walk that isn't trailing
pub unknown_fails : (k : Kind) (rows : List Row) (pending : Option (Text × List Text)) (waiting : Waiting) (place : ℕ) (word : Text) → IsUnknown word → HasFlags word
    → turn_fault (shape k) [] (at_walk rows pending waiting place false) word ≡ [] → ⊥
unknown_fails k rows pending waiting place word h (inl l) e =
    turn_fails k rows pending waiting place false word _ (long_is k (held rows pending) waiting word h.no_end l.0 l.1) (strange_fails k l.0 (held rows pending) l.2) e
unknown_fails k rows pending waiting place word h (inr f) e =
    turn_fails k rows pending waiting place false word (bundle_fault (rules k) false (f.1 ∷ f.2) (held rows pending))
    (flags_are k (held rows pending) waiting word h.no_end f.0 ∙ ap (λ (o : Option Text). option_map_or (λ (flags : Text). bundle_fault (rules k) false flags (held rows pending)) o []) f.3)
    (bundle_fails k (length f.2) (f.1 ∷ f.2) f.4 (held rows pending) f.5) e

-- ---- a word that goes to a place

pub and_false : (b : Bool) → (b && false) ≡ false
and_false true = refl
and_false false = refl

pub or_false : (b : Bool) → (b || false) ≡ b
or_false true = refl
or_false false = refl

-- what a command tells with a file, by the files that it has
abbrev pub file_by : Kind → (input output third : Option Text) → Text → Said → Option Said
file_by transform_words input output third word s = two_at_most input output word s
file_by host_words input output third word s = one_at_most input word s
file_by run_words input output third word s = one_at_most input word s
file_by gen_words input output third word s = two_at_most input output word s
file_by save_words input output third word s = say_file input output third word s
file_by continue_words input output third word s = two_at_most input output word s

pub tell_file_is : (k : Kind) (word : Text) (s : Said) → tell_file k word s ≡ file_by k s.input s.output s.third word s
tell_file_is transform_words word s = refl
tell_file_is host_words word s = refl
tell_file_is run_words word s = refl
tell_file_is gen_words word s = refl
tell_file_is save_words word s = refl
tell_file_is continue_words word s = refl
