-- The end of a command's words: what `clap` checks and fills in there, beside what the words spell.
use Rattle.std.proofs.Common.{◌≡◌, ◌∙◌, ℕ, List, [], ◌∷◌, Option, Some, None, IfSome, option_map, Bool, true, false, not, ◌||◌, inl, inr, refl, sym, ap, subst, codes, if◌then◌else◌, is_some, true≢false, fold, option_and_then, slice_get}
use Rattle.std.specs.Option.{option_map_or, option_or}
use Rattle.clap.specs.Walk.{Row, Rule, Text, Walk, finished, first_of, has_row, is_empty, nothing_held, one_of, row_text, rows_after, settled, with_default}
use Rattle.clap.specs.Facts.{explicit_source}
use Rattle.clap.specs.Takes.{is_given}
use Rattle.clap.specs.Kinds.{Kinds, or_else}
use Rattle.clap.specs.Faults.{check_fault, default_fault, defaults_fault, given_default_fault, level_fault, settle_fault}
use Rattle.clap.specs.declared.error.kind.ErrorKind.TheVariants as kind
use Rattle.clap.specs.declared.parser.matches.ValueSource.TheVariants.{DefaultValue}
use Rattle.wa_types.specs.Pausing.{Choice, Policy}
use Rattle.script_model.specs.Command.{Said, Place, anywhere, behind_imports, behind_save, behind_options, nothing_said, said, choice_said, policy_said, transform_at, unless_third, with_files}
use Rattle.script_model.specs.Spelled.{Spelled, rewrites, hosts, runs, is_plain, number_and_file, one_file, script_and_snap, script_events_snap, two_files}
use Rattle.command_words.specs.Grammar.{Kind, transform_words, host_words, run_words, gen_words, save_words, continue_words, rules, shape, flag_of, is_true, TellsFlag, TellsFlags, read_of}
use Rattle.command_words.proofs.Telling.{Bare, HasNone, Valued, list_option, save_option, agrees, bare_at, is_owed, spells, tell_at, told}
use Rattle.command_words.proofs.Rows.{Slot, list_slot, save_slot, imports_slot, indirect_slot, asserts_slot, input_slot, output_slot, third_slot, id_of, option_id, said_at, flag_text, found, given, row, Tells, tells_at, defaults_at, finished_found}
use Rattle.command_words.proofs.Steps.{After, Doomed, Owes, Settles, Stands, some_kind, walk_of, whole, first_passes}
use Rattle.command_words.proofs.Walking.{AllText, second_passes, walk_ends}

-- ---- no default fails

abbrev AllGiven : List Rule → Type 0
AllGiven [] = Unit {0}
AllGiven (a ∷ c) = (given_default_fault a a.defaults ≡ []) × AllGiven c

one_default : (rows : List Row) (a : Rule) → given_default_fault a a.defaults ≡ [] → default_fault rows a ≡ []
one_default rows a e = go (has_row a.id rows) (is_empty a.defaults)
  where
    go : (b c : Bool) → (if b || c then [] else given_default_fault a a.defaults) ≡ []
    go true c = refl
    go false true = refl
    go false false = e

defaults_pass : (c : List Rule) → AllGiven c → (rows : List Row) → defaults_fault rows c ≡ []
unfolding defaults_fault
defaults_pass [] all rows = refl
defaults_pass (a ∷ c) all rows = ap (λ (x : Kinds). or_else x (defaults_fault (with_default rows a) c)) (one_default rows a all.0) ∙ defaults_pass c all.1 (with_default rows a)

all_given : (k : Kind) → AllGiven (rules k)
all_given transform_words = (refl, (refl, (refl, (refl, (refl, (refl, (refl, tt)))))))
all_given host_words = (refl, tt)
all_given run_words = (refl, tt)
all_given gen_words = (refl, (refl, tt))
all_given save_words = (refl, (refl, (refl, tt)))
all_given continue_words = (refl, (refl, tt))

-- ---- what the rows say at the end

abbrev ending : Kind → List Row → List Row
ending k rows = fold with_default rows (rules k)

ending_found : (k : Kind) (s : Said) (rows : List Row) → Tells k s rows → (slot : Slot)
    → found (id_of k slot) (ending k rows) ≡ option_or (option_map (given (id_of k slot)) (said_at slot s)) (defaults_at (id_of k slot) (rules k))
ending_found k s rows tells slot =
    finished_found (id_of k slot) (rules k) rows ∙ ap (λ (o : Option Row). option_or o (defaults_at (id_of k slot) (rules k))) (tells_at k s rows tells slot)

-- an argument without a default
module _ (k : Kind) (s : Said) (rows : List Row) (tells : Tells k s rows) (slot : Slot) (bare : defaults_at (id_of k slot) (rules k) ≡ None) where
  plain_found : found (id_of k slot) (ending k rows) ≡ option_map (given (id_of k slot)) (said_at slot s)
  plain_found = ending_found k s rows tells slot ∙ ap (option_or (option_map (given (id_of k slot)) (said_at slot s))) bare ∙ go (option_map (given (id_of k slot)) (said_at slot s))
    where
      go : (o : Option Row) → option_or o None ≡ o
      go None = refl
      go (Some r) = refl

  text_told : first_of (id_of k slot) (ending k rows) ≡ said_at slot s
  text_told = ap (option_and_then (λ (r : Row). slice_get r.values 0)) plain_found ∙ go (said_at slot s)
    where
      go : (o : Option Text) → option_and_then (λ (r : Row). slice_get r.values 0) (option_map (given (id_of k slot)) o) ≡ o
      go None = refl
      go (Some t) = refl

  is_there : is_given (id_of k slot) (ending k rows) ≡ is_some (said_at slot s)
  is_there = ap (λ (o : Option Row). option_map_or (λ (r : Row). explicit_source r.source) o false) plain_found ∙ go (said_at slot s)
    where
      go : (o : Option Text) → option_map_or (λ (r : Row). explicit_source r.source) (option_map (given (id_of k slot)) o) false ≡ is_some o
      go None = refl
      go (Some t) = refl

abbrev flag_value : Bool → Text
flag_value true = codes "true"
flag_value false = codes "false"

-- a flag
module _ (k : Kind) (s : Said) (rows : List Row) (tells : Tells k s rows) (slot : Slot) (default : defaults_at (id_of k slot) (rules k) ≡ Some (row (id_of k slot) DefaultValue (codes "false")))
    (b : Bool) (said : said_at slot s ≡ flag_text b) where
  flag_told : one_of (id_of k slot) (ending k rows) ≡ Some (flag_value b)
  flag_told =
      ap (option_and_then row_text) (ending_found k s rows tells slot ∙ (λ i. option_or (option_map (given (id_of k slot)) (said i)) (default i))) ∙ go b
    where
      go : (b : Bool) → option_and_then row_text (option_or (option_map (given (id_of k slot)) (flag_text b)) (Some (row (id_of k slot) DefaultValue (codes "false")))) ≡ Some (flag_value b)
      go true = refl
      go false = refl

  tells_flag : TellsFlag (id_of k slot) (ending k rows)
  tells_flag = go b flag_told
    where
      go : (b : Bool) → one_of (id_of k slot) (ending k rows) ≡ Some (flag_value b) → TellsFlag (id_of k slot) (ending k rows)
      go true e = inl e
      go false e = inr e

  flag_is : flag_of (id_of k slot) (ending k rows) ≡ b
  flag_is = ap is_true flag_told ∙ go b
    where
      go : (b : Bool) → is_true (Some (flag_value b)) ≡ b
      go true = refl
      go false = refl

-- ---- the last check

abbrev lacks : Bool → Kinds
lacks b = if b then kind.MissingRequiredArgument ∷ [] else []

-- where the files are told, nothing is lacking
abbrev lacking : Kind → Said → Bool
lacking host_words s = not (is_some s.input) || false
lacking run_words s = not (is_some s.input) || false
lacking save_words s = not (is_some s.input) || (not (is_some s.output) || (not (is_some s.third) || false))
lacking _ s = not (is_some s.input) || (not (is_some s.output) || false)

checked : (k : Kind) (s : Said) (rows : List Row) → Tells k s rows → check_fault (shape k) (ending k rows) false ≡ lacks (lacking k s)
checked transform_words s rows tells =
    λ i. lacks (not (is_there transform_words s rows tells input_slot refl i) || (not (is_there transform_words s rows tells output_slot refl i) || false))
checked host_words s rows tells = λ i. lacks (not (is_there host_words s rows tells input_slot refl i) || false)
checked run_words s rows tells = λ i. lacks (not (is_there run_words s rows tells input_slot refl i) || false)
checked gen_words s rows tells =
    λ i. lacks (not (is_there gen_words s rows tells input_slot refl i) || (not (is_there gen_words s rows tells output_slot refl i) || false))
checked save_words s rows tells =
    λ i. lacks (not (is_there save_words s rows tells input_slot refl i) || (not (is_there save_words s rows tells output_slot refl i) || (not (is_there save_words s rows tells third_slot refl i)
    || false)))
checked continue_words s rows tells =
    λ i. lacks (not (is_there continue_words s rows tells input_slot refl i) || (not (is_there continue_words s rows tells output_slot refl i) || false))

-- ---- what the rows spell

no_input : (c : Option Choice) (ignore asserts : Bool) (p : Option Policy) (output : Option Text) → with_files c ignore asserts p None output ≡ None
no_input None ignore asserts p output = refl
no_input (Some c) ignore asserts None output = refl
no_input (Some c) ignore asserts (Some p) output = refl

no_output : (c : Option Choice) (ignore asserts : Bool) (p : Option Policy) (input : Option Text) → with_files c ignore asserts p input None ≡ None
no_output None ignore asserts p input = refl
no_output (Some c) ignore asserts None input = refl
no_output (Some c) ignore asserts (Some p) None = refl
no_output (Some c) ignore asserts (Some p) (Some input) = refl

plain_bare : (place : Place) → is_owed place ≡ false → is_plain place None None false false false ≡ true
plain_bare anywhere h = refl
plain_bare behind_imports h = absurd (true≢false h)
plain_bare behind_save h = absurd (true≢false h)
plain_bare behind_options h = refl

-- what a command without options spells
alone_is : (s : Said) → HasNone s → (spelled : Option Spelled) → (if is_plain s.place s.imports s.save s.ignore_imports s.ignore_indirect s.asserts then spelled else None) ≡ spelled
alone_is s h spelled = (λ i. if is_plain s.place (h.1 i) (h.2 i) (h.3 i) (h.4 i) (h.5 i) then spelled else None) ∙ ap (λ (b : Bool). if b then spelled else None) (plain_bare s.place h.0)

-- a third file that isn't there
two_are : (spell : (input output : Option Text) → Option Spelled) (input output third : Option Text) → third ≡ None → two_files spell input output third ≡ spell input output
two_are spell input output third e = ap (two_files spell input output) e

script_is : (spell : List ℕ → Spelled) (input output third : Option Text) → output ≡ None → third ≡ None → two_files (one_file spell) input output third ≡ option_map spell input
script_is spell input output third e f = two_are (one_file spell) input output third f ∙ ap (one_file spell input) e ∙ go input
  where
    go : (input : Option Text) → one_file spell input None ≡ option_map spell input
    go None = refl
    go (Some t) = refl

no_third_is : (s : Said) → s.third ≡ None
    → unless_third s.third (with_files (choice_said s.imports s.ignore_imports) s.ignore_indirect s.asserts (policy_said s.save) s.input s.output)
    ≡ with_files (choice_said s.imports s.ignore_imports) s.ignore_indirect s.asserts (policy_said s.save) s.input s.output
no_third_is s e = ap (λ (t : Option Text). unless_third t (with_files (choice_said s.imports s.ignore_imports) s.ignore_indirect s.asserts (policy_said s.save) s.input s.output)) e

-- no value is owed
abbrev Settled : Said → Type 0
Settled s = is_owed s.place ≡ false

transform_is : (place : Place) (s : Said) → is_owed place ≡ false → s.third ≡ None
    → transform_at place s ≡ with_files (choice_said s.imports s.ignore_imports) s.ignore_indirect s.asserts (policy_said s.save) s.input s.output
transform_is anywhere s h e = no_third_is s e
transform_is behind_imports s h e = absurd (true≢false h)
transform_is behind_save s h e = absurd (true≢false h)
transform_is behind_options s h e = no_third_is s e

-- The rows spell what was said, and tell each flag.
rows_spell : (k : Kind) (s : Said) (rows : List Row) → Bare k s → Settled s → Tells k s rows → TellsFlags k (ending k rows) × (spells k (Some s) ≡ read_of k (ending k rows))
rows_spell transform_words s rows bare ready tells =
    let text = text_told transform_words s rows tells in
    let imports = tells_flag transform_words s rows tells imports_slot refl s.ignore_imports refl in
    let indirect = tells_flag transform_words s rows tells indirect_slot refl s.ignore_indirect refl in
    let asserts = tells_flag transform_words s rows tells asserts_slot refl s.asserts refl in
    let imports_is = flag_is transform_words s rows tells imports_slot refl s.ignore_imports refl in
    let indirect_is = flag_is transform_words s rows tells indirect_slot refl s.ignore_indirect refl in
    let asserts_is = flag_is transform_words s rows tells asserts_slot refl s.asserts refl in
    let list = text list_slot refl in
    let save = text save_slot refl in
    let input = text input_slot refl in
    let output = text output_slot refl in (
      (imports, indirect, asserts),
      ap (option_map rewrites) (transform_is s.place s ready bare)
          ∙ (λ i. option_map rewrites (with_files (choice_said (sym list i) (sym imports_is i)) (sym indirect_is i) (sym asserts_is i) (policy_said (sym save i)) (sym input i) (sym output i))),
    )
rows_spell host_words s rows bare ready tells = (
  tt,
  alone_is s bare.0 (two_files (one_file hosts) s.input s.output s.third) ∙ script_is hosts s.input s.output s.third bare.1 bare.2
      ∙ ap (option_map hosts) (sym (text_told host_words s rows tells input_slot refl)),
)
rows_spell run_words s rows bare ready tells = (
  tt,
  alone_is s bare.0 (two_files (one_file runs) s.input s.output s.third) ∙ script_is runs s.input s.output s.third bare.1 bare.2
      ∙ ap (option_map runs) (sym (text_told run_words s rows tells input_slot refl)),
)
rows_spell gen_words s rows bare ready tells =
    let input = text_told gen_words s rows tells input_slot refl in
    let output = text_told gen_words s rows tells output_slot refl in (
      tt,
      alone_is s bare.0 (two_files number_and_file s.input s.output s.third) ∙ two_are number_and_file s.input s.output s.third bare.1
          ∙ (λ i. number_and_file (sym input i) (sym output i)),
    )
rows_spell save_words s rows bare ready tells =
    let input = text_told save_words s rows tells input_slot refl in
    let output = text_told save_words s rows tells output_slot refl in
    let third = text_told save_words s rows tells third_slot refl in
    (tt, alone_is s bare (script_events_snap s.input s.output s.third) ∙ (λ i. script_events_snap (sym input i) (sym output i) (sym third i)))
rows_spell continue_words s rows bare ready tells =
    let input = text_told continue_words s rows tells input_slot refl in
    let output = text_told continue_words s rows tells output_slot refl in (
      tt,
      alone_is s bare.0 (two_files script_and_snap s.input s.output s.third) ∙ two_are script_and_snap s.input s.output s.third bare.1
          ∙ (λ i. script_and_snap (sym input i) (sym output i)),
    )

-- Where a file is lacking nothing is spelled.
two_lack : (spell : Option Text → Option Text → Option Spelled) → ((output : Option Text) → spell None output ≡ None) → ((input : Option Text) → spell input None ≡ None)
    → (input output : Option Text) → (lacks (not (is_some input) || (not (is_some output) || false)) ≡ [] → ⊥) → spell input output ≡ None
two_lack spell none_in none_out None output h = none_in output
two_lack spell none_in none_out (Some input) None h = none_out (Some input)
two_lack spell none_in none_out (Some input) (Some output) h = absurd (h refl)

script_lacks : (spell : List ℕ → Spelled) (input : Option Text) → (lacks (not (is_some input) || false) ≡ [] → ⊥) → option_map spell input ≡ None
script_lacks spell None h = refl
script_lacks spell (Some t) h = absurd (h refl)

number_lacks : (input : Option Text) → number_and_file input None ≡ None
number_lacks None = refl
number_lacks (Some n) = refl

snap_lacks : (input : Option Text) → script_and_snap input None ≡ None
snap_lacks None = refl
snap_lacks (Some n) = refl

three_lack : (input output third : Option Text) → (lacks (not (is_some input) || (not (is_some output) || (not (is_some third) || false))) ≡ [] → ⊥) → script_events_snap input output third ≡ None
three_lack None output third h = refl
three_lack (Some input) None third h = refl
three_lack (Some input) (Some output) None h = refl
three_lack (Some input) (Some output) (Some third) h = absurd (h refl)

lacks_spell : (k : Kind) (s : Said) → Bare k s → Settled s → (lacks (lacking k s) ≡ [] → ⊥) → spells k (Some s) ≡ None
lacks_spell transform_words s bare ready h =
    ap (option_map rewrites) (transform_is s.place s ready bare)
    ∙ two_lack (λ i o. option_map rewrites (with_files (choice_said s.imports s.ignore_imports) s.ignore_indirect s.asserts (policy_said s.save) i o))
    (λ o. ap (option_map rewrites) (no_input (choice_said s.imports s.ignore_imports) s.ignore_indirect s.asserts (policy_said s.save) o))
    (λ i. ap (option_map rewrites) (no_output (choice_said s.imports s.ignore_imports) s.ignore_indirect s.asserts (policy_said s.save) i)) s.input s.output h
lacks_spell host_words s bare ready h =
    alone_is s bare.0 (two_files (one_file hosts) s.input s.output s.third) ∙ script_is hosts s.input s.output s.third bare.1 bare.2 ∙ script_lacks hosts s.input h
lacks_spell run_words s bare ready h =
    alone_is s bare.0 (two_files (one_file runs) s.input s.output s.third) ∙ script_is runs s.input s.output s.third bare.1 bare.2 ∙ script_lacks runs s.input h
lacks_spell gen_words s bare ready h =
    alone_is s bare.0 (two_files number_and_file s.input s.output s.third) ∙ two_are number_and_file s.input s.output s.third bare.1
    ∙ two_lack number_and_file (λ o. refl) number_lacks s.input s.output h
lacks_spell save_words s bare ready h = alone_is s bare (script_events_snap s.input s.output s.third) ∙ three_lack s.input s.output s.third h
lacks_spell continue_words s bare ready h =
    alone_is s bare.0 (two_files script_and_snap s.input s.output s.third) ∙ two_are script_and_snap s.input s.output s.third bare.1
    ∙ two_lack script_and_snap (λ o. refl) snap_lacks s.input s.output h

-- ---- a whole command

-- the faults and the rows at the end of a walk
abbrev faults_at : Kind → Kinds → Walk → Kinds
faults_at k kinds w =
    or_else kinds (or_else [] (or_else (settle_fault (rules k) false w.held)
    (or_else (defaults_fault (settled (rules k) w.held).rows (rules k)) (check_fault (shape k) (finished (rules k) w.held) false))))

-- Where nothing fails the rows spell what was said, and else nothing was spelled.
abbrev Exactly : Kind → Kinds → List Row → Option Said → Type 0
Exactly k faults rows o = (faults ≡ [] → TellsFlags k rows × (spells k o ≡ read_of k rows)) × ((faults ≡ [] → ⊥) → spells k o ≡ None)

nothing_spelled : (k : Kind) → spells k None ≡ None
nothing_spelled transform_words = refl
nothing_spelled host_words = refl
nothing_spelled run_words = refl
nothing_spelled gen_words = refl
nothing_spelled save_words = refl
nothing_spelled continue_words = refl

-- what is pending passes, at a place where it may
ready_ends : (k : Kind) (s : Said) (rows : List Row) (pending : Option (Text × List Text)) → Bare k s → Settled s → Settles k rows pending → Tells k s (whole k rows pending)
    → Exactly k (faults_at k [] (walk_of s rows pending)) (ending k (whole k rows pending)) (Some s)
ready_ends k s rows pending bare ready settles tells =
    let is : faults_at k [] (walk_of s rows pending) ≡ lacks (lacking k s) =
    λ i. or_else (settles i) (or_else (defaults_pass (rules k) (all_given k) (whole k rows pending) i) (checked k s (whole k rows pending) tells i)) in
    ((λ e. rows_spell k s (whole k rows pending) bare ready tells), (λ h. lacks_spell k s bare ready (λ e. h (is ∙ e))))

owed_ends : (v : Valued) (k : Kind) (s : Said) (rows : List Row) (pending : Option (Text × List Text)) → is_owed s.place ≡ true → Owes k v s rows pending
    → Exactly k (faults_at k [] (walk_of s rows pending)) (ending k (whole k rows pending)) (Some s)
owed_ends v transform_words s rows pending at h = (
  (λ e. absurd (owed_fails v s rows (ap (λ (p : Option (Text × List Text)). faults_at transform_words [] (walk_of s rows p)) (sym h.0) ∙ e))),
  (λ e. owed_none s.place at),
)
  where
    owed_fails : (v : Valued) (s : Said) (rows : List Row) → faults_at transform_words [] (walk_of s rows (Some (option_id v, []))) ≡ [] → ⊥
    owed_fails list_option s rows e = some_kind kind.InvalidValue [] e
    owed_fails save_option s rows e = some_kind kind.InvalidValue [] e

    owed_none : (p : Place) → is_owed p ≡ true → option_map rewrites (transform_at p s) ≡ None
    owed_none anywhere e = absurd (true≢false (sym e))
    owed_none behind_imports e = refl
    owed_none behind_save e = refl
    owed_none behind_options e = absurd (true≢false (sym e))
owed_ends v host_words s rows pending at h = absurd h
owed_ends v run_words s rows pending at h = absurd h
owed_ends v gen_words s rows pending at h = absurd h
owed_ends v save_words s rows pending at h = absurd h
owed_ends v continue_words s rows pending at h = absurd h

place_ends : (k : Kind) (s : Said) (rows : List Row) (pending : Option (Text × List Text)) → Bare k s → (place : Place) → s.place ≡ place → Stands place k s rows pending
    → Exactly k (faults_at k [] (walk_of s rows pending)) (ending k (whole k rows pending)) (Some s)
place_ends k s rows pending bare anywhere at h = ready_ends k s rows pending bare (ap is_owed at) h.0 h.1
place_ends k s rows pending bare behind_imports at h = owed_ends list_option k s rows pending (ap is_owed at) h
place_ends k s rows pending bare behind_save at h = owed_ends save_option k s rows pending (ap is_owed at) h
place_ends k s rows pending bare behind_options at h = ready_ends k s rows pending bare (ap is_owed at) h.0 h.1

-- the faults behind a walk
abbrev late_faults : Kind → Walk → Kinds
late_faults k w =
    or_else (settle_fault (rules k) false w.held) (or_else (defaults_fault (settled (rules k) w.held).rows (rules k)) (check_fault (shape k) (finished (rules k) w.held) false))

doomed_fails : (k : Kind) (w : Walk) → Doomed k w → late_faults k w ≡ [] → ⊥
doomed_fails k w d e = d.fails (ap (λ (x : Walk). settle_fault (rules k) false x.held) (sym d.is) ∙ first_passes (settle_fault (rules k) false w.held) _ e)

walk_spells : (k : Kind) (o : Option Said) (kinds : Kinds) (w : Walk) → IfSome o (Bare k) → After k o kinds w → Exactly k (faults_at k kinds w) (finished (rules k) w.held) o
walk_spells k None kinds w bare h =
    ((λ e. absurd (doomed_fails k w (h (first_passes kinds (late_faults k w) e)) (second_passes kinds (late_faults k w) e))), (λ e. nothing_spelled k))
walk_spells k (Some s) kinds w bare h =
    let here = place_ends k s h.1 h.2 bare s.place refl h.4 in
    subst (λ (x : Kinds). Exactly k (faults_at k x w) (finished (rules k) w.held) (Some s)) (sym h.0)
    (subst (λ (x : Walk). Exactly k (faults_at k [] x) (finished (rules k) x.held) (Some s)) (sym h.3) here)

bare_told : (k : Kind) (words : List Text) (o : Option Said) → IfSome o (Bare k) → IfSome (told k o words) (Bare k)
bare_told k [] o h = h
bare_told k (word ∷ words) None h = bare_told k words None tt
bare_told k (word ∷ words) (Some s) h = bare_told k words (tell_at k s.place word s) (bare_at k s.place word s h)

begins_bare : (k : Kind) → Bare k nothing_said
begins_bare transform_words = refl
begins_bare host_words = ((refl, refl, refl, refl, refl, refl), refl, refl)
begins_bare run_words = ((refl, refl, refl, refl, refl, refl), refl, refl)
begins_bare gen_words = ((refl, refl, refl, refl, refl, refl), refl)
begins_bare save_words = (refl, refl, refl, refl, refl, refl)
begins_bare continue_words = ((refl, refl, refl, refl, refl, refl), refl)

begins : (k : Kind) → Stands anywhere k nothing_said [] None
begins transform_words = (refl, (refl, refl, refl, refl, refl, refl, refl, refl), ((λ e. e), (λ e. e)))
begins host_words = (refl, (refl, refl, refl, refl, refl, refl, refl, refl), ((λ e. e), (λ e. e)))
begins run_words = (refl, (refl, refl, refl, refl, refl, refl, refl, refl), ((λ e. e), (λ e. e)))
begins gen_words = (refl, (refl, refl, refl, refl, refl, refl, refl, refl), ((λ e. e), (λ e. e)))
begins save_words = (refl, (refl, refl, refl, refl, refl, refl, refl, refl), ((λ e. e), (λ e. e)))
begins continue_words = (refl, (refl, refl, refl, refl, refl, refl, refl, refl), ((λ e. e), (λ e. e)))

-- the faults of a command's words, by `clap`
abbrev pub level : Kind → List Text → Kinds
level k words = level_fault (shape k) [] nothing_held words false []

-- what `clap` makes of a command's words
pub command_spells : (k : Kind) (words : List Text) → AllText words
    → (level k words ≡ [] → TellsFlags k (rows_after (rules k) [] words) × (spells k (said (Some nothing_said) words) ≡ read_of k (rows_after (rules k) [] words)))
    × ((level k words ≡ [] → ⊥) → spells k (said (Some nothing_said) words) ≡ None)
command_spells k words all =
    let after = walk_ends k words all nothing_said [] None (begins k) in
    let exact = walk_spells k (told k (Some nothing_said) words) _ _ (bare_told k words (Some nothing_said) (begins_bare k)) after in
    let same = agrees k words (Some nothing_said) in
    ((λ e. let x = exact.0 e in (x.0, same ∙ x.1)), (λ h. same ∙ exact.1 h))
