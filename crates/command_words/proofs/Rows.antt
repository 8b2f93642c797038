-- What the rows of `clap`'s matches tell, by what the words have told.
use Rattle.std.proofs.Common.{◌≡◌, ◌∙◌, ◌<◌, ◌==◌, ℕ, List, [], ◌∷◌, ◌++◌, Option, Some, None, option_map, Bool, true, false, cond, not, ◌&&◌, ◌||◌, refl, sym, ap, subst, codes, bytes_eq}
use Rattle.std.proofs.Common.{if◌then◌else◌, is_some, true≢false, find, fold, append-nil, length, get_or, eqb-true, arith}
use Rattle.std.specs.List.{list_all}
use Rattle.std.specs.Option.{option_or}
use Rattle.std.proofs.lemmas.List.Folds.{find-append, list_all_at}
use Rattle.clap.specs.Walk.{Row, Rule, Text, at_row, default_rows, has_row, more_values, reading_by, with_default, with_values, without}
use Rattle.clap.specs.declared.builder.value_parser.Reading.{Reading}
use Rattle.clap.specs.declared.builder.value_parser.Reading.TheVariants.{AsWritten}
use Rattle.clap.specs.declared.parser.matches.ValueSource.{ValueSource}
use Rattle.clap.specs.declared.parser.matches.ValueSource.TheVariants.{CommandLine, DefaultValue}
use Rattle.clap.specs.Kinds.{Kinds, or_else}
use Rattle.clap.specs.Faults.{repeat_fault}
use Rattle.clap.specs.declared.error.kind.ErrorKind.TheVariants as kind
use Rattle.script_model.specs.Command.{Said}
use Rattle.command_words.specs.Grammar.{Kind, transform_words, host_words, run_words, gen_words, save_words, continue_words}
use Rattle.command_words.proofs.Telling.{Valued, list_option, save_option}
use Rattle.command_words.proofs.Views.{same_is, same_text}

-- ---- the arguments

pub data Slot : Type 0 where
  list_slot save_slot imports_slot indirect_slot asserts_slot input_slot output_slot third_slot : Slot

abbrev pub input_id : Kind → Text
input_id transform_words = codes "input"
input_id host_words = codes "script"
input_id run_words = codes "script"
input_id gen_words = codes "number"
input_id save_words = codes "script"
input_id continue_words = codes "script"

abbrev pub output_id : Kind → Text
output_id transform_words = codes "output"
output_id host_words = codes "output"
output_id run_words = codes "output"
output_id gen_words = codes "output"
output_id save_words = codes "events"
output_id continue_words = codes "snapshot"

abbrev pub third_id : Kind → Text
third_id transform_words = codes "third"
third_id host_words = codes "third"
third_id run_words = codes "third"
third_id gen_words = codes "third"
third_id save_words = codes "snapshot"
third_id continue_words = codes "third"

abbrev pub id_of : Kind → Slot → Text
id_of k list_slot = codes "imports"
id_of k save_slot = codes "save"
id_of k imports_slot = codes "ignore-imports"
id_of k indirect_slot = codes "ignore-indirect"
id_of k asserts_slot = codes "asserts"
id_of k input_slot = input_id k
id_of k output_slot = output_id k
id_of k third_slot = third_id k

-- the place of an option with a value, and its name
abbrev pub value_slot : Valued → Slot
value_slot list_option = list_slot
value_slot save_option = save_slot

abbrev pub option_id : Valued → Text
option_id v = id_of transform_words (value_slot v)

-- ---- they are told apart

abbrev slots : List Slot
slots = list_slot ∷ save_slot ∷ imports_slot ∷ indirect_slot ∷ asserts_slot ∷ input_slot ∷ output_slot ∷ third_slot ∷ []

abbrev number_of : Slot → ℕ
number_of list_slot = 0
number_of save_slot = 1
number_of imports_slot = 2
number_of indirect_slot = 3
number_of asserts_slot = 4
number_of input_slot = 5
number_of output_slot = 6
number_of third_slot = 7

abbrev slot_at : ℕ → Slot
slot_at n = get_or slots n list_slot

numbered : (a : Slot) → (slot_at (number_of a) ≡ a) × (number_of a < length slots)
numbered list_slot = (refl, omega arith)
numbered save_slot = (refl, omega arith)
numbered imports_slot = (refl, omega arith)
numbered indirect_slot = (refl, omega arith)
numbered asserts_slot = (refl, omega arith)
numbered input_slot = (refl, omega arith)
numbered output_slot = (refl, omega arith)
numbered third_slot = (refl, omega arith)

abbrev pub same_slot : Slot → Slot → Bool
same_slot a b = number_of a == number_of b

same_slot_is : (a b : Slot) → same_slot a b ≡ true → a ≡ b
same_slot_is a b e = sym (numbered a).0 ∙ ap slot_at (eqb-true (number_of a) (number_of b) e) ∙ (numbered b).0

-- two arguments of a command have one name only if they are the same
abbrev apart : Kind → Slot → Slot → Bool
apart k a b = same_slot a b || not (bytes_eq (id_of k a) (id_of k b))

all_apart : (k : Kind) → list_all (λ (a : Slot). list_all (apart k a) slots) slots ≡ true
all_apart transform_words = refl
all_apart host_words = refl
all_apart run_words = refl
all_apart gen_words = refl
all_apart save_words = refl
all_apart continue_words = refl

of_slots : (p : Slot → Bool) (a : Slot) → list_all p slots ≡ true → p a ≡ true
of_slots p a all = ap p (sym (numbered a).0) ∙ go (p (slot_at (number_of a))) refl
  where
    go : (b : Bool) → p (slot_at (number_of a)) ≡ b → p (slot_at (number_of a)) ≡ true
    go true e = e
    go false e = absurd (true≢false (sym all ∙ list_all_at p slots (number_of a) list_slot (numbered a).1 e))

-- the arguments of a command have different names
pub distinct : (k : Kind) (a b : Slot) → same_slot a b ≡ false → bytes_eq (id_of k a) (id_of k b) ≡ false
distinct k a b e =
    go (bytes_eq (id_of k a) (id_of k b)) (ap (λ (t : Bool). t || not (bytes_eq (id_of k a) (id_of k b))) (sym e) ∙ of_slots (apart k a) b (of_slots (λ (c : Slot). list_all (apart k c) slots) a (all_apart k)))
  where
    go : (t : Bool) → (false || not t) ≡ true → t ≡ false
    go true f = sym f
    go false f = refl

-- ---- rows

abbrev pub found : Text → List Row → Option Row
found id rows = find (λ (r : Row). bytes_eq r.id id) rows

abbrev pub row : Text → ValueSource → Text → Row
row id source text = record { id = id; values = text ∷ []; count = None; source = Some source; reading = AsWritten }

abbrev pub given : Text → Text → Row
given id text = row id CommandLine text

abbrev pub flag_text : Bool → Option Text
flag_text true = Some (codes "true")
flag_text false = None

abbrev pub said_at : Slot → Said → Option Text
said_at list_slot s = s.imports
said_at save_slot s = s.save
said_at imports_slot s = flag_text s.ignore_imports
said_at indirect_slot s = flag_text s.ignore_indirect
said_at asserts_slot s = flag_text s.asserts
said_at input_slot s = s.input
said_at output_slot s = s.output
said_at third_slot s = s.third

abbrev pub TellsAt : Kind → Said → List Row → Slot → Type 0
TellsAt k s rows slot = found (id_of k slot) rows ≡ option_map (given (id_of k slot)) (said_at slot s)

-- the rows hold what was told, and nothing more
abbrev pub Tells : Kind → Said → List Row → Type 0
Tells k s rows =
    TellsAt k s rows list_slot × TellsAt k s rows save_slot × TellsAt k s rows imports_slot × TellsAt k s rows indirect_slot × TellsAt k s rows asserts_slot
    × TellsAt k s rows input_slot × TellsAt k s rows output_slot × TellsAt k s rows third_slot

pub tells_at : (k : Kind) (s : Said) (rows : List Row) → Tells k s rows → (slot : Slot) → TellsAt k s rows slot
tells_at k s rows t list_slot = t.0
tells_at k s rows t save_slot = t.1
tells_at k s rows t imports_slot = t.2
tells_at k s rows t indirect_slot = t.3
tells_at k s rows t asserts_slot = t.4
tells_at k s rows t input_slot = t.5
tells_at k s rows t output_slot = t.6
tells_at k s rows t third_slot = t.7

pub has_found : (id : Text) (rows : List Row) → has_row id rows ≡ is_some (found id rows)
has_found id [] = refl
has_found id (r ∷ rs) = go (bytes_eq r.id id) (has_found id rs)
  where
    go : (b : Bool) → has_row id rs ≡ is_some (found id rs) → (b || has_row id rs) ≡ is_some (cond b (Some r) (found id rs))
    go true e = refl
    go false e = e

pub is_told : (k : Kind) (slot : Slot) (s : Said) (rows : List Row) → Tells k s rows → (o : Option Text) → said_at slot s ≡ o → has_row (id_of k slot) rows ≡ is_some o
is_told k slot s rows tells o e = has_found (id_of k slot) rows ∙ ap is_some (tells_at k s rows tells slot) ∙ go (said_at slot s) ∙ ap is_some e
  where
    go : (x : Option Text) → is_some (option_map (given (id_of k slot)) x) ≡ is_some x
    go None = refl
    go (Some t) = refl

-- where the id has no row, a new one comes last
absent : (id : Text) (change : Row → List Row) (missing rows : List Row) → has_row id rows ≡ false → at_row id change missing rows ≡ rows ++ missing
absent id change missing [] none = refl
absent id change missing (r ∷ rs) none = go (bytes_eq r.id id) none (absent id change missing rs)
  where
    go : (b : Bool) → (b || has_row id rs) ≡ false → (has_row id rs ≡ false → at_row id change missing rs ≡ rs ++ missing)
        → (if b then change r ++ rs else r ∷ at_row id change missing rs) ≡ r ∷ rs ++ missing
    go true e h = absurd (true≢false e)
    go false e h = ap (λ (l : List Row). r ∷ l) (h e)

pub comes_last : (id : Text) (source : ValueSource) (text : Text) (rows : List Row) → has_row id rows ≡ false → with_values id AsWritten source (text ∷ []) rows ≡ rows ++ row id source text ∷ []
comes_last id source text rows none = absent id (more_values source (text ∷ [])) (row id source text ∷ []) rows none

pub used_last : (id text : Text) (rows : List Row) → has_row id rows ≡ false → with_values id AsWritten CommandLine (text ∷ []) (without id rows) ≡ rows ++ given id text ∷ []
used_last id text rows none =
    ap (λ (l : List Row). with_values id AsWritten CommandLine (text ∷ []) l) (absent id (λ (r : Row). []) [] rows none ∙ append-nil rows) ∙ comes_last id CommandLine text rows none

-- an argument is used once
pub once : (id : Text) (rows : List Row) → has_row id rows ≡ false → or_else (repeat_fault false id rows) [] ≡ []
once id rows none = ap (λ (b : Bool). or_else (if b && not false then kind.ArgumentConflict ∷ [] else []) []) none

option_or_none : {X : Type 0} (o : Option X) → option_or o None ≡ o
option_or_none None = refl
option_or_none (Some x) = refl

own_row : (id : Text) (r : Row) → bytes_eq r.id id ≡ true → found id (r ∷ []) ≡ Some r
own_row id r e = ap (λ (b : Bool). cond b (Some r) None) e

other_row : (id : Text) (r : Row) → bytes_eq r.id id ≡ false → found id (r ∷ []) ≡ None
other_row id r e = ap (λ (b : Bool). cond b (Some r) None) e

-- the row of one more thing that was told
module _ (k : Kind) (slot : Slot) (text : Text) (s t : Said) (rows : List Row) (none : said_at slot s ≡ None) (some : said_at slot t ≡ Some text)
    (others : (other : Slot) → same_slot slot other ≡ false → said_at other t ≡ said_at other s) (tells : Tells k s rows) where
  own_slot : option_or (found (id_of k slot) rows) (found (id_of k slot) (given (id_of k slot) text ∷ [])) ≡ option_map (given (id_of k slot)) (said_at slot t)
  own_slot =
      ap (λ (o : Option Row). option_or o (found (id_of k slot) (given (id_of k slot) text ∷ []))) (tells_at k s rows tells slot ∙ ap (option_map (given (id_of k slot))) none)
      ∙ own_row (id_of k slot) (given (id_of k slot) text) (same_text (id_of k slot) (id_of k slot) refl) ∙ ap (option_map (given (id_of k slot))) (sym some)

  slot_by : (other : Slot) (b : Bool) → same_slot slot other ≡ b
      → option_or (found (id_of k other) rows) (found (id_of k other) (given (id_of k slot) text ∷ [])) ≡ option_map (given (id_of k other)) (said_at other t)
  slot_by other true e =
      subst (λ (o : Slot). option_or (found (id_of k o) rows) (found (id_of k o) (given (id_of k slot) text ∷ [])) ≡ option_map (given (id_of k o)) (said_at o t)) (same_slot_is slot other e) own_slot
  slot_by other false e =
      ap (option_or (found (id_of k other) rows)) (other_row (id_of k other) (given (id_of k slot) text) (distinct k slot other e))
      ∙ option_or_none (found (id_of k other) rows) ∙ tells_at k s rows tells other ∙ ap (option_map (given (id_of k other))) (sym (others other e))

  slot_told : (other : Slot) → TellsAt k t (rows ++ given (id_of k slot) text ∷ []) other
  slot_told other = find-append (λ (r : Row). bytes_eq r.id (id_of k other)) rows (given (id_of k slot) text ∷ []) ∙ slot_by other (same_slot slot other) refl

  pub one_told : Tells k t (rows ++ given (id_of k slot) text ∷ [])
  one_told = (
    slot_told list_slot,
    slot_told save_slot,
    slot_told imports_slot,
    slot_told indirect_slot,
    slot_told asserts_slot,
    slot_told input_slot,
    slot_told output_slot,
    slot_told third_slot,
  )

  -- an argument that wasn't used yet passes, and its row tells it
  pub taken : (or_else (repeat_fault false (id_of k slot) rows) [] ≡ []) × Tells k t (with_values (id_of k slot) AsWritten CommandLine (text ∷ []) (without (id_of k slot) rows))
  taken =
      let absent_yet = is_told k slot s rows tells None none in
      (once (id_of k slot) rows absent_yet, subst (Tells k t) (sym (used_last (id_of k slot) text rows absent_yet)) one_told)

-- something fails
abbrev pub is_any : Kinds → Bool
is_any [] = false
is_any (x ∷ xs) = true

-- an argument that was used may not come again
pub repeated : (k : Kind) (slot : Slot) (earlier : Text) (s : Said) (rows : List Row) → said_at slot s ≡ Some earlier → Tells k s rows → or_else (repeat_fault false (id_of k slot) rows) [] ≡ [] → ⊥
repeated k slot earlier s rows some tells e =
    true≢false (ap is_any (sym (ap (λ (b : Bool). or_else (if b && not false then kind.ArgumentConflict ∷ [] else []) []) (is_told k slot s rows tells (Some earlier) some)) ∙ e))

-- ---- defaults

abbrev default_by : Text → Reading → List Text → Option Row
default_by id how [] = None
default_by id how (v ∷ vs) = Some (record { id = id; values = v ∷ vs; count = None; source = Some DefaultValue; reading = how })

-- the default row of the argument, if it has this id
abbrev default_at : Text → Rule → Option Row
default_at id a = cond (bytes_eq a.id id) (default_by a.id (reading_by a) a.defaults) None

abbrev pub defaults_at : Text → List Rule → Option Row
defaults_at id [] = None
defaults_at id (a ∷ c) = option_or (default_at id a) (defaults_at id c)

option_or_assoc : {X : Type 0} (x y z : Option X) → option_or (option_or x y) z ≡ option_or x (option_or y z)
option_or_assoc None y z = refl
option_or_assoc (Some v) y z = refl

with_one : (id own : Text) (how : Reading) (defaults : List Text) (rows : List Row) → has_row own rows ≡ false
    → found id (default_rows own how defaults rows) ≡ option_or (found id rows) (cond (bytes_eq own id) (default_by own how defaults) None)
with_one id own how [] rows none = sym (go (bytes_eq own id))
  where
    go : (b : Bool) → option_or (found id rows) (cond b None None) ≡ found id rows
    go true = option_or_none (found id rows)
    go false = option_or_none (found id rows)
with_one id own how (v ∷ vs) rows none =
    ap (found id) (absent own (more_values DefaultValue (v ∷ vs)) (record { id = own; values = v ∷ vs; count = None; source = Some DefaultValue; reading = how } ∷ []) rows none)
    ∙ find-append (λ (r : Row). bytes_eq r.id id) rows _

with_found : (id own : Text) (rows : List Row) (o : Option Row) → has_row own rows ≡ true → found id rows ≡ option_or (found id rows) (cond (bytes_eq own id) o None)
with_found id own rows o has = go (bytes_eq own id) refl
  where
    stays : (f : Option Row) → is_some f ≡ true → f ≡ option_or f o
    stays None e = absurd (true≢false (sym e))
    stays (Some r) e = refl

    go : (b : Bool) → bytes_eq own id ≡ b → found id rows ≡ option_or (found id rows) (cond b o None)
    go true e = stays (found id rows) (sym (has_found id rows) ∙ ap (λ (t : Text). has_row t rows) (sym (same_is own id e)) ∙ has)
    go false e = sym (option_or_none (found id rows))

with_default_found : (id : Text) (rows : List Row) (a : Rule) → found id (with_default rows a) ≡ option_or (found id rows) (default_at id a)
with_default_found id rows a = go (has_row a.id rows) refl
  where
    go : (b : Bool) → has_row a.id rows ≡ b → found id (if b then rows else default_rows a.id (reading_by a) a.defaults rows) ≡ option_or (found id rows) (default_at id a)
    go true e = with_found id a.id rows (default_by a.id (reading_by a) a.defaults) e
    go false e = with_one id a.id (reading_by a) a.defaults rows e

-- what the defaults add
pub finished_found : (id : Text) (c : List Rule) (rows : List Row) → found id (fold with_default rows c) ≡ option_or (found id rows) (defaults_at id c)
finished_found id [] rows = sym (option_or_none (found id rows))
finished_found id (a ∷ c) rows =
    finished_found id c (with_default rows a) ∙ ap (λ (o : Option Row). option_or o (defaults_at id c)) (with_default_found id rows a)
    ∙ option_or_assoc (found id rows) (default_at id a) (defaults_at id c)
