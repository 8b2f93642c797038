-- What a caller takes from matches that spell something.
use Rattle.std.proofs.Common.{Result, Ok, Err, IfOk, IfErr, ◌≡◌, ◌∙◌, List, [], Option, Some, None, option_map, true, refl, sym, ap, subst, unwrap_or, ⊎_elim, ◌∷◌, bytes_eq, find}
use Rattle.clap.specs.Walk.{Row, Text}
use Rattle.clap.specs.Simple.{App, HasMatchesOf, is_simple, subcommand_of, subcommand_rows_of}
use Rattle.clap.specs.Kinds.{FailsBy, HasKind, Kinds}
use Rattle.clap.specs.Faults.{fault_of, is_simple_and_free}
use Rattle.clap.specs.Values.{kind_of}
use Rattle.clap.specs.declared.error.Error.{Error}
use Rattle.clap.specs.declared.error.kind.ErrorKind.TheVariants.{OutOfMemory}
use Rattle.clap.specs.declared.parser.matches.ArgMatches.{ArgMatches}
use Rattle.script_model.specs.Spelled.{Spelled, spelled}
use Rattle.command_words.specs.Grammar.{Kind, transform_words, host_words, run_words, gen_words, save_words, continue_words, MatchesSpell, TellsFlags, line, name_of, read_of}
use Rattle.command_words.proofs.Exact.{exact, line_is_free, line_is_simple}
use Rattle.command_words.proofs.Walking.{AllText}

-- commands have different names
abbrev kinds : List Kind
kinds = transform_words ∷ host_words ∷ run_words ∷ gen_words ∷ save_words ∷ continue_words ∷ []

-- the command of this name
abbrev kind_at : Text → Option Kind
kind_at name = find (λ (k : Kind). bytes_eq (name_of k) name) kinds

found : (k : Kind) → kind_at (name_of k) ≡ Some k
found transform_words = refl
found host_words = refl
found run_words = refl
found gen_words = refl
found save_words = refl
found continue_words = refl

same_command : (j k : Kind) → name_of j ≡ name_of k → j ≡ k
same_command j k e = ap (λ (o : Option Kind). unwrap_or o k) (sym (found j) ∙ ap kind_at e ∙ found k)

abbrev pub name_in : Option (Text × List Row) → Option Text
name_in = option_map (λ (p : Text × List Row). p.0)

abbrev pub rows_in : Option (Text × List Row) → Option (List Row)
rows_in = option_map (λ (p : Text × List Row). p.1)

-- The matches of this command are these.
pub command_read : (k : Kind) (rows : List Row) (matches : Option (Text × List Row)) (spelling : Option Spelled) → MatchesSpell matches spelling → name_in matches ≡ Some (name_of k)
    → rows_in matches ≡ Some rows → TellsFlags k rows × (spelling ≡ read_of k rows)
command_read k rows matches spelling h name here =
    let is : h.0 ≡ k = same_command h.0 k (ap (λ (o : Option Text). unwrap_or o []) (sym (ap name_in h.2) ∙ name)) in
    let rows_is : h.1 ≡ rows = ap (λ (o : Option (List Row)). unwrap_or o []) (sym (ap rows_in h.2) ∙ here) in
    subst (λ (j : Kind). TellsFlags j rows × (spelling ≡ read_of j rows)) is (subst (λ (r : List Row). TellsFlags h.0 r × (spelling ≡ read_of h.0 r)) rows_is (h.3, h.4))

-- One of the commands was met.
pub command_met : (matches : Option (Text × List Row)) (spelling : Option Spelled) → MatchesSpell matches spelling → ((k : Kind) → name_in matches ≡ Some (name_of k) → ⊥) → ⊥
command_met matches spelling h none = none h.0 (ap name_in h.2)

-- ---- a parse of the words

module _ (a : App) (words : List Text) (text : AllText words) (is : a ≡ line) where
  -- a parse that passes says what the words spell
  pub parse_spells : (m : ArgMatches) → HasMatchesOf a words m → (is_simple_and_free a ≡ true → fault_of a words ≡ []) → MatchesSpell (subcommand_rows_of m) (spelled words)
  parse_spells m matches passes =
      let none : fault_of line words ≡ [] = sym (ap (λ (x : App). fault_of x words) is) ∙ passes (ap is_simple_and_free is ∙ line_is_free) in
      let same : subcommand_rows_of m ≡ subcommand_of line words = (matches (ap is_simple is ∙ line_is_simple)).1 ∙ ap (λ (x : App). subcommand_of x words) is in
      subst (λ o. MatchesSpell o (spelled words)) (sym same) ((exact words text).0 none)

  -- one that fails, and not for want of memory, says that they spell nothing
  pub failure_spells : (e : Error) → (is_simple_and_free a ≡ true → HasKind (fault_of a words) e) → (kind_of e ≡ OutOfMemory → ⊥) → spelled words ≡ None
  failure_spells e fails no_want =
      let kinds = subst (λ (x : App). HasKind (fault_of x words) e) is (fails (ap is_simple_and_free is ∙ line_is_free)) in
      (exact words text).1 (λ none. ⊎_elim no_want (λ h. h) (subst (λ (k : Kinds). HasKind k e) none kinds))

-- both, of what a parse answers
pub both_ways : (a : App) (words : List Text) → AllText words → a ≡ line → (r : Result ArgMatches Error) → IfOk r (HasMatchesOf a words)
    → (is_simple_and_free a ≡ true → FailsBy (fault_of a words) r)
    → IfOk r (λ m. MatchesSpell (subcommand_rows_of m) (spelled words)) × IfErr r (λ e. (kind_of e ≡ OutOfMemory → ⊥) → spelled words ≡ None)
both_ways a words text is (Ok m) matches kinds = (parse_spells a words text is m matches kinds, tt)
both_ways a words text is (Err e) matches kinds = (tt, failure_spells a words text is e kinds)
