-- Each program of a script says which imports are listed.
use Rattle.std.proofs.Common.{◌≡◌, ℕ, suc, ◌||◌, Bool, true, false, Option, Some, None, Result, Ok, Err, List, [], ◌∷◌, All, refl, sym, ap, ◌∙◌, subst, if◌then◌else◌}
use Rattle.std.specs.List.{cons_option, list_any, slice_get}
use Rattle.std.specs.Str.Lines.{lines}
use Rattle.std.proofs.lemmas.List.Elements.{All-nil, All-cons, All-head, All-tail}
use Rattle.wa_types.specs.Pausing.{Choice, every, nobody, of_list, Entry, ListError, list_of}
use Rattle.call_graph.specs.Lists.{Blames}
use Rattle.call_graph.specs.declared.lists.ListFault.{ListFault}
use Rattle.call_graph.specs.declared.lists.ListFault.TheVariants.{Memory, EmptyEntry, NoDot, StarInside}
use Rattle.script_model.specs.Command.{choice_said, listed_choice}
use Rattle.script_model.specs.Script.{ProgramText, Script, ScriptFault, breaks, strand_line, too_many}
use Rattle.script_model.specs.ScriptLines.{Statement, begins_program, lists_imports, ignores_imports, saves, has_area, has_steps, sets_global, binds, enters, answers, shows, detaches, has_mailbox, begins_strand, line_says}
use Rattle.script_model.specs.ScriptText.{Numbered, Group, Grouped, AreaText, most_programs, tells_imports, in_program, is_repeated, is_error, has_bad_list, is_doubled, is_early, is_one_too_many, is_strand_too_many, fault_of, unless_fault, with_line, statements, grouped_with, grouped, list_of_statement, is_ignore, area_of, detach_of, mailbox_of, told_by, lines_by, program_of, with_program, programs_of, mixed_line, unless_mixed, with_programs, script_of, script_text}
use Rattle.script_command.specs.Playing.{HasChoice}

-- ---- statements

-- no statement of imports stands behind another of its program, and no list is none
abbrev Lawful : List Statement → List Numbered → Type 0
Lawful earlier [] = Unit {0}
Lawful earlier (s ∷ ss) = (is_repeated s.says (in_program earlier) ≡ false) × (has_bad_list s.says ≡ false) × Lawful (s.says ∷ earlier) ss

no_fault : (line : ℕ) (earlier : List Statement) (s : Statement) → fault_of line earlier s ≡ None → (is_repeated s (in_program earlier) ≡ false) × (has_bad_list s ≡ false)
no_fault line earlier s e =
    by (is_early s earlier) (is_one_too_many s earlier) (is_strand_too_many s (in_program earlier)) (is_repeated s (in_program earlier)) (has_bad_list s) (is_doubled s earlier) e
  where
    by : (a b x c d t : Bool)
        → (if a then Some (breaks line 5) else (if b then Some (too_many (suc most_programs)) else (if x then Some (breaks line 3) else (if c then Some (breaks line 6)
        else (if d then Some (breaks line 8) else (if t then Some (breaks line 17) else None)))))) ≡ None
        → (c ≡ false) × (d ≡ false)
    by true b x c d t k = cc
    by false true x c d t k = cc
    by false false true c d t k = cc
    by false false false true d t k = cc
    by false false false false true t k = cc
    by false false false false false t k = (refl, refl)

all_lawful : (ls : List (List ℕ)) (line : ℕ) (earlier : List Statement) (ss : List Numbered) → statements line earlier ls ≡ Ok ss → Lawful earlier ss
all_lawful [] line earlier ss e =
    let same : [] ≡ ss = cc in
    subst (Lawful earlier) same tt
all_lawful (l ∷ ls) line earlier ss e = by (line_says l) e (all_lawful ls (suc line)) where
  behind : (s : Statement) (o : Option ScriptFault) (r : Result (List Numbered) ScriptFault) → fault_of line earlier s ≡ o → unless_fault o (record { line = line; says = s }) r ≡ Ok ss
      → ((more : List Numbered) → r ≡ Ok more → Lawful (s ∷ earlier) more) → Lawful earlier ss
  behind s (Some f) r is k rest = cc
  behind s None (Err f) is k rest = cc
  behind s None (Ok more) is k rest =
      let same : ◌≡◌ {A = List Numbered} (record { line = line; says = s } ∷ more) ss = cc in
      let ok = no_fault line earlier s is in
      subst (Lawful earlier) same (ok.0, ok.1, rest more refl)

  by : (r : Result (Option Statement) ℕ) → with_line line earlier r (λ told. statements (suc line) told ls) ≡ Ok ss
      → ((told : List Statement) (more : List Numbered) → statements (suc line) told ls ≡ Ok more → Lawful told more) → Lawful earlier ss
  by (Err rule) k rest = cc
  by (Ok None) k rest = rest earlier ss k
  by (Ok (Some s)) k rest = behind s (fault_of line earlier s) (statements (suc line) (s ∷ earlier) ls) refl k (rest (s ∷ earlier))

-- ---- what a program's statements say of imports

abbrev lists_in : List Numbered → List (List ℕ)
lists_in told = told_by list_of_statement told

abbrev ignores_in : List Numbered → Bool
ignores_in told = list_any (λ (s : Numbered). is_ignore s.says) told

-- behind a statement of imports there is none; else one at most
abbrev Chosen : Bool → List Numbered → Type 0
Chosen true told = (lists_in told ≡ []) × (ignores_in told ≡ false)
Chosen false told = (c : Choice) × (choice_said (slice_get (lists_in told) 0) (ignores_in told) ≡ Some c)

none_chosen : (b : Bool) → Chosen b []
none_chosen true = (refl, refl)
none_chosen false = (every, refl)

-- a statement of another kind
other_chosen : (b : Bool) (line : ℕ) (s : Statement) (told : List Numbered) → list_of_statement s ≡ None → is_ignore s ≡ false → Chosen b told → Chosen b (record { line = line; says = s } ∷ told)
other_chosen true line s told l i h = (ap (λ o. cons_option o (lists_in told)) l ∙ h.0, ap (λ x. x || ignores_in told) i ∙ h.1)
other_chosen false line s told l i h = (
  h.0,
  ap (λ o. choice_said (slice_get (cons_option o (lists_in told)) 0) (is_ignore s || ignores_in told)) l
      ∙ ap (λ x. choice_said (slice_get (lists_in told) 0) (x || ignores_in told)) i
      ∙ h.1,
)

listed_chosen : (line : ℕ) (list : List ℕ) (told : List Numbered) → has_bad_list (lists_imports list) ≡ false → Chosen true told → Chosen false (record { line = line; says = lists_imports list } ∷ told)
listed_chosen line list told ok h = by (list_of list) refl ok where
  by : (r : Result (List Entry) ListError) → list_of list ≡ r → is_error r ≡ false → Chosen false (record { line = line; says = lists_imports list } ∷ told)
  by (Err e) is k = cc
  by (Ok entries) is k = (of_list entries, ap (choice_said (Some list)) h.1 ∙ ap listed_choice is)

ignored_chosen : (line : ℕ) (told : List Numbered) → Chosen true told → Chosen false (record { line = line; says = ignores_imports } ∷ told)
ignored_chosen line told h = (nobody, ap (λ xs. choice_said (slice_get xs 0) true) h.0)

-- ---- groups

abbrev begun : List Statement → Bool
begun earlier = list_any tells_imports (in_program earlier)

abbrev GroupChosen : Group → Type 0
GroupChosen g = Chosen false g.told

record AreChosen (earlier : List Statement) (g : Grouped) : Type 0 where
  first : Chosen (begun earlier) g.first
  groups : All GroupChosen g.groups

one_chosen : (line : ℕ) (s : Statement) (earlier : List Statement) (g : Grouped) → is_repeated s (in_program earlier) ≡ false → has_bad_list s ≡ false → AreChosen (s ∷ earlier) g
    → AreChosen earlier (grouped_with line s g)
one_chosen line (begins_program path) earlier g r b h = record {
  first = none_chosen (begun earlier);
  groups = All-cons GroupChosen (record { line = line; path = path; told = g.first }) g.groups h.first h.groups;
}
one_chosen line (lists_imports list) earlier g r b h = record {
  first = subst (λ (z : Bool). Chosen z (record { line = line; says = lists_imports list } ∷ g.first)) (sym r) (listed_chosen line list g.first b h.first);
  groups = h.groups;
}
one_chosen line ignores_imports earlier g r b h = record {
  first = subst (λ (z : Bool). Chosen z (record { line = line; says = ignores_imports } ∷ g.first)) (sym r) (ignored_chosen line g.first h.first);
  groups = h.groups;
}
one_chosen line (saves live) earlier g r b h = record { first = other_chosen (begun earlier) line (saves live) g.first refl refl h.first; groups = h.groups }
one_chosen line (has_area at len) earlier g r b h = record { first = other_chosen (begun earlier) line (has_area at len) g.first refl refl h.first; groups = h.groups }
one_chosen line (has_steps n) earlier g r b h = record { first = other_chosen (begun earlier) line (has_steps n) g.first refl refl h.first; groups = h.groups }
one_chosen line (sets_global name value) earlier g r b h = record { first = other_chosen (begun earlier) line (sets_global name value) g.first refl refl h.first; groups = h.groups }
one_chosen line (binds import device) earlier g r b h = record { first = other_chosen (begun earlier) line (binds import device) g.first refl refl h.first; groups = h.groups }
one_chosen line (enters name args) earlier g r b h = record { first = other_chosen (begun earlier) line (enters name args) g.first refl refl h.first; groups = h.groups }
one_chosen line (answers answer) earlier g r b h = record { first = other_chosen (begun earlier) line (answers answer) g.first refl refl h.first; groups = h.groups }
one_chosen line (shows at len) earlier g r b h = record { first = other_chosen (begun earlier) line (shows at len) g.first refl refl h.first; groups = h.groups }
one_chosen line (detaches device before) earlier g r b h = record { first = other_chosen (begun earlier) line (detaches device before) g.first refl refl h.first; groups = h.groups }
one_chosen line (has_mailbox name) earlier g r b h = record { first = other_chosen (begun earlier) line (has_mailbox name) g.first refl refl h.first; groups = h.groups }
one_chosen line (begins_strand at len) earlier g r b h = record { first = other_chosen (begun earlier) line (begins_strand at len) g.first refl refl h.first; groups = h.groups }

all_chosen : (ss : List Numbered) (earlier : List Statement) → Lawful earlier ss → AreChosen earlier (grouped ss)
all_chosen [] earlier h = record { first = none_chosen (begun earlier); groups = All-nil GroupChosen }
all_chosen (s ∷ ss) earlier h = one_chosen s.line s.says earlier (grouped ss) h.0 h.1 (all_chosen ss (s.says ∷ earlier) h.2)

-- ---- programs

programs_choose : (gs : List Group) (programs : List ProgramText) → All GroupChosen gs → programs_of gs ≡ Ok programs → All HasChoice programs
programs_choose [] programs h e =
    let same : [] ≡ programs = cc in
    subst (All HasChoice) same (All-nil HasChoice)
programs_choose (g ∷ gs) programs h e = by (slice_get (lines_by area_of g.told) 0) (programs_of gs) refl e (programs_choose gs) where
  by : (o : Option AreaText) (r : Result (List ProgramText) ScriptFault) → programs_of gs ≡ r → with_program g o r ≡ Ok programs
      → ((more : List ProgramText) → All GroupChosen gs → programs_of gs ≡ Ok more → All HasChoice more) → All HasChoice programs
  by None (Ok more) is k rest = cc
  by None (Err f) is k rest = cc
  by (Some a) (Err f) is k rest = cc
  by (Some a) (Ok more) is k rest =
      let same : program_of g a ∷ more ≡ programs = cc in
      subst (All HasChoice) same (All-cons HasChoice (program_of g a) more (All-head GroupChosen g gs h) (rest more (All-tail GroupChosen g gs h) is))

-- ---- scripts

abbrev programs_in : Result Script ScriptFault → List ProgramText
programs_in (Ok x) = x.programs
programs_in (Err f) = []

-- a script that has no mailbox beside a strand
programs_kept : (o : Option ℕ) (x s : Script) → unless_mixed o x ≡ Ok s → x.programs ≡ s.programs
programs_kept None x s e = ap programs_in e
programs_kept (Some line) x s e = cc

script_chooses : (ls : List (List ℕ)) (r : Result (List Numbered) ScriptFault) → statements 1 [] ls ≡ r → (s : Script) → script_of r ≡ Ok s → All HasChoice s.programs
script_chooses ls (Err f) is s e = cc
script_chooses ls (Ok ss) is s e = by (programs_of (grouped ss).groups) refl e where
  by : (r : Result (List ProgramText) ScriptFault) → programs_of (grouped ss).groups ≡ r → with_programs (told_by detach_of ss) (lines_by mailbox_of ss) r ≡ Ok s → All HasChoice s.programs
  by (Err f) are k = cc
  by (Ok programs) are k =
      let whole : Script = record { programs = programs; detaches = told_by detach_of ss; mailboxes = lines_by mailbox_of ss } in
      let same : programs ≡ s.programs = programs_kept (mixed_line (lines_by mailbox_of ss) (strand_line whole)) whole s k in
      subst (All HasChoice) same (programs_choose (grouped ss).groups programs (all_chosen ss [] (all_lawful ls 1 [] ss is)).groups are)

pub scripts_choose : (bytes : List ℕ) (s : Script) → script_text bytes ≡ Ok s → All HasChoice s.programs
unfolding script_text
scripts_choose bytes s e = script_chooses (lines bytes) (statements 1 [] (lines bytes)) refl s e

-- ---- a LIST

-- a text from which a choice is told is a list
pub is_list : (text : List ℕ) (ignored : Bool) (c : Choice) → choice_said (Some text) ignored ≡ Some c → (entries : List Entry) × (list_of text ≡ Ok entries)
is_list text true c e = cc
is_list text false c e = by (list_of text) refl e where
  by : (r : Result (List Entry) ListError) → list_of text ≡ r → listed_choice r ≡ Some c → (entries : List Entry) × (list_of text ≡ Ok entries)
  by (Ok entries) is k = (entries, is)
  by (Err f) is k = cc

pub said_list : (text : List ℕ) (ignored : Bool) (c : Choice) → choice_said (Some text) ignored ≡ Some c → choice_said (Some text) ignored ≡ listed_choice (list_of text)
said_list text true c e = cc
said_list text false c e = refl

-- the one fault of a text that is a list
pub blames_memory : (fault : ListFault) (entries : List Entry) → Blames fault (Ok entries) → (fault ≡ Memory → ⊥) → ⊥
blames_memory Memory entries h other = other refl
blames_memory EmptyEntry entries h other = cc
blames_memory NoDot entries h other = cc
blames_memory StarInside entries h other = cc
