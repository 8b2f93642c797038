-- The strands of each program of a script: how many there are, and what their lines tell.
use Rattle.std.proofs.Common.{arith, ◌≡◌, ◌≢◌, ◌∙◌, ℕ, suc, ◌+◌, ◌≤◌, ◌<◌, ◌^◌, nat_eq, Bool, true, false, Option, Some, None, Result, Ok, Err, List, [], ◌∷◌, length, map, ap, subst, refl, if◌then◌else◌, All}
use Rattle.std.specs.List.{cons_option, filter}
use Rattle.std.proofs.lemmas.Bool.{eqb-false}
use Rattle.std.proofs.lemmas.List.{length-append}
use Rattle.std.proofs.lemmas.List.Elements.{All-nil, All-cons, All-head, All-tail, All-weaker}
use Rattle.wa_model.specs.Outside.{AnswerLine}
use Rattle.wa_model.specs.Plan.{AnswerFits}
use Rattle.script_model.specs.Script.{EntryText, ScriptFault, StrandText, breaks}
use Rattle.script_model.specs.ScriptLines.{Statement, begins_program, lists_imports, ignores_imports, saves, has_area, has_steps, sets_global, binds, enters, answers, shows, detaches, has_mailbox, begins_strand, line_says}
use Rattle.script_model.specs.ScriptText.{Numbered, Group, Grouped, StrandGroup, Stranded, is_early, is_strand, in_program, most_strands, fault_of, unless_fault, with_line, statements, grouped_with, grouped, stranded_with, stranded, strand_of, entry_of, answer_of, told_by, lines_by}
use Rattle.pause_host.specs.Moves.{HasShortPokes}
use Rattle.script_setup.specs.SetUpRules.{entries_then}
use Rattle.world_hosting.specs.Worlds.{FitsStrand, HasStrandRanges}
use Rattle.world_hosting.proofs.ScriptPlans.{SaysFit}
use Rattle.world_hosting.proofs.StatementsTold.{NumberedFits, AnswerOk, EntryOk, told_all, lines_all, lines_few, answer_told, entry_told}

-- ---- how many

-- how many further strands have begun in the program that is being told
abbrev pub strands_begun : List Statement → ℕ
strands_begun earlier = length (filter is_strand (in_program earlier))

-- how many these statements begin
abbrev strand_count : List Numbered → ℕ
strand_count ss = length (stranded ss).strands

abbrev pub HasFewStrands : Group → Type 0
HasFewStrands g = strand_count g.told ≤ 15

-- Behind so many strands of a program its further statements begin no more than there may be, nor do those of a program behind it.
pub record FewStrands (before : ℕ) (g : Grouped) : Type 0 where
  pub first : before + strand_count g.first ≤ 15
  pub groups : All HasFewStrands g.groups

-- a statement more, which breaks no rule
record OneMore (earlier : List Statement) (line : ℕ) (s : Statement) (g : Grouped) : Type 0 where
  few : strands_begun (s ∷ earlier) ≤ 15
  behind : FewStrands (strands_begun (s ∷ earlier)) g → FewStrands (strands_begun earlier) (grouped_with line s g)

strand_more : (early full : Bool) (f : ScriptFault) (g : ScriptFault) → (if early then Some f else (if full then Some g else None)) ≡ None → full ≡ false
strand_more true full f g e = cc
strand_more false true f g e = cc
strand_more false false f g e = refl

one_more : (earlier : List Statement) (line : ℕ) (s : Statement) (g : Grouped) → strands_begun earlier ≤ 15 → fault_of line earlier s ≡ None → OneMore earlier line s g
one_more earlier line (begins_program path) g h e = record {
  few = omega arith;
  behind = λ f. record {
    first = omega (arith, h);
    groups = All-cons HasFewStrands (record { line = line; path = path; told = g.first }) g.groups (omega (arith, f.first)) f.groups;
  };
}
one_more earlier line (begins_strand at len) g h e =
    let full = strand_more (is_early (begins_strand at len) earlier) (nat_eq (suc (strands_begun earlier)) most_strands) (breaks line 5) (breaks line 3) e in
    let other = eqb-false (suc (strands_begun earlier)) most_strands full in
    record { few = below other; behind = λ f. record { first = omega (arith, f.first); groups = f.groups } }
  where
    below : suc (strands_begun earlier) ≢ most_strands → suc (strands_begun earlier) ≤ 15
    below other = omega (arith, h, other)
one_more earlier line (lists_imports list) g h e = record { few = h; behind = λ f. record { first = f.first; groups = f.groups } }
one_more earlier line ignores_imports g h e = record { few = h; behind = λ f. record { first = f.first; groups = f.groups } }
one_more earlier line (saves live) g h e = record { few = h; behind = λ f. record { first = f.first; groups = f.groups } }
one_more earlier line (has_area at len) g h e = record { few = h; behind = λ f. record { first = f.first; groups = f.groups } }
one_more earlier line (has_steps n) g h e = record { few = h; behind = λ f. record { first = f.first; groups = f.groups } }
one_more earlier line (sets_global name value) g h e = record { few = h; behind = λ f. record { first = f.first; groups = f.groups } }
one_more earlier line (binds import device) g h e = record { few = h; behind = λ f. record { first = f.first; groups = f.groups } }
one_more earlier line (enters name args) g h e = record { few = h; behind = λ f. record { first = f.first; groups = f.groups } }
one_more earlier line (answers answer) g h e = record { few = h; behind = λ f. record { first = f.first; groups = f.groups } }
one_more earlier line (shows at len) g h e = record { few = h; behind = λ f. record { first = f.first; groups = f.groups } }
one_more earlier line (detaches device before) g h e = record { few = h; behind = λ f. record { first = f.first; groups = f.groups } }
one_more earlier line (has_mailbox name) g h e = record { few = h; behind = λ f. record { first = f.first; groups = f.groups } }

pub few_strands : (ls : List (List ℕ)) (line : ℕ) (earlier : List Statement) (ss : List Numbered) → strands_begun earlier ≤ 15 → statements line earlier ls ≡ Ok ss
    → FewStrands (strands_begun earlier) (grouped ss)
few_strands [] line earlier ss h e =
    let same : [] ≡ ss = cc in
    subst (λ (x : List Numbered). FewStrands (strands_begun earlier) (grouped x)) same (record { first = omega (arith, h); groups = All-nil HasFewStrands })
few_strands (l ∷ ls) line earlier ss h e = by (line_says l) e (few_strands ls (suc line)) where
  behind : (s : Statement) (o : Option ScriptFault) (r : Result (List Numbered) ScriptFault) → fault_of line earlier s ≡ o → unless_fault o (record { line = line; says = s }) r ≡ Ok ss
      → ((more : List Numbered) → strands_begun (s ∷ earlier) ≤ 15 → r ≡ Ok more → FewStrands (strands_begun (s ∷ earlier)) (grouped more)) → FewStrands (strands_begun earlier) (grouped ss)
  behind s (Some f) r none k rest = cc
  behind s None (Err f) none k rest = cc
  behind s None (Ok more) none k rest =
      let same : record { line = line; says = s } ∷ more ≡ ss = cc in
      let one = one_more earlier line s (grouped more) h none in
      subst (λ (x : List Numbered). FewStrands (strands_begun earlier) (grouped x)) same (one.behind (rest more one.few refl))

  by : (r : Result (Option Statement) ℕ) → with_line line earlier r (λ told. statements (suc line) told ls) ≡ Ok ss
      → ((told : List Statement) (more : List Numbered) → strands_begun told ≤ 15 → statements (suc line) told ls ≡ Ok more → FewStrands (strands_begun told) (grouped more))
      → FewStrands (strands_begun earlier) (grouped ss)
  by (Err rule) k rest = cc
  by (Ok None) k rest = rest earlier ss h k
  by (Ok (Some s)) k rest = behind s (fault_of line earlier s) (statements (suc line) (s ∷ earlier) ls) refl k (rest (s ∷ earlier))

-- ---- what their lines tell

-- a strand of no more than so many statements, which fit
record GroupFits (most : ℕ) (g : StrandGroup) : Type 0 where
  few : length g.told ≤ most
  fit : All NumberedFits g.told

record StrandedFits (most count : ℕ) (g : Stranded) : Type 0 where
  few : length g.first ≤ count
  first : All NumberedFits g.first
  strands : All (GroupFits most) g.strands

first_more : (most count line : ℕ) (s : Statement) (g : Stranded) → SaysFit s → StrandedFits most count g
    → StrandedFits most (suc count) (record { first = record { line = line; says = s } ∷ g.first; strands = g.strands })
first_more most count line s g h f = record {
  few = omega (arith, f.few);
  first = All-cons NumberedFits (record { line = line; says = s }) g.first h f.first;
  strands = f.strands;
}

one_stranded : (most count line : ℕ) (s : Statement) (g : Stranded) → SaysFit s → count ≤ most → StrandedFits most count g → StrandedFits most (suc count) (stranded_with line s g)
one_stranded most count line (begins_strand at len) g h le f = record {
  few = omega arith;
  first = All-nil NumberedFits;
  strands =
      All-cons (GroupFits most) (record { line = line; area = record { at = at; len = len }; told = g.first }) g.strands (record { few = omega (arith, f.few, le); fit = f.first }) f.strands;
}
one_stranded most count line (begins_program path) g h le f = first_more most count line (begins_program path) g h f
one_stranded most count line (lists_imports list) g h le f = first_more most count line (lists_imports list) g h f
one_stranded most count line ignores_imports g h le f = first_more most count line ignores_imports g h f
one_stranded most count line (saves live) g h le f = first_more most count line (saves live) g h f
one_stranded most count line (has_area at len) g h le f = first_more most count line (has_area at len) g h f
one_stranded most count line (has_steps n) g h le f = first_more most count line (has_steps n) g h f
one_stranded most count line (sets_global name value) g h le f = first_more most count line (sets_global name value) g h f
one_stranded most count line (binds import device) g h le f = first_more most count line (binds import device) g h f
one_stranded most count line (enters name args) g h le f = first_more most count line (enters name args) g h f
one_stranded most count line (answers answer) g h le f = first_more most count line (answers answer) g h f
one_stranded most count line (shows at len) g h le f = first_more most count line (shows at len) g h f
one_stranded most count line (detaches device before) g h le f = first_more most count line (detaches device before) g h f
one_stranded most count line (has_mailbox name) g h le f = first_more most count line (has_mailbox name) g h f

stranded_fits : (most : ℕ) (ss : List Numbered) → length ss ≤ most → All NumberedFits ss → StrandedFits most (length ss) (stranded ss)
stranded_fits most [] le h = record { few = omega arith; first = All-nil NumberedFits; strands = All-nil (GroupFits most) }
stranded_fits most (s ∷ ss) le h =
    one_stranded most (length ss) s.line s.says (stranded ss) (All-head NumberedFits s ss h) (omega (arith, le)) (stranded_fits most ss (omega (arith, le)) (All-tail NumberedFits s ss h))

-- A strand fits a plan where it has no more lines than entries may be, and what it tells is in range.
pub record StrandFits (most : ℕ) (s : StrandText) : Type 0 where
  pub plan : most < 2 ^ 32 → FitsStrand s
  pub ranges : HasStrandRanges s

strand_fits : (most : ℕ) (g : StrandGroup) → GroupFits most g → StrandFits most (strand_of g)
strand_fits most g f =
    let few = lines_few entry_of g.told in
    let answers = told_all AnswerOk answer_of answer_told g.told f.fit in
    record {
      plan = λ le. record {
        entries = omega (arith, few, f.few, le);
        pokes = All-weaker AnswerOk HasShortPokes (λ l k. k.0) (told_by answer_of g.told) answers;
      };
      ranges = record {
        entries = lines_all EntryOk entry_of entry_told g.told f.fit;
        answers = All-weaker AnswerOk (λ (l : AnswerLine). AnswerFits l.answer) (λ l k. k.1) (told_by answer_of g.told) answers;
      };
    }

all_fit : (most : ℕ) (gs : List StrandGroup) → All (GroupFits most) gs → All (StrandFits most) (map strand_of gs)
all_fit most [] h = All-nil (StrandFits most)
all_fit most (g ∷ gs) h =
    All-cons (StrandFits most) (strand_of g) (map strand_of gs) (strand_fits most g (All-head (GroupFits most) g gs h)) (all_fit most gs (All-tail (GroupFits most) g gs h))

-- A program's statements that fit: those in front of its first strand, and its strands.
pub record PartsFit (most : ℕ) (ss : List Numbered) : Type 0 where
  pub first : All NumberedFits (stranded ss).first
  pub strands : All (StrandFits most) (map strand_of (stranded ss).strands)

pub parts_fit : (most : ℕ) (ss : List Numbered) → length ss ≤ most → All NumberedFits ss → PartsFit most ss
parts_fit most ss le h =
    let f = stranded_fits most ss le h in
    record { first = f.first; strands = all_fit most (stranded ss).strands f.strands }

-- ---- entries of all strands

entry_in_front : (e : EntryText) (es : List EntryText) (xs : List StrandText) → entries_then (e ∷ es) xs ≡ e ∷ entries_then es xs
entry_in_front e es [] = refl
entry_in_front e es (x ∷ xs) = refl

-- the entries that statements tell by their strands
abbrev entries_by : Stranded → List EntryText
entries_by g = entries_then (lines_by entry_of g.first) (map strand_of g.strands)

one_entry : (line : ℕ) (s : Statement) (g : Stranded) → entries_by (stranded_with line s g) ≡ cons_option (entry_of line s) (entries_by g)
one_entry line (enters name args) g = entry_in_front (record { line = line; name = name; args = args }) (lines_by entry_of g.first) (map strand_of g.strands)
one_entry line (begins_strand at len) g = refl
one_entry line (begins_program path) g = refl
one_entry line (lists_imports list) g = refl
one_entry line ignores_imports g = refl
one_entry line (saves live) g = refl
one_entry line (has_area at len) g = refl
one_entry line (has_steps n) g = refl
one_entry line (sets_global name value) g = refl
one_entry line (binds import device) g = refl
one_entry line (answers answer) g = refl
one_entry line (shows at len) g = refl
one_entry line (detaches device before) g = refl
one_entry line (has_mailbox name) g = refl

-- they are those of all statements
pub entries_are : (ss : List Numbered) → entries_by (stranded ss) ≡ lines_by entry_of ss
entries_are [] = refl
entries_are (s ∷ ss) = one_entry s.line s.says (stranded ss) ∙ ap (cons_option (entry_of s.line s.says)) (entries_are ss)

-- .. of which those of the first strand are some
pub first_entries : (es : List EntryText) (xs : List StrandText) → length es ≤ length (entries_then es xs)
first_entries es [] = omega arith
first_entries es (x ∷ xs) =
    let long = length-append es (entries_then x.entries xs) in
    omega (arith, long)
