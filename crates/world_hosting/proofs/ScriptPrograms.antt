-- Each program of a script fits a plan.
use Rattle.std.proofs.Common.{arith, ◌≡◌, ℕ, suc, ◌+◌, ◌<◌, ◌≤◌, ◌^◌, ◌==◌, Bool, true, false, Option, Some, None, Result, Ok, Err, List, [], ◌∷◌, length, ap, subst, refl, if◌then◌else◌, All}
use Rattle.std.specs.Option.{unwrap_or}
use Rattle.std.specs.List.{slice_get, slice_split}
use Rattle.std.specs.Str.Lines.{lines, lines_of_parts}
use Rattle.std.proofs.lemmas.List.{length-map}
use Rattle.std.proofs.lemmas.List.Elements.{All-nil, All-cons, All-head, All-tail, All-weaker}
use Rattle.std.proofs.lemmas.List.Splits.{length-slice_split}
use Rattle.std.proofs.lemmas.List.Sums.{count_by-le-length}
use Rattle.wa_model.specs.Outside.{AnswerLine}
use Rattle.script_model.specs.Script.{ProgramText, Script, ScriptFault, strand_line}
use Rattle.script_model.specs.ScriptLines.{Statement, begins_program, lists_imports, ignores_imports, saves, has_area, has_steps, sets_global, binds, enters, answers, shows, detaches, has_mailbox, begins_strand, line_says}
use Rattle.script_model.specs.ScriptText.{Numbered, Group, Grouped, AreaText, fault_of, unless_fault, with_line, statements, grouped_with, grouped, default_steps, steps_of, entry_of, global_of, answer_of, area_of, detach_of, mailbox_of, told_by, lines_by, stranded, strand_of, program_of, with_program, mixed_line, unless_mixed, programs_of, with_programs, script_of, script_text}
use Rattle.wa_model.specs.Plan.{AnswerFits}
use Rattle.pause_host.specs.Moves.{HasShortPokes}
use Rattle.script_setup.specs.SetUpRules.{entries_in}
use Rattle.world_hosting.specs.Worlds.{FitsPlan, FitsStrand, HasRanges, HasStrandRanges}
use Rattle.world_hosting.specs.Laws.{ScriptsFit, ScriptsInRange}
use Rattle.world_hosting.proofs.ScriptPlans.{SaysFit, line_fits}
use Rattle.world_hosting.proofs.ScriptStrands.{HasFewStrands, StrandFits, entries_are, few_strands, first_entries, parts_fit}
use Rattle.world_hosting.proofs.StatementsTold.{NumberedFits, AnswerOk, EntryOk, GlobalOk, IsSteps, told_all, lines_all, lines_few, steps_told, answer_told, entry_told, global_told}

-- ---- statements

record StatementsFit (ls : List (List ℕ)) (ss : List Numbered) : Type 0 where
  few : length ss ≤ length ls
  fit : All NumberedFits ss

statements_fit : (ls : List (List ℕ)) (line : ℕ) (earlier : List Statement) (ss : List Numbered) → statements line earlier ls ≡ Ok ss → StatementsFit ls ss
statements_fit [] line earlier ss e =
    let same : [] ≡ ss = cc in
    subst (StatementsFit []) same (record { few = omega arith; fit = All-nil NumberedFits })
statements_fit (l ∷ ls) line earlier ss e = by (line_says l) refl e (statements_fit ls (suc line)) where
  behind : (s : Statement) → SaysFit s → (told : List Statement) → (o : Option ScriptFault) (r : Result (List Numbered) ScriptFault) → unless_fault o (record { line = line; says = s }) r ≡ Ok ss
      → ((more : List Numbered) → r ≡ Ok more → StatementsFit ls more) → StatementsFit (l ∷ ls) ss
  behind s h told (Some f) r k rest = cc
  behind s h told None (Err f) k rest = cc
  behind s h told None (Ok more) k rest =
      let one : Numbered = record { line = line; says = s } in
      let same : one ∷ more ≡ ss = cc in
      let f = rest more refl in
      subst (StatementsFit (l ∷ ls)) same (record { few = omega (arith, f.few); fit = All-cons NumberedFits one more h f.fit })

  by : (r : Result (Option Statement) ℕ) → line_says l ≡ r → with_line line earlier r (λ told. statements (suc line) told ls) ≡ Ok ss
      → ((told : List Statement) (more : List Numbered) → statements (suc line) told ls ≡ Ok more → StatementsFit ls more) → StatementsFit (l ∷ ls) ss
  by (Err rule) says k rest = cc
  by (Ok None) says k rest =
      let f = rest earlier ss k in
      record { few = omega (arith, f.few); fit = f.fit }
  by (Ok (Some s)) says k rest = behind s (line_fits l s says) (s ∷ earlier) (fault_of line earlier s) (statements (suc line) (s ∷ earlier) ls) k (rest (s ∷ earlier))

-- ---- groups

-- a group of no more than so many statements, which fit
record GroupFits (most : ℕ) (g : Group) : Type 0 where
  few : length g.told ≤ most
  fit : All NumberedFits g.told

record GroupedFits (most count : ℕ) (g : Grouped) : Type 0 where
  few : length g.first ≤ count
  first : All NumberedFits g.first
  groups : All (GroupFits most) g.groups

first_more : (most count line : ℕ) (s : Statement) (g : Grouped) → SaysFit s → GroupedFits most count g
    → GroupedFits most (suc count) (record { first = record { line = line; says = s } ∷ g.first; groups = g.groups })
first_more most count line s g h f = record {
  few = omega (arith, f.few);
  first = All-cons NumberedFits (record { line = line; says = s }) g.first h f.first;
  groups = f.groups;
}

one_grouped : (most count line : ℕ) (s : Statement) (g : Grouped) → SaysFit s → count ≤ most → GroupedFits most count g → GroupedFits most (suc count) (grouped_with line s g)
one_grouped most count line (begins_program path) g h le f = record {
  few = omega arith;
  first = All-nil NumberedFits;
  groups = All-cons (GroupFits most) (record { line = line; path = path; told = g.first }) g.groups (record { few = omega (arith, f.few, le); fit = f.first }) f.groups;
}
one_grouped most count line (lists_imports list) g h le f = first_more most count line (lists_imports list) g h f
one_grouped most count line ignores_imports g h le f = first_more most count line ignores_imports g h f
one_grouped most count line (saves live) g h le f = first_more most count line (saves live) g h f
one_grouped most count line (has_area at len) g h le f = first_more most count line (has_area at len) g h f
one_grouped most count line (has_steps n) g h le f = first_more most count line (has_steps n) g h f
one_grouped most count line (sets_global name value) g h le f = first_more most count line (sets_global name value) g h f
one_grouped most count line (binds import device) g h le f = first_more most count line (binds import device) g h f
one_grouped most count line (enters name args) g h le f = first_more most count line (enters name args) g h f
one_grouped most count line (answers answer) g h le f = first_more most count line (answers answer) g h f
one_grouped most count line (shows at len) g h le f = first_more most count line (shows at len) g h f
one_grouped most count line (detaches device before) g h le f = first_more most count line (detaches device before) g h f
one_grouped most count line (has_mailbox name) g h le f = first_more most count line (has_mailbox name) g h f
one_grouped most count line (begins_strand at len) g h le f = first_more most count line (begins_strand at len) g h f

grouped_fits : (most : ℕ) (ss : List Numbered) → length ss ≤ most → All NumberedFits ss → GroupedFits most (length ss) (grouped ss)
grouped_fits most [] le h = record { few = omega arith; first = All-nil NumberedFits; groups = All-nil (GroupFits most) }
grouped_fits most (s ∷ ss) le h =
    one_grouped most (length ss) s.line s.says (grouped ss) (All-head NumberedFits s ss h) (omega (arith, le)) (grouped_fits most ss (omega (arith, le)) (All-tail NumberedFits s ss h))

-- ---- programs

first_or : (ns : List ℕ) → All IsSteps ns → IsSteps (unwrap_or (slice_get ns 0) default_steps)
first_or [] h = (omega arith, omega arith)
first_or (n ∷ ns) h = All-head IsSteps n ns h

-- A program fits a plan where it has no more lines than entries may be, and what it tells is in range.
record ProgramFits (most : ℕ) (t : ProgramText) : Type 0 where
  plan : most < 2 ^ 32 → FitsPlan t
  ranges : HasRanges t

program_fits : (most : ℕ) (g : Group) (a : AreaText) → GroupFits most g → HasFewStrands g → ProgramFits most (program_of g a)
program_fits most g a f few =
    let steps = first_or (told_by steps_of g.told) (told_all IsSteps steps_of steps_told g.told f.fit) in
    let parts = parts_fit most g.told f.few f.fit in
    let answers = told_all AnswerOk answer_of answer_told (stranded g.told).first parts.first in
    let lines = lines_few entry_of g.told in
    let count = length-map (stranded g.told).strands strand_of in
    let own = first_entries (program_of g a).entries (program_of g a).strands in
    let all : length (entries_in (program_of g a)) ≡ length (lines_by entry_of g.told) = ap length (entries_are g.told) in
    record {
      plan = λ le. record {
        some_steps = steps.0;
        few_steps = steps.1;
        entries = omega (arith, own, all, lines, f.few, le);
        pokes = All-weaker AnswerOk HasShortPokes (λ l k. k.0) (told_by answer_of (stranded g.told).first) answers;
        few = omega (arith, few, count);
        all = omega (arith, all, lines, f.few, le);
        strands = All-weaker (StrandFits most) FitsStrand (λ s k. k.plan le) (program_of g a).strands parts.strands;
      };
      ranges = record {
        globals = lines_all GlobalOk global_of global_told g.told f.fit;
        entries = lines_all EntryOk entry_of entry_told (stranded g.told).first parts.first;
        answers = All-weaker AnswerOk (λ (l : AnswerLine). AnswerFits l.answer) (λ l k. k.1) (told_by answer_of (stranded g.told).first) answers;
        strands = All-weaker (StrandFits most) HasStrandRanges (λ s k. k.ranges) (program_of g a).strands parts.strands;
      };
    }

programs_fit : (most : ℕ) (gs : List Group) (programs : List ProgramText) → All (GroupFits most) gs → All HasFewStrands gs → programs_of gs ≡ Ok programs
    → All (ProgramFits most) programs
programs_fit most [] programs h few e =
    let same : [] ≡ programs = cc in
    subst (All (ProgramFits most)) same (All-nil (ProgramFits most))
programs_fit most (g ∷ gs) programs h few e = by (slice_get (lines_by area_of g.told) 0) (programs_of gs) refl e (programs_fit most gs) where
  by : (o : Option AreaText) (r : Result (List ProgramText) ScriptFault) → programs_of gs ≡ r → with_program g o r ≡ Ok programs
      → ((more : List ProgramText) → All (GroupFits most) gs → All HasFewStrands gs → programs_of gs ≡ Ok more → All (ProgramFits most) more) → All (ProgramFits most) programs
  by None (Ok more) is k rest = cc
  by None (Err f) is k rest = cc
  by (Some a) (Err f) is k rest = cc
  by (Some a) (Ok more) is k rest =
      let same : program_of g a ∷ more ≡ programs = cc in
      subst (All (ProgramFits most)) same
      (All-cons (ProgramFits most) (program_of g a) more (program_fits most g a (All-head (GroupFits most) g gs h) (All-head HasFewStrands g gs few))
      (rest more (All-tail (GroupFits most) g gs h) (All-tail HasFewStrands g gs few) is))

-- ---- lines

parts_few : (parts : List (List ℕ)) → length (lines_of_parts parts) ≤ length parts
parts_few [] = omega arith
parts_few (x ∷ []) = by (length x == 0) where
  by : (b : Bool) → length (if b then [] else x ∷ []) ≤ 1
  by true = omega arith
  by false = omega arith
parts_few (x ∷ y ∷ more) =
    let few = parts_few (y ∷ more) in
    omega (arith, few)

few_lines : (bytes : List ℕ) → length (lines bytes) ≤ length bytes + 1
few_lines bytes =
    let parts = parts_few (slice_split (λ b. b == 10) bytes) in
    let split = length-slice_split (λ b. b == 10) bytes in
    let count = count_by-le-length (λ b. b == 10) bytes in
    omega (arith, parts, split, count)

-- ---- scripts

abbrev programs_in : Result Script ScriptFault → List ProgramText
programs_in (Ok x) = x.programs
programs_in (Err f) = []

-- a script that has no mailbox beside a strand
programs_kept : (o : Option ℕ) (x s : Script) → unless_mixed o x ≡ Ok s → x.programs ≡ s.programs
programs_kept None x s e = ap programs_in e
programs_kept (Some line) x s e = cc

script_fits : (ls : List (List ℕ)) (r : Result (List Numbered) ScriptFault) → statements 1 [] ls ≡ r → (s : Script) → script_of r ≡ Ok s → All (ProgramFits (length ls)) s.programs
script_fits ls (Err f) is s e = cc
script_fits ls (Ok ss) is s e = by (programs_of (grouped ss).groups) refl e where
  told : StatementsFit ls ss
  told = statements_fit ls 1 [] ss is

  by : (r : Result (List ProgramText) ScriptFault) → programs_of (grouped ss).groups ≡ r → with_programs (told_by detach_of ss) (lines_by mailbox_of ss) r ≡ Ok s → All (ProgramFits (length ls)) s.programs
  by (Err f) are k = cc
  by (Ok programs) are k =
      let whole : Script = record { programs = programs; detaches = told_by detach_of ss; mailboxes = lines_by mailbox_of ss } in
      let same : programs ≡ s.programs = programs_kept (mixed_line (lines_by mailbox_of ss) (strand_line whole)) whole s k in
      let few = told.few in
      subst (All (ProgramFits (length ls))) same
      (programs_fit (length ls) (grouped ss).groups programs (grouped_fits (length ls) ss few told.fit).groups (few_strands ls 1 [] ss (omega arith) is).groups are)

fits_of_text : (bytes : List ℕ) (s : Script) → script_text bytes ≡ Ok s → All (ProgramFits (length (lines bytes))) s.programs
unfolding script_text
fits_of_text bytes s e = script_fits (lines bytes) (statements 1 [] (lines bytes)) refl s e

pub scripts_fit_plans : ScriptsFit
scripts_fit_plans bytes s few e =
    let lines_few = few_lines bytes in
    All-weaker (ProgramFits (length (lines bytes))) FitsPlan (λ t h. h.plan (omega (arith, lines_few, few))) s.programs (fits_of_text bytes s e)

pub scripts_are_in_range : ScriptsInRange
scripts_are_in_range bytes s e = All-weaker (ProgramFits (length (lines bytes))) HasRanges (λ t h. h.ranges) s.programs (fits_of_text bytes s e)
