-- How many programs a script has.
use Rattle.std.proofs.Common.{◌≡◌, ℕ, suc, ◌+◌, ◌≤◌, List, [], ◌∷◌, length, Option, Some, None, Bool, true, false, Result, Ok, Err, refl, sym, ap, ◌∙◌, subst, arith}
use Rattle.std.specs.Prelude.{nat_eq, ◌&&◌, if◌then◌else◌, slice_get}
use Rattle.std.specs.List.{filter}
use Rattle.std.specs.Str.Lines.{lines}
use Rattle.std.proofs.lemmas.Bool.{eqb-false}
use Rattle.script_model.specs.Script.{ProgramText, Script, ScriptFault, breaks, strand_line, too_many}
use Rattle.script_model.specs.ScriptLines.{Statement, begins_program, lists_imports, ignores_imports, saves, has_area, has_steps, sets_global, binds, enters, answers, shows, detaches, has_mailbox, begins_strand, line_says}
use Rattle.script_model.specs.ScriptText.{AreaText, Group, Numbered, area_of, fault_of, grouped, grouped_with, has_bad_list, in_program, is_doubled, is_early, lines_by, mailbox_of, is_one_too_many, is_program, is_repeated, is_strand_too_many, mixed_line, onto, program_of, programs_of, script_of, script_text, statements, told_by, detach_of, unless_fault, unless_mixed, with_line, with_program, with_programs}
use Rattle.script_setup.specs.Scripts.{IsScript}

-- ---- lines of programs

-- how many of the statements begin a program
abbrev programs_told : List Numbered → ℕ
programs_told [] = 0
programs_told (s ∷ ss) = (if is_program s.says then 1 else 0) + programs_told ss

abbrev begun : List Statement → ℕ
begun earlier = length (filter is_program earlier)

abbrev Few : (earlier : List Statement) → List Numbered → Type 0
Few earlier ss = begun earlier + programs_told ss ≤ 16

begun_more : (s : Statement) (earlier : List Statement) → begun (s ∷ earlier) ≡ (if is_program s then 1 else 0) + begun earlier
begun_more s earlier = by (is_program s) where
  by : (b : Bool) → length (if b then s ∷ filter is_program earlier else filter is_program earlier) ≡ (if b then 1 else 0) + begun earlier
  by true = omega arith
  by false = omega arith

-- a line that begins a program has room for it
room_for : (line : ℕ) (earlier : List Statement) (s : Statement) → fault_of line earlier s ≡ None → begun earlier ≤ 16 → begun (s ∷ earlier) ≤ 16
room_for line earlier s e le = by (is_program s) (nat_eq (begun earlier) 16) refl (more (is_early s earlier) (is_one_too_many s earlier) e) (begun_more s earlier) where
  more : (early many : Bool) → (if early then Some (breaks line 5) else (if many then Some (too_many 17)
      else (if is_strand_too_many s (in_program earlier) then Some (breaks line 3)
      else (if is_repeated s (in_program earlier) then Some (breaks line 6)
      else (if has_bad_list s then Some (breaks line 8)
      else (if is_doubled s earlier then Some (breaks line 17) else None)))))) ≡ None → many ≡ false
  more true many h = cc
  more false true h = cc
  more false false h = refl

  by : (b full : Bool) → nat_eq (begun earlier) 16 ≡ full → (b && full) ≡ false → begun (s ∷ earlier) ≡ (if b then 1 else 0) + begun earlier → begun (s ∷ earlier) ≤ 16
  by false full is h n = omega (arith, n, le)
  by true true is h n = cc
  by true false is h n =
      let differs = eqb-false (begun earlier) 16 is in
      omega (arith, n, le, differs)

onto_ok : (s : Numbered) (r : Result (List Numbered) ScriptFault) (ss : List Numbered) (P : List Numbered → Type 0) → onto s r ≡ Ok ss → ((more : List Numbered) → r ≡ Ok more → P (s ∷ more)) → P ss
onto_ok s (Ok more) ss P e f =
    let same : s ∷ more ≡ ss = cc in
    subst P same (f more refl)
onto_ok s (Err x) ss P e f = cc

abbrev Later : ℕ → List (List ℕ) → Type 0
Later line ls = (told : List Statement) (more : List Numbered) → begun told ≤ 16 → statements (suc line) told ls ≡ Ok more → Few told more

few_told : (ls : List (List ℕ)) (line : ℕ) (earlier : List Statement) (ss : List Numbered) → begun earlier ≤ 16 → statements line earlier ls ≡ Ok ss → Few earlier ss
few_told [] line earlier ss le e =
    let same : [] ≡ ss = cc in
    subst (Few earlier) same (omega (arith, le))
few_told (l ∷ ls) line earlier ss le e = by (line_says l) e (λ told more few is. few_told ls (suc line) told more few is) where
  with_statement : (s : Statement) (fault : Option ScriptFault) → fault_of line earlier s ≡ fault
      → unless_fault fault (record { line = line; says = s }) (statements (suc line) (s ∷ earlier) ls) ≡ Ok ss → Later line ls → Few earlier ss
  with_statement s (Some f) is h later = cc
  with_statement s None is h later =
      onto_ok (record { line = line; says = s }) (statements (suc line) (s ∷ earlier) ls) ss (Few earlier) h
      (λ more told.
      let few = later (s ∷ earlier) more (room_for line earlier s is le) told in
      let n = begun_more s earlier in
      omega (arith, few, n))

  by : (says : Result (Option Statement) ℕ) → with_line line earlier says (λ told. statements (suc line) told ls) ≡ Ok ss → Later line ls → Few earlier ss
  by (Err rule) h later = cc
  by (Ok None) h later = later earlier ss le h
  by (Ok (Some s)) h later = with_statement s (fault_of line earlier s) refl h later

-- ---- groups

groups_told : (ss : List Numbered) → length (grouped ss).groups ≡ programs_told ss
groups_told [] = refl
groups_told (s ∷ ss) = by s.says (groups_told ss) where
  by : (x : Statement) → length (grouped ss).groups ≡ programs_told ss → length (grouped_with s.line x (grouped ss)).groups ≡ (if is_program x then 1 else 0) + programs_told ss
  by (begins_program path) e = omega (arith, e)
  by (lists_imports list) e = omega (arith, e)
  by ignores_imports e = omega (arith, e)
  by (saves live) e = omega (arith, e)
  by (has_area at len) e = omega (arith, e)
  by (has_steps n) e = omega (arith, e)
  by (sets_global name value) e = omega (arith, e)
  by (binds import device) e = omega (arith, e)
  by (enters name args) e = omega (arith, e)
  by (answers line) e = omega (arith, e)
  by (shows at len) e = omega (arith, e)
  by (detaches device before) e = omega (arith, e)
  by (has_mailbox name) e = omega (arith, e)
  by (begins_strand at len) e = omega (arith, e)

as_many : (gs : List Group) (programs : List ProgramText) → programs_of gs ≡ Ok programs → length programs ≡ length gs
as_many [] programs e =
    let same : [] ≡ programs = cc in
    sym (ap (λ (ps : List ProgramText). length ps) same)
as_many (g ∷ gs) programs e = by (slice_get (lines_by area_of g.told) 0) (programs_of gs) refl e (as_many gs) where
  by : (a : Option AreaText) (r : Result (List ProgramText) ScriptFault) → programs_of gs ≡ r → with_program g a r ≡ Ok programs
      → ((more : List ProgramText) → programs_of gs ≡ Ok more → length more ≡ length gs) → length programs ≡ suc (length gs)
  by None r is h rest = cc
  by (Some a) (Err f) is h rest = cc
  by (Some a) (Ok more) is h rest =
      let same : program_of g a ∷ more ≡ programs = cc in
      let n = rest more is in
      sym (ap (λ (ps : List ProgramText). length ps) same) ∙ ap suc n

-- ---- scripts

unmixed : (line : Option ℕ) (x s : Script) → unless_mixed line x ≡ Ok s → x ≡ s
unmixed None x s e = cc
unmixed (Some line) x s e = cc

few_of : (r : Result (List Numbered) ScriptFault) (s : Script) → ((ss : List Numbered) → r ≡ Ok ss → Few [] ss) → script_of r ≡ Ok s → length s.programs ≤ 16
few_of (Err f) s few e = cc
few_of (Ok ss) s few e = by (programs_of (grouped ss).groups) refl e where
  by : (r : Result (List ProgramText) ScriptFault) → programs_of (grouped ss).groups ≡ r → with_programs (told_by detach_of ss) (lines_by mailbox_of ss) r ≡ Ok s → length s.programs ≤ 16
  by (Err f) is h = cc
  by (Ok programs) is h =
      let x : Script = record { programs = programs; detaches = told_by detach_of ss; mailboxes = lines_by mailbox_of ss } in
      let same : programs ≡ s.programs = ap (λ (y : Script). y.programs) (unmixed (mixed_line (lines_by mailbox_of ss) (strand_line x)) x s h) in
      let n = as_many (grouped ss).groups programs is in
      let g = groups_told ss in
      let le = few ss refl in
      let l = ap (λ (ps : List ProgramText). length ps) same in
      omega (arith, n, g, le, l)

few_in_text : (bytes : List ℕ) (s : Script) → script_text bytes ≡ Ok s → length s.programs ≤ 16
unfolding script_text
few_in_text bytes s e = few_of (statements 1 [] (lines bytes)) s (λ ss told. few_told (lines bytes) 1 [] ss (omega arith) told) e

pub few_programs : (bytes : List ℕ) (s : Script) → IsScript bytes s → length s.programs ≤ 16
few_programs bytes s is = few_in_text bytes s is.text
