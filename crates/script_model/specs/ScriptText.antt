-- Which script a text is, or why it is none.
use Rattle.std.specs.Prelude.{◌≡◌, ℕ, suc, nat_eq, not, ◌&&◌, ◌||◌, if◌then◌else◌, List, [], ◌∷◌, length, map, Option, Some, None, Bool, true, false, Result, Ok, Err, slice_get}
use Rattle.std.specs.Option.{unwrap_or}
use Rattle.std.specs.List.{filter, filter_map, list_any}
use Rattle.std.specs.Str.{bytes_eq}
use Rattle.std.specs.Str.Lines.{lines}
use Rattle.wa_types.specs.Pausing.{Entry, ListError, list_of}
use Rattle.wa_model.specs.declared.answers.Area.{Area}
use Rattle.wa_model.specs.Outside.{AnswerLine}
use Rattle.script_model.specs.Script.{GlobalText, BindText, EntryText, ShowText, StrandText, DetachText, MailboxText, ProgramText, Script, ScriptFault, breaks, strand_line, too_many}
use Rattle.script_model.specs.ScriptLines.{Statement, begins_program, lists_imports, ignores_imports, saves, has_area, has_steps, sets_global, binds, enters, answers, shows, detaches, has_mailbox, begins_strand, line_says}

-- a script has at most so many programs
abbrev pub most_programs : ℕ
most_programs = 16

-- a program has at most so many strands, its first among them
abbrev pub most_strands : ℕ
most_strands = 16

-- a program's number of steps where it tells none
abbrev pub default_steps : ℕ
default_steps = 100000000

-- ---- kinds of statements

-- a program begins
abbrev pub is_program : Statement → Bool
is_program (begins_program path) = true
is_program _ = false

-- a device is taken out
abbrev pub is_detach : Statement → Bool
is_detach (detaches device before) = true
is_detach _ = false

-- a mailbox is declared
abbrev pub is_mailbox : Statement → Bool
is_mailbox (has_mailbox name) = true
is_mailbox _ = false

-- a further strand begins
abbrev pub is_strand : Statement → Bool
is_strand (begins_strand at len) = true
is_strand _ = false

-- it is told which imports are listed
abbrev pub tells_imports : Statement → Bool
tells_imports (lists_imports list) = true
tells_imports ignores_imports = true
tells_imports _ = false

-- it is told which locals are saved
abbrev pub tells_policy : Statement → Bool
tells_policy (saves live) = true
tells_policy _ = false

-- the area is told
abbrev pub tells_area : Statement → Bool
tells_area (has_area at len) = true
tells_area _ = false

-- the number of steps is told
abbrev pub tells_steps : Statement → Bool
tells_steps (has_steps n) = true
tells_steps _ = false

-- ---- statements one after another

-- those of the program that is being told, among the statements before a line, the nearest first
abbrev pub in_program : List Statement → List Statement
in_program [] = []
in_program (s ∷ earlier) = if is_program s then [] else s ∷ in_program earlier

-- A program has one line at most of these kinds.
abbrev pub is_repeated : Statement → (told : List Statement) → Bool
is_repeated (has_area at len) told = list_any tells_area told
is_repeated (has_steps n) told = list_any tells_steps told
is_repeated (saves live) told = list_any tells_policy told
is_repeated (lists_imports list) told = list_any tells_imports told
is_repeated ignores_imports told = list_any tells_imports told
is_repeated _ told = false

-- a text is no list of imports
abbrev pub is_error : Result (List Entry) ListError → Bool
is_error (Ok entries) = false
is_error (Err e) = true

-- a statement has a list that is none
abbrev pub has_bad_list : Statement → Bool
has_bad_list (lists_imports list) = is_error (list_of list)
has_bad_list _ = false

-- Other lines than `program`, `detach` and `mailbox` stand behind the first program's line.
abbrev pub is_early : Statement → (earlier : List Statement) → Bool
is_early s earlier = not (is_program s || (is_detach s || is_mailbox s)) && not (list_any is_program earlier)

-- a program begins behind as many as there may be
abbrev pub is_one_too_many : Statement → (earlier : List Statement) → Bool
is_one_too_many s earlier = is_program s && nat_eq (length (filter is_program earlier)) most_programs

-- a strand begins behind as many as the program may have
abbrev pub is_strand_too_many : Statement → (told : List Statement) → Bool
is_strand_too_many s told = is_strand s && nat_eq (suc (length (filter is_strand told))) most_strands

-- it declares a mailbox of this name
abbrev pub declares : (name : List ℕ) → Statement → Bool
declares name (has_mailbox other) = bytes_eq other name
declares name _ = false

-- a mailbox is declared whose name was declared before
abbrev pub is_doubled : Statement → (earlier : List Statement) → Bool
is_doubled (has_mailbox name) earlier = list_any (declares name) earlier
is_doubled _ earlier = false

-- what a line breaks by what stands before it, the nearest first
abbrev pub fault_of : (line : ℕ) → (earlier : List Statement) → Statement → Option ScriptFault
fault_of line earlier s =
    if is_early s earlier then Some (breaks line 5)
    else (if is_one_too_many s earlier then Some (too_many (suc most_programs))
    else (if is_strand_too_many s (in_program earlier) then Some (breaks line 3)
    else (if is_repeated s (in_program earlier) then Some (breaks line 6)
    else (if has_bad_list s then Some (breaks line 8)
    else (if is_doubled s earlier then Some (breaks line 17) else None)))))

-- a statement and the number of its line, counted from 1
pub record Numbered : Type 0 where
  pub line : ℕ
  pub says : Statement

-- a statement in front of others, where these have no fault
abbrev pub onto : Numbered → Result (List Numbered) ScriptFault → Result (List Numbered) ScriptFault
onto s (Ok more) = Ok (s ∷ more)
onto s (Err f) = Err f

-- the fault of a statement, else the statement in front of others
abbrev pub unless_fault : Option ScriptFault → Numbered → Result (List Numbered) ScriptFault → Result (List Numbered) ScriptFault
unless_fault (Some f) s rest = Err f
unless_fault None s rest = onto s rest

-- what a line says, behind the earlier statements, in front of what `rest` makes of the lines behind it
abbrev pub with_line : (line : ℕ) → (earlier : List Statement) → Result (Option Statement) ℕ → (List Statement → Result (List Numbered) ScriptFault) → Result (List Numbered) ScriptFault
with_line line earlier (Err rule) rest = Err (breaks line rule)
with_line line earlier (Ok None) rest = rest earlier
with_line line earlier (Ok (Some s)) rest = unless_fault (fault_of line earlier s) (record { line = line; says = s }) (rest (s ∷ earlier))

-- The statements of lines, the first of which has this number, behind earlier ones; or what the first bad line breaks.
abbrev pub statements : (line : ℕ) → (earlier : List Statement) → List (List ℕ) → Result (List Numbered) ScriptFault
statements line earlier [] = Ok []
statements line earlier (l ∷ ls) = with_line line earlier (line_says l) (λ told. statements (suc line) told ls)

-- ---- programs

-- A program's line, and the statements behind it up to the next program's.
pub record Group : Type 0 where
  pub line : ℕ
  pub path : List ℕ
  pub told : List Numbered

-- statements in groups, and those in front of the first group
pub record Grouped : Type 0 where
  pub first : List Numbered
  pub groups : List Group

-- a statement in front of groups; a program's line makes a group of the statements in front of the first one
abbrev pub grouped_with : (line : ℕ) → Statement → Grouped → Grouped
grouped_with line (begins_program path) g = record { first = []; groups = record { line = line; path = path; told = g.first } ∷ g.groups }
grouped_with line s g = record { first = record { line = line; says = s } ∷ g.first; groups = g.groups }

-- the groups of statements, one a program
abbrev pub grouped : List Numbered → Grouped
grouped [] = record { first = []; groups = [] }
grouped (s ∷ ss) = grouped_with s.line s.says (grouped ss)

-- A further strand's line, and the statements behind it up to the next one's.
pub record StrandGroup : Type 0 where
  pub line : ℕ
  pub area : Area
  pub told : List Numbered

-- a program's statements by its strands, and those in front of its first `strand` line
pub record Stranded : Type 0 where
  pub first : List Numbered
  pub strands : List StrandGroup

-- a statement in front of strands; a strand's line makes one of the statements in front of the first
abbrev pub stranded_with : (line : ℕ) → Statement → Stranded → Stranded
stranded_with line (begins_strand at len) g =
    record { first = []; strands = record { line = line; area = record { at = at; len = len }; told = g.first } ∷ g.strands }
stranded_with line s g = record { first = record { line = line; says = s } ∷ g.first; strands = g.strands }

-- the statements of a program, by its strands
abbrev pub stranded : List Numbered → Stranded
stranded [] = record { first = []; strands = [] }
stranded (s ∷ ss) = stranded_with s.line s.says (stranded ss)

-- the list of imports that a statement tells
abbrev pub list_of_statement : Statement → Option (List ℕ)
list_of_statement (lists_imports list) = Some list
list_of_statement _ = None

-- no import is listed
abbrev pub is_ignore : Statement → Bool
is_ignore ignores_imports = true
is_ignore _ = false

-- whether live locals alone are saved, where it is told
abbrev pub live_of_statement : Statement → Option Bool
live_of_statement (saves live) = Some live
live_of_statement _ = None

-- An area, and the line that tells it.
pub record AreaText : Type 0 where
  pub line : ℕ
  pub area : Area

-- the area that a statement tells
abbrev pub area_of : (line : ℕ) → Statement → Option AreaText
area_of line (has_area at len) = Some (record { line = line; area = record { at = at; len = len } })
area_of line _ = None

-- the number of steps that a statement tells
abbrev pub steps_of : Statement → Option ℕ
steps_of (has_steps n) = Some n
steps_of _ = None

-- the value of imported globals that a statement tells
abbrev pub global_of : (line : ℕ) → Statement → Option GlobalText
global_of line (sets_global name value) = Some (record { line = line; name = name; value = value })
global_of line _ = None

-- the device of an import that a statement tells
abbrev pub bind_of : (line : ℕ) → Statement → Option BindText
bind_of line (binds import device) = Some (record { line = line; import = import; device = device })
bind_of line _ = None

-- the entry that a statement tells
abbrev pub entry_of : (line : ℕ) → Statement → Option EntryText
entry_of line (enters name args) = Some (record { line = line; name = name; args = args })
entry_of line _ = None

-- the answer that a statement tells
abbrev pub answer_of : Statement → Option AnswerLine
answer_of (answers line) = Some line
answer_of _ = None

-- the memory to show that a statement tells
abbrev pub show_of : (line : ℕ) → Statement → Option ShowText
show_of line (shows at len) = Some (record { line = line; at = at; len = len })
show_of line _ = None

-- the device that a statement takes out
abbrev pub detach_of : Statement → Option DetachText
detach_of (detaches device before) = Some (record { device = device; before = before })
detach_of _ = None

-- the mailbox that a statement declares
abbrev pub mailbox_of : (line : ℕ) → Statement → Option MailboxText
mailbox_of line (has_mailbox name) = Some (record { line = line; name = name })
mailbox_of line _ = None

-- what some of the statements tell, in order
abbrev pub told_by : {A : Type 0} → (Statement → Option A) → List Numbered → List A
told_by tells ss = filter_map (λ (s : Numbered). tells s.says) ss

-- what some of the statements tell with their lines, in order
abbrev pub lines_by : {A : Type 0} → (ℕ → Statement → Option A) → List Numbered → List A
lines_by tells ss = filter_map (λ (s : Numbered). tells s.line s.says) ss

-- a further strand, whose entries and answers are those behind its line
abbrev pub strand_of : StrandGroup → StrandText
strand_of g = record { line = g.line; area = g.area; entries = lines_by entry_of g.told; answers = told_by answer_of g.told }

-- the program of a group, whose area is this; its entries and answers are those in front of its first `strand` line
abbrev pub program_of : Group → AreaText → ProgramText
program_of g a = record {
  line = g.line;
  path = g.path;
  list = slice_get (told_by list_of_statement g.told) 0;
  ignore_imports = list_any (λ (s : Numbered). is_ignore s.says) g.told;
  policy_live = unwrap_or (slice_get (told_by live_of_statement g.told) 0) false;
  area = a.area;
  area_line = a.line;
  steps = unwrap_or (slice_get (told_by steps_of g.told) 0) default_steps;
  globals = lines_by global_of g.told;
  binds = lines_by bind_of g.told;
  entries = lines_by entry_of (stranded g.told).first;
  answers = told_by answer_of (stranded g.told).first;
  shows = lines_by show_of g.told;
  strands = map strand_of (stranded g.told).strands;
}

-- a group's program in front of others, where its area is told
abbrev pub with_program : Group → Option AreaText → Result (List ProgramText) ScriptFault → Result (List ProgramText) ScriptFault
with_program g None rest = Err (breaks g.line 7)
with_program g (Some a) (Ok programs) = Ok (program_of g a ∷ programs)
with_program g (Some a) (Err f) = Err f

-- the programs of groups, or the first that has no area
abbrev pub programs_of : List Group → Result (List ProgramText) ScriptFault
programs_of [] = Ok []
programs_of (g ∷ gs) = with_program g (slice_get (lines_by area_of g.told) 0) (programs_of gs)

-- the line of this script that begins a strand, the first, where it declares a mailbox besides
abbrev pub mixed_line : (mailboxes : List MailboxText) → (strand : Option ℕ) → Option ℕ
mixed_line [] strand = None
mixed_line (m ∷ ms) strand = strand

-- a script, unless this line of it begins a strand beside a mailbox
abbrev pub unless_mixed : Option ℕ → Script → Result Script ScriptFault
unless_mixed None s = Ok s
unless_mixed (Some line) s = Err (breaks line 20)

-- a script of these programs, where they have no fault
abbrev pub with_programs : List DetachText → List MailboxText → Result (List ProgramText) ScriptFault → Result Script ScriptFault
with_programs ds boxes (Ok programs) =
    let s : Script = record { programs = programs; detaches = ds; mailboxes = boxes } in unless_mixed (mixed_line boxes (strand_line s)) s
with_programs ds boxes (Err f) = Err f

-- the script of statements, where they have no fault
abbrev pub script_of : Result (List Numbered) ScriptFault → Result Script ScriptFault
script_of (Ok ss) = with_programs (told_by detach_of ss) (lines_by mailbox_of ss) (programs_of (grouped ss).groups)
script_of (Err f) = Err f

-- The script that a text is, or its fault. Lines end in LF, and a CR before it is dropped.
unfoldable pub script_text : List ℕ → Result Script ScriptFault
script_text bytes = script_of (statements 1 [] (lines bytes))

-- the bytes are the text of this script
abbrev pub ScriptText : List ℕ → Script → Type 0
ScriptText bytes s = script_text bytes ≡ Ok s
