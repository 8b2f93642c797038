-- What is known of a script while its lines are read: the program that is being told, and those told before it.
use Rattle.std.specs.Prelude.{ℕ, suc, ◌+◌, nat_eq, nat_le, ◌||◌, if◌then◌else◌, List, [], ◌∷◌, ◌++◌, length, Option, Some, None, Bool, true, false, Result, Ok, Err}
use Rattle.std.specs.Option.{is_some, option_or, unwrap_or}
use Rattle.std.specs.List.{list_any}
use Rattle.std.specs.Str.{bytes_eq}
use Rattle.wa_model.specs.Outside.{AnswerLine}
use Rattle.script_model.specs.Script.{GlobalText, BindText, EntryText, ShowText, StrandText, DetachText, MailboxText, ProgramText, Script, ScriptFault, breaks, too_many}
use Rattle.script_model.specs.ScriptLines.{Statement, begins_program, lists_imports, ignores_imports, saves, has_area, has_steps, sets_global, binds, enters, answers, shows, detaches, has_mailbox, begins_strand}
use Rattle.script_model.specs.ScriptLines.{line_says}
use Rattle.script_model.specs.ScriptText.{AreaText, default_steps, most_programs, most_strands, has_bad_list, with_programs}

-- A program, as far as it is told.
pub record Draft : Type 0 where
  pub line : ℕ
  pub path : List ℕ
  pub list : Option (List ℕ)
  pub ignore_imports : Bool
  pub policy_live : Option Bool
  pub area : Option AreaText
  pub steps : Option ℕ
  pub globals : List GlobalText
  pub binds : List BindText
  pub entries : List EntryText
  pub answers : List AnswerLine
  pub shows : List ShowText
  pub strands : List StrandText

-- a program of which its line alone is told
abbrev pub begun : (line : ℕ) → (path : List ℕ) → Draft
begun line path = record {
  line = line;
  path = path;
  list = None;
  ignore_imports = false;
  policy_live = None;
  area = None;
  steps = None;
  globals = [];
  binds = [];
  entries = [];
  answers = [];
  shows = [];
  strands = [];
}

-- the lines of a program's first strand, with more of them unless there are further strands
abbrev pub to_first : {A : Type 0} → List StrandText → (first more : List A) → List A
to_first [] first more = first ++ more
to_first (s ∷ ss) first more = first

-- a list with another last item
abbrev pub on_last : {A : Type 0} → (A → A) → List A → List A
on_last f [] = []
on_last f (x ∷ []) = f x ∷ []
on_last f (x ∷ y ∷ xs) = x ∷ on_last f (y ∷ xs)

-- a strand with an entry more
abbrev pub entry_behind : EntryText → StrandText → StrandText
entry_behind e s = record s { entries = s.entries ++ e ∷ [] }

-- .. with an answer more
abbrev pub answer_behind : AnswerLine → StrandText → StrandText
answer_behind a s = record s { answers = s.answers ++ a ∷ [] }

-- an entry more of the strand that is being told
abbrev pub with_entry : EntryText → Draft → Draft
with_entry e d = record d { entries = to_first d.strands d.entries (e ∷ []); strands = on_last (entry_behind e) d.strands }

-- an answer more of it
abbrev pub with_answer : AnswerLine → Draft → Draft
with_answer a d = record d { answers = to_first d.strands d.answers (a ∷ []); strands = on_last (answer_behind a) d.strands }

-- a statement more of a program
abbrev pub more_told : (line : ℕ) → Statement → Draft → Draft
more_told line (lists_imports list) d = record d { list = option_or d.list (Some list) }
more_told line ignores_imports d = record d { ignore_imports = true }
more_told line (saves live) d = record d { policy_live = option_or d.policy_live (Some live) }
more_told line (has_area at len) d = record d { area = option_or d.area (Some (record { line = line; area = record { at = at; len = len } })) }
more_told line (has_steps n) d = record d { steps = option_or d.steps (Some n) }
more_told line (sets_global name value) d = record d { globals = d.globals ++ record { line = line; name = name; value = value } ∷ [] }
more_told line (binds import device) d = record d { binds = d.binds ++ record { line = line; import = import; device = device } ∷ [] }
more_told line (enters name args) d = with_entry (record { line = line; name = name; args = args }) d
more_told line (answers answer) d = with_answer answer d
more_told line (shows at len) d = record d { shows = d.shows ++ record { line = line; at = at; len = len } ∷ [] }
more_told line (begins_strand at len) d =
    record d { strands = d.strands ++ record { line = line; area = record { at = at; len = len }; entries = []; answers = [] } ∷ [] }
more_told line _ d = d

-- the program has a line of this kind, of which it may have one
abbrev pub repeats : Statement → Draft → Bool
repeats (lists_imports list) d = is_some d.list || d.ignore_imports
repeats ignores_imports d = is_some d.list || d.ignore_imports
repeats (saves live) d = is_some d.policy_live
repeats (has_area at len) d = is_some d.area
repeats (has_steps n) d = is_some d.steps
repeats _ d = false

-- a strand begins behind as many as the program may have
abbrev pub is_overfull : Statement → Draft → Bool
is_overfull (begins_strand at len) d = nat_eq (suc (length d.strands)) most_strands
is_overfull _ d = false

-- what a statement breaks in a program
abbrev pub fault_in : (line : ℕ) → Statement → Draft → Option ScriptFault
fault_in line s d =
    if is_overfull s d then Some (breaks line 3) else (if repeats s d then Some (breaks line 6) else (if has_bad_list s then Some (breaks line 8) else None))

-- a program that is told, where it has an area
abbrev pub told_with : Draft → AreaText → ProgramText
told_with d a = record {
  line = d.line;
  path = d.path;
  list = d.list;
  ignore_imports = d.ignore_imports;
  policy_live = unwrap_or d.policy_live false;
  area = a.area;
  area_line = a.line;
  steps = unwrap_or d.steps default_steps;
  globals = d.globals;
  binds = d.binds;
  entries = d.entries;
  answers = d.answers;
  shows = d.shows;
  strands = d.strands;
}

-- a program behind others, where it has an area, which rule 7 asks for
abbrev pub one_more : List ProgramText → Draft → Option AreaText → Result (List ProgramText) ScriptFault
one_more programs d None = Err (breaks d.line 7)
one_more programs d (Some a) = Ok (programs ++ told_with d a ∷ [])

-- a program behind those before it, none of which lacks its area
abbrev pub closed : Result (List ProgramText) ScriptFault → Draft → Result (List ProgramText) ScriptFault
closed (Ok programs) d = one_more programs d d.area
closed (Err f) d = Err f

-- the same of the last program, where one is being told
abbrev pub closed_last : Result (List ProgramText) ScriptFault → Option Draft → Result (List ProgramText) ScriptFault
closed_last programs None = programs
closed_last programs (Some d) = closed programs d

-- The programs before the one that is being told, how many were begun, that one, the devices that are taken out, and the mailboxes.
pub record Reading : Type 0 where
  pub programs : Result (List ProgramText) ScriptFault
  pub count : ℕ
  pub current : Option Draft
  pub detached : List DetachText
  pub mailboxes : List MailboxText

-- nothing yet
abbrev pub nothing_read : Reading
nothing_read = record { programs = Ok []; count = 0; current = None; detached = []; mailboxes = [] }

-- a fault, where there is one, else what was made
abbrev pub or_fault : {A : Type 0} → Option ScriptFault → A → Result A ScriptFault
or_fault (Some f) x = Err f
or_fault None x = Ok x

-- one more program begins
abbrev pub with_program : (line : ℕ) → (path : List ℕ) → Reading → Result Reading ScriptFault
with_program line path r =
    if nat_le most_programs r.count then Err (too_many (suc most_programs))
    else Ok (record { programs = closed_last r.programs r.current; count = r.count + 1; current = Some (begun line path); detached = r.detached; mailboxes = r.mailboxes })

-- one of these mailboxes has this name
abbrev pub is_declared : (name : List ℕ) → List MailboxText → Bool
is_declared name boxes = list_any (λ (m : MailboxText). bytes_eq m.name name) boxes

-- one more mailbox, whose name isn't declared before, which rule 17 asks for
abbrev pub on_mailboxes : (line : ℕ) → (name : List ℕ) → List MailboxText → Result (List MailboxText) ScriptFault
on_mailboxes line name boxes = or_fault (if is_declared name boxes then Some (breaks line 17) else None) (boxes ++ record { line = line; name = name } ∷ [])

-- the same with these mailboxes, where they have no fault
abbrev pub with_mailboxes : Reading → Result (List MailboxText) ScriptFault → Result Reading ScriptFault
with_mailboxes r (Ok boxes) = Ok (record r { mailboxes = boxes })
with_mailboxes r (Err f) = Err f

-- a statement on the program that is being told
abbrev pub on_program : (line : ℕ) → Statement → Option Draft → Result Draft ScriptFault
on_program line s None = Err (breaks line 5)
on_program line s (Some d) = or_fault (fault_in line s d) (more_told line s d)

-- the same with this program being told, where it has no fault
abbrev pub with_current : Reading → Result Draft ScriptFault → Result Reading ScriptFault
with_current r (Ok d) = Ok (record r { current = Some d })
with_current r (Err f) = Err f

-- a statement more
abbrev pub with_statement : (line : ℕ) → Statement → Reading → Result Reading ScriptFault
with_statement line (begins_program path) r = with_program line path r
with_statement line (detaches device before) r = Ok (record r { detached = r.detached ++ record { device = device; before = before } ∷ [] })
with_statement line (has_mailbox name) r = with_mailboxes r (on_mailboxes line name r.mailboxes)
with_statement line s r = with_current r (on_program line s r.current)

-- a line more, by what it says
abbrev pub with_line : (line : ℕ) → Result (Option Statement) ℕ → Reading → Result Reading ScriptFault
with_line line (Err rule) r = Err (breaks line rule)
with_line line (Ok None) r = Ok r
with_line line (Ok (Some s)) r = with_statement line s r

-- the script, once all lines are read
abbrev pub ended : Reading → Result Script ScriptFault
ended r = with_programs r.detached r.mailboxes (closed_last r.programs r.current)

-- the rest is read, where there was no fault
abbrev pub and_then : Result Reading ScriptFault → (Reading → Result Script ScriptFault) → Result Script ScriptFault
and_then (Ok r) rest = rest r
and_then (Err f) rest = Err f

-- what is read in the end, where these lines are left, the first of which has this number
abbrev pub read_on : (line : ℕ) → List (List ℕ) → Reading → Result Script ScriptFault
read_on line [] r = ended r
read_on line (l ∷ ls) r = and_then (with_line line (line_says l) r) (read_on (suc line) ls)
