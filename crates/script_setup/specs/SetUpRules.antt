-- The set-up rules of scripts: what is asked of a program's lines once its module is there, and what the program is then given.
use Rattle.std.specs.Prelude.{ℕ, ◌+◌, nat_le, nat_lt, not, ◌&&◌, ◌||◌, if◌then◌else◌, List, [], ◌∷◌, ◌++◌, map, Option, Some, None, Bool, false, Result, Ok, Err, position, slice_get}
use Rattle.std.specs.List.{filter_map, list_any}
use Rattle.std.specs.Option.{option_map, option_or, unwrap_or}
use Rattle.std.specs.Str.{bytes_eq}
use Rattle.wa_types.specs.declared.values.ValType.{ValType}
use Rattle.wa_types.specs.declared.values.ValType.TheVariants.{I32, I64}
use Rattle.wa_types.specs.declared.values.Value.{Value}
use Rattle.wa_types.specs.declared.syntax.Import.{Import}
use Rattle.wa_types.specs.Syntax.{FuncType, Module}
use Rattle.wa_types.specs.Encoding.{same_type}
use Rattle.wa_types.specs.Modules.{imported_func, imported_global, type_at}
use Rattle.wa_types.specs.Pausing.{joined_name}
use Rattle.wa_types.specs.Typing.{GlobalType, type_of}
use Rattle.wa_model.specs.declared.answers.Area.{Area}
use Rattle.script_model.specs.Script.{BindText, GlobalText, EntryText, ShowText, StrandText, MailboxText, ProgramText, ScriptFault, breaks}
use Rattle.script_model.specs.ScriptText.{AreaText}
use Rattle.wa_model.specs.Blocking.{overlap}
use Rattle.wa_model.specs.Step.{same_func_type, zero_of}
use Rattle.script_model.specs.Transcript.{Names}
use Rattle.world_model.specs.World.{import_names}
use Rattle.host_setup.specs.SetUp.{NamedEntry, Fault, area_bad, no_export, entry_missing, entry_is_import, arg_types, is_area_in, least_pages, set_up}

-- ---- rules 9 to 13: area, exports, entries

-- an entry that a line tells
abbrev pub named_entry : EntryText → NamedEntry
named_entry e = record { name = e.name; args = e.args }

-- the area of a program's first strand
abbrev pub own_area : ProgramText → AreaText
own_area t = record { line = t.area_line; area = t.area }

-- that of a further strand
abbrev pub strand_area : StrandText → AreaText
strand_area s = record { line = s.line; area = s.area }

-- of two areas one that is bad, that of the earlier line where both are; else the second
abbrev pub worse : (pages : ℕ) → AreaText → AreaText → AreaText
worse pages a b = if is_area_in pages a.area then b else (if is_area_in pages b.area || nat_le a.line b.line then a else b)

-- of this area and those of further strands the first bad one, by their lines; else the last of all
abbrev pub asked_from : (pages : ℕ) → AreaText → List StrandText → AreaText
asked_from pages a [] = a
asked_from pages a (s ∷ ss) = asked_from pages (worse pages a (strand_area s)) ss

-- a bad area of a program, the first, where it has one
abbrev pub asked_area : Module → ProgramText → AreaText
asked_area p t = asked_from (least_pages p) (own_area t) t.strands

-- these entries, and behind them those of further strands, in order
abbrev pub entries_then : List EntryText → List StrandText → List EntryText
entries_then es [] = es
entries_then es (s ∷ ss) = es ++ entries_then s.entries ss

-- the entries of all strands of a program
abbrev pub entries_in : ProgramText → List EntryText
entries_in t = entries_then t.entries t.strands

-- the line of the entry of this number
abbrev pub entry_line : ProgramText → ℕ → ℕ
entry_line t i = unwrap_or (option_map (λ (e : EntryText). e.line) (slice_get (entries_in t) i)) 0

-- the line at which a fault of the module's set-up is told, and the rule: 9 for the area that is asked, at its line, 10 for an export at
-- the program's line, 11 to 13 for an entry at its line
abbrev pub told_fault : AreaText → ProgramText → Fault → ScriptFault
told_fault asked t area_bad = breaks asked.line 9
told_fault asked t (no_export name) = breaks t.line 10
told_fault asked t (entry_missing i) = breaks (entry_line t i) 11
told_fault asked t (entry_is_import i) = breaks (entry_line t i) 12
told_fault asked t (arg_types i) = breaks (entry_line t i) 13

-- ---- rule 14: globals

-- a global that is told has this type
abbrev pub has_type : ValType → Option GlobalType → Bool
has_type ty None = false
has_type ty (Some g) = same_type g.ty ty

-- it imports a global of this joined name and type
abbrev pub is_global : (name : List ℕ) → ValType → Import → Bool
is_global name ty i = bytes_eq (joined_name i) name && has_type ty (imported_global i.kind)

-- one of these imports does
abbrev pub imports_global : List Import → (name : List ℕ) → ValType → Bool
imports_global imports name ty = list_any (is_global name ty) imports

-- the other one of the two types
abbrev pub other_type : ValType → ValType
other_type I32 = I64
other_type I64 = I32

-- The line's name is that of an imported global, and all imported globals of that name have its value's type.
abbrev pub is_set : List Import → GlobalText → Bool
is_set imports g = imports_global imports g.name (type_of g.value) && not (imports_global imports g.name (other_type (type_of g.value)))

-- the first line that sets no global, whether a later one wins or not
abbrev pub bad_global : List Import → List GlobalText → Option ℕ
bad_global imports globals = position (λ (g : GlobalText). not (is_set imports g)) globals

-- the line of the global at this place
abbrev pub global_line : ProgramText → ℕ → ℕ
global_line t i = unwrap_or (option_map (λ (g : GlobalText). g.line) (slice_get t.globals i)) 0

-- ---- rule 15: memory that is shown, which `run` asks to lie off all areas

-- a range of memory that is shown has a byte of the area
abbrev pub overlaps : Area → ShowText → Bool
overlaps area s = nat_lt s.at (area.at + area.len) && nat_lt area.at (s.at + s.len)

-- .. or one of an area of these further strands
abbrev pub overlaps_one : Area → List StrandText → ShowText → Bool
overlaps_one area [] s = overlaps area s
overlaps_one area (x ∷ xs) s = overlaps area s || overlaps_one x.area xs s

-- the first such range, where that is asked
abbrev pub bad_show : (runs : Bool) → Area → List StrandText → List ShowText → Option ℕ
bad_show runs area strands shows = if runs then position (overlaps_one area strands) shows else None

-- the line of the range at this place
abbrev pub show_line : ProgramText → ℕ → ℕ
show_line t i = unwrap_or (option_map (λ (s : ShowText). s.line) (slice_get t.shows i)) 0

-- ---- rule 16: mailboxes, to which an import is bound that sends or receives

-- the names of mailboxes
abbrev pub box_names : List MailboxText → List (List ℕ)
box_names boxes = map (λ (m : MailboxText). m.name) boxes

-- a function of this type sends or receives
abbrev pub is_mail_type : FuncType → Bool
is_mail_type t = same_func_type t (record { params = I32 ∷ []; results = [] }) || same_func_type t (record { params = []; results = I32 ∷ [] })

-- a function, the index of whose type is told, does neither
abbrev pub is_unfit : Module → Option ℕ → Bool
is_unfit p None = false
is_unfit p (Some sort) = not (is_mail_type (type_at p sort))

-- it imports a function of this joined name that does neither
abbrev pub is_unfit_import : Module → (name : List ℕ) → Import → Bool
is_unfit_import p name i = bytes_eq (joined_name i) name && is_unfit p (imported_func i.kind)

-- one of these lines binds the imports of this name
abbrev pub is_bound : (name : List ℕ) → List BindText → Bool
is_bound name binds = list_any (λ (b : BindText). bytes_eq name b.import) binds

-- the line of the first that is bad, of those behind which no line binds the same imports
abbrev pub winning_line : (is_bad : BindText → Bool) → List BindText → Option ℕ
winning_line is_bad [] = None
winning_line is_bad (b ∷ bs) = if not (is_bound b.import bs) && is_bad b then Some b.line else winning_line is_bad bs

-- it names one of these mailboxes, and an import of its name neither sends nor receives
abbrev pub is_misbound : (boxes : List (List ℕ)) → Module → BindText → Bool
is_misbound boxes p b = list_any (bytes_eq b.device) boxes && list_any (is_unfit_import p b.import) p.imports

-- the line of the first that does, of those that win
abbrev pub misbound_line : (boxes : List (List ℕ)) → Module → List BindText → Option ℕ
misbound_line boxes p binds = winning_line (is_misbound boxes p) binds

-- ---- rule 19: areas of strands, which don't overlap

-- an area shares a byte with one of these
abbrev pub shares_byte : List Area → Area → Bool
shares_byte earlier a = list_any (λ (b : Area). overlap b.at b.len a.at a.len) earlier

-- the line of the first of these strands whose area shares a byte with that of an earlier one, or with one of these
abbrev pub overlap_line : (earlier : List Area) → List StrandText → Option ℕ
overlap_line earlier [] = None
overlap_line earlier (s ∷ ss) = if shares_byte earlier s.area then Some s.line else overlap_line (earlier ++ s.area ∷ []) ss

-- ---- what a program is given

-- the value that the last line of a name gives
abbrev pub last_value : (name : List ℕ) → List GlobalText → Option Value
last_value name [] = None
last_value name (g ∷ gs) = option_or (last_value name gs) (if bytes_eq g.name name then Some g.value else None)

-- the value of an imported global, where the import is one: what is told, else 0
abbrev pub value_or_zero : Option GlobalType → Option Value → Option Value
value_or_zero None told = None
value_or_zero (Some g) told = Some (unwrap_or told (zero_of g.ty))

-- one value for each imported global: that of the last line of its name, else 0
abbrev pub global_values : List Import → List GlobalText → List Value
global_values imports globals = filter_map (λ (i : Import). value_or_zero (imported_global i.kind) (last_value (joined_name i) globals)) imports

-- The functions of the entries of all strands, in order, and the values of the program's imported globals.
pub record SetUp : Type 0 where
  pub funcs : List ℕ
  pub globals : List Value

-- a rule broken at the line of this place, where one is told
abbrev pub told_at : (rule : ℕ) → (line : ℕ → ℕ) → Option ℕ → Option ScriptFault
told_at rule line None = None
told_at rule line (Some i) = Some (breaks (line i) rule)

-- a rule broken at this line, where one is told
abbrev pub told_line : (rule : ℕ) → Option ℕ → Option ScriptFault
told_line rule line = option_map (λ (n : ℕ). breaks n rule) line

-- the fault of a line of globals, of shown memory, of a mailbox or of a strand
abbrev pub lines_fault : (runs : Bool) → (boxes : List (List ℕ)) → Module → ProgramText → Option ScriptFault
lines_fault runs boxes p t =
    option_or (told_at 14 (global_line t) (bad_global p.imports t.globals))
    (option_or (told_at 15 (show_line t) (bad_show runs t.area t.strands t.shows))
    (option_or (told_line 16 (misbound_line boxes p t.binds)) (told_line 19 (overlap_line (t.area ∷ []) t.strands))))

-- a fault, where there is one, else what was made
abbrev pub unless_told : {A : Type 0} → Option ScriptFault → A → Result A ScriptFault
unless_told None x = Ok x
unless_told (Some f) x = Err f

-- the functions of the entries, or the fault as it is told
abbrev pub told_funcs : AreaText → ProgramText → Result (List ℕ) Fault → Result (List ℕ) ScriptFault
told_funcs asked t (Err f) = Err (told_fault asked t f)
told_funcs asked t (Ok funcs) = Ok funcs

-- what a program is given, where neither its entries nor its lines have a fault
abbrev pub with_lines : (runs : Bool) → (boxes : List (List ℕ)) → Module → ProgramText → Result (List ℕ) ScriptFault → Result SetUp ScriptFault
with_lines runs boxes p t (Err f) = Err f
with_lines runs boxes p t (Ok funcs) = unless_told (lines_fault runs boxes p t) (record { funcs = funcs; globals = global_values p.imports t.globals })

-- A program over a module, set up beside mailboxes of these names; or the line and rule of the first fault: rule by rule, each over all
-- lines of the program.
abbrev pub set_up_rules : (runs : Bool) → (boxes : List (List ℕ)) → Module → ProgramText → Result SetUp ScriptFault
set_up_rules runs boxes p t = with_lines runs boxes p t (told_funcs (asked_area p t) t (set_up p (asked_area p t).area (map named_entry (entries_in t))))

-- ---- names

-- what is named in the lines of the program's first strand
abbrev pub program_names : Module → ProgramText → Names
program_names p t = record { imports = import_names p; entries = map (λ (e : EntryText). e.name) t.entries; len = t.area.len }

-- what is named in those of a further strand
abbrev pub strand_names : Module → StrandText → Names
strand_names p s = record { imports = import_names p; entries = map (λ (e : EntryText). e.name) s.entries; len = s.area.len }
