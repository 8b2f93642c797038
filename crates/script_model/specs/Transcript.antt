-- What is printed: the line of each event, and the line of each refusal.
use Rattle.std.specs.Prelude.{ℕ, ◌+◌, ◌/◌, ◌%◌, ◌==◌, nat_lt, nat_le, not, ◌&&◌, if◌then◌else◌, List, [], ◌∷◌, ◌++◌, Option, Some, None, Bool, codes, slice_get}
use Rattle.std.specs.Option.{unwrap_or}
use Rattle.std.specs.Fmt.{decimal}
use Rattle.wa_types.specs.declared.bounds.LimitKind.{LimitKind}
use Rattle.wa_types.specs.declared.bounds.LimitKind.TheVariants.{File, Functions, Parameters, Body, Locals, Output, Script, Programs}
use Rattle.wa_types.specs.declared.values.Value.{Value}
use Rattle.wa_types.specs.declared.values.Value.TheVariants as V
use Rattle.wa_types.specs.declared.values.Trap.{Trap}
use Rattle.wa_types.specs.declared.values.Trap.TheVariants.{DivideByZero, IntegerOverflow, OutOfBounds, Unreachable, UndefinedElement, UninitializedElement, TypeMismatch, StackExhausted, Import}
use Rattle.wa_model.specs.declared.answers.Said.{Said}
use Rattle.wa_model.specs.declared.answers.Said.TheVariants as S
use Rattle.wa_model.specs.declared.events.End.{End}
use Rattle.wa_model.specs.declared.events.End.TheVariants.{Done, Trapped, UnwindTrap, RewindTrap, ElementsOut, BytesOut, HostLimit, NoAnswer, OtherImport, BadAnswer, BadPoke, UnlistedPause}
use Rattle.wa_model.specs.declared.events.End.TheVariants.{PauseInStart, DeviceFault, NoDevice, Stalled, StepsSpent, Broken}
use Rattle.wa_model.specs.Outside.{Event, called, answered, paused, parked, returned, ended, shown, Line}

-- ---- names, bytes and values

-- a hexadecimal digit in lower case
abbrev pub hex_digit : ℕ → ℕ
hex_digit n = if nat_lt n 10 then 48 + n else 87 + n

-- a byte as two of them
abbrev pub hex_pair : ℕ → List ℕ
hex_pair b = hex_digit (b / 16) ∷ hex_digit (b % 16) ∷ []

-- a byte that is printed as it is: from `!` to `~`, but for `%`
abbrev pub is_plain_byte : ℕ → Bool
is_plain_byte b = nat_le 0x21 b && nat_le b 0x7E && not (b == 37)

-- a byte of a name: as it is, or `%` and two hexadecimal digits
abbrev pub name_byte : ℕ → List ℕ
name_byte b = if is_plain_byte b then b ∷ [] else 37 ∷ hex_pair b

-- a name as it is printed
abbrev pub printed_name : List ℕ → List ℕ
printed_name [] = []
printed_name (b ∷ rest) = name_byte b ++ printed_name rest

-- bytes, two digits each
abbrev pub printed_bytes : List ℕ → List ℕ
printed_bytes [] = []
printed_bytes (b ∷ bytes) = hex_pair b ++ printed_bytes bytes

-- a value as it is printed
abbrev pub printed_value : Value → List ℕ
printed_value (V.I32 n) = codes "i32:" ++ decimal n
printed_value (V.I64 n) = codes "i64:" ++ decimal n

-- a space and a value, of each
abbrev pub behind_spaces : List Value → List ℕ
behind_spaces [] = []
behind_spaces (v ∷ vs) = codes " " ++ printed_value v ++ behind_spaces vs

-- a value, or `none`
abbrev pub value_or_none : Option Value → List ℕ
value_or_none None = codes "none"
value_or_none (Some v) = printed_value v

-- the name of this number
abbrev pub name_at : List (List ℕ) → ℕ → List ℕ
name_at names i = printed_name (unwrap_or (slice_get names i) [])

-- ---- events

-- What is named in a program's lines: its function imports, joined, its entries, and the length of its area.
pub record Names : Type 0 where
  pub imports : List (List ℕ)
  pub entries : List (List ℕ)
  pub len : ℕ

-- a trap
abbrev pub trap_text : Trap → List ℕ
trap_text DivideByZero = codes "integer divide by zero"
trap_text IntegerOverflow = codes "integer overflow"
trap_text OutOfBounds = codes "out of bounds memory access"
trap_text Unreachable = codes "unreachable"
trap_text UndefinedElement = codes "undefined element"
trap_text UninitializedElement = codes "uninitialized element"
trap_text TypeMismatch = codes "indirect call type mismatch"
trap_text StackExhausted = codes "call stack exhausted"
trap_text Import = codes "import trap"

-- how much of an area is used
abbrev pub area_text : (used len : ℕ) → List ℕ
area_text used len = codes "area " ++ decimal used ++ codes " of " ++ decimal len

-- what the host has less of
abbrev pub host_limit_word : Bool → List ℕ
host_limit_word entries = if entries then codes "entries" else codes "pages"

-- how a program ended
abbrev pub end_text : Names → End → List ℕ
end_text names Done = codes "done"
end_text names (Trapped trap) = codes "trap " ++ trap_text trap
end_text names (UnwindTrap trap used len) = codes "trap " ++ trap_text trap ++ codes " while unwinding " ++ area_text used len
end_text names (RewindTrap trap) = codes "trap " ++ trap_text trap ++ codes " while rewinding"
end_text names (ElementsOut n) = codes "elements out of bounds " ++ decimal n
end_text names (BytesOut n) = codes "data out of bounds " ++ decimal n
end_text names (HostLimit entries found) = codes "host limit " ++ host_limit_word entries ++ codes " " ++ decimal found
end_text names (NoAnswer import) = codes "no answer for " ++ name_at names.imports import
end_text names (OtherImport import named) = codes "answer for " ++ printed_name named ++ codes " where " ++ name_at names.imports import ++ codes " is called"
end_text names (BadAnswer import value) = codes "bad answer " ++ value_or_none value ++ codes " for " ++ name_at names.imports import
end_text names (BadPoke at len) = codes "bad poke " ++ decimal at ++ codes " " ++ decimal len
end_text names (UnlistedPause import) = codes "unlisted pause " ++ name_at names.imports import
end_text names (PauseInStart import) = codes "pause in start " ++ name_at names.imports import
end_text names (DeviceFault import) = codes "device fault " ++ name_at names.imports import
end_text names (NoDevice import) = codes "no device " ++ name_at names.imports import
end_text names (Stalled import) = codes "stalled " ++ name_at names.imports import
end_text names (StepsSpent n) = codes "steps spent " ++ decimal n
end_text names (Broken rule) = codes "protocol broken " ++ decimal rule

-- bytes that are shown
abbrev pub shown_bytes : Option (List ℕ) → List ℕ
shown_bytes None = codes "absent"
shown_bytes (Some bytes) = printed_bytes bytes

-- the value that an entry returned, where it returned one
abbrev pub returned_value : Option Value → List ℕ
returned_value None = []
returned_value (Some v) = codes " " ++ printed_value v

-- a pause until this tick
abbrev pub pause_text : (due used len : ℕ) → List ℕ
pause_text due used len = codes "pause until " ++ decimal due ++ codes " " ++ area_text used len

-- what an import's call was told
abbrev pub said_text : Said → List ℕ
said_text (S.Value v) = value_or_none v
said_text S.Trap = codes "trap"

-- the text of an event that began at this tick
abbrev pub event_text : Names → (tick : ℕ) → Event → List ℕ
event_text names tick (called call) = codes "call " ++ name_at names.imports call.import ++ behind_spaces call.args
event_text names tick (answered said) = codes "answer " ++ said_text said
event_text names tick (paused ticks used) = pause_text (tick + ticks) used names.len
event_text names tick (parked used) = codes "park " ++ area_text used names.len
event_text names tick (returned entry value) = codes "return " ++ name_at names.entries entry ++ returned_value value
event_text names tick (ended how) = codes "end " ++ end_text names how
event_text names tick (shown at bytes) = codes "memory " ++ decimal at ++ codes " " ++ shown_bytes bytes

-- a line feed
abbrev pub line_end : List ℕ
line_end = 10 ∷ []

-- The line of an event: the tick, the program's number and the text.
unfoldable pub event_line : Names → Line → List ℕ
event_line names l = decimal l.tick ++ codes " " ++ decimal l.program ++ codes " " ++ event_text names l.tick l.event ++ line_end

-- the last line: how many programs and events there were
unfoldable pub last_line : (programs events : ℕ) → List ℕ
last_line programs events = codes "programs " ++ decimal programs ++ codes " events " ++ decimal events ++ line_end

-- no names
abbrev pub no_names : Names
no_names = record { imports = []; entries = []; len = 0 }

-- the names of the program of this number
abbrev pub names_at : List Names → ℕ → Names
names_at names i = unwrap_or (slice_get names i) no_names

-- the lines of events, one behind another
abbrev pub event_lines : List Names → List Line → List ℕ
event_lines names [] = []
event_lines names (l ∷ ls) = event_line (names_at names l.program) l ++ event_lines names ls

-- The transcript of the lines of so many programs, which made so many events.
abbrev pub Transcript : List Names → (programs events : ℕ) → List Line → List ℕ
Transcript names programs events ls = event_lines names ls ++ last_line programs events

-- ---- refusals

-- Why a command is refused.
pub data Refusal : Type 0 where
  usage out_of_memory : Refusal
  malformed float nesting : (at : ℕ) → Refusal
  invalid : (func : Option ℕ) → (rule at : ℕ) → Refusal
  limit : (what : LimitKind) → (found : ℕ) → Refusal
  reserved : (name : List ℕ) → Refusal
  script : (line rule : ℕ) → Refusal
  read_fault write_fault : (name : List ℕ) → Refusal
  snapshot_limit : (found : ℕ) → Refusal
  snapshot_refused : Refusal

-- the word of a limit
abbrev pub limit_word : LimitKind → List ℕ
limit_word File = codes "file"
limit_word Functions = codes "functions"
limit_word Parameters = codes "parameters"
limit_word Body = codes "body"
limit_word Locals = codes "locals"
limit_word Output = codes "output"
limit_word Script = codes "script"
limit_word Programs = codes "programs"

-- why a command is refused
abbrev pub refusal_text : Refusal → List ℕ
refusal_text usage = codes "usage"
refusal_text out_of_memory = codes "out of memory"
refusal_text (malformed at) = codes "malformed at " ++ decimal at
refusal_text (float at) = codes "float at " ++ decimal at
refusal_text (nesting at) = codes "limit nesting at " ++ decimal at
refusal_text (invalid None rule at) = codes "invalid rule " ++ decimal rule ++ codes " module"
refusal_text (invalid (Some func) rule at) = codes "invalid rule " ++ decimal rule ++ codes " function " ++ decimal func ++ codes " at " ++ decimal at
refusal_text (limit what found) = codes "limit " ++ limit_word what ++ codes " " ++ decimal found
refusal_text (reserved name) = codes "reserved " ++ printed_name name
refusal_text (script line rule) = codes "script line " ++ decimal line ++ codes " rule " ++ decimal rule
refusal_text (read_fault name) = codes "read fault " ++ printed_name name
refusal_text (write_fault name) = codes "write fault " ++ printed_name name
refusal_text (snapshot_limit found) = codes "limit snapshot " ++ decimal found
refusal_text snapshot_refused = codes "snapshot refused"

-- a refusal of the module of this program names it
abbrev pub program_text : Option ℕ → List ℕ
program_text None = []
program_text (Some p) = codes "program " ++ decimal p ++ codes ": "

-- The line of a refusal.
unfoldable pub refusal_line : (program : Option ℕ) → Refusal → List ℕ
refusal_line program r = program_text program ++ refusal_text r ++ line_end
