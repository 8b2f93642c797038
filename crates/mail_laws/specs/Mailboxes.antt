-- Mailboxes of a world, what its programs share, and what a new call meets.
use Rattle.std.specs.Prelude.{◌≡◌, ℕ, ◌%◌, ◌<◌, ◌^◌, if◌then◌else◌, List, [], ◌∷◌, ◌++◌, Option, Some, None, Bool, slice_get}
use Rattle.std.specs.List.{find}
use Rattle.std.specs.Option.{unwrap_or}
use Rattle.wa_types.specs.declared.values.Value.{Value}
use Rattle.wa_types.specs.declared.values.Value.TheVariants as V
use Rattle.wa_types.specs.Syntax.{Module}
use Rattle.wa_types.specs.Validity.{same_name}
use Rattle.wa_model.specs.declared.answers.Said.TheVariants as S
use Rattle.wa_model.specs.declared.events.End.TheVariants.{NoDevice}
use Rattle.wa_model.specs.Outside.{AnswerLine, Call}
use Rattle.wa_model.specs.Plan.{Outcome, given, refused}
use Rattle.wa_model.specs.Blocking.{Note}
use Rattle.world_model.specs.World.{Device, MeetsDevice, MeetsLine, Program, base_names, call_in, import_names, name_at}

-- ---- mailboxes

-- A program that waits for a mailbox, and the value that it will be sent there.
pub record Waiting : Type 0 where
  pub program : ℕ
  pub value : ℕ

-- A mailbox: its name, the values that were sent and not received, and the programs that wait, both first come first.
pub record Mailbox : Type 0 where
  pub name : List ℕ
  pub values : List ℕ
  pub waits : List Waiting

-- A receive at an empty mailbox: the import, the mailbox's name, and the value that will be sent.
pub record Receive : Type 0 where
  pub import : ℕ
  pub box : List ℕ
  pub value : ℕ

-- What the programs of a world share between events: the devices, the mailboxes, and the tick of the last event.
pub record Shared : Type 0 where
  pub devices : List Device
  pub boxes : List Mailbox
  pub tick : ℕ

-- The same in the midst of an event, with the programs that it has sent a value, in order, and its turn's receive at an empty mailbox.
pub record Midst : Type 0 where
  pub devices : List Device
  pub boxes : List Mailbox
  pub settled : List ℕ
  pub receive : Option Receive

-- a mailbox has this name
abbrev pub is_box : List ℕ → Mailbox → Bool
is_box name b = same_name b.name name

-- with the first mailbox of a name changed
abbrev pub at_box : (Mailbox → Mailbox) → List ℕ → List Mailbox → List Mailbox
at_box change name [] = []
at_box change name (b ∷ bs) = if is_box name b then change b ∷ bs else b ∷ at_box change name bs

-- what a send leaves where these wait: the first of them waits no longer, or the value is queued
abbrev pub sent_past : ℕ → Mailbox → List Waiting → Mailbox
sent_past value b [] = record b { values = b.values ++ value ∷ [] }
sent_past value b (w ∷ ws) = record b { waits = ws }

-- what a send leaves of a mailbox
abbrev pub sent : ℕ → Mailbox → Mailbox
sent value b = sent_past value b b.waits

-- the program to which it goes, if one waits
abbrev pub receiver : List Waiting → List ℕ
receiver [] = []
receiver (w ∷ ws) = w.program ∷ []

-- a value as it is received, in the range of an i32 whatever was sent
abbrev pub in_range : ℕ → ℕ
in_range value = value % 2 ^ 32

-- this is the value that the first of them waited for
abbrev pub IsAwaited : ℕ → List Waiting → Type 0
IsAwaited value [] = Unit {0}
IsAwaited value (w ∷ ws) = w.value ≡ in_range value

-- with these values left
abbrev pub received : List ℕ → Mailbox → Mailbox
received rest b = record b { values = rest }

-- with a program behind those that wait
abbrev pub awaited : Waiting → Mailbox → Mailbox
awaited w b = record b { waits = b.waits ++ w ∷ [] }

-- an empty mailbox
abbrev pub empty_box : List ℕ → Mailbox
empty_box name = record { name = name; values = []; waits = [] }

-- ---- what a new call meets

-- the answer of a mailbox
abbrev pub mailed : Option Value → (ticks : ℕ) → Outcome
mailed value ticks = given (record { said = S.Value value; pokes = []; ticks = ticks })

-- a receive: the first value, or, where there is none, the one that will be sent, behind a pause
abbrev pub MeetsValues : (import : ℕ) → (name : List ℕ) → List ℕ → Midst → Outcome → Midst → Type 0
MeetsValues import name [] sh o sh' =
    (value : ℕ) × (value < 2 ^ 32) × (o ≡ mailed (Some (V.I32 value)) 1) × (sh' ≡ record sh { receive = Some (record { import = import; box = name; value = value }) })
MeetsValues import name (v ∷ vs) sh o sh' = (o ≡ mailed (Some (V.I32 (in_range v))) 0) × (sh' ≡ record sh { boxes = at_box (received vs) name sh.boxes })

-- An import bound to a mailbox: called with one i32 it sends, without arguments it receives. With others it meets no device: the set-up of
-- scripts with mailboxes, which is still to come, has to refuse such a binding by the import's type.
abbrev pub MeetsBox : (import : ℕ) → (name : List ℕ) → List Value → Mailbox → Midst → Outcome → Midst → Type 0
MeetsBox import name (V.I32 v ∷ []) b sh o sh' =
    IsAwaited v b.waits × (o ≡ mailed None 0) × (sh' ≡ record sh { boxes = at_box (sent v) name sh.boxes; settled = sh.settled ++ receiver b.waits })
MeetsBox import name [] b sh o sh' = MeetsValues import name b.values sh o sh'
MeetsBox import name _ b sh o sh' = (o ≡ refused (NoDevice import)) × (sh' ≡ sh)

-- a bound import: the mailbox of that name, where there is one, else the device
abbrev pub MeetsNamed : (import : ℕ) → (base name : List ℕ) → List Value → Option Mailbox → Midst → Outcome → Midst → Type 0
MeetsNamed import base name args None sh o sh' = (ds : List Device) × MeetsDevice import base name args sh.devices o ds × (sh' ≡ record sh { devices = ds })
MeetsNamed import base name args (Some b) sh o sh' = MeetsBox import name args b sh o sh'

-- what an import meets by its binding: what it is bound to, else the next answer line
abbrev pub MeetsBound : Module → (import : ℕ) → List Value → Option (List ℕ) → List AnswerLine → Midst → Outcome → List AnswerLine → Midst → Type 0
MeetsBound m import args (Some name) lines sh o lines' sh' =
    MeetsNamed import (name_at (base_names m) import) name args (find (is_box name) sh.boxes) sh o sh' × (lines' ≡ lines)
MeetsBound m import args None lines sh o lines' sh' = MeetsLine import (name_at (import_names m) import) lines o lines' × (sh' ≡ sh)

-- a call meets this outcome, and leaves these lines and what is shared
abbrev pub Meets : Program → (import : ℕ) → List Value → List AnswerLine → Midst → Outcome → List AnswerLine → Midst → Type 0
Meets w import args lines sh o lines' sh' = MeetsBound w.source import args (unwrap_or (slice_get w.binds import) None) lines sh o lines' sh'

-- a new call meets the program's next outcome, and the rest goes on from what it leaves
abbrev pub NoteMeets : Program → Option Call → List Outcome → List AnswerLine → Midst → (List Outcome → List AnswerLine → Midst → Type 0) → Type 0
NoteMeets w None os lines sh rest = rest os lines sh
NoteMeets w (Some call) os lines sh rest =
    (o : Outcome) × (os' : List Outcome) × (lines' : List AnswerLine) × (sh' : Midst)
    × (os ≡ o ∷ os') × Meets w call.import call.args lines sh o lines' sh' × rest os' lines' sh'

-- each new call of a turn does
abbrev pub CallsMeet : Program → List Note → List Outcome → List AnswerLine → Midst → List Outcome → List AnswerLine → Midst → Type 0
CallsMeet w [] os lines sh os' lines' sh' = (os' ≡ os) × (lines' ≡ lines) × (sh' ≡ sh)
CallsMeet w (x ∷ xs) os lines sh os' lines' sh' = NoteMeets w (call_in x.event) os lines sh (λ o l z. CallsMeet w xs o l z os' lines' sh')
