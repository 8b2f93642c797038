-- What answers the new calls of a program where there are mailboxes, as far as it is known when they are made.
use Rattle.std.specs.Prelude.{◌⊎◌, ◌≡◌, ◌≤◌, ◌<◌, ◌^◌, ℕ, List, [], ◌∷◌, ◌++◌, Option, Some, None, slice_get}
use Rattle.std.specs.List.{find, position}
use Rattle.std.specs.Option.{option_map, unwrap_or}
use Rattle.wa_types.specs.declared.values.Value.{Value}
use Rattle.wa_types.specs.declared.values.Value.TheVariants as V
use Rattle.wa_types.specs.Syntax.{Module}
use Rattle.wa_model.specs.declared.events.End.TheVariants.{NoDevice}
use Rattle.wa_model.specs.Outside.{AnswerLine, Call}
use Rattle.wa_model.specs.Plan.{Outcome, refused}
use Rattle.wa_model.specs.Blocking.{Note}
use Rattle.wa_model.specs.Protocol.{Held}
use Rattle.world_model.specs.World.{Device, MeetsDevice, MeetsLine, Program, base_names, call_in, import_names, name_at}
use Rattle.device_port.specs.declared.devices.Devices.{Devices}
use Rattle.device_port.specs.Listed.{of_all}
use Rattle.mailbox_device.specs.Mail.{Box, Mail, at_box, is_box, received, receiver, sent}
use Rattle.mail_laws.specs.Mailboxes.{CallsMeet, mailed}
use Rattle.mail_laws.specs.Told.{Amid, Await, KeepsPromises, midst_by, pending}
use Rattle.host_laws.specs.Answering.{outcome_of}
use Rattle.host_laws.specs.Places.{Lands, Place, stands, has_ended, nowhere}
use Rattle.host_laws.specs.Supplies.{Counts, Supply, bound_to}
use Rattle.pause_host.specs.declared.asking.Asked.{Asked}
use Rattle.pause_host.specs.declared.stages.Setting.{Setting}

-- The answer lines that are left, what programs share in the midst of an event with the program's receive that wasn't answered, and of
-- each device the count of its faults.
pub record MailSupply : Type 0 where
  pub lines : List AnswerLine
  pub amid : Amid
  pub faults : List ℕ

-- what devices and mailboxes are in the midst of an event, with this receive of the program
abbrev pub amid_of : List Device → Mail → Option Await → Amid
amid_of devices mail receive = record { devices = devices; boxes = mail.boxes; settled = mail.settled; receive = receive }

-- answer lines, a caller's devices with their counts of faults, and mailboxes, with this receive of the program
abbrev pub mail_supply : {X : Type 0} {F : X → Type 0} → ((x : X) × F x → Device) → ((x : X) × F x → ℕ) → List AnswerLine → Devices X F → Mail → Option Await → MailSupply
mail_supply seen faults lines devices mail receive =
    record { lines = lines; amid = amid_of (of_all seen devices) mail receive; faults = of_all faults devices }

-- what is left of them without mailboxes
abbrev pub without_mail : MailSupply → Supply
without_mail x = record { lines = x.lines; devices = x.amid.devices; faults = x.faults }

-- ---- receives that weren't answered

-- what an import is bound to
abbrev pub bound_in : Setting → (import : ℕ) → Option (List ℕ)
bound_in x import = unwrap_or (slice_get x.binds.items import) None

-- a receive of an import, with the name to which it is bound
abbrev pub await_in : Setting → (import : ℕ) → Await
await_in x import = record { import = import; box = unwrap_or (bound_in x import) [] }

-- the same, where there is one
abbrev pub awaits_in : Setting → Option ℕ → Option Await
awaits_in x receive = option_map (await_in x) receive

-- this one, else the one of before
abbrev pub latest : {A : Type 0} → Option A → Option A → Option A
latest None before = before
latest (Some x) before = Some x

-- ---- what a new call meets

-- a receive: the first value at once; where there is none, a zero stands for the one that will be sent, behind a pause
abbrev pub AsksValues : (import : ℕ) → (name : List ℕ) → List ℕ → Amid → Outcome → Amid → Type 0
AsksValues import name [] m o m' = (o ≡ mailed (Some (V.I32 0)) 1) × (m' ≡ record m { receive = Some (record { import = import; box = name }) })
AsksValues import name (v ∷ vs) m o m' = (v < 2 ^ 32) × (o ≡ mailed (Some (V.I32 v)) 0) × (m' ≡ record m { boxes = at_box (received vs) name m.boxes })

-- an import bound to a mailbox: with one i32 it sends, without arguments it receives, and with others it meets no device
abbrev pub AsksBox : (import : ℕ) → (name : List ℕ) → List Value → Box → Amid → Outcome → Amid → Type 0
AsksBox import name (V.I32 v ∷ []) b m o m' =
    (v < 2 ^ 32) × (o ≡ mailed None 0) × (m' ≡ record m { boxes = at_box (sent v) name m.boxes; settled = m.settled ++ receiver v b.waits })
AsksBox import name [] b m o m' = AsksValues import name b.values m o m'
AsksBox import name _ b m o m' = (o ≡ refused (NoDevice import)) × (m' ≡ m)

-- a bound import: the mailbox of that name, where there is one, else the first device
abbrev pub AsksNamed : (import : ℕ) → (base name : List ℕ) → List Value → Option Box → Amid → Outcome → Amid → Type 0
AsksNamed import base name args None m o m' = (ds : List Device) × MeetsDevice import base name args m.devices o ds × (m' ≡ record m { devices = ds })
AsksNamed import base name args (Some b) m o m' = AsksBox import name args b m o m'

-- an import by its binding: what it is bound to, else the next answer line
abbrev pub AsksBound : Module → (import : ℕ) → List Value → Option (List ℕ) → List AnswerLine → Amid → Outcome → List AnswerLine → Amid → Type 0
AsksBound p import args (Some name) lines m o lines' m' = AsksNamed import (name_at (base_names p) import) name args (find (is_box name) m.boxes) m o m' × (lines' ≡ lines)
AsksBound p import args None lines m o lines' m' = MeetsLine import (name_at (import_names p) import) lines o lines' × (m' ≡ m)

-- The mailbox of this name is there, and a call of the import with these arguments asks it.
pub record AsksMailbox (import : ℕ) (name : List ℕ) (args : List Value) (old : Amid) (o : Outcome) (new : Amid) : Type 0 where
  pub box : Box
  pub there : find (is_box name) old.boxes ≡ Some box
  pub asks : AsksBox import name args box old o new

-- A call with these arguments of an import that is bound to the mailbox at this place asks it.
abbrev pub AsksAt : (import : ℕ) → List Value → (place : ℕ) → (old new : Mail) → Asked → Type 0
AsksAt import args place old new asked =
    (x : Setting) (name : List ℕ) (ds : List Device) (r : Option ℕ) → bound_in x import ≡ Some name → position (is_box name) old.boxes ≡ Some place
    → AsksMailbox import name args (amid_of ds old (awaits_in x r)) (outcome_of asked.met) (amid_of ds new (awaits_in x (latest asked.receive r)))

-- A receive at an empty mailbox is answered a zero behind a pause.
abbrev pub WaitsATick : Asked → Type 0
WaitsATick asked = (import : ℕ) → asked.receive ≡ Some import → outcome_of asked.met ≡ mailed (Some (V.I32 0)) 1

-- A new call meets this outcome, and leaves this. A receive at an empty mailbox runs as one that is answered a zero behind a pause: its
-- value isn't known yet.
pub record MailAnswers (w : Program) (c : Call) (old : MailSupply) (o : Outcome) (new : MailSupply) : Type 0 where
  pub meets : AsksBound w.source c.import c.args (bound_to w c.import) old.lines old.amid o new.lines new.amid
  pub counts : Counts c.import (bound_to w c.import) old.amid.devices o old.faults new.faults

-- What a told event took: a new call meets an outcome, and nothing else takes any.
abbrev pub TakesMail : Program → Option Call → MailSupply → List Outcome → MailSupply → Type 0
TakesMail w None old os new = (os ≡ []) × (new ≡ old)
TakesMail w (Some c) old os new = (o : Outcome) × (os ≡ o ∷ []) × MailAnswers w c old o new

-- ---- the next note

-- The note x is told next: it takes what it takes of what answers calls, and pays no more than is left.
pub record TellsMail (w : Program) (ready : List Note) (h : Held) (left : ℕ) (old : MailSupply) (x : Note) (used : ℕ) (new : MailSupply) (to : Place) : Type 0 where
  pub outcomes : List Outcome
  pub takes : TakesMail w (call_in x.event) old outcomes new
  pub within : used ≤ left
  pub lands : Lands w.source w.plan w.steps ready h outcomes left x used to

-- from any place
abbrev pub TellsMailFrom : Program → Place → (left : ℕ) → MailSupply → Note → (used : ℕ) → MailSupply → Place → Type 0
TellsMailFrom w (stands ready h) left old x used new to = TellsMail w ready h left old x used new to
TellsMailFrom w (has_ended how) left old x used new to = ⊥
TellsMailFrom w nowhere left old x used new to = ⊥

-- ---- what a world meets

-- What the calls of a turn have met is what a world has them meet, whatever is promised to those that wait: outcomes that are known, and
-- that of the receive that wasn't answered, for which a zero stands until then.
pub record MetSoFar (w : Program) (program : ℕ) (turn : List Note) (begun : MailSupply) (os : List Outcome) (now : MailSupply) : Type 0 where
  pub known : List Outcome
  pub outcomes : os ≡ known ++ pending 0 now.amid.receive
  pub calls : (will : ℕ → ℕ) → ((j : ℕ) → will j < 2 ^ 32) → KeepsPromises will now.amid.settled
      → CallsMeet w turn (known ++ pending (will program) now.amid.receive) begun.lines (midst_by will program begun.amid) [] now.lines (midst_by will program now.amid)

-- So it is before the first call,
abbrev pub NothingMetYet : Type 0
NothingMetYet = (w : Program) (program : ℕ) (begun : MailSupply) → begun.amid.receive ≡ None → MetSoFar w program [] begun [] begun

-- and with each note told since, as long as no call comes behind a receive that wasn't answered.
abbrev pub OneMoreMet : Type 0
OneMoreMet =
    (w : Program) (program : ℕ) (turn : List Note) (begun : MailSupply) (os : List Outcome) (now : MailSupply) (x : Note) (met : List Outcome) (new : MailSupply)
    → MetSoFar w program turn begun os now → TakesMail w (call_in x.event) now met new → (call_in x.event ≡ None) ⊎ (now.amid.receive ≡ None)
    → MetSoFar w program (turn ++ x ∷ []) begun (os ++ met) new
