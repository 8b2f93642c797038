-- What each device has answered in a run.
use Rattle.std.specs.Prelude.{◌≡◌, ◌+◌, ◌++◌, ◌&&◌, if◌then◌else◌, ℕ, suc, nat_eq, nat_lt, nat_le, Bool, List, [], ◌∷◌, map, Option, Some, None, slice_get}
use Rattle.std.specs.Option.{option_to_list}
use Rattle.wa_types.specs.declared.values.Value.{Value}
use Rattle.wa_types.specs.Validity.{same_name}
use Rattle.wa_model.specs.declared.answers.Detach.{Detach}
use Rattle.wa_model.specs.declared.answers.Said.{Said}
use Rattle.wa_model.specs.declared.answers.Said.TheVariants as S
use Rattle.wa_model.specs.Outside.{Call, Event, Line}
use Rattle.wa_model.specs.Plan.{Outcome, given}
use Rattle.world_model.specs.World.{Asked, Device, Program, Reply, base_names, call_in, ends_turn, is_named, name_at}
use Rattle.event_order.specs.Left.{Counted}
use Rattle.host_laws.specs.Supplies.{bound_to}
use Rattle.many_host.specs.Calls.{devices_of}
use Rattle.world_hosting.specs.Counts.{closes}
use Rattle.world_hosting.specs.Worlds.{AreTold, Part, turn_count, world_programs}

-- ---- the calls that devices have answered

-- An answered call: the number of its event, the name of the device to which its import is bound, and base name, arguments and reply.
pub record Logged : Type 0 where
  pub event : ℕ
  pub device : List ℕ
  pub asked : Asked

-- an answer as a device's reply: no device traps
abbrev pub reply_of : Said → (ticks : ℕ) → Option Reply
reply_of (S.Value v) ticks = Some (record { value = v; ticks = ticks })
reply_of S.Trap ticks = None

-- a call of an import that is bound to this device, where it was answered
abbrev pub logged_to : Option (List ℕ) → (event : ℕ) → (base : List ℕ) → List Value → Outcome → List Logged
logged_to (Some device) event base args (given a) =
    map (λ (r : Reply). record { event = event; device = device; asked = record { base = base; args = args; reply = r } }) (option_to_list (reply_of a.said a.ticks))
logged_to _ event base args o = []

-- the same of a program's call, which met this outcome, where its imports ask these devices
abbrev pub logged_as : (asks : Program → (import : ℕ) → Option (List ℕ)) → Option Program → (event : ℕ) → Option Call → (met : List Outcome) → List Logged
logged_as asks (Some w) event (Some c) (o ∷ os) = logged_to (asks w c.import) event (name_at (base_names w.source) c.import) c.args o
logged_as asks _ event _ _ = []

-- the answered calls that lines tell, in order of events and, within an event, in order of calls; so many events had ended before
abbrev pub answered_as : (ends : Event → Bool) → (asks : Program → (import : ℕ) → Option (List ℕ)) → List Program → (over : ℕ) → List Line → (met : List (List Outcome)) → List Logged
answered_as ends asks programs over (l ∷ ls) (os ∷ met) =
    logged_as asks (slice_get programs l.program) (suc over) (call_in l.event) os ++ answered_as ends asks programs (over + closes ends l.event) ls met
answered_as ends asks programs over _ _ = []

-- the same of programs without mailboxes, whose bound imports all ask devices
abbrev pub answered_calls : List Program → (over : ℕ) → List Line → (met : List (List Outcome)) → List Logged
answered_calls = answered_as ends_turn bound_to

-- ---- devices of one name

-- how many of these devices have the name
abbrev pub how_many : (name : List ℕ) → List Device → ℕ
how_many name [] = 0
how_many name (d ∷ ds) = (if is_named name d then 1 else 0) + how_many name ds

-- how many of these detaches take out a device of the name, by the event of this number
abbrev pub taken_by : (event : ℕ) → List Detach → (name : List ℕ) → ℕ
taken_by event [] name = 0
taken_by event (x ∷ xs) name = (if same_name name x.device && nat_le 1 x.before && nat_le x.before event then 1 else 0) + taken_by event xs name

-- The log of the device of a name before which so many others of it stood at first: of the answered calls to the name those that came
-- when as many had been taken out.
abbrev pub device_log : List Detach → List Logged → (name : List ℕ) → (place : ℕ) → List Asked
device_log detaches [] name place = []
device_log detaches (x ∷ xs) name place =
    (if same_name name x.device && nat_eq (taken_by x.event detaches name) place then x.asked ∷ [] else []) ++ device_log detaches xs name place

-- Devices, each with its log behind its journal, without those of each name that are taken out: so many, the first of it. Others stood
-- before them.
abbrev pub with_logs : (out : List ℕ → ℕ) → (log : List ℕ → ℕ → List Asked) → (before : List Device) → List Device → List Device
with_logs out log before [] = []
with_logs out log before (d ∷ ds) =
    (if nat_lt (how_many d.name before) (out d.name) then [] else record { name = d.name; journal = d.journal ++ log d.name (how_many d.name before) } ∷ [])
    ++ with_logs out log (before ++ d ∷ []) ds

-- The devices that these lines leave are those that were there, in order, each with its log behind its journal.
abbrev pub AreLogged : List Program → List Detach → List Line → (met : List (List Outcome)) → (ds ds' : List Device) → Type 0
AreLogged programs detaches lines met ds ds' = ds' ≡ with_logs (taken_by (turn_count lines) detaches) (device_log detaches (answered_calls programs 0 lines met)) [] ds

-- So it is with all that is told of the programs of a script, to the end.
abbrev pub DevicesAreLogged : Type 0
DevicesAreLogged =
    (parts : List Part) (detaches : List Detach) (old new : List Counted) (text : List ℕ) (told : AreTold parts detaches old new text)
    → AreLogged (world_programs parts) detaches told.lines told.met (devices_of old) (devices_of new)
