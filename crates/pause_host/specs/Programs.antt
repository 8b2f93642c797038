-- A program as plain data, and what its calls do.
use Rattle.std.specs.Prelude.{if◌then◌else◌, ◌≡◌, ◌<◌, ◌≤◌, ◌^◌, ◌++◌, ℕ, List, [], ◌∷◌, length, map, Option, Some, None, All, Bool, true, false, Result, Ok, Err, slice_get}
use Rattle.std.specs.Option.{option_map, unwrap_or}
use Rattle.wa_types.specs.Syntax.{Module}
use Rattle.wa_types.specs.Modules.{imported, imported_global, func_imports}
use Rattle.wa_types.specs.Sizes.{SizeRule}
use Rattle.wa_types.specs.View.{module_of}
use Rattle.wa_model.specs.declared.events.End.{End}
use Rattle.wa_model.specs.declared.events.Event.{Event as EventValue}
use Rattle.wa_model.specs.Outside.{AnswerLine, Event, ended}
use Rattle.wa_model.specs.View.{answer_line_of, event_of}
use Rattle.wa_model.specs.Machine.{Ran}
use Rattle.wa_model.specs.Store.{Store}
use Rattle.wa_model.specs.Instantiation.{opening}
use Rattle.wa_model.specs.Blocking.{Note, no_store}
use Rattle.wa_model.specs.Plan.{Outcome}
use Rattle.wa_model.specs.Protocol.{Held, held_begun}
use Rattle.world_model.specs.World as W
use Rattle.world_model.specs.World.{CallsMeet, Device, Look, Origin, answers_from, at_pause, at_start, call_in, is_end}
use Rattle.run_theory.specs.Fitting.{types_of, global_types}
use Rattle.device_port.specs.declared.devices.Devices.{Devices}
use Rattle.device_port.specs.Listed.{of_all}
use Rattle.interp.specs.Host.{code_in, memory_of, store_in, waits_in}
use Rattle.host_setup.specs.declared.faults.SetupFault.{SetupFault}
use Rattle.host_setup.specs.SetUp.{NamedEntry, set_up}
use Rattle.host_setup.specs.Views as S
use Rattle.host_setup.specs.Views.{Blames}
use Rattle.host_laws.specs.Places.{Place, stands, has_ended, nowhere}
use Rattle.host_laws.specs.Stories.{IsAt}
use Rattle.host_laws.specs.Supplies.{Supply, Takes}
use Rattle.pause_host.specs.Views.{exports_in, is_pause, is_paused, is_stopping, left_of, lines_in, place_in}
use Rattle.pause_host.specs.Holding.{PlaceHolds}
use Rattle.pause_host.specs.Moves.{IsSetting, PlaceFits, HasShortPokes}
use Rattle.mailbox_device.specs.Mail.{Mail}
use Rattle.mail_laws.specs.MailWorld.{told_pause}
use Rattle.mail_laws.specs.Told.{Await}
use Rattle.pause_host.specs.Mailing.{MailSupply, TakesMail, amid_of, awaits_in, mail_supply}
use Rattle.pause_host.specs.Settings.{calls_of}
use Rattle.pause_host.specs.declared.plan.Plan.{Plan}
use Rattle.pause_host.specs.declared.program.State.{State}
use Rattle.pause_host.specs.declared.program.State.TheVariants.{Fresh, Live, Failed, Lost}
use Rattle.pause_host.specs.declared.program.Program.{Program}
use Rattle.pause_host.specs.declared.stages.Stage.{Stage}
use Rattle.pause_host.specs.declared.stages.Stage.TheVariants.{Ended, Ending}

-- ---- a plan

-- the module of a plan
abbrev pub source_of : Plan → Module
source_of x = module_of x.module.now

-- the entries of a plan
abbrev pub named_entries : Plan → List NamedEntry
named_entries x = map S.entry_of x.entries.items

-- What is asked of a plan: where it tells which function imports are listed, it tells it of each; the imported globals have
-- values of their types; for each function import it tells whether it is bound; there is a step, and no more than 1,000,000,000; entries are numbered in 32 bits; pokes are short.
pub record IsPlan (x : Plan) : Type 0 where
  pub listed : (l : List Bool) → option_map (λ v. v.items) x.listed ≡ Some l → length l ≡ func_imports (source_of x)
  pub globals : types_of x.globals.items ≡ global_types (imported imported_global (source_of x))
  pub binds : length x.binds.items ≡ func_imports (source_of x)
  pub some_steps : 1 ≤ x.steps
  pub few_steps : x.steps ≤ 1000000000
  pub entries : length x.entries.items < 2 ^ 32
  pub pokes : All HasShortPokes (map answer_line_of x.answers.items)

-- the program of a world that a plan is, from its start on, where its entries are of these functions, these looks come after its end and
-- its imports are bound so
abbrev pub world_program : Plan → List ℕ → List Look → List (Option (List ℕ)) → W.Program
world_program x funcs looks binds = record {
  source = source_of x;
  plan = record { globals = x.globals.items; entries = calls_of (named_entries x) funcs; area = x.area; others = []; listed = option_map (λ v. v.items) x.listed };
  steps = x.steps;
  answers = map answer_line_of x.answers.items;
  binds = binds;
  looks = looks;
  origin = at_start;
}

-- the imports are bound as the plan has it; one beyond a list is bound to none
abbrev pub BindsAs : Plan → List (Option (List ℕ)) → Type 0
BindsAs x binds = (import : ℕ) → unwrap_or (slice_get binds import) None ≡ unwrap_or (slice_get x.binds.items import) None

-- ---- a program

-- where a program stands: before instantiation, before what that makes
abbrev pub before : Ran Held Note → Place
before r = stands r.events r.last

-- where a program stands
abbrev pub place_of : Program → State → Place
place_of x Fresh = before (held_begun (module_of x.valid.now).start (left_of x.left) (opening (module_of x.valid.now) x.globals.items))
place_of x (Live instance stage) = place_in (exports_in x.setting.exports) x.setting.area (left_of x.left) (store_in instance) (waits_in instance) stage
place_of x (Failed how) = has_ended how
place_of x Lost = nowhere

-- the store of the instance, where there is one
abbrev pub store_of : State → Store
store_of (Live instance stage) = store_in instance
store_of _ = no_store

-- the bytes of its memory; none where there is none
abbrev pub memory_at : State → List ℕ
memory_at (Live instance stage) = unwrap_or (memory_of (code_in instance) (store_in instance)) []
memory_at _ = []

-- the bytes of a program's memory; none where there is none
abbrev pub memory_in : Program → List ℕ
memory_in x = memory_at x.state

-- the end that was told at a place
abbrev pub end_at : Place → Option End
end_at (has_ended how) = Some how
end_at _ = None

-- the end that an event tells
abbrev pub end_in : Event → Option End
end_in (ended how) = Some how
end_in _ = None

-- how the program ended, where its end was told
abbrev pub ended_as : Program → Option End
ended_as x = end_at (place_of x x.state)

-- a program stands at a pause
abbrev pub is_at_pause : State → Bool
is_at_pause (Live instance stage) = is_paused stage
is_at_pause _ = false

-- the last of these notes is a pause; where there is none, as told
abbrev pub ends_in_pause : Bool → List Note → Bool
ends_in_pause b [] = b
ends_in_pause b (x ∷ xs) = ends_in_pause (is_pause x.event) xs

-- a program of a world begins at a pause
abbrev pub begins_paused : Origin → Bool
begins_paused (at_pause x) = true
begins_paused _ = false

-- the instance is one of the program's module
abbrev pub RunsCode : Module → State → Type 0
RunsCode p (Live instance stage) = code_in instance ≡ p
RunsCode p _ = Unit {0}

-- the answer lines that it has left
abbrev pub lines_left : Program → List AnswerLine
lines_left x = lines_in x.left.answers.items

-- what answers its calls: these lines, and devices with their counts of faults,
abbrev pub supply_with : Program → List Device → (faults : List ℕ) → Supply
supply_with x ds faults = record { lines = lines_left x; devices = ds; faults = faults }

-- those of a caller
abbrev pub supply_of : {X : Type 0} {F : X → Type 0} → ((x : X) × F x → Device) → ((x : X) × F x → ℕ) → Program → Devices X F → Supply
supply_of seen faults x devices = supply_with x (of_all seen devices) (of_all faults devices)

-- ---- mailboxes

-- its receive that wasn't answered
abbrev pub receive_in : Program → Option Await
receive_in x = awaits_in x.setting x.receive

-- the end at which a stage stands: it is told next, or was told
abbrev pub end_due : Stage → Option End
end_due (Ending how) = Some how
end_due (Ended how) = Some how
end_due _ = None

-- the same of a state
abbrev pub ends_at : State → Option End
ends_at (Live instance stage) = end_due stage
ends_at (Failed how) = Some how
ends_at _ = None

-- the end at which a program stands: it is told next, or was told
abbrev pub ending_in : Program → Option End
ending_in x = ends_at x.state

-- a state behind the end that was told
abbrev pub behind_end : End → State → State
behind_end how (Live instance stage) = Live instance (Ended how)
behind_end how state = state

-- the name of the mailbox at which it is parked: it is paused at a receive that wasn't answered
abbrev pub parked_in : Program → Option (List ℕ)
parked_in x = if is_at_pause x.state then option_map (λ (r : Await). r.box) (receive_in x) else None

-- no new call comes in a state before a pause was told and answered
abbrev pub stops_at : State → Bool
stops_at (Live instance stage) = is_stopping stage
stops_at (Failed how) = true
stops_at _ = false

-- Where a receive wasn't answered no new call comes before it is.
abbrev pub StopsBehindReceive : Program → Type 0
StopsBehindReceive x = (r : Await) → receive_in x ≡ Some r → stops_at x.state ≡ true

-- what answers its calls: these devices with their counts of faults, and these mailboxes,
abbrev pub mail_supply_with : Program → List Device → (faults : List ℕ) → Mail → MailSupply
mail_supply_with x ds faults mail = record { lines = lines_left x; amid = amid_of ds mail (receive_in x); faults = faults }

-- those of a caller
abbrev pub mail_supply_of : {X : Type 0} {F : X → Type 0} → ((x : X) × F x → Device) → ((x : X) × F x → ℕ) → Program → Devices X F → Mail → MailSupply
mail_supply_of seen faults x devices mail = mail_supply seen faults (lines_left x) devices mail (receive_in x)

-- ---- on its way

-- The program has told these notes of a program of a world, its calls met these outcomes, and it stands here.
pub record FollowsAt (w : W.Program) (notes : List Note) (os : List Outcome) (x : Program) (place : Place) : Type 0 where
  pub source : w.source ≡ module_of x.valid.now
  pub sizes : SizeRule w.source
  pub setting : IsSetting w x.setting
  pub globals : types_of x.globals.items ≡ global_types (imported imported_global w.source)
  pub pokes : All HasShortPokes (lines_left x)
  pub given : x.given ≡ length w.answers
  pub fits : PlaceFits w place
  pub holds : PlaceHolds w place
  pub few_steps : w.steps ≤ 1000000000
  pub told : IsAt w notes os x.steps_left place

-- It has told these notes, its calls met these outcomes, and it goes on; it is paused exactly where the last of them is a pause, or it has told
-- nothing since it was put back at one.
pub record Follows (w : W.Program) (notes : List Note) (os : List Outcome) (x : Program) : Type 0 where
  pub at : FollowsAt w notes os x (place_of x x.state)
  pub code : RunsCode w.source x.state
  pub paused : is_at_pause x.state ≡ ends_in_pause (begins_paused w.origin) notes

-- A program is on its way at this place, in this state: it has told what some program of a world tells.
pub record OnItsWay (x : Program) (place : Place) (state : State) : Type 0 where
  pub program : W.Program
  pub notes : List Note
  pub outcomes : List Outcome
  pub at : FollowsAt program notes outcomes x place
  pub code : RunsCode program.source state

-- It was made of a plan, and has told its next event at each call since.
abbrev pub IsOnItsWay : Program → Type 0
IsOnItsWay x = OnItsWay x (place_of x x.state) x.state

-- It stands at its end, or is on its way.
abbrev pub MayGoOn : Program → Type 0
MayGoOn x = ending_in x ≡ None → IsOnItsWay x

-- It told one note more, with this event, and a new call met an outcome as a world has it, by what answers calls before and behind
-- it; the instance has that note's store; and where the event is its end, it has ended so.
pub record Advances (w : W.Program) (notes : List Note) (os : List Outcome) (event : EventValue) (old new : Supply) (x : Program) : Type 0 where
  pub note : Note
  pub met : List Outcome
  pub event_is : note.event ≡ event_of event
  pub store_is : note.store ≡ store_of x.state
  pub memory_is : memory_in x ≡ note.store.memory
  pub ended_is : ended_as x ≡ end_in note.event
  pub takes : Takes w (call_in note.event) old met new
  pub follows : Follows w (notes ++ note ∷ []) (os ++ met) x

-- The same where there are mailboxes, as far as it is known what calls met: a receive at an empty mailbox met a zero behind a pause.
pub record MailAdvances (w : W.Program) (notes : List Note) (os : List Outcome) (event : EventValue) (old new : MailSupply) (x : Program) : Type 0 where
  pub note : Note
  pub met : List Outcome
  pub event_is : note.event ≡ event_of event
  pub store_is : note.store ≡ store_of x.state
  pub memory_is : memory_in x ≡ note.store.memory
  pub ended_is : ended_as x ≡ end_in note.event
  pub takes : TakesMail w (call_in note.event) old met new
  pub follows : Follows w (notes ++ note ∷ []) (os ++ met) x

-- .. and the pause of a receive that wasn't answered is told as parking.
pub record TellsNext (w : W.Program) (notes : List Note) (os : List Outcome) (event : Event) (old new : MailSupply) (x : Program) : Type 0 where
  pub noted : EventValue
  pub advances : MailAdvances w notes os noted old new x
  pub event_is : event ≡ told_pause (receive_in x) (event_of noted)

-- ---- a program alone, without devices

-- its calls met its answer lines in turn, from those that it has left where it begins up to those that it has left now
pub record FollowsAlone (w : W.Program) (notes : List Note) (x : Program) : Type 0 where
  pub outcomes : List Outcome
  pub meets : CallsMeet w notes outcomes (answers_from w.answers w.origin) [] [] (lines_left x) []
  pub follows : Follows w notes outcomes x

-- The next event of a program that is alone: what it has told goes on by it.
pub record AdvancesAlone (w : W.Program) (notes : List Note) (event : EventValue) (x : Program) : Type 0 where
  pub note : Note
  pub event_is : note.event ≡ event_of event
  pub store_is : note.store ≡ store_of x.state
  pub memory_is : memory_in x ≡ note.store.memory
  pub ended_is : ended_as x ≡ end_in note.event
  pub follows : FollowsAlone w (notes ++ note ∷ []) x

-- ---- set up

-- Set up is a plan whose area, exports and entries are lawful: the program has told nothing yet, and waits for no mailbox. Else the first fault says why.
abbrev pub SetsUp : Plan → Result Program SetupFault → Type 0
SetsUp x (Ok program) = (funcs : List ℕ) × (set_up (source_of x) x.area (named_entries x) ≡ Ok funcs)
    × ((looks : List Look) (binds : List (Option (List ℕ))) → BindsAs x binds → Follows (world_program x funcs looks binds) [] [] program)
    × (lines_left program ≡ map answer_line_of x.answers.items) × (receive_in program ≡ None)
SetsUp x (Err fault) = Blames fault (set_up (source_of x) x.area (named_entries x))
