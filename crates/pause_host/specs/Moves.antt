-- How a program goes from one event to the next.
use Rattle.std.specs.Prelude.{◌≡◌, ◌≤◌, ℕ, suc, ◌+◌, ◌-◌, List, [], ◌∷◌, length, map, Some, None, true, All, nat_lt, slice_get}
use Rattle.std.specs.Option.{option_map, option_to_list, unwrap_or}
use Rattle.wa_types.specs.declared.values.Value.{Value}
use Rattle.wa_types.specs.Syntax.{Func, Module}
use Rattle.wa_types.specs.Modules.{all_memories, defined_at, func_imports, func_type_at}
use Rattle.wa_types.specs.Validity.{Valid}
use Rattle.wa_model.specs.declared.events.End.{End}
use Rattle.wa_model.specs.declared.events.End.TheVariants as E
use Rattle.wa_model.specs.declared.events.Call.{Call}
use Rattle.wa_model.specs.declared.events.Event.{Event as EventValue}
use Rattle.wa_model.specs.declared.events.Event.TheVariants as EventV
use Rattle.wa_model.specs.Outside.{AnswerLine, ended}
use Rattle.wa_model.specs.View.{event_of}
use Rattle.wa_model.specs.Store.{Store}
use Rattle.wa_model.specs.Configuration.{Configuration}
use Rattle.wa_model.specs.Step.{returns, entered, step}
use Rattle.wa_model.specs.Plan.{Outcome}
use Rattle.run_theory.specs.Alone.{Goes}
use Rattle.wa_model.specs.Blocking as B
use Rattle.wa_model.specs.Blocking.{Note, note, Asker, inside, outermost, the_start, an_entry, with_outcomes}
use Rattle.wa_model.specs.Protocol.{exports_of, protocol, Held, starting, busy, calling, over, Phase, is_running, unwinds, rewinds, Then, held_asked, store_held}
use Rattle.world_model.specs.World.{Program, base_names, call_in, import_names}
use Rattle.run_laws.specs.FittingStates.{HeldFits, ExportsTyped}
use Rattle.interp.specs.declared.turns.Turn.{Turn}
use Rattle.interp.specs.declared.turns.Turn.TheVariants.{StepsSpent}
use Rattle.interp.specs.Instance as I
use Rattle.interp.specs.Instance.{Waits}
use Rattle.host_laws.specs.Answering.{IsShort}
use Rattle.host_laws.specs.Stretch.{meeting, Stretch, IsSpent}
use Rattle.host_laws.specs.Supplies.{bound_to}
use Rattle.host_laws.specs.Places.{Place, stands, has_ended, nowhere}
use Rattle.pause_host.specs.declared.exports.Exported.{Exported}
use Rattle.pause_host.specs.declared.exports.Exported.TheVariants as X
use Rattle.pause_host.specs.declared.exports.Work.{Work}
use Rattle.pause_host.specs.declared.exports.Work.TheVariants.{Unwinding, Rewinding}
use Rattle.pause_host.specs.declared.stages.Heard.{Heard}
use Rattle.pause_host.specs.declared.stages.HostImport.{HostImport}
use Rattle.pause_host.specs.declared.stages.Moved.{Moved}
use Rattle.pause_host.specs.declared.stages.Next.{Next}
use Rattle.pause_host.specs.declared.stages.Next.TheVariants as N
use Rattle.pause_host.specs.declared.stages.Setting.{Setting}
use Rattle.pause_host.specs.declared.stages.Stage.TheVariants as StageV
use Rattle.pause_host.specs.declared.stages.Task.{Task}
use Rattle.pause_host.specs.declared.stages.Task.TheVariants as T
use Rattle.pause_host.specs.Mailing.{MailSupply, TellsMailFrom}
use Rattle.pause_host.specs.Views.{exports_in, entry_of, is_pause, is_paused, is_stopping, place_in, starts}

-- the setting is that of a program of a world, over a valid module with a memory and with the five exports
pub record IsSetting (w : Program) (x : Setting) : Type 0 where
  pub valid : Valid w.source
  pub typed : ExportsTyped w.source
  pub memory : nat_lt 0 (length (all_memories w.source)) ≡ true
  pub exports : exports_in x.exports ≡ exports_of w.source
  pub area : w.plan.area ≡ x.area
  pub others : w.plan.others ≡ x.others.items
  pub listed : w.plan.listed ≡ option_map (λ l. l.items) x.listed
  pub steps : w.steps ≡ x.steps
  pub names : import_names w.source ≡ map (λ (i : HostImport). i.name) x.imports.items
  pub bases : base_names w.source ≡ map (λ (i : HostImport). i.base) x.imports.items
  pub binds : (import : ℕ) → bound_to w import ≡ unwrap_or (slice_get x.binds.items import) None
  pub results : (import : ℕ) (i : HostImport) → slice_get x.imports.items import ≡ Some i → (func_type_at w.source import).results ≡ option_to_list i.result
  pub all : length x.imports.items ≡ func_imports w.source

-- all code that stands there has its type
abbrev pub PlaceFits : Program → Place → Type 0
PlaceFits w (stands ready h) = HeldFits w.source h
PlaceFits w (has_ended how) = Unit {0}
PlaceFits w nowhere = ⊥

-- the pokes of an answer line are short
abbrev pub HasShortPokes : AnswerLine → Type 0
HasShortPokes l = All IsShort l.answer.pokes

-- ---- one event

-- A program of a world told this event, at which this store stands.
pub record Moves (w : Program) (from : Place) (left : ℕ) (supply : MailSupply) (event : EventValue) (store : Store) (used : ℕ) (supply' : MailSupply) (to : Place) : Type 0 where
  pub note : Note
  pub event_is : note.event ≡ event_of event
  pub store_is : note.store ≡ store
  pub tells : TellsMailFrom w from left supply note used supply' to

-- The next event from where the machine stands, and the stage that it leads to, over a store and what waits in the instance.
abbrev pub ComesFrom : Program → Place → (left used : ℕ) → Moved → (supply supply' : MailSupply) → B.Left → Store → Waits → Type 0
ComesFrom w from left used m supply supply' l s waits =
    Moves w from left supply m.event s used supply' (place_in (exports_of w.source) w.plan.area l s waits m.stage)

-- The same from a state of the machine.
abbrev pub Comes : Program → Held → (left used : ℕ) → Moved → (supply supply' : MailSupply) → B.Left → Store → Waits → Type 0
Comes w h left used m supply supply' l s waits = ComesFrom w (stands [] h) left used m supply supply' l s waits

-- The program is then paused exactly where the event is a pause.
abbrev pub PausesSo : Moved → Type 0
PausesSo m = is_paused m.stage ≡ is_pause (event_of m.event)

-- The event is no new call, and none comes before a pause was answered.
abbrev pub Stops : Moved → Type 0
Stops m = (call_in (event_of m.event) ≡ None) × (is_stopping m.stage ≡ true)

-- No new call comes behind a receive at an empty mailbox before that was answered.
abbrev pub StopsAtReceive : Heard → Type 0
StopsAtReceive h = (import : ℕ) → h.receive ≡ Some import → is_stopping h.moved.stage ≡ true

-- ---- parts of the way to it

-- the program ends here, with nothing before, over this store
pub data EndsAt (w : Program) (h : Held) (left used : ℕ) (how : End) (s : Store) : Type 0 where
  at_over : Stretch w.source w.plan h [] (note (ended how) s ∷ []) used (over s) → used ≤ left → EndsAt w h left used how s
  at_spent : (h' : Held) → Stretch w.source w.plan h [] [] used h' → used ≤ left → store_held h' ≡ s → IsSpent w.source w.plan (left - used) h' → how ≡ E.StepsSpent w.steps
      → EndsAt w h left used how s

-- a function called on a fresh stack returned these values
pub record Returns (p : Module) (s : Store) (x : ℕ) (args : List Value) (left used : ℕ) (values : List Value) (s' : Store) : Type 0 where
  pub func : Func
  pub there : defined_at p x ≡ Some func
  pub last : Configuration
  pub cost : ℕ
  pub k : ℕ
  pub runs : Goes p (entered s [] args x func) cost last
  pub returns_then : step p last ≡ returns k values s'
  pub used_is : used ≡ suc (length args) + (cost + suc k)
  pub within : used ≤ left

-- the phase in which the host does this work
abbrev pub WorksIn : Work → Phase → Type 0
WorksIn Unwinding (unwinds e i a) = Unit {0}
WorksIn Rewinding (rewinds e i a sp) = Unit {0}
WorksIn _ _ = ⊥

-- an export returned, or the program ended in it
abbrev pub Exports : Program → Work → Store → (x : ℕ) → List Value → (left used : ℕ) → Exported → Store → Type 0
Exports w work s x args left used (X.Returned value) s' = Returns w.source s x args left used (option_to_list value) s'
Exports w work s x args left used (X.Ended how) s' = (ph : Phase) (th : Then) (l : B.Left) → WorksIn work ph → EndsAt w (calling ph s x args th l) left used how s'

-- who waits has called an import from here
abbrev pub AsksThere : Asker → Held → Type 0
AsksThere (inside task c) (busy (is_running t) d l) = t ≡ task
AsksThere (outermost s) (starting f old l) = Unit {0}
AsksThere _ _ = ⊥

-- From where the machine stands an import is called, and the next outcome is asked for, by one move behind others that make no note.
pub record Asks (w : Program) (h : Held) (used import : ℕ) (args : List Value) (who : Asker) (l : B.Left) : Type 0 where
  pub k : ℕ
  pub at : Held
  pub cost : ℕ
  pub first : Stretch w.source w.plan h [] [] cost at
  pub there : AsksThere who at
  pub asked : (os : List Outcome)
      → protocol w.source (exports_of w.source) w.plan (meeting os at) ≡ held_asked w.source (exports_of w.source) w.plan k import args who (with_outcomes l os) os
  pub used_is : used ≡ cost + suc k

-- who waits for a task, over a store
abbrev pub IsAsking : Task → Waits → Store → Asker → Type 0
IsAsking T.Outermost I.outermost s who = who ≡ outermost s
IsAsking T.Start (I.inside here under) s who = who ≡ inside the_start (record { store = s; here = here; under = under })
IsAsking (T.Entry e) (I.inside here under) s who = who ≡ inside (an_entry (entry_of e)) (record { store = s; here = here; under = under })
IsAsking _ _ s who = ⊥

-- the start function or an entry
abbrev pub IsTask : Task → B.Task → Type 0
IsTask T.Start t = t ≡ the_start
IsTask (T.Entry e) t = t ≡ an_entry (entry_of e)
IsTask T.Outermost t = ⊥

-- What the host called for a task has run from where the machine stands, and this turn came of it; or its call costs more than is
-- left.
pub data TaskTurn (w : Program) (h : Held) (l : B.Left) (t : B.Task) (left used : ℕ) (turn : Turn) (s : Store) (waits : Waits) : Type 0 where
  runs_on : (c : Configuration) (u more : ℕ) → Stretch w.source w.plan h [] [] u (busy (is_running t) c l) → u ≤ left → used ≡ u + more → I.Turns w.source c (left - u) more turn s waits
      → TaskTurn w h l t left used turn s waits
  too_dear : turn ≡ StepsSpent → EndsAt w h left used (E.StepsSpent w.steps) s → TaskTurn w h l t left used turn s waits

-- ---- what comes of a stage

-- A new call comes for this task: from where the machine stands, by steps that are there, an import is called whose outcome is asked for.
pub record CallComes (w : Program) (from : Place) (left used : ℕ) (task : Task) (call : Call) (l : B.Left) (s : Store) (waits : Waits) : Type 0 where
  pub held : Held
  pub from_is : from ≡ stands [] held
  pub who : Asker
  pub asks : Asks w held used call.import call.args.items who l
  pub within : used ≤ left
  pub asking : IsAsking task waits s who

-- An event comes, which takes nothing of what answers calls; or a new call does.
abbrev pub NextFrom : Program → Place → (left used : ℕ) → Next → B.Left → Store → Waits → Type 0
NextFrom w from left used (N.Told m) l s waits = (supply : MailSupply) → ComesFrom w from left used m supply supply l s waits
NextFrom w from left used (N.Calls task call) l s waits = CallComes w from left used task call l s waits

-- Where it is an event, the program is then paused exactly where that is a pause.
abbrev pub NextPauses : Next → Type 0
NextPauses (N.Told m) = PausesSo m
NextPauses (N.Calls task call) = Unit {0}

-- An event comes, behind which the program stops.
abbrev pub NextStops : Next → Type 0
NextStops (N.Told m) = Stops m
NextStops (N.Calls task call) = ⊥

-- A new call comes inside the start function.
abbrev pub NextStarts : Next → Type 0
NextStarts (N.Told m) = ⊥
NextStarts (N.Calls task call) = starts task ≡ true

-- this end comes, and was told then
abbrev pub TellsEnd : End → Next → Type 0
TellsEnd how (N.Told m) = (m.event ≡ EventV.Ended how) × (m.stage ≡ StageV.Ended how)
TellsEnd how (N.Calls task call) = ⊥
