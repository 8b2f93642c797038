-- A program with strands as plain data, and what it has told.
use Rattle.std.specs.Prelude.{◌⊎◌, ◌≡◌, ◌<◌, ◌≤◌, ◌+◌, ◌-◌, ◌∷◌, ℕ, List, [], length, map, Option, Some, None, All, Bool, true, false, Result, Ok, Err, slice_get, slice_set}
use Rattle.std.specs.Option.{option_map, unwrap_or}
use Rattle.wa_types.specs.declared.values.Value.{Value}
use Rattle.wa_types.specs.Syntax.{Module}
use Rattle.wa_types.specs.Modules.{func_imports, imported, imported_global}
use Rattle.wa_types.specs.View.{module_of}
use Rattle.wa_model.specs.declared.answers.Area.{Area}
use Rattle.wa_model.specs.declared.events.End.TheVariants as End
use Rattle.wa_model.specs.Outside.{Event, ended, paused}
use Rattle.wa_model.specs.View.{event_of}
use Rattle.wa_model.specs.Blocking as B
use Rattle.wa_model.specs.Blocking.{Note, all_left, done_notes, note}
use Rattle.wa_model.specs.Protocol.{Held, exports_of, held_begun, held_on, over, starting as held_starting, store_held}
use Rattle.wa_model.specs.Instantiation.{opening, opens}
use Rattle.wa_model.specs.Store.{Store}
use Rattle.world_model.specs.World as W
use Rattle.run_theory.specs.Fitting.{StoreFits, global_types, types_of}
use Rattle.run_laws.specs.FittingStates.{HeldFits}
use Rattle.interp.specs.declared.instance.Instance.{Instance}
use Rattle.event_order.specs.Dues.{IsLeast}
use Rattle.interp.specs.declared.turns.Turn.{Turn}
use Rattle.interp.specs.declared.turns.Turn.TheVariants.{Returned, StepsSpent, Trapped, Waiting}
use Rattle.interp.specs.Instance.{Waits}
use Rattle.interp.specs.Host.{code_in, memory_in as memory_there, store_in, waits_in}
use Rattle.host_laws.specs.Places.{Place, stands}
use Rattle.host_laws.specs.Stretch.{Stretch, is_over}
use Rattle.pause_host.specs.declared.stages.Setting.{Setting}
use Rattle.pause_host.specs.declared.stages.Stage.TheVariants as Stage
use Rattle.pause_host.specs.declared.stages.Task.{Task}
use Rattle.pause_host.specs.Holding.{HeldHolds, HoldsArea}
use Rattle.pause_host.specs.Moves.{CallComes, EndsAt, HasShortPokes, IsSetting}
use Rattle.pause_host.specs.Programs.{BindsAs, source_of}
use Rattle.pause_host.specs.Views.{is_starting, left_of, lines_in, place_in, starts}
use Rattle.strand_laws.specs.StrandWorld.{StrandsInWorld, strand_program}
use Rattle.strand_laws.specs.Strands.{held_wakes, plan_of, strand_at}
use Rattle.strand_laws.specs.ToldStrands.{ProgramTeller, StrandTeller, starting}
use Rattle.strand_laws.specs.Woven.{Thread, ends_strand}
use Rattle.strand_host.specs.declared.plan.StrandFault.{StrandFault}
use Rattle.strand_host.specs.declared.plan.StrandFault.TheVariants.{Memory, Overlap, Setup}
use Rattle.strand_host.specs.declared.plan.StrandPart.{StrandPart}
use Rattle.strand_host.specs.declared.plan.StrandPlan.{StrandPlan}
use Rattle.strand_host.specs.declared.program.State.{State}
use Rattle.strand_host.specs.declared.program.State.TheVariants.{Between, Failed, Fresh, Lost, Over, Runs}
use Rattle.strand_host.specs.declared.program.StrandProgram.{StrandProgram}
use Rattle.strand_host.specs.declared.strands.Going.{Going}
use Rattle.strand_host.specs.declared.strands.Strand.{Strand}
use Rattle.strand_host.specs.declared.strands.StrandEvent.{StrandEvent}
use Rattle.strand_host.specs.declared.strands.Then.{Then}
use Rattle.strand_host.specs.declared.strands.Then.TheVariants.{EndsAll, EndsAlone, GoesOn, Pauses}
use Rattle.strand_host.specs.StrandTelling.{TellsStrandNote}
use Rattle.strand_host.specs.StrandPlans.{AllSetUp, AreasApart, FailsFirst, OverlapsFirst, parts_of, world_strands}
use Rattle.strand_host.specs.Standing.{BetweenTurns, InTurn, LastMove, WholeStory, all_at_start, is_in_start}

-- ---- what an event leads to

-- an end, by whether it comes in the start function: it is the strand's alone, or the program's
abbrev pub end_leads_to : Bool → Then
end_leads_to true = EndsAlone
end_leads_to false = EndsAll

-- an event
abbrev pub leads_to : (starts : Bool) → Event → Then
leads_to starts (paused ticks used) = Pauses ticks
leads_to starts (ended how) = end_leads_to (ends_strand starts how)
leads_to starts _ = GoesOn

-- ---- a program

-- a strand as a program of a world
abbrev pub world_strand : StrandsInWorld → ℕ → W.Program
world_strand g i = strand_program g [] i (strand_at g.program i)

-- the setting while it is the turn of a strand with this area
abbrev pub set_to : Setting → Area → Setting
set_to x area = record x { area = area }

-- What stays of a program whatever its state: its module and globals, the setting whoever's turn it is, its steps left, and of each strand when it is due
-- and where it waits.
pub record Stock : Type 0 where
  pub source : Module
  pub globals : List Value
  pub setting : Setting
  pub steps_left : ℕ
  pub dues : List (Option ℕ)
  pub strands : List (Option Strand)

-- that of a program
abbrev pub stock_of : StrandProgram → Stock
stock_of x = record {
  source = module_of x.valid.now;
  globals = x.globals.items;
  setting = set_to x.setting (record { at = 0; len = 0 });
  steps_left = x.steps_left;
  dues = x.dues.items;
  strands = x.strands.items;
}

-- the bytes of the memory, where there is an instance
abbrev pub memory_at : State → List ℕ
memory_at (Runs instance going) = memory_there instance
memory_at (Between instance) = memory_there instance
memory_at (Over instance) = memory_there instance
memory_at _ = []

-- the bytes of its memory
abbrev pub memory_of : StrandProgram → List ℕ
memory_of x = memory_at x.state

-- all is over
abbrev pub is_at_end : State → Bool
is_at_end (Over instance) = true
is_at_end Failed = true
is_at_end _ = false

-- the program has ended
abbrev pub has_ended : StrandProgram → Bool
has_ended x = is_at_end x.state

-- no strand is due
abbrev pub AllEnded : List (Option ℕ) → Type 0
AllEnded dues = (i due : ℕ) → slice_get dues i ≡ Some (Some due) → ⊥

-- ---- strands

-- What holds of a strand that hasn't ended, wherever it stands.
pub record IsStrand (g : StrandsInWorld) (i : ℕ) (setting : Setting) (s : Strand) (teller : StrandTeller) : Type 0 where
  pub is_set : IsSetting (world_strand g i) (set_to setting s.area)
  pub pokes : All HasShortPokes (lines_in s.left.answers.items)
  pub answers : teller.answers ≡ lines_in s.left.answers.items
  pub unfinished : teller.has_ended ≡ false

-- What holds of one that waits for its turn: over any store that fits, with so many bytes at least, it then stands where its stage does.
pub record WaitsWell (g : StrandsInWorld) (s : Strand) (h : Held) (low : ℕ) : Type 0 where
  pub place : (waits : Waits) (st : Store)
      → place_in (exports_of g.program.source) s.area (left_of s.left) st waits s.stage ≡ stands (held_wakes st h).events (held_wakes st h).last
  pub fits : (st : Store) → StoreFits g.program.source st → low ≤ length st.memory → HeldFits g.program.source (held_wakes st h).last
  pub holds : (st : Store) → low ≤ length st.memory → HeldHolds s.area (held_wakes st h).last
  pub behind_start : (st : Store) → is_in_start (held_wakes st h).last ≡ false

-- A strand that isn't in its turn: it has ended, or waits.
abbrev pub RowIs : StrandsInWorld → (i : ℕ) → Setting → (low : ℕ) → Option Strand → (due : Option ℕ) → StrandTeller → Thread Held → Type 0
RowIs g i setting low None due teller thread = (teller.has_ended ≡ true) × (due ≡ None) × (thread.at ≡ None)
RowIs g i setting low (Some s) due teller thread =
    IsStrand g i setting s teller × (due ≡ Some teller.due) × (h : Held) × (thread ≡ record { due = teller.due; at = Some h }) × WaitsWell g s h low

-- The same of the strand of this number, by where it stands.
pub record Row (g : StrandsInWorld) (t : ProgramTeller) (x : Stock) (ts : List (Thread Held)) (low i : ℕ) : Type 0 where
  pub slot : Option Strand
  pub slot_is : slice_get x.strands i ≡ Some slot
  pub due : Option ℕ
  pub due_is : slice_get x.dues i ≡ Some due
  pub teller : StrandTeller
  pub teller_is : slice_get t.strands i ≡ Some teller
  pub thread : Thread Held
  pub thread_is : slice_get ts i ≡ Some thread
  pub row : RowIs g i x.setting low slot due teller thread

-- What holds of a program wherever its strands stand.
pub record IsProgram (g : StrandsInWorld) (t : ProgramTeller) (x : Stock) (ts : List (Thread Held)) : Type 0 where
  pub source : g.program.source ≡ x.source
  pub globals : x.globals ≡ g.program.globals
  pub globals_fit : types_of x.globals ≡ global_types (imported imported_global g.program.source)
  pub few_steps : g.steps ≤ 1000000000
  pub some : 0 < length g.program.strands
  pub few : length g.program.strands ≤ 16
  pub slots : length x.strands ≡ length g.program.strands
  pub dues : length x.dues ≡ length g.program.strands
  pub threads : length ts ≡ length g.program.strands
  pub tellers : length t.strands ≡ length g.program.strands

-- ---- where a program stands

-- notes are told over stores that fit, with so many bytes at least, and an end over the one where all is over
abbrev pub NotesFit : StrandsInWorld → (low : ℕ) → List Note → Held → Type 0
NotesFit g low [] h = Unit {0}
NotesFit g low (y ∷ ys) h =
    StoreFits g.program.source y.store × (low ≤ length y.store.memory) × (W.is_end y.event ≡ true → (is_over h ≡ true) × (store_held h ≡ y.store)) × NotesFit g low ys h

-- It is the turn of a strand, which stands at this place; the others wait.
pub record AtPlace (g : StrandsInWorld) (t : ProgramTeller) (x : Stock) (k : ℕ) (s : Strand) (starts : Bool) (place : Place) : Type 0 where
  pub ts : List (Thread Held)
  pub low : ℕ
  pub is : IsProgram g t x ts
  pub there : k < length g.program.strands
  pub rows : (i : ℕ) → i < length g.program.strands → (i ≡ k → ⊥) → Row g t x ts low i
  pub slot : slice_get x.strands k ≡ Some None
  pub teller : StrandTeller
  pub teller_is : slice_get t.strands k ≡ Some teller
  pub due : slice_get x.dues k ≡ Some (Some teller.due)
  pub strand : IsStrand g k x.setting s teller
  pub ready : List Note
  pub held : Held
  pub place_is : place ≡ stands ready held
  pub turn : InTurn g t x.steps_left k teller.due starts ready held ts
  pub fits : HeldFits g.program.source held
  pub holds : HeldHolds s.area held
  pub notes : NotesFit g low ready held
  pub long : low ≤ length (store_held held).memory
  pub behind_start : starts ≡ false → is_in_start held ≡ false

-- the place of a strand's stage over an instance
abbrev pub place_of : StrandsInWorld → Instance → Strand → Place
place_of g instance s = place_in (exports_of g.program.source) s.area (left_of s.left) (store_in instance) (waits_in instance) s.stage

-- It is the turn of a strand, by its stage over an instance of the program's module.
pub record TurnAt (g : StrandsInWorld) (t : ProgramTeller) (x : Stock) (instance : Instance) (k : ℕ) (s : Strand) (starts : Bool) : Type 0 where
  pub at : AtPlace g t x k s starts (place_of g instance s)
  pub code : code_in instance ≡ g.program.source
  pub fits : StoreFits g.program.source (store_in instance)

-- a strand in the start function is the first, at a stage of it
abbrev pub InStart : Bool → Going → Type 0
InStart false going = Unit {0}
InStart true going = (going.number ≡ 0) × (is_starting going.strand.stage ≡ true)

-- So it is of the strand that goes on.
abbrev pub InTurnAt : StrandsInWorld → ProgramTeller → Stock → Instance → Going → Type 0
InTurnAt g t x instance going = TurnAt g t x instance going.number going.strand going.starts × InStart going.starts going

-- No turn goes on, over the store of the instance.
pub record BetweenAt (g : StrandsInWorld) (t : ProgramTeller) (x : Stock) (instance : Instance) : Type 0 where
  pub ts : List (Thread Held)
  pub low : ℕ
  pub is : IsProgram g t x ts
  pub rows : (i : ℕ) → i < length g.program.strands → Row g t x ts low i
  pub between : BetweenTurns g t x.steps_left (store_in instance) ts
  pub code : code_in instance ≡ g.program.source
  pub fits : StoreFits g.program.source (store_in instance)
  pub long : low ≤ length (store_in instance).memory
  pub some_due : AllEnded x.dues → ⊥

-- Nothing was told: all strands wait, and the first one's turn begins with what instantiation makes.
pub record FreshAt (g : StrandsInWorld) (t : ProgramTeller) (x : Stock) : Type 0 where
  pub is : IsProgram g t x (all_at_start g.program)
  pub told : t ≡ starting g
  pub steps : x.steps_left ≡ g.steps
  pub low : ℕ
  pub rows : (i : ℕ) → i < length g.program.strands → Row g t x (all_at_start g.program) low i
  pub first : Strand
  pub first_is : slice_get x.strands 0 ≡ Some (Some first)
  pub left : left_of first.left ≡ all_left (plan_of g.program (strand_at g.program 0)) []
  pub stage : first.stage ≡ Stage.Free
  pub fits : HeldFits g.program.source (held_begun g.program.source.start (left_of first.left) (opening g.program.source g.program.globals)).last
  pub holds : HeldHolds first.area (held_begun g.program.source.start (left_of first.left) (opening g.program.source g.program.globals)).last
  pub long : (st : Store) → opening x.source x.globals ≡ opens st → low ≤ length st.memory

-- All was told.
pub record EndedAt (g : StrandsInWorld) (t : ProgramTeller) : Type 0 where
  pub whole : WholeStory g t
  pub ended : t.has_ended ≡ true
  pub few_steps : g.steps ≤ 1000000000
  pub some : 0 < length g.program.strands
  pub few : length g.program.strands ≤ 16

-- by the state
abbrev pub StandsSo : StrandsInWorld → ProgramTeller → Stock → State → Type 0
StandsSo g t x Fresh = FreshAt g t x × (t.has_ended ≡ false)
StandsSo g t x (Runs instance going) = InTurnAt g t x instance going × (t.has_ended ≡ false)
StandsSo g t x (Between instance) = BetweenAt g t x instance × (t.has_ended ≡ false)
StandsSo g t x (Over instance) = EndedAt g t
StandsSo g t x Failed = EndedAt g t
StandsSo g t x Lost = ⊥

-- The program has told this of a program of a world, and stands so.
abbrev pub FollowsStrands : StrandsInWorld → ProgramTeller → StrandProgram → Type 0
FollowsStrands g t x = StandsSo g t (stock_of x) x.state

-- It has told what some program of a world tells, and hasn't ended.
pub record GoesOnStrands (x : StrandProgram) : Type 0 where
  pub g : StrandsInWorld
  pub t : ProgramTeller
  pub follows : FollowsStrands g t x
  pub unfinished : t.has_ended ≡ false

-- ---- behind an event

-- the tick of a strand's turn, where there is one
abbrev pub due_at : (strand : ℕ) → List (Option ℕ) → Option ℕ
due_at k dues = unwrap_or (slice_get dues k) None

-- Where a program stands behind an event, by what that leads to: the turn goes on, the strand waits for the next one, it has ended, or all is over.
abbrev pub Settles : StrandProgram → Instance → Going → Then → StrandProgram → Type 0
Settles x i going GoesOn x' = (stock_of x' ≡ stock_of x) × (x'.state ≡ Runs i going)
Settles x i going (Pauses ticks) x' =
    (stock_of x' ≡ record (stock_of x) {
      dues = slice_set x.dues.items going.number (option_map (λ due. due + ticks) (due_at going.number x.dues.items));
      strands = slice_set x.strands.items going.number (Some going.strand);
    })
    × (x'.state ≡ Between i)
Settles x i going EndsAlone x' =
    (stock_of x' ≡ record (stock_of x) { dues = slice_set x.dues.items going.number None })
    × (((x'.state ≡ Between i) × (AllEnded x'.dues.items → ⊥)) ⊎ ((x'.state ≡ Over i) × AllEnded x'.dues.items))
Settles x i going EndsAll x' = x'.state ≡ Over i

-- ---- when it is due

-- the least tick of all; none where no strand is due
abbrev pub IsFirstDue : List (Option ℕ) → Option ℕ → Type 0
IsFirstDue dues None = AllEnded dues
IsFirstDue dues (Some due) = (k : ℕ) × IsLeast dues k due

-- What tick is told as due: that of the turn that goes on, else the least.
abbrev pub IsDueThen : List (Option ℕ) → State → Option ℕ → Type 0
IsDueThen dues (Over instance) due = due ≡ None
IsDueThen dues Failed due = due ≡ None
IsDueThen dues (Runs instance going) due = due ≡ due_at going.number dues
IsDueThen dues _ due = IsFirstDue dues due

-- ---- the start function

-- What came of the start function, from where the machine stands, by what it has paid: it has returned, it trapped by its own last move, it has called an
-- import, or steps are spent.
abbrev pub StartTurned : (w : W.Program) → Held → (left used : ℕ) → Task → Turn → B.Left → Store → Waits → Type 0
StartTurned w h left used task (Returned value) l s waits = Stretch w.source w.plan h [] (done_notes s l.entries) used (held_on s l l.entries) × (used ≤ left)
StartTurned w h left used task (Trapped trap) l s waits = LastMove w.source w.plan h [] (note (ended (End.Trapped trap)) s ∷ []) used (over s) true × (used ≤ left)
StartTurned w h left used task (Waiting call) l s waits =
    CallComes w (stands [] h) left used task call l s waits × (call.import < func_imports w.source) × HoldsArea w.plan.area s
StartTurned w h left used task StepsSpent l s waits = EndsAt w h left used (End.StepsSpent w.steps) s

-- ---- set up

-- the strands of a plan at their start, none due yet
abbrev pub SetsUp : StrandPlan → StrandProgram → Type 0
SetsUp x program =
    (funcs : List (List ℕ)) × AllSetUp (source_of x.plan) (parts_of x) funcs × AreasApart (map (λ (s : StrandPart). s.area) (parts_of x))
    × ((looks : List W.Look) (binds : List (Option (List ℕ))) → BindsAs x.plan binds → FollowsStrands (world_strands x funcs looks binds) (starting (world_strands x funcs looks binds)) program)

-- Set up are strands each of which is lawful, and whose areas are apart. Else the fault says why, or that memory is wanting.
abbrev pub SetsUpStrands : StrandPlan → Result StrandProgram StrandFault → Type 0
SetsUpStrands x (Ok program) = SetsUp x program
SetsUpStrands x (Err Memory) = Unit {0}
SetsUpStrands x (Err (Setup strand fault)) = FailsFirst (source_of x.plan) (parts_of x) strand fault
SetsUpStrands x (Err (Overlap strand)) =
    ((funcs : List (List ℕ)) × AllSetUp (source_of x.plan) (parts_of x) funcs) × OverlapsFirst (map (λ (s : StrandPart). s.area) (parts_of x)) strand

-- ---- one event

-- A program told this event of a strand, and goes on from what it had told.
abbrev pub TellsEvent : StrandsInWorld → ProgramTeller → StrandEvent → List W.Device → List ℕ → List W.Device → List ℕ → StrandProgram → Type 0
TellsEvent g t told ds faults ds' faults' x = TellsStrandNote (λ t. FollowsStrands g t x) (memory_of x) g t told.strand (event_of told.event) ds faults ds' faults'

-- this holds for some program of a world that has told so much
abbrev pub ForSome : (StrandsInWorld → ProgramTeller → Type 0) → Type 0
ForSome P = (g : StrandsInWorld) × (t : ProgramTeller) × P g t

-- an instance of the module was made, with its first store
pub record OpensAt (g : StrandsInWorld) (t : ProgramTeller) (x : Stock) (instance : Instance) : Type 0 where
  pub fresh : FreshAt g t x
  pub code : code_in instance ≡ x.source
  pub store : opening x.source x.globals ≡ opens (store_in instance)
  pub fits : StoreFits g.program.source (store_in instance)

-- The start function is to be called.
pub record StartsAt (g : StrandsInWorld) (t : ProgramTeller) (x : Stock) (instance : Instance) (s : Strand) (func : ℕ) : Type 0 where
  pub at : AtPlace g t x 0 s true (stands [] (held_starting func (store_in instance) (left_of s.left)))
  pub stage : s.stage ≡ Stage.Free
  pub code : code_in instance ≡ g.program.source
  pub fits : StoreFits g.program.source (store_in instance)

-- The start function ran from where the first strand stood, and this came of it; it has been paid for.
pub record StartRan (g : StrandsInWorld) (t : ProgramTeller) (x : Stock) (instance : Instance) (s : Strand) (task : Task) (turn : Turn) : Type 0 where
  pub left : ℕ
  pub used : ℕ
  pub held : Held
  pub at : AtPlace g t (record x { steps_left = left }) 0 s true (stands [] held)
  pub steps : x.steps_left ≡ left - used
  pub stage : s.stage ≡ Stage.Free
  pub starts : starts task ≡ true
  pub turned : StartTurned (world_strand g 0) held left used task turn (left_of s.left) (store_in instance) (waits_in instance)
  pub code : code_in instance ≡ g.program.source
  pub fits : StoreFits g.program.source (store_in instance)
