-- How programs over rewritten modules end, where their originals touch no byte of their areas.
use Rattle.std.specs.Prelude.{◌≡◌, ◌≤◌, ◌<◌, ℕ, List, Some, Bool, true, false, ◌&&◌, nat_eq, slice_get}
use Rattle.std.specs.List.{AllZip, list_any}
use Rattle.wa_types.specs.Bounds.{Bound}
use Rattle.wa_types.specs.Frames.{Room}
use Rattle.wa_model.specs.declared.answers.Detach.{Detach}
use Rattle.wa_model.specs.declared.events.End.{End}
use Rattle.wa_model.specs.declared.events.End.TheVariants.{StepsSpent, UnwindTrap}
use Rattle.wa_model.specs.Outside.{Event, ended, Line}
use Rattle.wa_model.specs.Plan.{Outcome}
use Rattle.wa_model.specs.Blocking.{Note, Blocking}
use Rattle.wa_model.specs.Behaves.{expected_notes, pause_stacks}
use Rattle.world_model.specs.World.{Actor, Device, Original, ProtocolWorld, is_end}
use Rattle.world_laws.specs.Originals.{met}
use Rattle.world_laws.specs.Bounded.{ends_astray}
use Rattle.world_hosting.specs.Worlds.{Part, world_programs}
use Rattle.world_hosting.specs.OriginalRuns.{IsRewritten, Source, StaysOff, originals_for}

-- ---- ends that lines tell

-- an end by steps that didn't reach
abbrev pub is_spent : End → Bool
is_spent (StepsSpent steps) = true
is_spent _ = false

-- the program's steps didn't reach
abbrev pub ends_spent : Event → Bool
ends_spent (ended how) = is_spent how
ends_spent _ = false

-- an end by a trap while it unwound
abbrev pub is_unwound : End → Bool
is_unwound (UnwindTrap trap used len) = true
is_unwound _ = false

-- it trapped while it unwound
abbrev pub ends_unwound : Event → Bool
ends_unwound (ended how) = is_unwound how
ends_unwound _ = false

-- a line of the program of this number tells such an event
abbrev pub tells_any : (number : ℕ) → (Event → Bool) → List Line → Bool
tells_any number test lines = list_any (λ (l : Line). nat_eq l.program number && test l.event) lines

-- ---- what an original's run has

-- With these outcomes the original comes to an end within a cost whose bound is at most the program's number of steps.
pub record IsBounded (o : Original) (os : List Outcome) : Type 0 where
  pub cost : ℕ
  pub place : ℕ
  pub last : Note
  pub there : slice_get (expected_notes o.program.source o.settings o.program.plan os cost) place ≡ Some last
  pub is_last : is_end last.event ≡ true
  pub bound : Bound o.program.source cost (pause_stacks (Blocking o.program.source o.program.plan os cost).events) ≤ o.program.steps

-- Within this cost it pauses where the frames of its suspended stack take more room than its area has.
pub record PassesArea (o : Original) (os : List Outcome) (cost : ℕ) : Type 0 where
  pub place : ℕ
  pub call : Note
  pub ticks : ℕ
  pub there : slice_get (Blocking o.program.source o.program.plan os cost).events place ≡ Some call
  pub pauses : call.pause ≡ Some ticks
  pub passes : o.program.plan.area.len < Room o.program.source o.settings.policy call.stack

-- ---- the law

-- How the program of this number ends, that stands for this original, where its calls met these outcomes.
pub record EndsAs (o : Original) (os : List Outcome) (number : ℕ) (lines : List Line) : Type 0 where
  -- it doesn't break the protocol, and doesn't trap while it rewinds
  pub orderly : tells_any number ends_astray lines ≡ false
  -- its steps reach where its bound is within them
  pub whole : IsBounded o os → tells_any number ends_spent lines ≡ false
  -- it traps while it unwinds only where the frames take more room than there is,
  pub unwound : tells_any number ends_unwound lines ≡ true → PassesArea o os o.program.steps
  -- and does so there, as far as its steps reach for certain
  pub unwinds : (b : IsBounded o os) → PassesArea o os b.cost → tells_any number ends_unwound lines ≡ true

-- So ends each program over a rewritten module whose original touches no byte of its area with the outcomes that its calls met.
abbrev pub ToldEnds : Type 0
ToldEnds =
    (sources : List Source) (parts : List Part) (detaches : List Detach) (ds ds' : List Device) (lines : List Line) (number : ℕ) (o : Original) (a : Actor)
    → AllZip IsRewritten sources parts → (world : ProtocolWorld (world_programs parts) detaches ds lines ds')
    → slice_get (originals_for sources parts) number ≡ Some o → slice_get world.actors number ≡ Some a → StaysOff o a → EndsAs o (met a) number lines
