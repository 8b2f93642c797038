-- How programs of the blocking world end.
use Rattle.std.specs.Prelude.{◌≡◌, ◌≤◌, ℕ, List, Some, Bool, true, false, All, slice_get}
use Rattle.std.specs.List.{AllZip}
use Rattle.wa_types.specs.Pausing.{Settings}
use Rattle.wa_types.specs.Bounds.{Bound}
use Rattle.wa_model.specs.declared.answers.Detach.{Detach}
use Rattle.wa_model.specs.declared.events.End.{End}
use Rattle.wa_model.specs.declared.events.End.TheVariants.{RewindTrap, Broken}
use Rattle.wa_model.specs.Outside.{Event, ended, Line}
use Rattle.wa_model.specs.Plan.{Outcome}
use Rattle.wa_model.specs.Blocking.{Note, Blocking}
use Rattle.wa_model.specs.Behaves.{pause_stacks, expected_notes}
use Rattle.world_model.specs.World.{Device, Program, Actor, is_end, BlockingStory, ProtocolWorld, Original}
use Rattle.world_laws.specs.Originals.{StandsIn, MayRun, met, Orderly}

-- Where an original comes to an end within a cost whose bound is at most the program's number of steps, its story is what is
-- expected of it up to there: it doesn't end as StepsSpent.
abbrev pub BoundedAreWhole : Type 0
BoundedAreWhole =
    (s : Settings) (w : Program) (os : List Outcome) (notes : List Note) (cost i : ℕ) (x : Note) → BlockingStory s w os notes
    → slice_get (expected_notes w.source s w.plan os cost) i ≡ Some x → is_end x.event ≡ true → Bound w.source cost (pause_stacks (Blocking w.source w.plan os cost).events) ≤ w.steps
    → notes ≡ expected_notes w.source s w.plan os cost

-- the end of a module that breaks the protocol, or traps while it rewinds
abbrev pub is_astray : End → Bool
is_astray (RewindTrap trap) = true
is_astray (Broken rule) = true
is_astray _ = false

-- an event that is such an end
abbrev pub ends_astray : Event → Bool
ends_astray (ended how) = is_astray how
ends_astray _ = false

-- No rewritten module that stands in for an original which runs orderly does so.
abbrev pub NoneAstray : Type 0
NoneAstray =
    (originals : List Original) (programs : List Program) (detaches : List Detach) (ds ds' : List Device) (lines : List Line)
    → AllZip StandsIn originals programs → All MayRun originals → (world : ProtocolWorld programs detaches ds lines ds')
    → AllZip (λ (o : Original) (a : Actor). Orderly o (met a)) originals world.actors → All (λ (l : Line). ends_astray l.event ≡ false) lines
