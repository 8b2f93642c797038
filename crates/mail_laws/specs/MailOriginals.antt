-- Worlds with mailboxes of rewritten modules, and the same worlds of their originals, whose imports block.
use Rattle.std.specs.Prelude.{◌≡◌, ◌≤◌, ℕ, ◌++◌, List, Some, take, true, All, slice_get}
use Rattle.std.specs.List.{AllZip}
use Rattle.wa_types.specs.Runtime.{global_space}
use Rattle.wa_model.specs.declared.answers.Detach.{Detach}
use Rattle.wa_model.specs.Outside.{Line}
use Rattle.wa_model.specs.Plan.{Outcome, OutcomeFits}
use Rattle.wa_model.specs.Blocking.{Note}
use Rattle.world_model.specs.World.{Device, Original, Program, protocol_story}
use Rattle.world_laws.specs.Originals.{MayRun, Orderly, SameMoment, StandsIn, new_calls}
use Rattle.world_laws.specs.UntoldWorlds.{MayRunUntold, OrderlyUntold}
use Rattle.mail_laws.specs.MailWorld.{Actor, BlockingWorld, ProtocolWorld, StoryOrCut, pauses}

-- The outcomes that an actor's calls will meet: where it waits for good, the last is a value that nobody sends. What its list has behind
-- them no call will meet.
abbrev pub met : Actor → List Outcome
met a = take (new_calls a.notes) a.outcomes

-- ---- how far an original has to run orderly

-- the same program with so many steps
abbrev pub with_steps : ℕ → Program → Program
with_steps n w = record w { steps = n }

-- the same original with so many
abbrev pub within : ℕ → Original → Original
within n o = record o { program = with_steps n o.program }

-- An original runs as is asked, with the outcomes that an actor of its rewritten module meets: within its steps, or, where that waits for
-- good, within some number of steps in which the rewritten module comes to its receive. What the original would do later isn't asked.
pub data RunsAsFar (Runs : Original → List Outcome → Type 0) (o : Original) (w : Program) (a : Actor) : Type 0 where
  to_its_end : Runs o (met a) → RunsAsFar Runs o w a
  to_its_receive : (n : ℕ) (rest : List Note) → n ≤ o.program.steps → protocol_story (with_steps n w) (met a) ≡ a.notes ++ rest → pauses a.notes ≡ true
      → Runs (within n o) (met a) → RunsAsFar Runs o w a

-- each original of a world does
abbrev pub AllRunAsFar : (Original → List Outcome → Type 0) → List Original → List Program → List Actor → Type 0
AllRunAsFar Runs originals programs actors =
    (i : ℕ) (o : Original) (w : Program) (a : Actor) → slice_get originals i ≡ Some o → slice_get programs i ≡ Some w → slice_get actors i ≡ Some a → RunsAsFar Runs o w a

-- ---- laws

-- A story of the rewritten module that is cut where it waits is one of its original with blocking imports, which runs orderly within
-- some number of steps in which the rewritten module has made it.
abbrev pub CutStoriesOfOriginals : Type 0
CutStoriesOfOriginals =
    (o : Original) (w : Program) (os : List Outcome) (notes rest : List Note) (n : ℕ) → StandsIn o w → MayRun o → All OutcomeFits os → n ≤ o.program.steps
    → Orderly (within n o) os → protocol_story (with_steps n w) os ≡ notes ++ rest → pauses notes ≡ true
    → (expected : List Note) × StoryOrCut o.settings o.program os expected × AllZip (SameMoment (global_space o.program.source) o.program.plan.area) expected notes

-- So the lines and devices of a run of the protocol world over rewritten modules are those of a run of the blocking world over their
-- originals, where those run orderly as far as that goes.
abbrev pub MailWorldsOfOriginals : Type 0
MailWorldsOfOriginals =
    (originals : List Original) (programs : List Program) (detaches : List Detach) (boxes : List (List ℕ)) (ds ds' : List Device) (lines : List Line)
    → AllZip StandsIn originals programs → All MayRun originals → (world : ProtocolWorld programs detaches boxes ds lines ds')
    → AllRunAsFar Orderly originals programs world.actors → BlockingWorld originals detaches boxes ds lines ds'

-- So it is where plans tell no list of imports, as a host's do: a cut story is one of its original,
abbrev pub CutStoriesUntold : Type 0
CutStoriesUntold =
    (o : Original) (w : Program) (os : List Outcome) (notes rest : List Note) (n : ℕ) → StandsIn o w → MayRunUntold o → All OutcomeFits os → n ≤ o.program.steps
    → OrderlyUntold (within n o) os → protocol_story (with_steps n w) os ≡ notes ++ rest → pauses notes ≡ true
    → (expected : List Note) × StoryOrCut o.settings o.program os expected × AllZip (SameMoment (global_space o.program.source) o.program.plan.area) expected notes

-- and so are the lines and devices of a world.
abbrev pub MailWorldsUntold : Type 0
MailWorldsUntold =
    (originals : List Original) (programs : List Program) (detaches : List Detach) (boxes : List (List ℕ)) (ds ds' : List Device) (lines : List Line)
    → AllZip StandsIn originals programs → All MayRunUntold originals → (world : ProtocolWorld programs detaches boxes ds lines ds')
    → AllRunAsFar OrderlyUntold originals programs world.actors → BlockingWorld originals detaches boxes ds lines ds'
