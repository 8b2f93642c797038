-- Worlds of strands over rewritten modules, and the same worlds of their originals, whose imports block.
use Rattle.std.specs.Prelude.{◌≡◌, ◌≤◌, ℕ, List, map, Bool, false, All}
use Rattle.std.specs.List.{AllZip}
use Rattle.wa_types.specs.Bounds.{Bound}
use Rattle.wa_types.specs.Syntax.{Module}
use Rattle.wa_types.specs.Pausing.{Settings, TellsMayPause}
use Rattle.wa_types.specs.Runtime.{global_space}
use Rattle.wa_types.specs.Sizes.{WellFormed}
use Rattle.wa_model.specs.declared.answers.Area.{Area}
use Rattle.wa_model.specs.declared.answers.Detach.{Detach}
use Rattle.wa_model.specs.Behaves.{pause_stacks}
use Rattle.wa_model.specs.Blocking.{overlap}
use Rattle.wa_model.specs.Plan.{Outcome}
use Rattle.world_model.specs.World.{Actor, Device, Look}
use Rattle.run_theory.specs.Quiet.{FreeOfNames}
use Rattle.emitted_form.specs.EmittedAs.{EmittedAs}
use Rattle.emitted_form.specs.PolicyLaws.{CanBeEmitted}
use Rattle.strand_laws.specs.Strands.{BlockingStrands, SameOff, StrandProgram, StrandsBehave, StrandsCompared, StrandsNumbered, areas_of, events_told, with_source}
use Rattle.strand_laws.specs.StrandsMet.{met_in}
use Rattle.strand_laws.specs.StrandWorld.{BlockingStrandWorld, HeldStrands, IsFinished, ProtocolStrandWorld, Staged, StrandLine, StrandOriginal, StrandsInWorld, StrungStrands}
use Rattle.strand_laws.specs.Woven.{Told, notes_told}

-- ---- the programs

-- A module that is the original's, rewritten, as far as strands see it: it has the same imports, and its strands behave.
pub record StrandsRewritten (m : Module) (s : Settings) (p : Module) : Type 0 where
  pub imports : p.imports ≡ m.imports
  pub behave : StrandsBehave m s p

-- What is emitted is such a module, under both policies.
abbrev pub EmittedAreRewritten : Type 0
EmittedAreRewritten = (m : Module) (s : Settings) (told : List Bool) (q : Module) → CanBeEmitted m s told → FreeOfNames m → EmittedAs m s told q → StrandsRewritten m s q

-- A program with strands that stands in for an original: its module is the original's, rewritten, and it is given the same.
pub record StrandsStandIn (o : StrandOriginal) (w : StrandsInWorld) : Type 0 where
  pub rewritten : StrandsRewritten o.program.program.source o.settings w.program.source
  pub program : w.program ≡ with_source o.program.program w.program.source
  pub steps : w.steps ≡ o.program.steps
  pub answers : w.answers ≡ o.program.answers
  pub binds : w.binds ≡ o.program.binds
  pub looks : w.looks ≡ o.program.looks

-- a look shows no byte of these areas
abbrev pub LooksOff : List Area → Look → Type 0
LooksOff areas x = All (λ (a : Area). overlap x.at x.len a.at a.len ≡ false) areas

-- What is asked of an original: its numbers lie in the ranges of their types, and what is shown lies off the areas of all its strands.
pub record StrandsMayRun (o : StrandOriginal) : Type 0 where
  pub well_formed : WellFormed o.program.program.source
  pub looks : All (LooksOff (areas_of o.program.program)) o.program.looks

-- Within its steps the original's strands with these outcomes are such as are compared, and their pauses find each activation at a
-- numbered call of a function that may pause. `which` tells those functions.
pub record StrandsOrderly (o : StrandOriginal) (oss : List (List Outcome)) : Type 0 where
  pub compared : StrandsCompared o.settings o.program.program oss o.program.steps
  pub which : List Bool
  pub tells : TellsMayPause o.program.program.source o.settings which
  pub numbered : StrandsNumbered o.settings which o.program.program oss o.program.steps

-- Where `call_indirect` isn't ignored the latter always holds.
abbrev pub ComparedAreOrderly : Type 0
ComparedAreOrderly =
    (o : StrandOriginal) (oss : List (List Outcome)) (which : List Bool) → TellsMayPause o.program.program.source o.settings which → o.settings.ignore_indirect ≡ false
    → StrandsCompared o.settings o.program.program oss o.program.steps → StrandsOrderly o oss

-- ---- laws

-- Notes of the original's strands and of the rewritten module's: one event of one strand, and stores that agree outside all areas.
pub record SameStrandMoment (g : StrandProgram) (x y : Told) : Type 0 where
  pub strand : x.strand ≡ y.strand
  pub event : x.note.event ≡ y.note.event
  pub ends : SameOff (global_space g.source) (areas_of g) x.note.store y.note.store

-- What the strands of the rewritten module tell in the protocol world those of its original can tell in the blocking one.
abbrev pub StrandStoriesOfOriginals : Type 0
StrandStoriesOfOriginals =
    (o : StrandOriginal) (w : StrandsInWorld) (oss : List (List Outcome)) (ts : List Told) → StrandsStandIn o w → StrandsMayRun o → StrandsOrderly o oss → HeldStrands w oss ts
    → (us : List Told) × StrungStrands o.settings o.program oss us × AllZip (SameStrandMoment o.program.program) us ts

-- The original's strands end within a cost whose bound is within the steps.
pub record StrandsBounded (o : StrandOriginal) (oss : List (List Outcome)) : Type 0 where
  pub cost : ℕ
  pub over : IsFinished (BlockingStrands o.settings o.program.program oss cost).last
  pub within : Bound o.program.program.source cost (pause_stacks (notes_told (BlockingStrands o.settings o.program.program oss cost).events)) ≤ o.program.steps

-- Then those of the rewritten module tell all their events.
abbrev pub BoundedStrandsEnd : Type 0
BoundedStrandsEnd =
    (o : StrandOriginal) (w : StrandsInWorld) (oss : List (List Outcome)) (ts : List Told) → StrandsStandIn o w → StrandsMayRun o → StrandsOrderly o oss → HeldStrands w oss ts
    → (b : StrandsBounded o oss) → events_told ts ≡ events_told (BlockingStrands o.settings o.program.program oss b.cost).events

-- the outcomes of a program's strands in a world
abbrev pub outcomes_in : Staged → List (List Outcome)
outcomes_in x = map (λ (a : Actor). a.outcomes) x.actors

-- So the lines and devices of a run of the protocol world of strands over rewritten modules are those of a run of the blocking world
-- of strands over their originals, for any number of programs, where those run orderly with the outcomes that were met.
abbrev pub StrandWorldsOfOriginals : Type 0
StrandWorldsOfOriginals =
    (originals : List StrandOriginal) (programs : List StrandsInWorld) (detaches : List Detach) (ds ds' : List Device) (lines : List StrandLine)
    → AllZip StrandsStandIn originals programs → All StrandsMayRun originals → (world : ProtocolStrandWorld programs detaches ds lines ds')
    → AllZip (λ (o : StrandOriginal) (x : Staged). StrandsOrderly o (met_in x)) originals world.staged → BlockingStrandWorld originals detaches ds lines ds'

-- And the other way, where each original's strands are bounded so: a run of the blocking world is one of the protocol world.
abbrev pub BoundedWorldsAreHeld : Type 0
BoundedWorldsAreHeld =
    (originals : List StrandOriginal) (programs : List StrandsInWorld) (detaches : List Detach) (ds ds' : List Device) (lines : List StrandLine)
    → AllZip StrandsStandIn originals programs → All StrandsMayRun originals → (world : BlockingStrandWorld originals detaches ds lines ds')
    → AllZip (λ (o : StrandOriginal) (x : Staged). StrandsOrderly o (outcomes_in x) × StrandsBounded o (outcomes_in x)) originals world.staged → ProtocolStrandWorld programs detaches ds lines ds'
