-- Worlds that are played up to an event by rewritten modules, and gone on with from a snapshot by others, as worlds of their originals.
use Rattle.std.specs.Prelude.{◌≡◌, ℕ, List, [], ◌∷◌, ◌++◌, Some, Bool, All, slice_get}
use Rattle.wa_model.specs.declared.answers.Detach.{Detach}
use Rattle.wa_model.specs.Outside.{Line}
use Rattle.wa_model.specs.Plan.{Outcome}
use Rattle.world_model.specs.World.{Actor, BlockingWorld, Device, Original, Program, ProtocolWorldFrom}
use Rattle.run_theory.specs.Quiet.{FreeOfNames}
use Rattle.snapshot_store.specs.Snapshots.{Snapshot}
use Rattle.world_laws.specs.Originals.{MayRun, Orderly, StandsIn, met}
use Rattle.world_laws.specs.Played.{ProtocolWorldUpTo}
use Rattle.world_laws.specs.Snapshots.{From, IsSnapshotOf}
use Rattle.emitted_form.specs.EmittedAs.{EmittedAs}
use Rattle.emitted_form.specs.PolicyLaws.{CanBeEmitted}

-- Two programs over modules that are emitted of one original, each in its place: the first is saved, the second goes on. Their modules
-- needn't be the same.
pub record GoesOver (o : Original) (w v : Program) : Type 0 where
  pub which : List Bool
  pub can : CanBeEmitted o.program.source o.settings which
  pub free : FreeOfNames o.program.source
  pub saved : EmittedAs o.program.source o.settings which w.source
  pub continued : EmittedAs o.program.source o.settings which v.source
  pub first : StandsIn o w
  pub second : StandsIn o v

-- so each original's
abbrev pub AllGoOver : List Original → List Program → List Program → Type 0
AllGoOver [] [] [] = Unit {0}
AllGoOver (o ∷ os) (w ∷ ws) (v ∷ vs) = GoesOver o w v × AllGoOver os ws vs
AllGoOver _ _ _ = ⊥

-- Each original runs orderly with the outcomes that were met up to the save, and those that were met behind it.
abbrev pub AreOrderly : List Original → (was now next : List Actor) → Type 0
AreOrderly originals was now next =
    (i : ℕ) (o : Original) (a b c : Actor) → slice_get originals i ≡ Some o → slice_get was i ≡ Some a → slice_get now i ≡ Some b → slice_get next i ≡ Some c
    → (before : List Outcome) → a.outcomes ≡ before ++ b.outcomes → Orderly o (before ++ met c)

-- The lines of a world of rewritten modules up to an event, and those of a world that goes on from its snapshot over rewritten modules of the
-- same originals, are together those of a run of the blocking world over the originals, where those run orderly.
abbrev pub JoinedWorldsOfOriginals : Type 0
JoinedWorldsOfOriginals =
    (originals : List Original) (programs others : List Program) (detaches : List Detach) (ds ds' last : List Device) (number : ℕ) (lines more : List Line) (s : Snapshot)
    → AllGoOver originals programs others → All MayRun originals
    → (world : ProtocolWorldUpTo programs detaches ds number lines ds') → IsSnapshotOf programs world.actors world.now number s
    → (next : ProtocolWorldFrom s.events (From s others) detaches ds' more last) → AreOrderly originals world.actors world.now next.actors
    → BlockingWorld originals detaches ds (lines ++ more) last
