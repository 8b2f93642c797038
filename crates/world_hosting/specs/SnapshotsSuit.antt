-- A snapshot of programs that are set up suits them.
use Rattle.std.specs.Prelude.{◌≡◌, ◌≤◌, ◌<◌, ◌^◌, ℕ, List, All, true}
use Rattle.wa_types.specs.Modules.{imported, imported_global}
use Rattle.wa_types.specs.Validity.{Valid}
use Rattle.wa_model.specs.declared.answers.Detach.{Detach}
use Rattle.wa_model.specs.Outside.{AnswerLine, Line}
use Rattle.wa_model.specs.Plan.{AnswerFits}
use Rattle.world_model.specs.World.{Device, Program}
use Rattle.run_theory.specs.Fitting.{types_of, global_types}
use Rattle.run_laws.specs.FittingStates.{EntryTyped, ExportsTyped}
use Rattle.host_setup.specs.SetUp.{is_area_in, least_pages}
use Rattle.many_host.specs.Saving.{CanBeSaved}
use Rattle.snapshot_store.specs.Snapshots.{Snapshot}
use Rattle.world_laws.specs.Played.{ProtocolWorldUpToFrom}
use Rattle.world_laws.specs.Snapshots.{IsSnapshotOf}
use Rattle.world_hosting.specs.Suiting.{SnapshotSuits}

-- A program over a valid module with the five exports: its area lies inside the memory, what it is given has the types of the module's, it has no
-- more than 1,000,000,000 steps, and the numbers of its answers lie in the ranges of their types.
pub record IsSetUp (w : Program) : Type 0 where
  pub valid : Valid w.source
  pub exports : ExportsTyped w.source
  pub area : is_area_in (least_pages w.source) w.plan.area ≡ true
  pub globals : types_of w.plan.globals ≡ global_types (imported imported_global w.source)
  pub entries : All (EntryTyped w.source) w.plan.entries
  pub few_steps : w.steps ≤ 1000000000
  pub answers : All (λ (l : AnswerLine). AnswerFits l.answer) w.answers

-- Where such programs, none of which has bound imports, are played from their start up to an event before the 2^62nd, each snapshot of them suits
-- them.
abbrev pub SnapshotsSuit : Type 0
SnapshotsSuit =
    (begun : ℕ) (programs : List Program) (detaches : List Detach) (ds ds' : List Device) (number : ℕ) (lines : List Line) (s : Snapshot)
    → All IsSetUp programs → All CanBeSaved programs → number < 2 ^ 62
    → (world : ProtocolWorldUpToFrom begun programs detaches ds number lines ds') → IsSnapshotOf programs world.actors world.now number s → SnapshotSuits programs s
