-- What the written module has of the rewriting, and what is asked of the store that instantiation makes.
use Rattle.std.specs.Prelude.{◌≡◌, ℕ, ◌<◌, ◌≤◌, [], length, Some}
use Rattle.wa_types.specs.Modules.{func_sorts, func_type_at}
use Rattle.wa_types.specs.Runtime.{with_runtime}
use Rattle.wa_types.specs.Syntax.{Module}
use Rattle.wa_types.specs.Validity.{Valid}
use Rattle.wa_model.specs.Instantiation.{Opening, fails_as, opens}
use Rattle.wa_model.specs.Plan.{AreLawful}
use Rattle.wa_model.specs.Store.{Store}
use Rattle.guard_runs.specs.Alike.{Paired}
use Rattle.guard_runs.specs.RuntimeParts.{HasRuntime}
use Rattle.headline.specs.Given.{LetsPause}
use Rattle.headline.specs.World.{World, base, setting}

-- The written module has the parts of the original and of the runtime, and is paired with the flat one.
pub record Parts (w : World) : Type 0 where
  pub valid : Valid w.original
  pub runtime : HasRuntime w.original w.written
  pub paired : (top : ℕ) → Paired (setting w top)
  pub funcs : w.funcs ≡ length (func_sorts w.original)
  pub least : LetsPause w.plan → 8 ≤ w.plan.area.len
  pub few_tests : w.tests ≤ 5

-- The parts of a module that instantiation reads are the same.
pub record SameInstance (p q : Module) : Type 0 where
  pub imports : p.imports ≡ q.imports
  pub tables : p.tables ≡ q.tables
  pub memories : p.memories ≡ q.memories
  pub globals : p.globals ≡ q.globals
  pub elems : p.elems ≡ q.elems
  pub segments : p.segments ≡ q.segments

-- What the written module has of the rewriting, beside its functions.
pub record Whole (w : World) : Type 0 where
  pub parts : Parts w
  pub instance : SameInstance w.written (with_runtime w.original)
  pub start : w.written.start ≡ (w.original).start
  pub lawful : (x : ℕ) → (base w).start ≡ Some x → AreLawful (func_type_at (base w) x).params [] × (x < w.funcs)

-- What is asked of the first store beside.
abbrev pub FirstStore : (w : World) (G : Store → Type 0) → Opening → Type 0
FirstStore w G (fails_as e) = Unit {0}
FirstStore w G (opens s) = G s × (s.table ≡ w.table)
