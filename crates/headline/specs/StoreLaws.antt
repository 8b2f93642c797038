-- Stores that belong together.
use Rattle.std.specs.Prelude.{◌≡◌, ℕ, suc, ◌+◌, ◌^◌, ◌<◌, ◌≤◌, [], ◌∷◌, length, None}
use Rattle.wa_types.specs.Runtime.{global_space}
use Rattle.wa_types.specs.declared.values.Trap.{Trap}
use Rattle.wa_model.specs.Behaves.{AreaKept}
use Rattle.wa_model.specs.Blocking.{bad_poke, poked}
use Rattle.wa_model.specs.Configuration.{Configuration}
use Rattle.wa_model.specs.Expected.{SameEnd}
use Rattle.wa_model.specs.Outside.{Answer}
use Rattle.wa_model.specs.Protocol.{with_words}
use Rattle.wa_model.specs.Step.{traps, step}
use Rattle.wa_model.specs.Store.{Store}
use Rattle.frame_laws.specs.FrameMemory.{Lowered}
use Rattle.guard_runs.specs.Alike.{Alike}
use Rattle.guard_runs.specs.Pause.{AreaReady, SameAround}
use Rattle.headline.specs.World.{World, setting}

-- Stores of the flat and of the written module that belong together stay together: under pokes that pass, behind a pause, and
-- whichever function the host called. What they have in common with the original is the same outside the area.
pub record StoreLaws (w : World) : Type 0 where
  pub same_end : (top : ℕ) (s s' : Store) → Alike (setting w top) s s' → SameEnd (global_space w.original) w.plan.area s s'
  pub poked_too : (top : ℕ) (s s' : Store) (a : Answer) → Alike (setting w top) s s'
      → bad_poke (length s.memory) (w.plan.area ∷ []) a.pokes ≡ None → Alike (setting w top) (poked s a.pokes) (poked s' a.pokes)
  pub poked_area : (s t : Store) (a : Answer) → Lowered w.plan.area (w.plan.area.at + 8) s.memory t.memory
      → 8 ≤ w.plan.area.len → bad_poke (length t.memory) (w.plan.area ∷ []) a.pokes ≡ None → AreaKept w.plan.area s (poked t a.pokes)
  pub around : (top : ℕ) (s s' t : Store) → Alike (setting w top) s s'
      → SameAround (global_space w.original) (suc (global_space w.original)) w.plan.area s' t → Alike (setting w top) s t
  pub words : (s : Store) → 8 ≤ w.plan.area.len → w.plan.area.at + w.plan.area.len ≤ length s.memory
      → SameEnd (global_space w.original) w.plan.area s (with_words s w.plan.area)
  pub trapped : (c : Configuration) (k : ℕ) (t : Trap) (s : Store) → step w.written c ≡ traps k t s → s ≡ c.store
  pub ready : (top : ℕ) (s s' : Store) → Alike (setting w top) s s'
      → 8 ≤ w.plan.area.len → length s.memory < 2 ^ 32 → AreaReady (global_space w.original) (global_space w.original) (suc (global_space w.original)) w.plan.area s'
