-- How a run of the interpreter stops.
use Rattle.std.specs.Prelude.{◌≡◌, ℕ, ◌+◌, ◌-◌}
use Rattle.std.specs.Option.{option_to_list}
use Rattle.wa_types.specs.Syntax.{Module}
use Rattle.wa_model.specs.Store.{Store}
use Rattle.wa_model.specs.Configuration.{Configuration}
use Rattle.wa_model.specs.Step.{step}
use Rattle.run_theory.specs.Alone.{Goes, it_returned, it_trapped, it_asks, it_spent, EndsAs}
use Rattle.interp.specs.declared.run.Stop.{Stop}
use Rattle.interp.specs.declared.run.Stop.TheVariants.{Returned, Trapped, Asked, Spent}
use Rattle.interp.specs.StackRooms.{TakesMemory, paid_for}
use Rattle.interp_state.specs.View.{taking}
use Rattle.interp.specs.Told.{args_below}

-- the next reduction costs more than is left
pub record EndsSpent (m : Module) (c : Configuration) (left used : ℕ) (d : Configuration) : Type 0 where
  pub at : Configuration
  pub store_is : at.store ≡ d.store
  pub ends : EndsAs m c left used (it_spent at)

-- where a run that began at c stopped: the configuration d, with which it stands
abbrev pub RunsTo : Module → Configuration → (left used : ℕ) → Stop → Configuration → Type 0
RunsTo m c left used (Returned value) d = EndsAs m c left used (it_returned (option_to_list value) d.store)
RunsTo m c left used (Trapped trap) d = EndsAs m c left used (it_trapped trap d.store)
RunsTo m c left used (Asked import own taken) d = EndsAs m c left used (it_asks import (args_below own (taken - own) d) (taking taken d))
RunsTo m c left used Spent d = EndsSpent m c left used d

-- Where want of memory stopped a run that began at c: reductions led to a configuration with this store, and there a
-- call, or an instruction that grows the memory, stands next. Their cost is all that was paid, but that the call of an
-- import is paid too.
pub record LacksAt (m : Module) (c : Configuration) (used : ℕ) (s : Store) : Type 0 where
  pub at : Configuration
  pub cost : ℕ
  pub goes : Goes m c cost at
  pub takes : TakesMemory at.here.code
  pub paid : used ≡ cost + paid_for (step m at)
  pub store_is : at.store ≡ s
