-- A module's own reductions, without a host: stretches of them, and how they end.
use Rattle.std.specs.Prelude.{◌≡◌, ℕ, suc, ◌+◌, ◌≤◌, List, [], Bool, true, false}
use Rattle.wa_types.specs.declared.values.Value.{Value}
use Rattle.wa_types.specs.declared.values.Trap.{Trap}
use Rattle.wa_types.specs.Syntax.{Module}
use Rattle.wa_model.specs.Machine.{Turn, stops, goes, Leads}
use Rattle.wa_model.specs.Store.{Store}
use Rattle.wa_model.specs.Configuration.{Configuration}
use Rattle.wa_model.specs.Step.{Next, steps, asks, returns, traps, stuck, step}
use Rattle.wa_model.specs.Blocking.{Note}

-- a module alone goes on by reductions in its own code, where told, and stops at anything else
abbrev pub alone_next : Bool → Next → Turn Configuration Note
alone_next false o = stops
alone_next true (steps k d) = goes k [] d
alone_next true (asks k import args d) = stops
alone_next true (returns k values s) = stops
alone_next true (traps k trap s) = stops
alone_next true stuck = stops

-- The machine of a module alone, which goes on from the configurations that pass a test, such as one on the bytes that the
-- reduction touches. It makes no events.
abbrev pub alone : (Configuration → Bool) → Module → Configuration → Turn Configuration Note
alone ok m c = alone_next (ok c) (step m c)

-- the module goes by reductions of this total cost from one configuration to another
abbrev pub Goes : Module → Configuration → ℕ → Configuration → Type 0
Goes m c cost d = Leads (alone (λ c. true) m) c cost [] d

-- How the reductions from a configuration end, where they may cost so much: the outermost activation returned, a reduction
-- trapped, an import is called, or the next reduction would cost more than is left.
pub data Finish : Type 0 where
  it_returned : (values : List Value) → (store : Store) → Finish
  it_trapped : (trap : Trap) → (store : Store) → Finish
  it_asks : (import : ℕ) → (args : List Value) → (waits : Configuration) → Finish
  it_spent : (at : Configuration) → Finish

-- what stands next comes to this end, at this cost
abbrev pub FinishesAt : Next → (cost : ℕ) → Finish → Type 0
FinishesAt (returns k values s) cost end = (cost ≡ suc k) × (end ≡ it_returned values s)
FinishesAt (traps k trap s) cost end = (cost ≡ suc k) × (end ≡ it_trapped trap s)
FinishesAt (asks k import args d) cost end = (cost ≡ suc k) × (end ≡ it_asks import args d)
FinishesAt _ cost end = ⊥

-- what stands next costs more than is left
abbrev pub CostsAbove : Next → (left : ℕ) → Type 0
CostsAbove (steps k d) left = left ≤ k
CostsAbove (asks k import args d) left = left ≤ k
CostsAbove (returns k values s) left = left ≤ k
CostsAbove (traps k trap s) left = left ≤ k
CostsAbove stuck left = ⊥

-- From a configuration, with so much to pay, the reductions pay `used` and come to this end.
pub data EndsAs (m : Module) (c : Configuration) (left used : ℕ) (end : Finish) : Type 0 where
  by_finish : (j k : ℕ) (d : Configuration) → Goes m c j d → FinishesAt (step m d) k end → used ≡ j + k → used ≤ left → EndsAs m c left used end
  by_steps : (more : ℕ) (d : Configuration) → Goes m c used d → end ≡ it_spent d → left ≡ used + more → CostsAbove (step m d) more → EndsAs m c left used end
