-- Laws on the way to the headline that name no relation of flattening.
use Rattle.std.specs.Prelude.{◌≡◌, ℕ}
use Rattle.wa_types.specs.Syntax.{Module}
use Rattle.wa_types.specs.declared.values.Trap.{Trap}
use Rattle.wa_model.specs.Configuration.{Configuration}
use Rattle.wa_model.specs.Step.{traps, step}
use Rattle.wa_model.specs.Store.{Store}
use Rattle.headline.specs.Emitted.{Parts}
use Rattle.headline.specs.StoreLaws.{StoreLaws}
use Rattle.headline.specs.World.{World, WorldFits}

-- A reduction that traps leaves the store as it was.
abbrev pub TrapsKeepStores : Type 0
TrapsKeepStores = (p : Module) (c : Configuration) (k : ℕ) (t : Trap) (s : Store) → step p c ≡ traps k t s → s ≡ c.store

-- Stores that belong together stay together.
abbrev pub StoresStayTogether : Type 0
StoresStayTogether = (w : World) → StoreLaws w

-- A module with the parts of a rewriting meets what its runs are compared by.
abbrev pub PartsFit : Type 0
PartsFit = (w : World) → Parts w → WorldFits w
