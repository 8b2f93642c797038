-- What a strand whose turn it is tells next.
use Rattle.std.specs.Prelude.{◌≡◌, ℕ, All}
use Rattle.wa_model.specs.View.{event_of}
use Rattle.wa_model.specs.Store.{Store}
use Rattle.wa_model.specs.Blocking as B
use Rattle.wa_model.specs.Blocking.{Note}
use Rattle.wa_model.specs.Protocol.{exports_of}
use Rattle.world_model.specs.World.{Program}
use Rattle.interp.specs.Instance.{Waits}
use Rattle.host_laws.specs.Places.{Place, TellsFrom}
use Rattle.host_laws.specs.Supplies.{Supply}
use Rattle.pause_host.specs.Moves.{HasShortPokes}
use Rattle.pause_host.specs.Views.{place_in}
use Rattle.pause_host.specs.declared.stages.Moved.{Moved}

-- A program of a world told this event next, at which this store stands, and is where the stage stands that it leads to: a new call took what it took
-- of answer lines and devices.
pub record MovesOn (w : Program) (from : Place) (left used : ℕ) (m : Moved) (old new : Supply) (l : B.Left) (s : Store) (waits : Waits) : Type 0 where
  pub note : Note
  pub event_is : note.event ≡ event_of m.event
  pub store_is : note.store ≡ s
  pub tells : TellsFrom w from left old note used new (place_in (exports_of w.source) w.plan.area l s waits m.stage)
  pub pokes : All HasShortPokes old.lines → All HasShortPokes new.lines
