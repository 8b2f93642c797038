-- How programs with mailboxes over rewritten modules end, where their originals touch no byte of their areas.
use Rattle.std.specs.Prelude.{◌≡◌, ℕ, List, Some, true, false, slice_get}
use Rattle.std.specs.List.{AllZip}
use Rattle.wa_model.specs.declared.answers.Detach.{Detach}
use Rattle.wa_model.specs.Outside.{Line}
use Rattle.wa_model.specs.Plan.{Outcome}
use Rattle.world_model.specs.World.{Device, Original, Program}
use Rattle.world_laws.specs.Bounded.{ends_astray}
use Rattle.mail_laws.specs.MailOriginals.{RunsAsFar, met}
use Rattle.mail_laws.specs.MailWorld.{Actor, ProtocolWorld}
use Rattle.mail_laws.specs.Stalling.{stalls}
use Rattle.world_hosting.specs.Endings.{IsBounded, PassesArea, ends_spent, ends_unwound, tells_any}
use Rattle.world_hosting.specs.MailOriginalRuns.{TouchesNone}
use Rattle.world_hosting.specs.OriginalRuns.{IsRewritten, Source, originals_for}
use Rattle.world_hosting.specs.Worlds.{Part, world_programs}

-- How the program of this number ends, that stands for this original, where its calls met these outcomes. The last of them is a value that
-- nobody sent, where it waits for good.
pub record EndsOrStalls (o : Original) (os : List Outcome) (number : ℕ) (lines : List Line) : Type 0 where
  -- it doesn't break the protocol, and doesn't trap while it rewinds
  pub orderly : tells_any number ends_astray lines ≡ false
  -- its steps reach where its bound is within them
  pub whole : IsBounded o os → tells_any number ends_spent lines ≡ false
  -- it traps while it unwinds only where the frames take more room than there is,
  pub unwound : tells_any number ends_unwound lines ≡ true → PassesArea o os o.program.steps
  -- and does so there, as far as its steps reach for certain, unless it stalls
  pub unwinds : tells_any number stalls lines ≡ false → (b : IsBounded o os) → PassesArea o os b.cost → tells_any number ends_unwound lines ≡ true

-- So ends each program over a rewritten module whose original touches no byte of its area with the outcomes that its calls met: within its
-- steps, or, where it waits for good, up to its receive.
abbrev pub MailToldEnds : Type 0
MailToldEnds =
    (sources : List Source) (parts : List Part) (detaches : List Detach) (boxes : List (List ℕ)) (ds ds' : List Device) (lines : List Line) (number : ℕ) (o : Original) (w : Program) (a : Actor)
    → AllZip IsRewritten sources parts → (world : ProtocolWorld (world_programs parts) detaches boxes ds lines ds')
    → slice_get (originals_for sources parts) number ≡ Some o → slice_get (world_programs parts) number ≡ Some w → slice_get world.actors number ≡ Some a
    → RunsAsFar TouchesNone o w a → EndsOrStalls o (met a) number lines
