-- What is told of programs with mailboxes over rewritten modules, as a run of their originals.
use Rattle.std.specs.Prelude.{ℕ, List}
use Rattle.std.specs.List.{AllZip}
use Rattle.wa_model.specs.declared.answers.Detach.{Detach}
use Rattle.wa_model.specs.Outside.{Line}
use Rattle.wa_model.specs.Plan.{Outcome}
use Rattle.wa_model.specs.Untouched.{Untouched}
use Rattle.world_model.specs.World.{Device, Original}
use Rattle.mail_laws.specs.MailOriginals.{AllRunAsFar}
use Rattle.mail_laws.specs.MailWorld.{BlockingWorld, ProtocolWorld}
use Rattle.world_hosting.specs.OriginalRuns.{IsRewritten, Source, originals_for}
use Rattle.world_hosting.specs.Worlds.{Part, world_programs}

-- with these outcomes, within its steps, the original touches no byte of its area
abbrev pub TouchesNone : Original → List Outcome → Type 0
TouchesNone o os = Untouched o.program.source o.program.plan os o.program.steps

-- What is told of programs over rewritten modules are the lines of a run of the blocking world with mailboxes of their originals, with the
-- same devices, where each original touches no byte of its area: within its steps, or, where its program waits for good, up to its receive.
abbrev pub MailToldOfOriginals : Type 0
MailToldOfOriginals =
    (sources : List Source) (parts : List Part) (detaches : List Detach) (boxes : List (List ℕ)) (ds ds' : List Device) (lines : List Line)
    → AllZip IsRewritten sources parts → (world : ProtocolWorld (world_programs parts) detaches boxes ds lines ds')
    → AllRunAsFar TouchesNone (originals_for sources parts) (world_programs parts) world.actors → BlockingWorld (originals_for sources parts) detaches boxes ds lines ds'
