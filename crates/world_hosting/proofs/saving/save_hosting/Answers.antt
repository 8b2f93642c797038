use Rattle.std.proofs.Common.{sym, subst, List}
use Rattle.transcript.specs.declared.events.Names.{Names}
use Rattle.world_hosting.specs.Parted.{Begins}
use Rattle.world_hosting.specs.Worlds.{world_programs}
use Rattle.world_hosting.proofs.saving.save_hosting.Goals as goal

pub returns-clause-told : goal.returns-clause-told
returns-clause-told g c = λ parts detaches b.
    c.save_lines-saved.ensures.told parts detaches (subst (λ (ns : List Names). Begins 0 (world_programs parts) parts detaches c.args.hosting.host ns) (sym c.deref.ensures.value) b)

pub returns-clause-part : goal.returns-clause-part
returns-clause-part g c = λ parts detaches b.
    c.save_lines-saved.ensures.part parts detaches (subst (λ (ns : List Names). Begins 0 (world_programs parts) parts detaches c.args.hosting.host ns) (sym c.deref.ensures.value) b)
