use Rattle.std.proofs.Common.{sym, subst, List}
use Rattle.transcript.specs.declared.events.Names.{Names}
use Rattle.world_hosting.specs.Parted.{Begins}
use Rattle.world_hosting.proofs.telling.tell_hosting.Goals as goal

pub returns-clause-told : goal.returns-clause-told
returns-clause-told g c = λ earlier programs parts detaches b.
    c.tell_lines-told.ensures.told earlier programs parts detaches (subst (λ (ns : List Names). Begins earlier programs parts detaches c.args.hosting.host ns) (sym c.deref.ensures.value) b)

pub returns-clause-part : goal.returns-clause-part
returns-clause-part g c = λ earlier programs parts detaches b.
    c.tell_lines-told.ensures.part earlier programs parts detaches (subst (λ (ns : List Names). Begins earlier programs parts detaches c.args.hosting.host ns) (sym c.deref.ensures.value) b)
