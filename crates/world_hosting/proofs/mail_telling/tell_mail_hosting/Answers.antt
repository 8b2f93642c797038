use Rattle.std.proofs.Common.{sym, subst, List}
use Rattle.transcript.specs.declared.events.Names.{Names}
use Rattle.world_hosting.specs.Parted.{BeginsMail}
use Rattle.world_hosting.proofs.mail_telling.tell_mail_hosting.Goals as goal

pub returns-clause-told : goal.returns-clause-told
returns-clause-told g c = λ parts detaches boxes b empty.
    c.tell_mail_lines-told.ensures.told parts detaches boxes (subst (λ (ns : List Names). BeginsMail parts detaches boxes c.args.hosting.host ns) (sym c.deref.ensures.value) b) empty

pub returns-clause-part : goal.returns-clause-part
returns-clause-part g c = λ parts detaches boxes b empty.
    c.tell_mail_lines-told.ensures.part parts detaches boxes (subst (λ (ns : List Names). BeginsMail parts detaches boxes c.args.hosting.host ns) (sym c.deref.ensures.value) b) empty
