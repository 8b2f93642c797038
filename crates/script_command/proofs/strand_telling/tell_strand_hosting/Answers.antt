use Rattle.std.proofs.Common.{sym, subst, List}
use Rattle.std.specs.Global.{Vec}
use Rattle.transcript.specs.declared.events.Names.{Names}
use Rattle.script_command.specs.StrandParts.{BeginsStrands}
use Rattle.script_command.proofs.strand_telling.tell_strand_hosting.Goals as goal

pub returns-clause-told : goal.returns-clause-told
returns-clause-told g c = λ programs detaches b.
    c.tell_strand_lines-told.ensures.told programs detaches (subst (λ (ns : List (Vec Names)). BeginsStrands programs detaches c.args.hosting.host ns) (sym c.deref.ensures.value) b)

pub returns-clause-part : goal.returns-clause-part
returns-clause-part g c = λ programs detaches b.
    c.tell_strand_lines-told.ensures.part programs detaches (subst (λ (ns : List (Vec Names)). BeginsStrands programs detaches c.args.hosting.host ns) (sym c.deref.ensures.value) b)
