use Rattle.script_command.proofs.StrandsPrinted.{no_strands_printed}
use Rattle.script_command.proofs.StrandsSetUp.{begins_no_strands}
use Rattle.script_command.proofs.strand_telling.host_strand_programs.Goals as goal

pub returns-in-Ok-clause-told : goal.returns-in-Ok-clause-told
returns-in-Ok-clause-told g c = λ programs h. c.tell_strand_hosting.ensures.told programs c.args.detaches.items (c.in-Ok.ensures.begins programs h)

pub returns-in-Ok-clause-part : goal.returns-in-Ok-clause-part
returns-in-Ok-clause-part g c = λ programs h. c.tell_strand_hosting.ensures.part programs c.args.detaches.items (c.in-Ok.ensures.begins programs h)

pub returns-in-Err-clause-part : goal.returns-in-Err-clause-part
returns-in-Err-clause-part g c = λ programs h. no_strands_printed programs c.args.detaches.items _ (begins_no_strands programs c.args.staged.items c.args.detaches.items _ h) _

pub tell_strand_hosting-requires-clause-begins : goal.tell_strand_hosting-requires-clause-begins
tell_strand_hosting-requires-clause-begins g c =
    let h = c.requires.staged in
    record { programs = h.0; detaches = c.args.detaches.items; begins = c.in-Ok.ensures.begins h.0 h.1 }
