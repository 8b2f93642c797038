use Rattle.world_hosting.specs.Parted.{shows_from}
use Rattle.world_hosting.specs.Worlds.{world_programs}
use Rattle.world_hosting.proofs.MailBegun.{begins_no_mail}
use Rattle.world_hosting.proofs.MailPrinted.{mail_none_printed}
use Rattle.world_hosting.proofs.SetUp.{are_set_up, none_wait}
use Rattle.world_hosting.proofs.mail_telling.host_mail_programs.Goals as goal

pub returns-in-Ok-host_staged-clause-told : goal.returns-in-Ok-host_staged-clause-told
returns-in-Ok-host_staged-clause-told g c = λ parts h.
    c.tell_mail_hosting.ensures.told parts c.args.detaches.items c.args.mailboxes.items (c.in-Ok-host_staged.ensures.mail parts c.args.mailboxes.items h) c.in-Ok.ensures.empty

pub returns-in-Ok-host_staged-clause-part : goal.returns-in-Ok-host_staged-clause-part
returns-in-Ok-host_staged-clause-part g c = λ parts h.
    c.tell_mail_hosting.ensures.part parts c.args.detaches.items c.args.mailboxes.items (c.in-Ok-host_staged.ensures.mail parts c.args.mailboxes.items h) c.in-Ok.ensures.empty

pub returns-in_default-clause-part : goal.returns-in_default-clause-part
returns-in_default-clause-part g c = λ parts h.
    mail_none_printed parts c.args.detaches.items c.args.mailboxes.items _
    (begins_no_mail (world_programs parts) (shows_from 0 c.args.staged.items) _ c.args.detaches.items c.args.mailboxes.items _ (are_set_up parts c.args.staged.items h) (none_wait parts c.args.staged.items h)) _

pub returns-clause-part : goal.returns-clause-part
returns-clause-part g c = λ parts h.
    mail_none_printed parts c.args.detaches.items c.args.mailboxes.items _
    (begins_no_mail (world_programs parts) (shows_from 0 c.args.staged.items) _ c.args.detaches.items c.args.mailboxes.items _ (are_set_up parts c.args.staged.items h) (none_wait parts c.args.staged.items h)) _

pub tell_mail_hosting-requires-clause-begins : goal.tell_mail_hosting-requires-clause-begins
tell_mail_hosting-requires-clause-begins g c =
    let h = c.requires.staged in
    record { parts = h.0; detaches = c.args.detaches.items; boxes = c.args.mailboxes.items; begins = c.in-Ok-host_staged.ensures.mail h.0 c.args.mailboxes.items h.1; empty = c.in-Ok.ensures.empty }
