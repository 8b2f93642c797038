use Rattle.std.proofs.Common.{ap, ◌||◌, ◌∙◌}
use Rattle.std.specs.Str.{bytes_eq}
use Rattle.script_setup.specs.MailNames.{has_name}
use Rattle.script_setup.proofs.Misbound.{all_boxes, next_box}
use Rattle.script_setup.proofs.mail.box_names.Goals as goal

pub loop-mailbox-preserved : goal.loop-mailbox-preserved
loop-mailbox-preserved c =
    next_box (has_name c.loop-mailbox.names) (has_name c.put_name.new.names) c.args.mailboxes.now c.loop-mailbox.mailbox-index c.mailbox-item.result c.loop-mailbox-test.true c.mailbox-item.is
    c.loop-mailbox.invariant
    (λ name. c.in_ok-put_name.ensures.names name ∙ ap (λ n. has_name c.loop-mailbox.names name || bytes_eq name n) c.as_str.ensures)

pub returns : goal.returns
returns c = all_boxes (has_name c.loop-mailbox.names) c.args.mailboxes.now c.loop-mailbox.mailbox-index c.loop-mailbox-test.false c.loop-mailbox.invariant
