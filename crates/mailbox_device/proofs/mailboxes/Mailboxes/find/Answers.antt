use Rattle.std.proofs.Common.{ap, ◌∙◌}
use Rattle.std.specs.Prelude.{position}
use Rattle.mailbox_device.specs.Mail.{Mail, is_box}
use Rattle.mailbox_device.proofs.NotedPlaces.{of_boxes}
use Rattle.mailbox_device.proofs.mailboxes.Mailboxes.find.Goals as goal

pub returns : goal.returns
returns c =
    c.copied.ensures ∙ c.get.ensures.value ∙ c.self.invariant.found c.args.name.now ∙ of_boxes c.args.name.now c.self.inside.boxes.items
    ∙ ap (λ (m : Mail). position (is_box c.args.name.now) m.boxes) c.self.view_is
