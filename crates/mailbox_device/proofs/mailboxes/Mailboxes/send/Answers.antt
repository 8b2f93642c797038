use Rattle.mailbox_device.proofs.Changes.{send_names, send_orderly, sends, sound}
use Rattle.mailbox_device.proofs.mailboxes.Mailboxes.send.Goals as goal

pub returns-clause-orderly : goal.returns-clause-orderly
returns-clause-orderly c =
    send_orderly _ _ _ c.self.view_is _ _ c.requires c.index_mut-mailbox.ensures.value c.send.result _ _ c.send.ensures.sent c.send.ensures.kept c.self.invariant.orderly

pub returns-clause-names : goal.returns-clause-names
returns-clause-names c =
    send_names _ _ _ c.self.view_is _ _ c.requires c.index_mut-mailbox.ensures.value c.send.result _ _ c.send.ensures.sent c.send.ensures.kept

pub invariant_of-self : goal.invariant_of-self
invariant_of-self c =
    sound _ _ _ c.self.view_is _ _ c.requires c.index_mut-mailbox.ensures.value _ _ c.self.invariant
    (send_names _ _ _ c.self.view_is _ _ c.requires c.index_mut-mailbox.ensures.value c.send.result _ _ c.send.ensures.sent c.send.ensures.kept)
    (send_orderly _ _ _ c.self.view_is _ _ c.requires c.index_mut-mailbox.ensures.value c.send.result _ _ c.send.ensures.sent c.send.ensures.kept c.self.invariant.orderly)

pub returns-clause-sent : goal.returns-clause-sent
returns-clause-sent c =
    sends _ _ _ c.self.view_is _ _ c.requires c.index_mut-mailbox.ensures.value c.send.result _ _ _ c.send.ensures.sent c.send.ensures.settled
