use Rattle.mailbox_device.proofs.Changes.{receive_names, receive_orderly, receives, sound}
use Rattle.mailbox_device.proofs.mailboxes.Mailboxes.receive.Goals as goal

pub returns-clause-orderly : goal.returns-clause-orderly
returns-clause-orderly c =
    receive_orderly _ _ _ c.self.view_is _ _ c.requires c.index_mut-mailbox.ensures.value c.receive.result _ c.receive.ensures c.self.invariant.orderly

pub returns-clause-names : goal.returns-clause-names
returns-clause-names c =
    receive_names _ _ _ c.self.view_is _ _ c.requires c.index_mut-mailbox.ensures.value c.receive.result _ c.receive.ensures

pub invariant_of-self : goal.invariant_of-self
invariant_of-self c =
    sound _ _ _ c.self.view_is _ _ c.requires c.index_mut-mailbox.ensures.value _ _ c.self.invariant
    (receive_names _ _ _ c.self.view_is _ _ c.requires c.index_mut-mailbox.ensures.value c.receive.result _ c.receive.ensures)
    (receive_orderly _ _ _ c.self.view_is _ _ c.requires c.index_mut-mailbox.ensures.value c.receive.result _ c.receive.ensures c.self.invariant.orderly)

pub returns-clause-received : goal.returns-clause-received
returns-clause-received c =
    receives _ _ _ c.self.view_is _ _ c.requires c.index_mut-mailbox.ensures.value c.receive.result _ c.receive.ensures
