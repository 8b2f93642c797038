use Rattle.std.proofs.lemmas.Option.{slice_get_within}
use Rattle.mailbox_device.proofs.Changes.{sound, wait_names, wait_orderly, waits}
use Rattle.mailbox_device.proofs.mailboxes.Mailboxes.wait.Goals as goal

pub returns-clause-orderly : goal.returns-clause-orderly
returns-clause-orderly c =
    wait_orderly _ _ _ c.self.view_is _ _ (slice_get_within _ _ _ c.requires.empty.there) c.index_mut-mailbox.ensures.value c.wait.result _ _
    c.wait.ensures.awaited c.wait.ensures.kept c.requires.empty c.requires.nowhere c.self.invariant.orderly

pub returns-clause-names : goal.returns-clause-names
returns-clause-names c =
    wait_names _ _ _ c.self.view_is _ _ (slice_get_within _ _ _ c.requires.empty.there) c.index_mut-mailbox.ensures.value c.wait.result _ _
    c.wait.ensures.awaited c.wait.ensures.kept

pub invariant_of-self : goal.invariant_of-self
invariant_of-self c =
    let within = slice_get_within _ _ _ c.requires.empty.there in
    sound _ _ _ c.self.view_is _ _ within c.index_mut-mailbox.ensures.value _ _ c.self.invariant
    (wait_names _ _ _ c.self.view_is _ _ within c.index_mut-mailbox.ensures.value c.wait.result _ _ c.wait.ensures.awaited c.wait.ensures.kept)
    (wait_orderly _ _ _ c.self.view_is _ _ within c.index_mut-mailbox.ensures.value c.wait.result _ _ c.wait.ensures.awaited c.wait.ensures.kept c.requires.empty
    c.requires.nowhere c.self.invariant.orderly)

pub returns-clause-waits : goal.returns-clause-waits
returns-clause-waits c =
    waits _ _ _ c.self.view_is _ _ (slice_get_within _ _ _ c.requires.empty.there) c.index_mut-mailbox.ensures.value c.wait.result _ _
    c.wait.ensures.awaited
