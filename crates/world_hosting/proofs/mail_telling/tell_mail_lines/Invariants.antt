use Rattle.std.proofs.Common.{◌≡◌, ◌-◌, ℕ, List, length}
use Rattle.wa_model.specs.declared.answers.Detach.{Detach}
use Rattle.mailbox_device.specs.Mail.{empty_mail}
use Rattle.many_host.specs.Standing.{InRange}
use Rattle.world_hosting.specs.Counts.{counted}
use Rattle.world_hosting.specs.Parted.{BeginsMail}
use Rattle.world_hosting.specs.Worlds.{Part}
use Rattle.world_hosting.proofs.MailPrinted.{HasMailPrinted}
use Rattle.world_hosting.proofs.mail_telling.tell_mail_lines.Given as goal

abbrev pub invariant-telling : goal.invariant-telling
invariant-telling g l = record {
  told : (parts : List Part) (detaches : List Detach) (boxes : List (List ℕ)) → BeginsMail parts detaches boxes l.fn.host l.names → l.fn.mail ≡ empty_mail boxes
      → (t : HasMailPrinted parts detaches boxes (counted (λ z. (goal.Device-dyn g z).seen z.1) (λ z. (goal.Device-dyn g z).faults z.1) l.fn.devices) l.host
      (counted (λ z. (goal.Device-dyn g z).seen z.1) (λ z. (goal.Device-dyn g z).faults z.1) l.devices) l.mail (g.S.Sink.taken l.fn.out) (g.S.Sink.taken l.out))
      × (length t.told.lines ≡ l._told);
  range : InRange l.host.turns;
  same_list : l.devices.list.ghost_name ≡ l.fn.devices.list.ghost_name;
  steady : g.S.Sink.faults l.out ≡ g.S.Sink.faults l.fn.out;
}

abbrev pub decreases-telling : goal.decreases-telling
decreases-telling g l = 340282366920938463463374607431768211455 - l._told
