use Rattle.std.proofs.Common.{◌≤◌, List, length, sym, subst}
use Rattle.wa_types.specs.declared.values.Value.{Value}
use Rattle.pause_host.specs.Mailing.{AsksAt}
use Rattle.pause_host.specs.declared.asking.Asked.{Asked}
use Rattle.pause_host.proofs.Mailings.{asks_refused, no_mail, some_there}
use Rattle.pause_host.proofs.asking.ask_mailbox.Goals as goal

pub returns-in_default-clause-asks : goal.returns-in_default-clause-asks
returns-in_default-clause-asks c =
    let args = c.args.call.now.args.items in
    let import = c.args.call.now.import in
    let there = some_there c.args.mail.now.boxes c.args.place c.requires in
    let many = subst (λ (vs : List Value). 2 ≤ length vs) c.as_slice.ensures.value c.in_default.len_at_least in
    subst (λ (z : Asked). AsksAt import args c.args.place c.args.mail.now c.args.mail.now z) (sym c.no_device.ensures)
    (asks_refused import c.args.place args c.args.mail.now there.0 there.1 (no_mail args many))
