use Rattle.std.proofs.Common.{[], ◌∷◌, None, IfOk, sym, subst}
use Rattle.wa_types.specs.declared.values.Value.TheVariants as V
use Rattle.wa_model.specs.declared.events.End.TheVariants.{NoDevice}
use Rattle.host_laws.specs.declared.lines.Met.TheVariants as Met
use Rattle.pause_host.specs.Mailing.{AsksAt}
use Rattle.pause_host.specs.declared.asking.Asked.{Asked}
use Rattle.pause_host.proofs.Mailings.{asks_refused, some_there}
use Rattle.pause_host.proofs.asking.ask_with.Goals as goal

pub returns-in-I32-clause-asks : goal.returns-in-I32-clause-asks
returns-in-I32-clause-asks c =
    subst (λ z. IfOk c.send.result (λ asked. AsksAt c.args.import (z ∷ []) c.args.place c.args.mail.now c.send.new.mail asked)) (sym c.in-I32.is) (c.send.ensures.asks c.args.import)

pub returns-in-I64-clause-asks : goal.returns-in-I64-clause-asks
returns-in-I64-clause-asks c =
    let there = some_there c.args.mail.now.boxes c.args.place c.requires in
    subst (λ (z : Asked). AsksAt c.args.import (c.args.value ∷ []) c.args.place c.args.mail.now c.args.mail.now z) (sym c.no_device.ensures)
    (subst (λ z. AsksAt c.args.import (z ∷ []) c.args.place c.args.mail.now c.args.mail.now (record { met = Met.Refused (NoDevice c.args.import); receive = None })) (sym c.in-I64.is)
    (asks_refused c.args.import c.args.place (V.I64 c.in-I64.field-0 ∷ []) c.args.mail.now there.0 there.1 tt))
