use Rattle.std.proofs.Common.{None, Some, refl}
use Rattle.host_laws.specs.declared.lines.Met.TheVariants as Met
use Rattle.pause_host.specs.declared.asking.Asked.{Asked}
use Rattle.pause_host.proofs.Mailings.{asks_none, asks_received}
use Rattle.pause_host.proofs.Stopping.{none_waits}
use Rattle.pause_host.proofs.asking.receive.Goals as goal

pub returns-in-Some-clause-asks : goal.returns-in-Some-clause-asks
returns-in-Some-clause-asks c =
    let asked : Asked = record { met = Met.Given c.mail_answer.result; receive = None } in
    asks_received c.args.import c.args.place c.in-Some.reply c.args.mail.now c.receive.new.self asked c.in-Some.ensures.received c.mail_answer.ensures refl

pub returns-in-None-clause-asks : goal.returns-in-None-clause-asks
returns-in-None-clause-asks c =
    let asked : Asked = record { met = Met.Given c.mail_answer-in-None.result; receive = Some c.args.import } in
    asks_none c.args.import c.args.place c.args.mail.now c.receive.new.self asked c.in-None.ensures.received.0 c.in-None.ensures.received.1 c.mail_answer-in-None.ensures refl

pub returns-in-Some-clause-waits : goal.returns-in-Some-clause-waits
returns-in-Some-clause-waits c =
    let asked : Asked = record { met = Met.Given c.mail_answer.result; receive = None } in
    none_waits asked refl

pub returns-in-None-clause-waits : goal.returns-in-None-clause-waits
returns-in-None-clause-waits c = λ import is. c.mail_answer-in-None.ensures
