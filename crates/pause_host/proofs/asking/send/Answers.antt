use Rattle.std.proofs.Common.{None, refl}
use Rattle.host_laws.specs.declared.lines.Met.TheVariants as Met
use Rattle.pause_host.specs.declared.asking.Asked.{Asked}
use Rattle.pause_host.proofs.Mailings.{asks_sent}
use Rattle.pause_host.proofs.asking.send.Goals as goal

pub returns-clause-asks : goal.returns-clause-asks
returns-clause-asks c = λ import.
    let asked : Asked = record { met = Met.Given c.mail_answer.result; receive = None } in
    asks_sent import c.args.place c.args.value c.args.mail.now c.send.new.self asked c.ranges.value.fits c.in_ok-send.ensures.sent c.mail_answer.ensures refl
