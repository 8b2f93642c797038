use Rattle.std.proofs.lemmas.Result.{IfOk-weaker}
use Rattle.pause_host.proofs.Supplied.{asked_device, asked_line, asked_mailbox, both_ok, three_ok}
use Rattle.pause_host.proofs.Stopping.{none_waits}
use Rattle.pause_host.proofs.asking.next_outcome.Goals as goal

pub returns-in-None-clause-answers : goal.returns-in-None-clause-answers
returns-in-None-clause-answers g c = λ w is at r.
    both_ok c.ask_line.result (λ asked m none. asked_line w c.args.setting.now is c.args.call.now.import c.args.import.now at _ _ _ _ _ _ asked r c.in-None.ensures m none)
    c.ask_line.ensures.meets c.ask_line.ensures.none

pub returns-in-None-find-clause-answers : goal.returns-in-None-find-clause-answers
returns-in-None-find-clause-answers g c = λ w is at r.
    three_ok c.ask_device.result
    (λ asked m k none. asked_device w c.args.setting.now is c.args.call.now.import c.args.import.now at _ _ _ _ _ _ _ asked r _ c.in-Some.ensures c.in-None-find.ensures m k none)
    c.ask_device.ensures.meets c.ask_device.ensures.counts c.ask_device.ensures.none

pub returns-in-Some-find-clause-answers : goal.returns-in-Some-find-clause-answers
returns-in-Some-find-clause-answers g c = λ w is at r.
    IfOk-weaker c.ask_mailbox.result _ _
    (λ asked k. asked_mailbox w c.args.setting.now is c.args.call.now.import c.args.import.now at _ _ _ _ _ _ asked r _ _ c.in-Some.ensures c.in-Some-find.ensures k)
    c.ask_mailbox.ensures.asks

pub returns-in-None-clause-waits : goal.returns-in-None-clause-waits
returns-in-None-clause-waits g c = IfOk-weaker c.ask_line.result _ _ (λ asked none. none_waits asked none) c.ask_line.ensures.none

pub returns-in-None-find-clause-waits : goal.returns-in-None-find-clause-waits
returns-in-None-find-clause-waits g c = IfOk-weaker c.ask_device.result _ _ (λ asked none. none_waits asked none) c.ask_device.ensures.none
