use Rattle.std.proofs.Common.{IfOk, sym, subst}
use Rattle.interp.specs.Host.{store_in, waits_in}
use Rattle.pause_host.specs.Mailing.{awaits_in, latest, mail_supply}
use Rattle.pause_host.specs.Views.{lines_in}
use Rattle.pause_host.specs.Hosting.{MayAsk}
use Rattle.pause_host.specs.Moves.{CallComes, ComesFrom, NextFrom, NextPauses}
use Rattle.pause_host.specs.Moves.{NextStarts, NextStops}
use Rattle.pause_host.proofs.running.told.Goals as goal

pub returns-in-Told-clause-comes : goal.returns-in-Told-clause-comes
returns-in-Told-clause-comes g c = λ w is code pokes from l left used r comes.
    let old = mail_supply (λ z. (goal.Device-dyn g z).seen z.1) (λ z. (goal.Device-dyn g z).faults z.1) (lines_in c.args.answers.now.items) c.args.devices.now c.args.mail.now
    (awaits_in c.args.setting.now r) in
    (subst (λ n. NextFrom w from left used n l (store_in c.args.instance.now) (waits_in c.args.instance.now)) c.in-Told.is comes) old

pub returns-in-Told-clause-pauses : goal.returns-in-Told-clause-pauses
returns-in-Told-clause-pauses g c = subst NextPauses c.in-Told.is c.requires.paused

pub returns-in-Calls-clause-comes : goal.returns-in-Calls-clause-comes
returns-in-Calls-clause-comes g c = λ w is code pokes from l left used r comes.
    let s = store_in c.args.instance.now in
    let waits = waits_in c.args.instance.now in
    let old = mail_supply (λ z. (goal.Device-dyn g z).seen z.1) (λ z. (goal.Device-dyn g z).faults z.1) (lines_in c.args.answers.now.items) c.args.devices.now c.args.mail.now
    (awaits_in c.args.setting.now r) in
    let k : CallComes w from left used c.in-Calls.task c.in-Calls.call l s waits = subst (λ n. NextFrom w from left used n l s waits) c.in-Calls.is comes in
    subst (λ z. IfOk c.called.result (λ h. ComesFrom w z left used h.moved old
    (mail_supply (λ z. (goal.Device-dyn g z).seen z.1) (λ z. (goal.Device-dyn g z).faults z.1) (lines_in c.called.new.answers.items) c.called.new.devices c.called.new.mail
    (awaits_in c.args.setting.now (latest h.receive r))) l s waits)) (sym k.from_is)
    (c.called.ensures.comes w is code pokes k.who k.held l left used r k.asks k.within k.asking)

pub called-requires-clause-import : goal.called-requires-clause-import
called-requires-clause-import g c = (subst (MayAsk c.args.setting.now (store_in c.args.instance.now)) c.in-Calls.is c.requires.asks).0

pub called-requires-clause-area : goal.called-requires-clause-area
called-requires-clause-area g c = (subst (MayAsk c.args.setting.now (store_in c.args.instance.now)) c.in-Calls.is c.requires.asks).1

pub returns-in-Told-clause-stops : goal.returns-in-Told-clause-stops
returns-in-Told-clause-stops g c = λ stops. subst NextStops c.in-Told.is stops

pub returns-in-Calls-clause-stops : goal.returns-in-Calls-clause-stops
returns-in-Calls-clause-stops g c = λ stops. absurd (subst NextStops c.in-Calls.is stops)

pub returns-in-Calls-clause-starts : goal.returns-in-Calls-clause-starts
returns-in-Calls-clause-starts g c = λ starts. c.called.ensures.starts (subst NextStarts c.in-Calls.is starts)

pub returns-in-Told-clause-starts : goal.returns-in-Told-clause-starts
returns-in-Told-clause-starts g c = λ starts. absurd (subst NextStarts c.in-Told.is starts)
