use Rattle.pause_host.specs.declared.stages.Moved.{Moved}
use Rattle.std.proofs.Common.{length, refl, sym, ap, ◌∙◌, subst}
use Rattle.wa_types.specs.Modules.{func_type_at}
use Rattle.wa_model.specs.declared.events.Event.TheVariants as EV
use Rattle.wa_model.specs.Blocking.{fault_of, store_at}
use Rattle.wa_model.specs.View.{answer_of, call_of}
use Rattle.interp.specs.Host.{code_in, store_in, waits_in}
use Rattle.pause_host.specs.Views.{lines_in, stage_after, starts}
use Rattle.pause_host.specs.declared.stages.Stage.TheVariants as S
use Rattle.pause_host.specs.Mailing.{MailAnswers, awaits_in, latest, mail_supply}
use Rattle.pause_host.proofs.Callings.{told_area}
use Rattle.pause_host.proofs.Hosting.{memory_shown}
use Rattle.pause_host.proofs.Tables.{size_told, stands_at}
use Rattle.pause_host.proofs.Supplied.{short_answer}
use Rattle.pause_host.proofs.Askings.{asking_store, asking_start, told_refused, told_answer}
use Rattle.host_laws.specs.Answering.{outcome_of}
use Rattle.pause_host.proofs.Stopping.{ticks_waited}
use Rattle.mail_laws.specs.Mailboxes.{mailed}
use Rattle.wa_types.specs.declared.values.Value.TheVariants as V
use Rattle.pause_host.proofs.running.called.Goals as goal

pub returns-in-Refused-clause-comes : goal.returns-in-Refused-clause-comes
returns-in-Refused-clause-comes g c = λ w is code pokes who h l left used r asks within asking.
    let s = store_in c.args.instance.now in
    let waits = waits_in c.args.instance.now in
    let x = c.args.setting.now in
    let old = mail_supply (λ z. (goal.Device-dyn g z).seen z.1) (λ z. (goal.Device-dyn g z).faults z.1) (lines_in c.args.answers.now.items) c.args.devices.now c.args.mail.now (awaits_in x r) in
    let new = mail_supply (λ z. (goal.Device-dyn g z).seen z.1) (λ z. (goal.Device-dyn g z).faults z.1) (lines_in c.next_outcome.new.answers.items) c.next_outcome.new.devices
    c.next_outcome.new.mail (awaits_in x (latest c.in_ok-met.field-0.receive r)) in
    let i = c.args.new_call.call.import in
    let at = stands_at x.imports.items i c.index-import.result.now c.requires.import c.index-import.ensures in
    let meets0 = c.in_ok-met.ensures.answers w is at r in
    let meets = subst (λ z. MailAnswers w (call_of c.args.new_call.call) old (outcome_of z) new) c.in-Refused.is meets0 in
    let m : Moved = record { event = EV.Called c.args.new_call.call; stage = S.Ending c.in-Refused.end } in
    told_refused w h l left used c.args.new_call.call who c.args.new_call.task waits s asks within asking (told_area w x s is c.requires.area) m old new c.in-Refused.end refl refl meets

pub returns-in-Given-clause-comes : goal.returns-in-Given-clause-comes
returns-in-Given-clause-comes g c = λ w is code pokes who h l left used r asks within asking.
    let s = store_in c.args.instance.now in
    let waits = waits_in c.args.instance.now in
    let x = c.args.setting.now in
    let old = mail_supply (λ z. (goal.Device-dyn g z).seen z.1) (λ z. (goal.Device-dyn g z).faults z.1) (lines_in c.args.answers.now.items) c.args.devices.now c.args.mail.now (awaits_in x r) in
    let new = mail_supply (λ z. (goal.Device-dyn g z).seen z.1) (λ z. (goal.Device-dyn g z).faults z.1) (lines_in c.next_outcome.new.answers.items) c.next_outcome.new.devices
    c.next_outcome.new.mail (awaits_in x (latest c.in_ok-met.field-0.receive r)) in
    let i = c.args.new_call.call.import in
    let at = stands_at x.imports.items i c.index-import.result.now c.requires.import c.index-import.ensures in
    let meets0 = c.in_ok-met.ensures.answers w is at r in
    let meets = subst (λ z. MailAnswers w (call_of c.args.new_call.call) old (outcome_of z) new) c.in-Given.is meets0 in
    let m : Moved = record { event = EV.Called c.args.new_call.call; stage = c.answered-stage.result } in
    let a = answer_of c.in-Given.answer in
    let bytes = c.in-Some.memory.now in
    let rs = (func_type_at w.source i).results in
    let size = size_told w x (code_in c.args.instance.now) s bytes is code c.in-Some.ensures in
    let fault = ap (λ r. fault_of r (length bytes) w.plan (starts c.args.new_call.task) i a) (sym (is.results i c.index-import.result.now at))
    ∙ ap (λ n. fault_of rs n w.plan (starts c.args.new_call.task) i a) (sym size ∙ sym (ap (λ z. length z.memory) (asking_store c.args.new_call.task waits s who asking)))
    ∙ ap (λ b. fault_of rs (length (store_at who).memory) w.plan b i a) (sym (asking_start c.args.new_call.task waits s who asking)) in
    told_answer w h l left used c.args.new_call.call who c.args.new_call.task waits s asks within asking (told_area w x s is c.requires.area) m old new c.in-Given.answer refl meets
    (c.answered-stage.ensures.stage w is (short_answer w (call_of c.args.new_call.call) old new a meets pokes) ∙ ap (λ f. stage_after f c.in-Given.answer.ticks c.args.new_call.task i c.in-Given.answer) fault)

pub unreachable-requires : goal.unreachable-requires
unreachable-requires g c = memory_shown (code_in c.args.instance.now) (store_in c.args.instance.now) c.requires.memory c.in_default.ensures

pub returns-in-Given-clause-receives : goal.returns-in-Given-clause-receives
returns-in-Given-clause-receives g c = λ import is.
    c.answered-stage.ensures.stops (ticks_waited c.in-Given.answer (ap outcome_of (sym c.in-Given.is) ∙ c.in_ok-met.ensures.waits import is))
