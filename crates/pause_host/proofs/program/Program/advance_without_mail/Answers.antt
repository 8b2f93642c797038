use Rattle.std.proofs.Common.{map, ap, ◌∙◌}
use Rattle.std.proofs.lemmas.Result.{IfOk-weaker}
use Rattle.mailbox_device.specs.Mail.{Mail, empty_box}
use Rattle.pause_host.proofs.Advancing.{advanced_plain}
use Rattle.pause_host.proofs.program.Program.advance_without_mail.Goals as goal

pub returns-clause-next : goal.returns-clause-next
returns-clause-next g c = λ w notes os f none.
    let no_boxes = ap (λ (m : Mail). m.boxes) c.in_ok-none.ensures.empty ∙ ap (map empty_box) c.new.ensures.items in
    IfOk-weaker c.step.result _ _ (λ event a. advanced_plain w notes os c.step.new.self event _ _ no_boxes a) (c.step.ensures.next w notes os f none)

pub returns-clause-again : goal.returns-clause-again
returns-clause-again g c = λ how told. IfOk-weaker c.step.result _ _ (λ event h. (h.0, h.1, h.2)) (c.step.ensures.again how told)

pub step-requires : goal.step-requires
step-requires g c = record { goes = λ none. c.requires.goes }
