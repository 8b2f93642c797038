use Rattle.std.proofs.Common.{map, refl, ap, ◌∙◌}
use Rattle.std.proofs.lemmas.Result.{IfOk-weaker}
use Rattle.pause_host.proofs.Advancing.{advances_alone}
use Rattle.pause_host.proofs.program.Program.advance_alone.Goals as goal

pub returns-clause-next : goal.returns-clause-next
returns-clause-next c = λ w notes f none.
    IfOk-weaker c.advance_without_mail.result _ _
    (λ event a. advances_alone w notes c.args.self.now c.advance_without_mail.new.self event _ _ f refl (c.new.ensures.devices ∙ ap (map _) c.new-none.ensures.items) refl a)
    (c.advance_without_mail.ensures.next w notes f.outcomes f.follows none)

pub returns-clause-again : goal.returns-clause-again
returns-clause-again c = λ how told. IfOk-weaker c.advance_without_mail.result _ _ (λ event h. (h.0, h.1)) (c.advance_without_mail.ensures.again how told)

pub advance_without_mail-requires-clause-goes : goal.advance_without_mail-requires-clause-goes
advance_without_mail-requires-clause-goes c = c.requires
