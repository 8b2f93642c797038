-- The end of what programs tell, with mailboxes and without.
use Rattle.std.proofs.Common.{◌∙◌, ap, refl, sym}
use Rattle.script_setup.specs.SetUpRules.{box_names}
use Rattle.script_command.specs.Ends.{call}
use Rattle.script_command.proofs.Ending.{out_of_memory_alone}
use Rattle.script_command.proofs.Declared.{none_declared, some_declared}
use Rattle.script_command.proofs.playing.tell_by_mail.Goals as goal

pub tell-requires-clause-staged : goal.tell-requires-clause-staged
tell-requires-clause-staged g c = c.requires.staged

pub tell_with_mail-requires-clause-staged : goal.tell_with_mail-requires-clause-staged
tell_with_mail-requires-clause-staged g c = c.requires.staged

pub returns-then-is_empty-clause-end : goal.returns-then-is_empty-clause-end
returns-then-is_empty-clause-end g c = λ way files name f f' play staged same unstranded boxes.
    c.tell.ensures.end way files name f f' play staged same unstranded (boxes ∙ none_declared c.args.mailboxes c.is_empty.result c.is_empty.ensures c.if-is_empty.true)

pub returns-in-Ok-clause-end : goal.returns-in-Ok-clause-end
returns-in-Ok-clause-end g c = λ way files name f f' play staged same unstranded boxes.
    c.tell_with_mail.ensures.end way files name f f' play staged same unstranded (ap box_names boxes ∙ sym c.in-Ok.ensures)
    (λ none. some_declared c.args.mailboxes c.is_empty.result c.is_empty.ensures c.if-is_empty.false (sym boxes ∙ none))

pub returns-in-Err-clause-end : goal.returns-in-Err-clause-end
returns-in-Err-clause-end g c = λ way files name f f' play staged same unstranded boxes.
    out_of_memory_alone (call way name files f f' _ _ _ _ _ _) c.out_of_memory.result refl c.out_of_memory.ensures.status c.out_of_memory.ensures.printed
