-- The programs of a script that was read.
use Rattle.std.proofs.Common.{List, map, subst}
use Rattle.script_reader.specs.Views.{program_of}
use Rattle.script_reader.specs.declared.script.MailboxText.{MailboxText}
use Rattle.script_command.specs.Views.{AreOpened, box_names_of}
use Rattle.script_command.proofs.Scripts.{few_texts, ready, texts_choose, texts_fit}
use Rattle.script_command.proofs.opening.open_whole.Goals as goal

pub open_programs-requires-clause-few : goal.open_programs-requires-clause-few
open_programs-requires-clause-few g c = few_texts c.args.whole c.requires

pub open_programs-requires-clause-fits : goal.open_programs-requires-clause-fits
open_programs-requires-clause-fits g c = texts_fit c.args.whole c.requires c.scripts_fit.ensures

pub open_programs-requires-clause-choices : goal.open_programs-requires-clause-choices
open_programs-requires-clause-choices g c = texts_choose c.args.whole c.requires

pub returns-in-Ok-clause-ready : goal.returns-in-Ok-clause-ready
returns-in-Ok-clause-ready g c =
    ready c.args.whole c.requires c.args.way (g.V.Vault.files c.args.vault.now) _
    (subst (λ (ms : List MailboxText). AreOpened c.args.way (box_names_of ms) (g.V.Vault.files c.args.vault.now) (map program_of c.args.whole.programs.items) c.in-Ok.programs) c.deref.ensures.value
    c.in-Ok.ensures.opened)
    c.strand_line-strand.ensures
