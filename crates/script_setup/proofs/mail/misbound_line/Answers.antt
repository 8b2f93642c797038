use Rattle.std.proofs.Common.{◌∙◌, map}
use Rattle.wa_types.specs.View.{module_of}
use Rattle.script_reader.specs.Views.{bind_of, mailbox_of}
use Rattle.script_setup.specs.SetUpRules.{box_names}
use Rattle.script_setup.proofs.Misbound.{misbound_found}
use Rattle.script_setup.proofs.mail.misbound_line.Goals as goal

pub returns : goal.returns
returns c =
    c.in_ok-line.ensures
    ∙ misbound_found (module_of c.args.«module».now) c.in_ok-boxes.boxes c.in_ok-unfit.unfit (box_names (map mailbox_of c.args.mailboxes.now)) (map bind_of c.args.binds.now) c.in_ok-boxes.ensures
    c.in_ok-unfit.ensures
