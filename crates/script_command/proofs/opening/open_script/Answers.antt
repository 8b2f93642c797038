-- The programs of a script, or why they aren't opened.
use Rattle.std.proofs.lemmas.Result.{IfErr-weaker, IfOk-weaker}
use Rattle.script_reader.specs.Views.{script_of}
use Rattle.script_command.proofs.Scripts.{no_script_blamed, opened_both, opens, read_script, script_blamed}
use Rattle.script_command.proofs.opening.open_script.Goals as goal

pub open_whole-requires : goal.open_whole-requires
open_whole-requires g c = read_script _ _ _ c.in-Ok.ensures.script

pub returns-in-Ok-clause-opened : goal.returns-in-Ok-clause-opened
returns-in-Ok-clause-opened g c =
    IfOk-weaker c.open_whole.result _ _
    (λ o h. opens c.in-Ok.whole (read_script _ _ _ c.in-Ok.ensures.script) _ _ c.in-Ok.ensures.script c.args.way _ o c.read_whole.ensures.kept h.1.0 h.1.1.0 h.1.1.1 h.0)
    (opened_both c.open_whole.result _ _ c.open_whole.ensures.opened (opened_both c.open_whole.result _ _ c.open_whole.ensures.detaches
    (opened_both c.open_whole.result _ _ c.open_whole.ensures.mailboxes c.open_whole.ensures.strand)))

pub returns-in-Ok-clause-refused : goal.returns-in-Ok-clause-refused
returns-in-Ok-clause-refused g c =
    IfErr-weaker c.open_whole.result _ _
    (λ stop h. script_blamed c.args.way (g.V.Vault.files c.args.vault.now) c.args.script.now (g.V.Vault.fetch_faults c.args.vault.now) _ _ _ (script_of c.in-Ok.whole) stop
    c.read_whole.ensures.kept c.in-Ok.ensures.stays c.in-Ok.ensures.script h)
    c.open_whole.ensures.refused

pub returns-in-Err-clause-refused : goal.returns-in-Err-clause-refused
returns-in-Err-clause-refused g c = no_script_blamed c.args.way _ _ _ _ c.in-Err.stop c.in-Err.ensures.refused
