-- The programs of a script without `device`, `mailbox` and `strand` lines, or why they aren't opened.
use Rattle.std.proofs.Common.{sym}
use Rattle.std.proofs.lemmas.Result.{IfErr-weaker, IfOk-weaker}
use Rattle.script_reader.specs.Views.{script_of}
use Rattle.script_command.proofs.Scripts.{opened_both, read_script}
use Rattle.script_command.proofs.PlainOpenings.{opens_plain, plays_plain, programs_named, script_named, unsaved_named}
use Rattle.script_command.proofs.plain_scripts.open_plain.Goals as goal

pub open_whole-requires : goal.open_whole-requires
open_whole-requires g c = read_script _ _ _ c.in-Ok.ensures.script

pub returns-in-Err-clause-refused : goal.returns-in-Err-clause-refused
returns-in-Err-clause-refused g c = script_named _ _ _ _ c.in-Err.stop c.in-Err.ensures.refused

pub returns-in-Some-clause-refused : goal.returns-in-Some-clause-refused
returns-in-Some-clause-refused g c = unsaved_named _ _ _ _ (script_of c.in-Ok.whole) c.in-Some.line c.refused.result c.in-Ok.ensures.stays c.in-Ok.ensures.script (sym c.in-Some.ensures) c.refused.ensures

pub returns-in-None-clause-opened : goal.returns-in-None-clause-opened
returns-in-None-clause-opened g c =
    IfOk-weaker c.open_whole.result _ _
    (λ o h. opens_plain _ _ c.in-Ok.whole c.in-Ok.ensures.script (sym c.in-None.ensures) _ o c.read_whole.ensures.kept h.1 h.0)
    (opened_both c.open_whole.result _ _ c.open_whole.ensures.opened c.open_whole.ensures.detaches)

pub returns-in-None-clause-plays : goal.returns-in-None-clause-plays
returns-in-None-clause-plays g c =
    IfOk-weaker c.open_whole.result _ _ (λ o h. plays_plain (script_of c.in-Ok.whole) o (sym c.in-None.ensures) h.0 h.1)
    (opened_both c.open_whole.result _ _ c.open_whole.ensures.strand c.open_whole.ensures.ready)

pub returns-in-None-clause-refused : goal.returns-in-None-clause-refused
returns-in-None-clause-refused g c =
    IfErr-weaker c.open_whole.result _ _
    (λ stop h. programs_named (g.V.Vault.files c.args.vault.now) c.args.script.now (g.V.Vault.fetch_faults c.args.vault.now) _ _ _ (script_of c.in-Ok.whole) stop
    c.read_whole.ensures.kept c.in-Ok.ensures.stays c.in-Ok.ensures.script (sym c.in-None.ensures) h)
    c.open_whole.ensures.refused
