-- The end of what was played or refused, and its status.
use Rattle.std.proofs.Common.{[], refl}
use Rattle.script_command.specs.Ends.{call}
use Rattle.script_command.proofs.Answering.{one_end}
use Rattle.script_command.proofs.Ending.{stopped}
use Rattle.script_command.proofs.SnapshotEnding.{stopped_counts}
use Rattle.script_command.proofs.Statuses.{end_status, stop_counts, told_stop}
use Rattle.transcript.proofs.Counts.{put_alone}
use Rattle.script_command.proofs.playing.play_script.Goals as goal

pub tell_stop-requires : goal.tell_stop-requires
tell_stop-requires g c = told_stop c.args.way _ _ _ c.args.script.now c.in-Err.stop c.in-Err.ensures.refused

pub returns-in-Ok-clause-one_end : goal.returns-in-Ok-clause-one_end
returns-in-Ok-clause-one_end g c = one_end _ c.play.result (c.play.ensures.end c.args.way _ c.args.script.now _ _ c.in-Ok.ensures.opened)

pub returns-in-Err-clause-one_end : goal.returns-in-Err-clause-one_end
returns-in-Err-clause-one_end g c = one_end _ c.tell_stop.result (stopped _ c.tell_stop.result c.in-Err.stop refl c.in-Err.ensures.refused c.tell_stop.ensures.told)

pub returns-in-Ok-clause-status : goal.returns-in-Ok-clause-status
returns-in-Ok-clause-status g c =
    end_status (call c.args.way c.args.script.now (g.V.Vault.files c.args.vault.now) (g.V.Vault.fetch_faults c.args.vault.now) (g.V.Vault.fetch_faults c.open_script.new.vault) _ _ _ _ _ _)
    c.play.result
    (c.play.ensures.end c.args.way _ c.args.script.now _ _ c.in-Ok.ensures.opened)

pub returns-in-Err-clause-status : goal.returns-in-Err-clause-status
returns-in-Err-clause-status g c =
    end_status (call c.args.way c.args.script.now (g.V.Vault.files c.args.vault.now) (g.V.Vault.fetch_faults c.args.vault.now) (g.V.Vault.fetch_faults c.open_script.new.vault) _ _ _ _ [] [])
    c.tell_stop.result
    (stopped _ c.tell_stop.result c.in-Err.stop refl c.in-Err.ensures.refused c.tell_stop.ensures.told)

pub returns-in-Ok-clause-counts : goal.returns-in-Ok-clause-counts
returns-in-Ok-clause-counts g c = put_alone c.play.result _ _ _ _ _ _ c.in-Ok.ensures.stays c.open_script.ensures.saves c.play.ensures.once c.play.ensures.stays

pub returns-in-Err-clause-counts : goal.returns-in-Err-clause-counts
returns-in-Err-clause-counts g c =
    stopped_counts c.tell_stop.result _ _ _ _ _ _ _ _ c.in-Err.stop c.tell_stop.ensures.told
    (stop_counts _ _ _ _ _ _ _ _ _ c.in-Err.stop c.open_script.ensures.saves refl c.in-Err.ensures.refused) c.tell_stop.ensures.once
