-- The end of what was saved, or of why it stopped.
use Rattle.script_command.specs.SnapshotCalls.{saves}
use Rattle.script_command.proofs.SnapshotAnswering.{one_end}
use Rattle.script_command.proofs.SnapshotEnding.{done_end, told_counts, told_end}
use Rattle.script_command.proofs.SnapshotStatuses.{snapshot_status}
use Rattle.script_command.proofs.saving.save_script.Goals as goal

pub returns-in-Ok-clause-one_end : goal.returns-in-Ok-clause-one_end
returns-in-Ok-clause-one_end g c = one_end (saves c.args.request.events) _ _ 0 (done_end (saves c.args.request.events) _ _ _ _ _ c.in-Ok.ensures.does)

pub returns-in-Ok-clause-status : goal.returns-in-Ok-clause-status
returns-in-Ok-clause-status g c = snapshot_status (saves c.args.request.events) _ _ 0 (done_end (saves c.args.request.events) _ _ _ _ _ c.in-Ok.ensures.does)

pub returns-in-Err-clause-one_end : goal.returns-in-Err-clause-one_end
returns-in-Err-clause-one_end g c =
    one_end (saves c.args.request.events) _ _ c.tell_stop.result
    (told_end (saves c.args.request.events) _ _ _ _ _ _ _ c.tell_stop.result c.in-Err.stop c.in-Err.ensures.does c.tell_stop.ensures.told)

pub returns-in-Err-clause-status : goal.returns-in-Err-clause-status
returns-in-Err-clause-status g c =
    snapshot_status (saves c.args.request.events) _ _ c.tell_stop.result
    (told_end (saves c.args.request.events) _ _ _ _ _ _ _ c.tell_stop.result c.in-Err.stop c.in-Err.ensures.does c.tell_stop.ensures.told)

pub returns-in-Err-clause-counts : goal.returns-in-Err-clause-counts
returns-in-Err-clause-counts g c =
    told_counts c.tell_stop.result _ _ _ _ _ _ _ (saves c.args.request.events) _ _ _ _ c.in-Err.stop c.in-Err.ensures.does c.tell_stop.ensures.told c.in-Err.ensures.counts
    c.tell_stop.ensures.once
