-- The devices are those of the list that is lent.
use Rattle.std.proofs.Common.{rules}
use Rattle.asyncify_app.proofs.Boxes.{counted_same}
use Rattle.asyncify_app.proofs.SnapshotEnds.{ends_lent, files_kept, save_failed, sink_failed}
use Rattle.asyncify_app.proofs.snapshots.save_with.Goals as goal

pub returns-clause-one_end : goal.returns-clause-one_end
returns-clause-one_end g c =
    ends_lent _ _ _ _ _ _ _ _ _ _ _ _ _ _ c.save_script.result (counted_same _ _ _ _ c.new-lent.ensures.devices c.new-lent.ensures.counts) (search rules) c.save_script.ensures.one_end

pub returns-clause-kept : goal.returns-clause-kept
returns-clause-kept g c = files_kept _ _ _ c.save_script.result c.save_script.ensures.one_end

pub returns-clause-write_fault : goal.returns-clause-write_fault
returns-clause-write_fault g c = save_failed _ _ _ c.save_script.result c.save_script.ensures.one_end

pub returns-clause-sink_fault : goal.returns-clause-sink_fault
returns-clause-sink_fault g c = sink_failed _ _ _ c.save_script.result c.save_script.ensures.one_end
