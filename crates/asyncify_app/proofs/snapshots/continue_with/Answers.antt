-- The devices are those of the list that is lent.
use Rattle.std.proofs.Common.{rules}
use Rattle.asyncify_app.proofs.Boxes.{counted_same}
use Rattle.asyncify_app.proofs.SnapshotEnds.{devices_kept, ends_lent, sink_failed}
use Rattle.asyncify_app.proofs.snapshots.continue_with.Goals as goal

pub returns-clause-one_end : goal.returns-clause-one_end
returns-clause-one_end g c =
    ends_lent _ _ _ _ _ _ _ _ _ _ _ _ _ _ c.continue_script.result (counted_same _ _ _ _ c.new-lent.ensures.devices c.new-lent.ensures.counts) (search rules)
    c.continue_script.ensures.one_end

pub returns-clause-devices : goal.returns-clause-devices
returns-clause-devices g c =
    devices_kept _ _ c.continue_script.result
    (ends_lent _ _ _ _ _ _ _ _ _ _ _ _ _ _ c.continue_script.result (counted_same _ _ _ _ c.new-lent.ensures.devices c.new-lent.ensures.counts) (search rules)
    c.continue_script.ensures.one_end)

pub returns-clause-sink_fault : goal.returns-clause-sink_fault
returns-clause-sink_fault g c = sink_failed _ _ _ c.continue_script.result c.continue_script.ensures.one_end
