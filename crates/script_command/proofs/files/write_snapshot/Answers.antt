-- What was written spells the snapshot.
use Rattle.snapshot_store.specs.Views.{snapshot_of}
use Rattle.script_command.proofs.SnapshotFiles.{written}
use Rattle.script_command.proofs.files.write_snapshot.Goals as goal

pub returns-in-Ok-clause-writes : goal.returns-in-Ok-clause-writes
returns-in-Ok-clause-writes g c =
    written (snapshot_of c.args.snapshot) c.args.name.now _ _ _ _ c.in_ok-bytes.bytes.items c.deref.result.now c.in_ok-bytes.ensures c.deref.ensures.value c.length-found.result
    c.length-found.ensures c.if-found-gt-MOST_BYTES.false c.in-Ok.ensures.saved (c.in-Ok.ensures.stays (λ e. cc))
