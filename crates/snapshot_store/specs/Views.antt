-- Which plain snapshot a value of the program's types is.
use Rattle.std.specs.Prelude.{map}
use Rattle.snapshot_store.specs.declared.snapshot.PausedParts.{PausedParts as PartsValue}
use Rattle.snapshot_store.specs.declared.snapshot.ProgramRecord.{ProgramRecord as RecordValue}
use Rattle.snapshot_store.specs.declared.snapshot.ProgramRecord.TheVariants.{Fresh, Paused, Over}
use Rattle.snapshot_store.specs.declared.numbers.Head.{Head as HeadValue}
use Rattle.snapshot_store.specs.declared.snapshot.Snapshot.{Snapshot as SnapshotValue}
use Rattle.snapshot_store.specs.Parts.{Head}
use Rattle.snapshot_store.specs.Snapshots.{PausedParts, ProgramRecord, fresh, paused, over, Snapshot}

abbrev pub parts_of : PartsValue → PausedParts
parts_of x =
    record { steps_used = x.steps_used; entry = x.entry; answers = x.answers; import = x.import; globals = x.globals.items; pages = x.pages }

abbrev pub head_of : HeadValue → Head
head_of h = record { due = h.due; steps_used = h.steps_used; entry = h.entry; answers = h.answers; import = h.import; globals = h.globals }

abbrev pub record_of : RecordValue → ProgramRecord
record_of Fresh = fresh
record_of (Paused due x memory) = paused due (parts_of x) memory.items
record_of Over = over

abbrev pub snapshot_of : SnapshotValue → Snapshot
snapshot_of s = record { events = s.events; programs = map record_of s.programs.items }
