-- A journal's entry that a device in memory keeps.
use Rattle.world_model.specs.World as world
use Rattle.device_port.specs.declared.journal.Asked.{Asked}
use Rattle.device_port.specs.Journals.{entry}

-- a call that was answered, as a world has it
abbrev pub asked_of : Asked → world.Asked
asked_of kept = entry kept.base kept.args.items kept.reply
