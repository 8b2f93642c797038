use Rattle.std.proofs.Common.{◌≡◌, ◌++◌, map}
use Rattle.script_reader.specs.Views.{mailbox_of}
use Rattle.script_setup.specs.SetUpRules.{box_names}
use Rattle.script_command.proofs.playing.mailbox_names.Given as goal

-- the names so far, and those to come
abbrev pub invariant-loop-text : goal.invariant-loop-text
invariant-loop-text l = l.names.items ++ box_names (map mailbox_of l.text-iterator.rest.items) ≡ box_names (map mailbox_of l.fn.texts.items)
