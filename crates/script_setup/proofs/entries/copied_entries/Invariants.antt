use Rattle.std.proofs.Common.{◌≡◌, map, take}
use Rattle.host_setup.specs.Views.{entry_of as named_entry_of}
use Rattle.script_reader.specs.declared.script.EntryText.{EntryText}
use Rattle.script_reader.specs.Views.{entry_of}
use Rattle.script_setup.specs.SetUpRules.{named_entry}
use Rattle.script_setup.proofs.entries.copied_entries.Given as goal

abbrev pub invariant-loop-text : goal.invariant-loop-text
invariant-loop-text l = map named_entry_of l.entries.items ≡ map (λ (t : EntryText). named_entry (entry_of t)) (take l.text-index l.texts)
