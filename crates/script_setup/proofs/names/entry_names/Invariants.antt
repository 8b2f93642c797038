use Rattle.std.proofs.Common.{◌≡◌, map, take}
use Rattle.script_reader.specs.declared.script.EntryText.{EntryText}
use Rattle.script_setup.proofs.names.entry_names.Given as goal

abbrev pub invariant-loop-text : goal.invariant-loop-text
invariant-loop-text l = l.names.items ≡ map (λ (t : EntryText). t.name) (take l.text-index l.texts)
