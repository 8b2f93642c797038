use Rattle.host_setup.specs.Views.{entry_of as named_entry_of}
use Rattle.script_reader.specs.declared.script.EntryText.{EntryText}
use Rattle.script_reader.specs.Views.{entry_of}
use Rattle.script_setup.specs.SetUpRules.{named_entry}
use Rattle.script_setup.proofs.Gathered.{map_all, map_next}
use Rattle.script_setup.proofs.entries.copied_entries.Goals as goal

pub loop-text-preserved : goal.loop-text-preserved
loop-text-preserved c =
    map_next named_entry_of (λ (t : EntryText). named_entry (entry_of t)) c.loop-text.entries.items c.push.new.self.items c.in_ok-entry.entry c.args.texts.now c.loop-text.text-index c.text-item.result
    c.in_ok-push.ensures.items c.in_ok-entry.ensures c.loop-text-test.true c.text-item.is c.loop-text.invariant

pub returns : goal.returns
returns c = map_all named_entry entry_of _ c.args.texts.now c.loop-text.text-index c.loop-text-test.false c.loop-text.invariant
