use Rattle.std.proofs.Common.{◌∙◌}
use Rattle.script_reader.specs.declared.script.EntryText.{EntryText as EntryValue}
use Rattle.script_reader.specs.Views.{entry_of}
use Rattle.script_model.specs.Script.{EntryText}
use Rattle.script_setup.proofs.Gathered.{list_next, map_all}
use Rattle.script_setup.proofs.names.entry_names.Goals as goal

pub loop-text-preserved : goal.loop-text-preserved
loop-text-preserved c =
    list_next (λ (t : EntryValue). t.name) c.loop-text.names.items c.push.new.self.items c.in_ok-name.name c.args.texts.now c.loop-text.text-index c.text-item.result
    c.in_ok-push.ensures.items (c.in_ok-name.ensures ∙ c.as_str.ensures) c.loop-text-test.true c.text-item.is c.loop-text.invariant

pub returns : goal.returns
returns c = map_all (λ (e : EntryText). e.name) entry_of c.loop-text.names.items c.args.texts.now c.loop-text.text-index c.loop-text-test.false c.loop-text.invariant
