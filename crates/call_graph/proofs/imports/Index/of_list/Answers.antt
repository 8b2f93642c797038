use Rattle.std.proofs.Common.{List, ap, ◌∙◌, ◌||◌}
use Rattle.std.proofs.lemmas.List.{take_all}
use Rattle.wasm_validate.proofs.OrderedNames.{any_named}
use Rattle.call_graph.specs.declared.lists.Entry.{Entry}
use Rattle.call_graph.specs.Entries.{any_names}
use Rattle.call_graph.specs.Index.{indexed}
use Rattle.call_graph.proofs.EntryLemmas.{any_listed, named_more}
use Rattle.call_graph.proofs.imports.Index.of_list.Goals as goal

pub loop-entry-preserved : goal.loop-entry-preserved
loop-entry-preserved c = λ name.
    named_more c.entries-entry-items.result.now c.loop-entry.entry-index c.entry-item.result name (indexed c.loop-entry.index name)
    (indexed c.put.new.self name) c.loop-entry-test.true c.entry-item.is (c.loop-entry.invariant name) (c.in_ok-put.ensures name)

pub returns-clause-names : goal.returns-clause-names
returns-clause-names c = λ name.
    ap (λ b. any_named name c.loop-entry.index.names.keys || b) (c.in_ok-keep_shortest.ensures.any name)
    ∙ c.loop-entry.invariant name ∙ ap (λ (l : List Entry). any_names l name) (take_all c.loop-entry.entry-index c.entries-entry-items.result.now c.loop-entry-test.false)
    ∙ any_listed c.entries-entry-items.result.now c.args.list.now name c.entries-entry-items.ensures
