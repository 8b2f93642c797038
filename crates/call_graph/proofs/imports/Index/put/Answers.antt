use Rattle.std.proofs.Common.{◌||◌, sym, ap, ◌∙◌}
use Rattle.wa_types.specs.Pausing.{names}
use Rattle.call_graph.specs.declared.lists.Entry.{Entry}
use Rattle.call_graph.specs.Entries.{entry_of}
use Rattle.call_graph.specs.Index.{indexed}
use Rattle.call_graph.proofs.IndexLemmas.{one_name}
use Rattle.call_graph.proofs.imports.Index.put.Goals as goal

pub returns-in_ok-insert-in-Exactly : goal.returns-in_ok-insert-in-Exactly
returns-in_ok-insert-in-Exactly c = λ name.
    one_name c.args.self.now.names.keys c.insert.new.self.keys c.args.self.now.beginnings.items c.as_str-in-Exactly.result c.in-Exactly.text name c.in_ok-insert-in-Exactly.ensures.keys
    c.as_str-in-Exactly.ensures
    ∙ ap (λ (e : Entry). indexed c.args.self.now name || names (entry_of e) name) (sym c.in-Exactly.is)
