use Rattle.std.proofs.Common.{List, ◌∷◌, ◌++◌, ap, ◌∙◌}
use Rattle.call_graph.specs.declared.lists.Entry.{Entry}
use Rattle.call_graph.specs.Entries.{any_names}
use Rattle.call_graph.proofs.EntryLemmas.{any_listed}
use Rattle.call_graph.proofs.lists.ImportList.listed.Goals as goal

pub returns : goal.returns
returns c =
    c.any_named.ensures ∙ ap (λ (l : List Entry). any_names l (c.args.module.now ++ 46 ∷ c.args.base.now)) c.deref.ensures.value
    ∙ any_listed c.self.inside.entries.items c.args.self.now (c.args.module.now ++ 46 ∷ c.args.base.now) c.self.view_is
