use Rattle.std.proofs.Common.{List, ℕ, sym, ap, subst, ◌∙◌}
use Rattle.std.specs.Borrow.{Bor}
use Rattle.wasm_validate.proofs.OrderedNames.{any_named, found}
use Rattle.call_graph.specs.Index.{any_begins, Apart}
use Rattle.call_graph.proofs.IndexLemmas.{or_first, or_second}
use Rattle.call_graph.proofs.imports.Index.names.Goals as goal

pub any_begins-requires : goal.any_begins-requires
any_begins-requires c = subst Apart (sym c.deref.ensures.value) c.requires

pub returns : goal.returns
returns c =
    or_second (any_named c.args.name.now c.args.self.now.names.keys) (any_begins c.args.self.now.beginnings.items c.args.name.now) c.any_begins.result
    (sym (found c.args.name.now c.args.self.now.names.keys) ∙ sym c.contains.ensures ∙ c.if-contains.false) (c.any_begins.ensures
    ∙ ap (λ (l : List (Bor (List ℕ))). any_begins l c.args.name.now) c.deref.ensures.value)

pub returns-then-contains : goal.returns-then-contains
returns-then-contains c =
    or_first (any_named c.args.name.now c.args.self.now.names.keys) (any_begins c.args.self.now.beginnings.items c.args.name.now) (sym (found c.args.name.now c.args.self.now.names.keys)
    ∙ sym c.contains.ensures ∙ c.if-contains.true)
