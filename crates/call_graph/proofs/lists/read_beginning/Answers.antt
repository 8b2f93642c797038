use Rattle.std.proofs.Common.{arith, ◌∙◌}
use Rattle.call_graph.proofs.ListLemmas.{contains_is, star_at_end}
use Rattle.call_graph.proofs.lists.read_beginning.Goals as goal

pub returns : goal.returns
returns c =
    star_at_end c.args.front.now c.in_ok-new.field-0 (contains_is 42 c.args.front.now c.contains.result c.contains.ensures.cases (omega arith) ∙ c.if-contains.false) c.in_ok-new.ensures
