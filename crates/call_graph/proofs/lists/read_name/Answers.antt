use Rattle.std.proofs.Common.{arith, ◌∙◌}
use Rattle.call_graph.proofs.ListLemmas.{contains_is, star_before_end, without_dot, with_dot}
use Rattle.call_graph.proofs.lists.read_name.Goals as goal

pub returns-then-contains : goal.returns-then-contains
returns-then-contains c =
    star_before_end c.args.text.now c.requires.some c.requires.starless (contains_is 42 c.args.text.now c.contains.result c.contains.ensures.cases (omega arith) ∙ c.if-contains.true)

pub returns-then-not-contains : goal.returns-then-not-contains
returns-then-not-contains c =
    without_dot c.args.text.now c.requires.some c.requires.starless (contains_is 42 c.args.text.now c.contains.result c.contains.ensures.cases (omega arith) ∙ c.if-contains.false)
    (contains_is 46 c.args.text.now c.contains-2.result c.contains-2.ensures.cases (omega arith) ∙ c.if-not-contains.true)

pub returns : goal.returns
returns c =
    with_dot c.args.text.now c.in_ok-new.field-0 c.requires.some c.requires.starless (contains_is 42 c.args.text.now c.contains.result c.contains.ensures.cases (omega arith)
    ∙ c.if-contains.false) (contains_is 46 c.args.text.now c.contains-2.result c.contains-2.ensures.cases (omega arith) ∙ c.if-not-contains.false) c.in_ok-new.ensures
