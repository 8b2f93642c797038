use Rattle.call_graph.proofs.ListLemmas.{same_behind, same_nowhere}
use Rattle.call_graph.proofs.lists.is_joined.Goals as goal

pub returns-in-Some : goal.returns-in-Some
returns-in-Some c = same_behind c.args.module.now c.args.base.now c.args.text.now c.in-Some.rest.now c.eq.result c.in-Some.ensures c.eq.ensures

pub returns-in-None : goal.returns-in-None
returns-in-None c = same_nowhere c.args.module.now c.args.base.now c.args.text.now c.in-None.ensures
