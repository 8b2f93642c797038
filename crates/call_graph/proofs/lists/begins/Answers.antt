use Rattle.std.proofs.Common.{sym, ◌∙◌}
use Rattle.std.proofs.lemmas.Str.Pattern.{starts_text}
use Rattle.call_graph.proofs.ListLemmas.{begins_inside, begins_behind, begins_nowhere}
use Rattle.call_graph.proofs.lists.begins.Goals as goal

pub returns-then-starts_with : goal.returns-then-starts_with
returns-then-starts_with c =
    begins_inside c.args.module.now c.args.base.now c.args.text.now (sym (starts_text c.starts_with.result c.args.text.now c.args.module.now c.starts_with.ensures.cases) ∙ c.if-starts_with.true)

pub returns-in-Some : goal.returns-in-Some
returns-in-Some c =
    starts_text c.starts_with-in-Some.result c.in-Some.rest.now c.args.base.now c.starts_with-in-Some.ensures.cases
    ∙ begins_behind c.args.module.now c.args.base.now c.args.text.now c.in-Some.rest.now c.in-Some.ensures

pub returns-in-None : goal.returns-in-None
returns-in-None c =
    begins_nowhere c.args.module.now c.args.base.now c.args.text.now (sym (starts_text c.starts_with.result c.args.text.now c.args.module.now c.starts_with.ensures.cases)
    ∙ c.if-starts_with.false) c.in-None.ensures
