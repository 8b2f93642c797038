use Rattle.std.proofs.Common.{arith, ◌++◌, ap, sym, ◌∙◌}
use Rattle.std.proofs.lemmas.Str.Pattern.{strip_prefix_char}
use Rattle.call_graph.proofs.ListLemmas.{behind_is}
use Rattle.call_graph.proofs.lists.behind_module.Goals as goal

pub returns : goal.returns
returns c =
    let e = c.in_ok-rest.ensures.cases in
    behind_is c.args.text.now c.args.module.now c.in_ok-rest.rest.now c.strip_prefix-2.result (e.1.1 ∙ ap (λ l. c.args.module.now ++ l) (sym e.2))
    (strip_prefix_char 46 c.in_ok-rest.rest.now c.strip_prefix-2.result c.strip_prefix-2.ensures.cases (omega arith))
