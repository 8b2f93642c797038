use Rattle.std.proofs.Common.{◌∙◌}
use Rattle.flow_rewrite.proofs.NumberLemmas.{place_found}
use Rattle.func_rewrite.proofs.kept.is_numbered.Goals as goal

pub returns : goal.returns
returns c = c.is_ok.ensures.value ∙ place_found c.args.numbers.now c.args.place c.binary_search.result c.binary_search.ensures.position c.requires
