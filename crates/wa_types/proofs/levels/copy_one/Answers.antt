use Rattle.std.proofs.Common.{ap, ◌∙◌}
use Rattle.wa_types.specs.View.{onto}
use Rattle.wa_types.proofs.ViewLemmas.{onto_append}
use Rattle.wa_types.proofs.levels.copy_one.Goals as goal

pub returns-clause-made : goal.returns-clause-made
returns-clause-made c = λ rest.
    ap (λ s. onto s rest) c.in_ok-push.ensures.items ∙ onto_append c.args.copying.now.made.items c.in_ok-copy_leaf.field-0 rest
    ∙ ap (onto c.args.copying.now.made.items) (c.in_ok-copy_leaf.ensures rest)
