use Rattle.std.proofs.Common.{ap, ◌∙◌, max}
use Rattle.wasm_grammar.specs.Goals.{goal_of}
use Rattle.wasm_grammar.proofs.Faults.{skips_to}
use Rattle.wasm_grammar.proofs.machine.skip.Goals as goal

pub returns-in-Rest-clause-on : goal.returns-in-Rest-clause-on
returns-in-Rest-clause-on c = λ bounds m bytes gs s fits below. skips_to bytes c.args.at c.args.stop c.max.result c.in-Rest.field-0 (goal_of c.args.goal) gs (ap goal_of c.in-Rest.is)
    (c.max.ensures ∙ ap (max c.args.at) c.saturating_sub.ensures) s fits below
