use Rattle.std.proofs.Common.{ap, sym, ◌∙◌}
use Rattle.wa_types.specs.Begun.{content}
use Rattle.wasm_grammar.proofs.next.content.Goals as goal

pub returns-in-10 : goal.returns-in-10
returns-in-10 c = c.bodies.ensures c.args.last ∙ ap (λ i. content i c.args.end c.args.last c.args.owed c.args.value) (sym c.in-10.is)

pub returns-in-3 : goal.returns-in-3
returns-in-3 c = c.functions.ensures c.args.last c.args.owed ∙ ap (λ i. content i c.args.end c.args.last c.args.owed c.args.value) (sym c.in-3.is)
