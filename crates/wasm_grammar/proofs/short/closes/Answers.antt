use Rattle.std.proofs.Common.{nat_eq, sym, ◌∙◌, arith}
use Rattle.std.proofs.lemmas.Bool.{eqb-true}
use Rattle.wasm_grammar.specs.Passing.{Closes}
use Rattle.wasm_grammar.proofs.ShortItems.{true_by, closes_level}
use Rattle.wasm_grammar.proofs.short.closes.Goals as goal

pub returns-clause-closes : goal.returns-clause-closes
returns-clause-closes c =
    let some = c.if-saturating_sub-lt2.false in
    let room = c.saturating_sub.ensures in
    true_by (nat_eq c.at-op.result 11) (Closes c.args.bytes.now.all c.args.at c.args.stop)
    (λ e. closes_level c.args.bytes.now.all c.args.at c.args.stop (omega (arith, some, room)) c.requires.stop (sym c.at-op.ensures ∙ eqb-true _ 11 e))
