use Rattle.std.proofs.Common.{sym, ap, ◌∙◌}
use Rattle.wa_types.specs.Syntax.{branch}
use Rattle.wa_types.specs.View.{code}
use Rattle.wa_types.proofs.ViewLemmas.{in_block, in_loop, in_if, code_none}
use Rattle.wasm_build.specs.BuildsLevels.{closed}
use Rattle.wasm_build.proofs.levels.construct.Goals as goal

pub returns-in-Block : goal.returns-in-Block
returns-in-Block c = λ rest. in_block c.args.ty c.args.inner rest ∙ ap (λ o. closed o c.args.ty (code c.args.inner.items) rest) (sym c.in-Block.is)

pub returns-in-Loop : goal.returns-in-Loop
returns-in-Loop c = λ rest. in_loop c.args.ty c.args.inner rest ∙ ap (λ o. closed o c.args.ty (code c.args.inner.items) rest) (sym c.in-Loop.is)

pub returns-in-Then : goal.returns-in-Then
returns-in-Then c = λ rest.
    in_if c.args.ty c.args.inner c.new.result rest ∙ ap (λ z. branch c.args.ty (code c.args.inner.items) z rest) (ap code c.new.ensures.items ∙ code_none)
    ∙ ap (λ o. closed o c.args.ty (code c.args.inner.items) rest) (sym c.in-Then.is)

pub returns-in-Else : goal.returns-in-Else
returns-in-Else c = λ rest. in_if c.args.ty c.in-Else.then_arm c.args.inner rest ∙ ap (λ o. closed o c.args.ty (code c.args.inner.items) rest) (sym c.in-Else.is)
