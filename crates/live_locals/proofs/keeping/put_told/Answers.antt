use Rattle.std.proofs.Common.{◌++◌, ◌-◌, ◌∙◌, [], ap, arith, sym}
use Rattle.std.specs.Prelude.{if◌then◌else◌}
use Rattle.std.proofs.lemmas.Result.{on_ok_weaker}
use Rattle.call_frames.specs.CallRows.{counted}
use Rattle.live_locals.proofs.KeepingLemmas.{told_nothing, told_some}
use Rattle.live_locals.proofs.keeping.put_told.Goals as goal

pub returns-then-end-first : goal.returns-then-end-first
returns-then-end-first c =
    told_nothing c.args.first c.args.end c.args.rows.now (omega (arith, c.if-end-first.true))
    ∙ ap (λ b. (if b then counted c.args.first (c.args.end - c.args.first) else []) ++ c.args.rows.now) (sym c.if-not-told.false)

pub returns : goal.returns
returns c =
    on_ok_weaker c.put.result
    (λ e. e ∙ told_some c.args.first c.args.end c.args.rows.now (omega (arith, c.if-end-first.false))
    ∙ ap (λ b. (if b then counted c.args.first (c.args.end - c.args.first) else []) ++ c.args.rows.now) (sym c.if-not-told.false))
    c.put.ensures
