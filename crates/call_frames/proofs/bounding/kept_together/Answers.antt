use Rattle.std.proofs.Common.{◌∙◌, ap, arith, length, sym}
use Rattle.call_frames.proofs.Least.{calls_more}
use Rattle.call_frames.proofs.bounding.kept_together.Goals as goal

pub loop-local-preserved : goal.loop-local-preserved
loop-local-preserved c =
    let more = calls_more c.args.keepers.now c.loop-local.local c.index-keepers-local.result c.loop-local-test.true in
    let own = ap length (sym c.rows.ensures.numbers ∙ c.index-keepers-local.is) in
    omega (arith, more, own, c.rows_total.ensures, c.saturating_add-total.ensures, c.loop-local.invariant)
