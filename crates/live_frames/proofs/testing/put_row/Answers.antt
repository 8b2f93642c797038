use Rattle.std.proofs.Common.{eq-eqb, ne_eqb, true, false}
use Rattle.std.proofs.lemmas.Result.{on_ok_weaker}
use Rattle.local_spill.proofs.PutLemmas.{put_one, put_on, get_is}
use Rattle.call_frames.specs.CallRows.{row_view}
use Rattle.live_frames.proofs.RowSteps.{row_put}
use Rattle.live_frames.proofs.testing.put_row.Goals as goal

pub returns-then-row-eq0-2 : goal.returns-then-row-eq0-2
returns-then-row-eq0-2 c =
    on_ok_weaker c.put_at_most.result
    (λ h. row_put _ _ c.args.index (row_view c.args.row) false true (ne_eqb c.args.row.more 0 c.if-row-eq0.false) (eq-eqb c.args.row.first 0 c.if-row-eq0-2.true)
    (put_on _ _ _ _ _ (put_one _ _ _ _ c.in_ok-push.ensures.items (get_is _)) h))
    c.put_at_most.ensures

pub returns : goal.returns
returns c =
    on_ok_weaker c.put_at_most-2.result
    (λ h. row_put _ _ c.args.index (row_view c.args.row) false false (ne_eqb c.args.row.more 0 c.if-row-eq0.false) (ne_eqb c.args.row.first 0 c.if-row-eq0-2.false)
    (put_on _ _ _ _ _ c.in_ok-put_difference.ensures h))
    c.put_at_most-2.ensures
