use Rattle.std.proofs.Common.{arith, nat_eq, take}
use Rattle.std.specs.List.{list_any}
use Rattle.call_frames.specs.CallRows.{numbers_in, row_views}
use Rattle.call_frames.proofs.NotedSets.{above_still, noted_none, rows_end, rows_next}
use Rattle.call_frames.proofs.noting.note_rows.Goals as goal

pub loop-at-init : goal.loop-at-init
loop-at-init c = noted_none c.args.local c.args.sets.now.items

pub note_row-requires : goal.note_row-requires
note_row-requires c =
    above_still c.args.local (λ k. list_any (nat_eq k) (numbers_in (row_views (take c.loop-at.at c.args.rows.now)))) c.args.sets.now.items c.loop-at.sets.items c.loop-at.invariant c.requires

pub loop-at-preserved : goal.loop-at-preserved
loop-at-preserved c =
    rows_next c.args.local c.args.rows.now c.loop-at.at _ c.args.sets.now.items c.loop-at.sets.items c.note_row.new.sets.items c.loop-at-test.true c.loop-at.invariant c.note_row.ensures

pub returns : goal.returns
returns c = rows_end c.args.local c.args.rows.now c.loop-at.at c.args.sets.now.items c.loop-at.sets.items (omega (arith, c.loop-at-test.false)) c.loop-at.invariant
