use Rattle.std.proofs.Common.{refl}
use Rattle.live_frames.proofs.EndSteps.{row_added}
use Rattle.live_frames.proofs.ends.add_row_ends.Goals as goal

pub returns-clause-more : goal.returns-clause-more
returns-clause-more c =
    row_added c.args.ends.now.items c.add_from.new.ends.items c.add_from-2.new.ends.items c.args.row.first c.args.row.more c.args.bytes _ c.ranges.bytes.fits
    refl c.add_from.ensures.before c.add_from.ensures.behind c.add_from-2.ensures.before c.add_from-2.ensures.behind
