use Rattle.std.proofs.Common.{arith}
use Rattle.call_frames.proofs.Least.{total_kept}
use Rattle.call_frames.proofs.bounding.least_length.Goals as goal

pub returns : goal.returns
returns c = λ types sets kept.
    let e = total_kept types c.args.count sets c.args.keepers.now kept in
    omega (arith, e, c.kept_together.ensures, c.saturating_mul-most.ensures, c.min.ensures)
