use Rattle.std.proofs.Common.{ap, ◌+◌, ◌%◌, ◌^◌}
use Rattle.live_frames.proofs.EndSteps.{before_place, behind_place}
use Rattle.live_frames.proofs.ends.add_from.Goals as goal

pub returns-clause-before : goal.returns-clause-before
returns-clause-before c = λ k lt. before_place c.args.ends.now.items c.args.call _ k lt

pub returns-clause-behind : goal.returns-clause-behind
returns-clause-behind c = λ k le.
    behind_place c.args.ends.now.items c.args.call _ k _ c.args.bytes c.requires (ap (λ n. (n + c.args.bytes) % 2 ^ 32) c.index.ensures) le
