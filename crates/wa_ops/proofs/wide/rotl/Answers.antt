use Rattle.std.proofs.Common.{◌≡◌, ◌%◌, ◌∙◌, arith}
use Rattle.wa_ops.proofs.Shifts.{rotl_is}
use Rattle.wa_ops.proofs.wide.rotl.Goals as goal

pub returns : goal.returns
returns c =
    let turns : c.args.j % 64 % 64 ≡ c.args.j % 64 = omega arith in
    c.rotate_left.ensures
    ∙ (rw turns (rotl_is 64 (c.args.j % 64) c.args.i (omega arith) (omega arith)))
