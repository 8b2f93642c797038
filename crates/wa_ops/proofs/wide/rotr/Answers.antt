use Rattle.std.proofs.Common.{◌≡◌, ◌%◌, ◌∙◌, arith}
use Rattle.wa_ops.proofs.Shifts.{rotr_is}
use Rattle.wa_ops.proofs.wide.rotr.Goals as goal

pub returns : goal.returns
returns c =
    let turns : c.args.j % 64 % 64 ≡ c.args.j % 64 = omega arith in
    c.rotate_right.ensures
    ∙ (rw turns (rotr_is 64 (c.args.j % 64) c.args.i (omega arith) (omega arith)))
