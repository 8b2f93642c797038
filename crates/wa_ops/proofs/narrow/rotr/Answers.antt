use Rattle.std.proofs.Common.{◌%◌, ◌∙◌, arith}
use Rattle.wa_ops.proofs.Shifts.{rotr_is}
use Rattle.wa_ops.proofs.narrow.rotr.Goals as goal

pub returns : goal.returns
returns c = c.rotate_right.ensures ∙ rotr_is 32 (c.args.j % 32) c.args.i (omega arith) (omega arith)
