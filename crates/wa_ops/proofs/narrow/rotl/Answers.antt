use Rattle.std.proofs.Common.{◌%◌, ◌∙◌, arith}
use Rattle.wa_ops.proofs.Shifts.{rotl_is}
use Rattle.wa_ops.proofs.narrow.rotl.Goals as goal

pub returns : goal.returns
returns c = c.rotate_left.ensures ∙ rotl_is 32 (c.args.j % 32) c.args.i (omega arith) (omega arith)
