use Rattle.std.proofs.Common.{arith}
use Rattle.script_command.proofs.strand_parting.put_strand_parts.Goals as goal

pub overflow_cast-number : goal.overflow_cast-number
overflow_cast-number c = omega (arith, c.requires, c.len-number.ensures)
