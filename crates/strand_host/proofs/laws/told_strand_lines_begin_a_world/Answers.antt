use Rattle.strand_host.proofs.StrandLines.{told_lines_begin}
use Rattle.strand_host.proofs.laws.told_strand_lines_begin_a_world.Goals as goal

pub returns : goal.returns
returns c = told_lines_begin
