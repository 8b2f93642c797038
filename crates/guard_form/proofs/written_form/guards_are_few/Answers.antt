use Rattle.guard_form.proofs.EntrySizes.{entry_depth, entry_reads, entry_size, guarded_reads, written_reads}
use Rattle.guard_form.proofs.Sizes.{depth_law, passing_law, reads_law, size_law}
use Rattle.guard_form.proofs.UnitCounts.{counted_law, passing_small}
use Rattle.guard_form.proofs.written_form.guards_are_few.Goals as goal

pub returns-clause-size : goal.returns-clause-size
returns-clause-size c = size_law

pub returns-clause-depth : goal.returns-clause-depth
returns-clause-depth c = depth_law

pub returns-clause-few : goal.returns-clause-few
returns-clause-few c = counted_law

pub returns-clause-reads : goal.returns-clause-reads
returns-clause-reads c = reads_law

pub returns-clause-passing : goal.returns-clause-passing
returns-clause-passing c = passing_law

pub returns-clause-passing_small : goal.returns-clause-passing_small
returns-clause-passing_small c = passing_small

pub returns-clause-entry_size : goal.returns-clause-entry_size
returns-clause-entry_size c = entry_size

pub returns-clause-entry_reads : goal.returns-clause-entry_reads
returns-clause-entry_reads c = entry_reads

pub returns-clause-entry_depth : goal.returns-clause-entry_depth
returns-clause-entry_depth c = entry_depth

pub returns-clause-guarded_reads : goal.returns-clause-guarded_reads
returns-clause-guarded_reads c = guarded_reads

pub returns-clause-written_reads : goal.returns-clause-written_reads
returns-clause-written_reads c = written_reads
