use Rattle.flat_laws.proofs.StackReads as R
use Rattle.flat_laws.proofs.local_rules.stack_alone_is_read.Goals as goal

pub returns : goal.returns
returns c = λ m x f place y v is extra l. R.stack_reads m x f place y v is extra l
