use Rattle.std.proofs.Common.{arith}
use Rattle.snapshot_store.proofs.Words.{word_stands}
use Rattle.snapshot_store.proofs.numbers.u32_at.Goals as goal

pub returns-clause-is : goal.returns-clause-is
returns-clause-is c = word_stands c.args.bytes.now c.in_ok-word.word.now c.args.at.now c.from_le_bytes.result c.in_ok-word.ensures.cases (λ i. omega (arith, c.type_inv.bytes i)) c.from_le_bytes.ensures
