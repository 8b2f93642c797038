use Rattle.flow_rewrite.proofs.FlatNumbers.{numbers_law}
use Rattle.flow_rewrite.proofs.laws.flat_numbers.Goals as goal

pub returns : goal.returns
returns c = numbers_law
