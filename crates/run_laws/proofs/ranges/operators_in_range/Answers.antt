use Rattle.run_laws.proofs.Operators.{operate_in}
use Rattle.run_laws.proofs.ranges.operators_in_range.Goals as goal

pub returns : goal.returns
returns c = operate_in
