use Rattle.wa_types.proofs.FaultLemmas.{fault_is_first}
use Rattle.wa_types.proofs.typing_laws.fault_is_first.Goals as goal

pub returns : goal.returns
returns c = λ c' body rule at f. fault_is_first c' body rule at f
