use Rattle.wa_types.proofs.FaultLemmas.{one_first_fault}
use Rattle.wa_types.proofs.typing_laws.one_first_fault.Goals as goal

pub returns : goal.returns
returns c = λ m f g r s at to h k. one_first_fault m f g r s at to h k
