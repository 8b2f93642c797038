use Rattle.wa_types.proofs.FaultLemmas.{valid_no_fault}
use Rattle.wa_types.proofs.typing_laws.valid_has_no_fault.Goals as goal

pub returns : goal.returns
returns c = λ m f rule at v h. valid_no_fault m f rule at v h
