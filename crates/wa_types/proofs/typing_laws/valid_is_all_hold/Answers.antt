use Rattle.wa_types.proofs.FaultLemmas.{valid_outside, all_hold_valid}
use Rattle.wa_types.proofs.typing_laws.valid_is_all_hold.Goals as goal

pub returns : goal.returns
returns c = λ m. (λ v. (valid_outside m v, v.bodies), λ h. all_hold_valid m h.0 h.1)
