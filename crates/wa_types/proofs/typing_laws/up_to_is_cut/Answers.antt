use Rattle.wa_types.specs.Rules.{above_all}
use Rattle.wa_types.proofs.Cuts.{cut_typed, typed_cut}
use Rattle.wa_types.proofs.typing_laws.up_to_is_cut.Goals as goal

pub returns : goal.returns
returns c = λ c' ls k outs ins n. (cut_typed c' ls k outs ins n, typed_cut above_all c' ls k outs ins n)
