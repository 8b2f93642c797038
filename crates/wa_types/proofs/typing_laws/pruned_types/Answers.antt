use Rattle.wa_types.proofs.TypingLemmas.{pruned_types}
use Rattle.wa_types.proofs.typing_laws.pruned_types.Goals as goal

pub returns : goal.returns
returns c = λ c' ls k outs ins h. pruned_types c' ls k outs ins h
