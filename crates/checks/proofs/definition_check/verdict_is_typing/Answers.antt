use Rattle.validate_bodies.proofs.BodyVerdicts.{passes_typed, fails_fault}
use Rattle.checks.proofs.definition_check.verdict_is_typing.Goals as goal

pub returns : goal.returns
returns c = λ d body. (passes_typed d body, fails_fault d body)
