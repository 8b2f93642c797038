use Rattle.run_theory.proofs.QuietRewritten.{none_told}
use Rattle.run_theory.proofs.quiet_laws.none_told_is_quiet.Goals as goal

pub returns : goal.returns
returns c = λ m s which tells h. none_told m s which tells h
