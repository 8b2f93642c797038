use Rattle.flat_laws.proofs.Depths as D
use Rattle.flat_laws.proofs.Sizes as S
use Rattle.flat_laws.proofs.ValidModules as W
use Rattle.flat_laws.proofs.module_laws.flat_code_is_small.Goals as goal

pub returns-clause-of_pruned : goal.returns-clause-of_pruned
returns-clause-of_pruned c = λ n a ls code ops. W.flat_pruned n a ls code ops

pub returns-clause-small : goal.returns-clause-small
returns-clause-small c = λ m x f. S.flat_is_small m x f

pub returns-clause-stacks : goal.returns-clause-stacks
returns-clause-stacks c = λ m x f t. S.stacks_are_slots m x f t

pub returns-clause-shallow : goal.returns-clause-shallow
returns-clause-shallow c = λ m x f. D.flat_is_flat m x f
