use Rattle.flat_laws.proofs.OwnLemmas as O
use Rattle.flat_laws.proofs.local_rules.own_locals_stay.Goals as goal

pub returns : goal.returns
returns c = λ m x f v is. O.own_uses m x f v is
