use Rattle.guard_form.proofs.Counting.{units_law}
use Rattle.guard_form.proofs.Grouped.{arms_law, free_law, joins_law}
use Rattle.guard_form.proofs.PiecesInside.{stay_law}
use Rattle.guard_form.proofs.written_form.pieces_join.Goals as goal

pub returns-clause-join : goal.returns-clause-join
returns-clause-join c = joins_law

pub returns-clause-hold : goal.returns-clause-hold
returns-clause-hold c = arms_law

pub returns-clause-free : goal.returns-clause-free
returns-clause-free c = free_law

pub returns-clause-stay : goal.returns-clause-stay
returns-clause-stay c = stay_law

pub returns-clause-numbered : goal.returns-clause-numbered
returns-clause-numbered c = units_law
