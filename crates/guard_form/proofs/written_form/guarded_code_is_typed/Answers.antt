use Rattle.guard_form.proofs.FrontTypes.{body_from_law, body_law, front_from_law, front_law}
use Rattle.guard_form.proofs.PieceTypes.{pieces_law}
use Rattle.guard_form.proofs.written_form.guarded_code_is_typed.Goals as goal

pub returns-clause-front : goal.returns-clause-front
returns-clause-front c = front_law

pub returns-clause-body : goal.returns-clause-body
returns-clause-body c = body_law

pub returns-clause-pieces : goal.returns-clause-pieces
returns-clause-pieces c = pieces_law

pub returns-clause-front_from : goal.returns-clause-front_from
returns-clause-front_from c = front_from_law

pub returns-clause-body_from : goal.returns-clause-body_from
returns-clause-body_from c = body_from_law
