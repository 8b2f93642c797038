use Rattle.wa_types.specs.View.{code}
use Rattle.slim_rewrite.proofs.SequenceLemmas.{joined_none, joined_some}
use Rattle.slim_rewrite.proofs.sequence.joined.Goals as goal

pub returns-in-None-clause-units : goal.returns-in-None-clause-units
returns-in-None-clause-units c = joined_none c.args.units.items c.args.last (code c.args.piece.items) c.in-None.is

pub returns-in_ok-push-in-Some-clause-units : goal.returns-in_ok-push-in-Some-clause-units
returns-in_ok-push-in-Some-clause-units c = joined_some c.args.units.items c.push.new.self.items c.args.last c.in-Some.head _ (code c.args.piece.items) c.in-Some.is c.closed.ensures
    c.in_ok-push-in-Some.ensures.items
