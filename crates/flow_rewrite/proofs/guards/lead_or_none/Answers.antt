use Rattle.std.proofs.Common.{ap}
use Rattle.flow_rewrite.specs.Begun.{lead_of}
use Rattle.flow_rewrite.proofs.GuardLemmas.{lead_none}
use Rattle.flow_rewrite.proofs.PieceLemmas.{lead_some}
use Rattle.flow_rewrite.proofs.guards.lead_or_none.Goals as goal

pub returns-in-None : goal.returns-in-None
returns-in-None c = λ rest. lead_none (lead_of c.args.lead) c.new.result.items rest (ap lead_of c.in-None.is) c.new.ensures.items

pub returns-in-Some : goal.returns-in-Some
returns-in-Some c = λ rest. lead_some (lead_of c.args.lead) c.in-Some.restoring.items rest (ap lead_of c.in-Some.is)
