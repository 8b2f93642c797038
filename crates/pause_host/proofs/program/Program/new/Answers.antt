use Rattle.pause_host.proofs.FromPlans.{sets_up}
use Rattle.pause_host.proofs.program.Program.new.Goals as goal

pub returns : goal.returns
returns c = sets_up c.args.plan c.requires c.of_plan.result c.of_plan.ensures.ok c.of_plan.ensures.err
