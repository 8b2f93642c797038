use Rattle.world_hosting.specs.Views.{IsStaged}
use Rattle.script_command.specs.Views.{CanStage}
use Rattle.script_command.proofs.StagedParts.{Staging}
use Rattle.script_command.proofs.staging.stage_all.Given as goal

-- those that are staged, and those to come
abbrev pub invariant-loop-plan : goal.invariant-loop-plan
invariant-loop-plan l = Staging CanStage IsStaged l.modules l.fn.planned.items l.plan-iterator.rest.items l.staged.items
