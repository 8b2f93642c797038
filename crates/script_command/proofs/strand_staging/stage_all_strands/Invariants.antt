use Rattle.script_command.specs.Views.{CanOpen}
use Rattle.script_command.proofs.StagedParts.{Staging}
use Rattle.script_command.proofs.StagedStrandParts.{IsStagedPart}
use Rattle.script_command.proofs.strand_staging.stage_all_strands.Given as goal

-- those that are staged, and those to come
abbrev pub invariant-loop-plan : goal.invariant-loop-plan
invariant-loop-plan l = Staging CanOpen IsStagedPart l.modules l.fn.planned.items l.plan-iterator.rest.items l.staged.items
