-- The next program with its strands, staged over its module.
use Rattle.std.proofs.Common.{◌∙◌, subst, sym}
use Rattle.script_command.specs.Views.{CanOpen, parts_of}
use Rattle.script_command.proofs.StagedParts.{Staging, all_made, ended, item_at, next, none_left, one_more, turned}
use Rattle.script_command.proofs.StagedStrandParts.{IsStagedPart, parts_staged}
use Rattle.script_command.proofs.strand_staging.stage_all_strands.Goals as goal

pub stage_strands-requires : goal.stage_strands-requires
stage_strands-requires c =
    let n = next CanOpen IsStagedPart c.args.modules.now c.args.planned.items c.in-Some.plan _ c.loop-plan.staged.items (turned CanOpen IsStagedPart _ _ _ _ c.in-Some.plan _ c.in-Some.ensures.steps.0 c.loop-plan.invariant) in
    n.can c.index-modules-len.result (item_at c.args.modules.now c.index-modules-len.result _ _ _ c.index-modules-len.is c.len.ensures c.loop-plan.staged.ok.0)

pub loop-plan-preserved : goal.loop-plan-preserved
loop-plan-preserved c =
    subst (Staging CanOpen IsStagedPart c.args.modules.now c.args.planned.items c.next.new.self.rest.items) (sym c.in_ok-push.ensures.items)
    (one_more CanOpen IsStagedPart c.args.modules.now c.args.planned.items c.in-Some.plan c.next.new.self.rest.items c.loop-plan.staged.items
    (turned CanOpen IsStagedPart _ _ _ _ c.in-Some.plan _ c.in-Some.ensures.steps.0 c.loop-plan.invariant) c.index-modules-len.result
    (item_at c.args.modules.now c.index-modules-len.result _ _ _ c.index-modules-len.is c.len.ensures c.loop-plan.staged.ok.0) c.in_ok-program.program c.in_ok-program.ensures)

pub returns : goal.returns
returns c =
    parts_staged (parts_of c.args.modules.now c.args.planned.items) c.loop-plan.staged.items
    (all_made CanOpen IsStagedPart c.args.modules.now c.args.planned.items c.loop-plan.staged.items
    (ended CanOpen IsStagedPart _ _ _ _ (none_left c.loop-plan.plan-iterator.rest.items (sym c.loop-plan.plan-iterator.rest.ok.0 ∙ c.in-None.ensures.steps.0)) c.loop-plan.invariant))
