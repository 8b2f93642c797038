-- The next program, staged over its module.
use Rattle.std.proofs.Common.{◌∙◌, subst, sym}
use Rattle.world_hosting.specs.Views.{IsStaged}
use Rattle.script_command.specs.Views.{CanStage}
use Rattle.script_command.proofs.StagedParts.{Staging, all_made, ended, item_at, next, none_left, one_more, turned}
use Rattle.script_command.proofs.staging.stage_all.Goals as goal

pub stage_program-requires-clause-listed : goal.stage_program-requires-clause-listed
stage_program-requires-clause-listed c =
    let n = next CanStage IsStaged c.args.modules.now c.args.planned.items c.in-Some.plan _ c.loop-plan.staged.items (turned CanStage IsStaged _ _ _ _ c.in-Some.plan _ c.in-Some.ensures.steps.0 c.loop-plan.invariant) in
    (n.can c.index-modules-len.result (item_at c.args.modules.now c.index-modules-len.result _ _ _ c.index-modules-len.is c.len.ensures c.loop-plan.staged.ok.0)).listing

pub stage_program-requires-clause-fits : goal.stage_program-requires-clause-fits
stage_program-requires-clause-fits c =
    let n = next CanStage IsStaged c.args.modules.now c.args.planned.items c.in-Some.plan _ c.loop-plan.staged.items (turned CanStage IsStaged _ _ _ _ c.in-Some.plan _ c.in-Some.ensures.steps.0 c.loop-plan.invariant) in
    (n.can c.index-modules-len.result (item_at c.args.modules.now c.index-modules-len.result _ _ _ c.index-modules-len.is c.len.ensures c.loop-plan.staged.ok.0)).fits

pub stage_program-requires-clause-suits : goal.stage_program-requires-clause-suits
stage_program-requires-clause-suits c =
    let n = next CanStage IsStaged c.args.modules.now c.args.planned.items c.in-Some.plan _ c.loop-plan.staged.items (turned CanStage IsStaged _ _ _ _ c.in-Some.plan _ c.in-Some.ensures.steps.0 c.loop-plan.invariant) in
    (n.can c.index-modules-len.result (item_at c.args.modules.now c.index-modules-len.result _ _ _ c.index-modules-len.is c.len.ensures c.loop-plan.staged.ok.0)).suits

pub loop-plan-preserved : goal.loop-plan-preserved
loop-plan-preserved c =
    subst (Staging CanStage IsStaged c.args.modules.now c.args.planned.items c.next.new.self.rest.items) (sym c.in_ok-push.ensures.items)
    (one_more CanStage IsStaged c.args.modules.now c.args.planned.items c.in-Some.plan c.next.new.self.rest.items c.loop-plan.staged.items
    (turned CanStage IsStaged _ _ _ _ c.in-Some.plan _ c.in-Some.ensures.steps.0 c.loop-plan.invariant) c.index-modules-len.result
    (item_at c.args.modules.now c.index-modules-len.result _ _ _ c.index-modules-len.is c.len.ensures c.loop-plan.staged.ok.0) c.in_ok-program.program c.in_ok-program.ensures)

pub returns : goal.returns
returns c =
    all_made CanStage IsStaged c.args.modules.now c.args.planned.items c.loop-plan.staged.items
    (ended CanStage IsStaged _ _ _ _ (none_left c.loop-plan.plan-iterator.rest.items (sym c.loop-plan.plan-iterator.rest.ok.0 ∙ c.in-None.ensures.steps.0)) c.loop-plan.invariant)
