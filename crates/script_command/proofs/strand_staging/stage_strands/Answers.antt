-- A program of a script, staged with all its strands.
use Rattle.std.proofs.Common.{◌∙◌, ap}
use Rattle.wa_types.specs.View.{module_of}
use Rattle.script_reader.specs.Views.{program_of}
use Rattle.script_setup.specs.Bindings.{bindings}
use Rattle.script_command.specs.StrandViews.{funcs_each}
use Rattle.script_command.specs.StrandWorlds.{strand_names_of}
use Rattle.script_command.specs.Views.{part_of}
use Rattle.script_command.proofs.PlannedParts.{named_each, staged_as, strands_bind}
use Rattle.script_command.proofs.strand_staging.stage_strands.Goals as goal

pub plan_strands-requires-clause-listed : goal.plan_strands-requires-clause-listed
plan_strands-requires-clause-listed c = c.requires.listing

pub plan_strands-requires-clause-fits : goal.plan_strands-requires-clause-fits
plan_strands-requires-clause-fits c = c.requires.fits

pub plan_strands-requires-clause-suits : goal.plan_strands-requires-clause-suits
plan_strands-requires-clause-suits c = c.requires.suits

pub stage_strand_plan-requires-clause-plan : goal.stage_strand_plan-requires-clause-plan
stage_strand_plan-requires-clause-plan c = let p = c.in_ok-planned.ensures in p.plan

pub stage_strand_plan-requires-clause-sets_up : goal.stage_strand_plan-requires-clause-sets_up
stage_strand_plan-requires-clause-sets_up c = let p = c.in_ok-planned.ensures in record { funcs = _; all = p.set_up; apart = p.apart }

pub stage_strand_plan-requires-clause-named : goal.stage_strand_plan-requires-clause-named
stage_strand_plan-requires-clause-named c =
    named_each (part_of c.args.valid.now c.args.plan) c.in_ok-planned.planned c.in_ok-planned.ensures c.in_ok-names.names.items
    (c.in_ok-names.ensures ∙ ap (λ m. strand_names_of (module_of m) (program_of c.args.plan.text)) c.module.ensures.same)

pub returns : goal.returns
returns c =
    let x = part_of c.args.valid.now c.args.plan in
    let z = c.in_ok-planned.planned in
    let p = c.in_ok-planned.ensures in
    staged_as x z p c.stage_strand_plan.result c.in_ok-names.names.items
    (c.in_ok-names.ensures ∙ ap (λ m. strand_names_of (module_of m) (program_of c.args.plan.text)) c.module.ensures.same)
    (c.stage_strand_plan.ensures (funcs_each x.text.entries x.text.strands x.given.funcs) (bindings x.source x.text.binds) p.set_up (strands_bind x z p))
