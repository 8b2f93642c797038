-- The next program, put where its record has it.
use Rattle.std.proofs.Common.{◌∙◌, arith, length, map, subst, sym}
use Rattle.std.proofs.lemmas.List.{length-map}
use Rattle.snapshot_store.specs.Views.{record_of}
use Rattle.snapshot_store.proofs.Written.{each_fits}
use Rattle.script_command.specs.Views.{part_of}
use Rattle.script_command.proofs.StagedParts.{none_left}
use Rattle.world_hosting.specs.Continued.{IsWhole}
use Rattle.script_command.proofs.PutBack.{Resuming, all_resumed, here_can, next_record, none_resumed, one_more, one_unfit, place_at, record_at, turned, unfit_of}
use Rattle.script_command.proofs.resuming.resume_each.Goals as goal

pub loop-plan-init : goal.loop-plan-init
loop-plan-init c =
    subst (λ rest. Resuming c.args.modules.now c.args.planned.items rest (map record_of c.args.records.now) c.new-resumed.result.items) (sym c.into_iter-plan-iterator.ensures.into_iter_gives.0)
    (none_resumed c.args.modules.now c.args.planned.items (map record_of c.args.records.now) c.new-resumed.result.items c.new-resumed.ensures.items c.requires.can
    (omega (arith, length-map c.args.records.now record_of, c.requires.many)))

pub resume_program-requires-clause-listed : goal.resume_program-requires-clause-listed
resume_program-requires-clause-listed c =
    let s = (turned c.args.modules.now c.args.planned.items _ _ c.in-Some.plan (map record_of c.args.records.now) c.loop-plan.resumed.items c.in-Some.ensures.steps.0 c.loop-plan.invariant) in
    (here_can c.args.modules.now c.args.planned.items c.in-Some.plan c.next.new.self.rest.items (map record_of c.args.records.now) c.loop-plan.resumed.items s c.index-modules-number.result (place_at c.args.modules.now c.index-modules-number.result _ _ _ c.index-modules-number.is c.len-number.ensures c.loop-plan.resumed.ok.0)).listing

pub resume_program-requires-clause-fits : goal.resume_program-requires-clause-fits
resume_program-requires-clause-fits c =
    let s = (turned c.args.modules.now c.args.planned.items _ _ c.in-Some.plan (map record_of c.args.records.now) c.loop-plan.resumed.items c.in-Some.ensures.steps.0 c.loop-plan.invariant) in
    (here_can c.args.modules.now c.args.planned.items c.in-Some.plan c.next.new.self.rest.items (map record_of c.args.records.now) c.loop-plan.resumed.items s c.index-modules-number.result (place_at c.args.modules.now c.index-modules-number.result _ _ _ c.index-modules-number.is c.len-number.ensures c.loop-plan.resumed.ok.0)).fits

pub resume_program-requires-clause-suits : goal.resume_program-requires-clause-suits
resume_program-requires-clause-suits c =
    let s = (turned c.args.modules.now c.args.planned.items _ _ c.in-Some.plan (map record_of c.args.records.now) c.loop-plan.resumed.items c.in-Some.ensures.steps.0 c.loop-plan.invariant) in
    (here_can c.args.modules.now c.args.planned.items c.in-Some.plan c.next.new.self.rest.items (map record_of c.args.records.now) c.loop-plan.resumed.items s c.index-modules-number.result (place_at c.args.modules.now c.index-modules-number.result _ _ _ c.index-modules-number.is c.len-number.ensures c.loop-plan.resumed.ok.0)).suits

pub resume_program-requires-clause-whole : goal.resume_program-requires-clause-whole
resume_program-requires-clause-whole c =
    let s = (turned c.args.modules.now c.args.planned.items _ _ c.in-Some.plan (map record_of c.args.records.now) c.loop-plan.resumed.items c.in-Some.ensures.steps.0 c.loop-plan.invariant) in
    let there = next_record c.args.modules.now c.args.planned.items c.in-Some.plan c.next.new.self.rest.items (map record_of c.args.records.now) c.loop-plan.resumed.items s in
    let number = c.len-number.ensures ∙ c.loop-plan.resumed.ok.0 in
    each_fits IsWhole record_of c.args.records.now c.len-number.result c.index-records-number.result c.requires.whole
    (omega (arith, there, number, length-map c.args.records.now record_of)) c.index-records-number.is

pub returns-in-Err-clause-unfit : goal.returns-in-Err-clause-unfit
returns-in-Err-clause-unfit c = λ e.
    let s = (turned c.args.modules.now c.args.planned.items _ _ c.in-Some.plan (map record_of c.args.records.now) c.loop-plan.resumed.items c.in-Some.ensures.steps.0 c.loop-plan.invariant) in
    one_unfit c.args.modules.now c.args.planned.items c.in-Some.plan c.next.new.self.rest.items (map record_of c.args.records.now) c.loop-plan.resumed.items s c.index-modules-number.result (place_at c.args.modules.now c.index-modules-number.result _ _ _ c.index-modules-number.is c.len-number.ensures c.loop-plan.resumed.ok.0) (record_of c.index-records-number.result) (record_at c.args.records.now c.index-records-number.result (length c.loop-plan.resumed.items) (next_record c.args.modules.now c.args.planned.items c.in-Some.plan c.next.new.self.rest.items (map record_of c.args.records.now) c.loop-plan.resumed.items s)
    (place_at c.args.records.now c.index-records-number.result _ _ _ c.index-records-number.is c.len-number.ensures c.loop-plan.resumed.ok.0))
    (unfit_of (part_of c.index-modules-number.result c.in-Some.plan) (record_of c.index-records-number.result) c.in-Err.fault c.in-Err.ensures e)

pub loop-plan-preserved : goal.loop-plan-preserved
loop-plan-preserved c =
    let s = (turned c.args.modules.now c.args.planned.items _ _ c.in-Some.plan (map record_of c.args.records.now) c.loop-plan.resumed.items c.in-Some.ensures.steps.0 c.loop-plan.invariant) in
    subst (Resuming c.args.modules.now c.args.planned.items c.next.new.self.rest.items (map record_of c.args.records.now)) (sym c.in_ok-put_program.ensures)
    (one_more c.args.modules.now c.args.planned.items c.in-Some.plan c.next.new.self.rest.items (map record_of c.args.records.now) c.loop-plan.resumed.items s c.index-modules-number.result (place_at c.args.modules.now c.index-modules-number.result _ _ _ c.index-modules-number.is c.len-number.ensures c.loop-plan.resumed.ok.0) (record_of c.index-records-number.result) (record_at c.args.records.now c.index-records-number.result (length c.loop-plan.resumed.items) (next_record c.args.modules.now c.args.planned.items c.in-Some.plan c.next.new.self.rest.items (map record_of c.args.records.now) c.loop-plan.resumed.items s)
    (place_at c.args.records.now c.index-records-number.result _ _ _ c.index-records-number.is c.len-number.ensures c.loop-plan.resumed.ok.0)) c.in-Ok.program c.in-Ok.ensures.0 c.in-Ok.ensures.1)

pub returns-clause-resumed : goal.returns-clause-resumed
returns-clause-resumed c =
    all_resumed c.args.modules.now c.args.planned.items c.loop-plan.plan-iterator.rest.items (map record_of c.args.records.now) c.loop-plan.resumed.items
    (none_left c.loop-plan.plan-iterator.rest.items (sym c.loop-plan.plan-iterator.rest.ok.0 ∙ c.in-None.ensures.steps.0)) c.loop-plan.invariant
