use Rattle.std.proofs.Common.{arith, false, true, ◌≡◌, ◌-◌, IfOk, Some, None, sym, ap, ◌∙◌, subst}
use Rattle.wa_model.specs.Protocol.{exports_of}
use Rattle.interp.specs.Host.{code_in, store_in, waits_in}
use Rattle.pause_host.specs.Views.{end_of, left_of, place_in}
use Rattle.pause_host.specs.Moves.{ComesFrom, NextFrom, PlaceFits}
use Rattle.pause_host.specs.declared.stages.Stage.TheVariants as S
use Rattle.pause_host.proofs.Callings.{told_inside}
use Rattle.pause_host.proofs.Hosting.{hosts_stage, memory_there, pausing_waits}
use Rattle.pause_host.proofs.WhatComes.{ending_next}
use Rattle.pause_host.specs.declared.stages.Stage.{Stage}
use Rattle.pause_host.specs.Views.{is_paused, is_stopping}
use Rattle.pause_host.proofs.events.next_event.Goals as goal

pub returns-in-Free-clause-comes : goal.returns-in-Free-clause-comes
returns-in-Free-clause-comes c = λ w is code f more.
    let s = store_in c.args.instance.now in
    let waits = waits_in c.args.instance.now in
    let l = left_of c.args.left.now in
    let left = c.args.steps.now.left in
    let from = λ (z : Stage). place_in (exports_of w.source) w.plan.area l s waits z in
    let f' = subst (λ z. PlaceFits w (from z)) c.in-Free.is f in
    subst (λ z. IfOk c.call_next.result (λ n. NextFrom w (from z) left (c.call_next.new.steps.used - c.args.steps.now.used) n (left_of c.call_next.new.left)
    (store_in c.call_next.new.instance) (waits_in c.call_next.new.instance))) (sym c.in-Free.is)
    (c.call_next.ensures.comes w is code f')

pub returns-in-Answering-clause-comes : goal.returns-in-Answering-clause-comes
returns-in-Answering-clause-comes c = λ w is code f more.
    let s = store_in c.args.instance.now in
    let waits = waits_in c.args.instance.now in
    let l = left_of c.args.left.now in
    let left = c.args.steps.now.left in
    let from = λ (z : Stage). place_in (exports_of w.source) w.plan.area l s waits z in
    let f' = subst (λ z. PlaceFits w (from z)) c.in-Answering.is f in
    λ supply.
    subst (λ z. ComesFrom w (from z) left (c.args.steps.now.used - c.args.steps.now.used) c.tell_answer.result supply supply (left_of c.args.left.now)
    (store_in c.tell_answer.new.instance) (waits_in c.tell_answer.new.instance)) (sym c.in-Answering.is)
    (let none : 0 ≡ c.args.steps.now.used - c.args.steps.now.used = omega arith in
    subst (λ n. ComesFrom w (from (S.Answering c.in-Answering.task c.in-Answering.answer)) left n c.tell_answer.result supply supply l (store_in c.tell_answer.new.instance)
    (waits_in c.tell_answer.new.instance)) none
    (c.tell_answer.ensures.comes w l supply left f'))

pub returns-in-Giving-clause-comes : goal.returns-in-Giving-clause-comes
returns-in-Giving-clause-comes c = λ w is code f more.
    let s = store_in c.args.instance.now in
    let waits = waits_in c.args.instance.now in
    let l = left_of c.args.left.now in
    let left = c.args.steps.now.left in
    let from = λ (z : Stage). place_in (exports_of w.source) w.plan.area l s waits z in
    let f' = subst (λ z. PlaceFits w (from z)) c.in-Giving.is f in
    subst (λ z. IfOk c.give.result (λ n. NextFrom w (from z) left (c.give.new.steps.used - c.args.steps.now.used) n (left_of c.give.new.left) (store_in c.give.new.instance)
    (waits_in c.give.new.instance))) (sym c.in-Giving.is)
    (c.give.ensures.comes w is code f')

pub returns-in_ok-moved-in-Pausing-clause-comes : goal.returns-in_ok-moved-in-Pausing-clause-comes
returns-in_ok-moved-in-Pausing-clause-comes c = λ w is code f more.
    let s = store_in c.args.instance.now in
    let waits = waits_in c.args.instance.now in
    let l = left_of c.args.left.now in
    let left = c.args.steps.now.left in
    let from = λ (z : Stage). place_in (exports_of w.source) w.plan.area l s waits z in
    let f' = subst (λ z. PlaceFits w (from z)) c.in-Pausing.is f in
    λ supply.
    subst (λ z. ComesFrom w (from z) left (c.unwind.new.steps.used - c.args.steps.now.used) c.in_ok-moved-in-Pausing.moved supply supply l (store_in c.unwind.new.instance)
    (waits_in c.unwind.new.instance)) (sym c.in-Pausing.is)
    (c.in_ok-moved-in-Pausing.ensures.comes w l supply is code f')

pub returns-in_ok-moved-in-Paused-clause-comes : goal.returns-in_ok-moved-in-Paused-clause-comes
returns-in_ok-moved-in-Paused-clause-comes c = λ w is code f more.
    let s = store_in c.args.instance.now in
    let waits = waits_in c.args.instance.now in
    let l = left_of c.args.left.now in
    let left = c.args.steps.now.left in
    let from = λ (z : Stage). place_in (exports_of w.source) w.plan.area l s waits z in
    let f' = subst (λ z. PlaceFits w (from z)) c.in-Paused.is f in
    λ supply.
    subst (λ z. ComesFrom w (from z) left (c.rewind.new.steps.used - c.args.steps.now.used) c.in_ok-moved-in-Paused.moved supply supply l (store_in c.rewind.new.instance)
    (waits_in c.rewind.new.instance)) (sym c.in-Paused.is)
    (c.in_ok-moved-in-Paused.ensures.comes w l supply is code f')

pub returns-in-Ending-clause-comes : goal.returns-in-Ending-clause-comes
returns-in-Ending-clause-comes c = λ w is code f more.
    let s = store_in c.args.instance.now in
    let waits = waits_in c.args.instance.now in
    let l = left_of c.args.left.now in
    let left = c.args.steps.now.left in
    let from = λ (z : Stage). place_in (exports_of w.source) w.plan.area l s waits z in
    let f' = subst (λ z. PlaceFits w (from z)) c.in-Ending.is f in
    subst (λ z. IfOk c.ends.result (λ n. NextFrom w (from z) left (c.args.steps.now.used - c.args.steps.now.used) n l s waits)) (sym c.in-Ending.is)
    (ending_next w c.in-Ending.end s left _ c.ends.result l waits (omega arith) c.ends.ensures.end)

pub returns-in-Ended-clause-comes : goal.returns-in-Ended-clause-comes
returns-in-Ended-clause-comes c = λ w is code f more. let no : Some c.in-Ended.end ≡ None = sym (ap end_of c.in-Ended.is) ∙ more in cc

pub call_next-requires-clause-there : goal.call_next-requires-clause-there
call_next-requires-clause-there c =
    hosts_stage c.args.setting.now (code_in c.args.instance.now) (left_of c.args.left.now) (store_in c.args.instance.now) (waits_in c.args.instance.now) c.args.stage S.Free c.in-Free.is c.requires.there

pub give-requires-clause-there : goal.give-requires-clause-there
give-requires-clause-there c =
    hosts_stage c.args.setting.now (code_in c.args.instance.now) (left_of c.args.left.now) (store_in c.args.instance.now) (waits_in c.args.instance.now) c.args.stage
    (S.Giving c.in-Giving.task c.in-Giving.value) c.in-Giving.is c.requires.there

pub unwind-requires-clause-waits : goal.unwind-requires-clause-waits
unwind-requires-clause-waits c =
    pausing_waits c.args.setting.now (code_in c.args.instance.now) (left_of c.args.left.now) (store_in c.args.instance.now) (waits_in c.args.instance.now) c.in-Pausing.pause
    (hosts_stage c.args.setting.now (code_in c.args.instance.now) (left_of c.args.left.now) (store_in c.args.instance.now) (waits_in c.args.instance.now) c.args.stage (S.Pausing c.in-Pausing.pause)
    c.in-Pausing.is c.requires.there)

pub unwind-requires-clause-there : goal.unwind-requires-clause-there
unwind-requires-clause-there c = (
  left_of c.args.left.now,
  hosts_stage c.args.setting.now (code_in c.args.instance.now) (left_of c.args.left.now) (store_in c.args.instance.now) (waits_in c.args.instance.now) c.args.stage
      (S.Pausing c.in-Pausing.pause) c.in-Pausing.is c.requires.there,
)

pub rewind-requires-clause-there : goal.rewind-requires-clause-there
rewind-requires-clause-there c =
    let h = hosts_stage c.args.setting.now (code_in c.args.instance.now) (left_of c.args.left.now) (store_in c.args.instance.now) (waits_in c.args.instance.now) c.args.stage
    (S.Paused c.in-Paused.pause) c.in-Paused.is c.requires.there in
    record { program = h.program; left = left_of c.args.left.now; setting = h.setting; code_is = h.code_is; fits = h.fits; holds = h.holds }

pub tell_answer-requires-clause-memory : goal.tell_answer-requires-clause-memory
tell_answer-requires-clause-memory c =
    let h = c.requires.there in
    memory_there h.program c.args.setting.now (code_in c.args.instance.now) h.setting h.code_is

pub tell_answer-requires-clause-inside : goal.tell_answer-requires-clause-inside
tell_answer-requires-clause-inside c =
    told_inside c.args.setting.now (code_in c.args.instance.now) (left_of c.args.left.now) (store_in c.args.instance.now) (waits_in c.args.instance.now) c.in-Answering.task c.in-Answering.answer
    (hosts_stage c.args.setting.now (code_in c.args.instance.now) (left_of c.args.left.now) (store_in c.args.instance.now) (waits_in c.args.instance.now) c.args.stage
    (S.Answering c.in-Answering.task c.in-Answering.answer) c.in-Answering.is c.requires.there)

pub returns-in-Free-clause-stops : goal.returns-in-Free-clause-stops
returns-in-Free-clause-stops c = λ stopping awake. let no : false ≡ true = sym (ap is_stopping c.in-Free.is) ∙ stopping in absurd cc

pub returns-in-Answering-clause-stops : goal.returns-in-Answering-clause-stops
returns-in-Answering-clause-stops c = λ stopping awake. let no : false ≡ true = sym (ap is_stopping c.in-Answering.is) ∙ stopping in absurd cc

pub returns-in-Giving-clause-stops : goal.returns-in-Giving-clause-stops
returns-in-Giving-clause-stops c = λ stopping awake. let no : false ≡ true = sym (ap is_stopping c.in-Giving.is) ∙ stopping in absurd cc

pub returns-in_ok-moved-in-Paused-clause-stops : goal.returns-in_ok-moved-in-Paused-clause-stops
returns-in_ok-moved-in-Paused-clause-stops c = λ stopping awake. let no : true ≡ false = sym (ap is_paused c.in-Paused.is) ∙ awake in absurd cc
