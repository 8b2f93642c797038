use Rattle.std.proofs.Common.{arith, ◌≡◌, ◌+◌, ◌-◌, [], IfOk, refl, subst}
use Rattle.wa_model.specs.Blocking.{the_start, done_notes}
use Rattle.wa_model.specs.Protocol.{held_on}
use Rattle.interp.specs.Host.{code_in, store_in, waits_in}
use Rattle.host_laws.specs.Places.{stands}
use Rattle.pause_host.specs.Views.{left_of}
use Rattle.pause_host.specs.Hosting.{StartRan}
use Rattle.pause_host.specs.Moves.{NextFrom, TaskTurn}
use Rattle.pause_host.proofs.Hosting.{start_stops}
use Rattle.pause_host.proofs.Tasks.{start_returned}
use Rattle.pause_host.proofs.Comings.{fits_on}
use Rattle.pause_host.proofs.WhatComes.{next_behind}
use Rattle.pause_host.proofs.running.start_ran.Goals as goal

pub returns-in-Returned-clause-comes : goal.returns-in-Returned-clause-comes
returns-in-Returned-clause-comes c = λ w is code h left used ran sum fits.
    let s = store_in c.args.instance.now in
    let waits = waits_in c.args.instance.now in
    let l = left_of c.args.left.now in
    let back = start_returned w h l left used c.in-Returned.field-0 s waits (subst (λ t. TaskTurn w h l the_start left used t s waits) c.in-Returned.is ran) in
    let to = held_on s l l.entries in
    next_behind w h to (done_notes s l.entries) left used c.args.steps.now.left (c.call_next.new.steps.used - c.args.steps.now.used) c.call_next.result
    (left_of c.call_next.new.left) (store_in c.call_next.new.instance) (waits_in c.call_next.new.instance) sum back.0
    (c.call_next.ensures.comes w is code (fits_on w.source w.plan h to [] (done_notes s l.entries) used is.valid is.typed back.0 fits))

pub returns-in_default-clause-comes : goal.returns-in_default-clause-comes
returns-in_default-clause-comes c = λ w is code h left used ran sum fits.
    let l = left_of c.args.left.now in
    let s = store_in c.args.instance.now in
    let waits = waits_in c.args.instance.now in
    let same : used ≡ used + (c.args.steps.now.used - c.args.steps.now.used) = omega arith in
    subst (λ k. IfOk c.stopped.result (λ n. NextFrom w (stands [] h) left k n l s waits)) same
    (c.stopped.ensures.comes w is the_start h l left used s waits refl ran)

pub returns-in_default-clause-asks : goal.returns-in_default-clause-asks
returns-in_default-clause-asks c = c.stopped.ensures.asks (store_in c.args.instance.now) c.requires.area

pub call_next-requires-clause-there : goal.call_next-requires-clause-there
call_next-requires-clause-there c =
    subst (λ t. StartRan c.args.setting.now (code_in c.args.instance.now) (left_of c.args.left.now) t (store_in c.args.instance.now)) c.in-Returned.is c.requires.turn

pub stopped-requires : goal.stopped-requires
stopped-requires c =
    record { turn = start_stops c.args.setting.now (code_in c.args.instance.now) (left_of c.args.left.now) c.args.turn (store_in c.args.instance.now) c.requires.turn c.in_default.not-Returned }
