use Rattle.std.proofs.Common.{length, refl, subst}
use Rattle.wa_model.specs.declared.events.End.TheVariants as E
use Rattle.wa_model.specs.Blocking.{inside}
use Rattle.pause_host.specs.Hosting.{StopsFirst}
use Rattle.pause_host.specs.Moves.{EndsAt, TaskTurn}
use Rattle.pause_host.proofs.Results.{task_asking}
use Rattle.pause_host.proofs.Tasks.{task_trapped, task_spent, task_asks}
use Rattle.pause_host.proofs.WhatComes.{ended_next}
use Rattle.pause_host.proofs.running.stopped.Goals as goal

pub returns-in-Trapped-clause-comes : goal.returns-in-Trapped-clause-comes
returns-in-Trapped-clause-comes c = λ w is t h l left used s waits task ran.
    ended_next w h left used (E.Trapped c.in-Trapped.trap) s c.ends.result l waits c.ends.ensures.end
    (task_trapped w h l t left used s waits c.in-Trapped.trap (subst (λ z. TaskTurn w h l t left used z s waits) c.in-Trapped.is ran))

pub returns-in-Waiting-clause-comes : goal.returns-in-Waiting-clause-comes
returns-in-Waiting-clause-comes c = λ w is t h l left used s waits task ran.
    let asks = task_asks w h l t left used s waits c.in-Waiting.call (subst (λ z. TaskTurn w h l t left used z s waits) c.in-Waiting.is ran) in
    record { held = h; from_is = refl; who = inside t asks.0; asks = asks.3; within = asks.4; asking = task_asking c.args.task t asks.0 s waits task asks.1 asks.2 }

pub returns-in-Waiting-clause-asks : goal.returns-in-Waiting-clause-asks
returns-in-Waiting-clause-asks c = λ s area. (subst (StopsFirst (length c.args.setting.now.imports.items)) c.in-Waiting.is c.requires.turn, area)

pub returns-in-StepsSpent-clause-comes : goal.returns-in-StepsSpent-clause-comes
returns-in-StepsSpent-clause-comes c = λ w is t h l left used s waits task ran.
    ended_next w h left used (E.StepsSpent c.args.setting.now.steps) s c.ends-in-StepsSpent.result l waits c.ends-in-StepsSpent.ensures.end
    (subst (λ n. EndsAt w h left used (E.StepsSpent n) s) is.steps (task_spent w h l t left used s waits (subst (λ z. TaskTurn w h l t left used z s waits) c.in-StepsSpent.is ran)))

pub unreachable-requires : goal.unreachable-requires
unreachable-requires c = subst (StopsFirst (length c.args.setting.now.imports.items)) c.in-Returned.is c.requires.turn
