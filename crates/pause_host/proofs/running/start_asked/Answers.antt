use Rattle.std.proofs.Common.{[], length, refl, sym, ap, subst}
use Rattle.wa_model.specs.declared.events.End.TheVariants as E
use Rattle.wa_model.specs.Blocking.{outermost}
use Rattle.wa_model.specs.Protocol.{starting}
use Rattle.interp.specs.Instance.{Calls}
use Rattle.pause_host.specs.Hosting.{AsksOnly}
use Rattle.pause_host.specs.Moves.{EndsAt, IsAsking}
use Rattle.pause_host.specs.declared.stages.Task.TheVariants as T
use Rattle.pause_host.proofs.Tasks.{import_asks, import_spent}
use Rattle.pause_host.proofs.WhatComes.{ended_next}
use Rattle.pause_host.proofs.running.start_asked.Goals as goal

pub returns-in-Waiting-clause-comes : goal.returns-in-Waiting-clause-comes
returns-in-Waiting-clause-comes c = λ w is s s' w' func l left used lt calls.
    let asks = import_asks w l func s left used s' w' lt c.in-Waiting.call (subst (λ t. Calls w.source s func [] left used t s' w') c.in-Waiting.is calls) in
    let asking = subst (λ ws. IsAsking T.Outermost ws s' (outermost s)) (sym asks.1) (ap outermost (sym asks.0)) in
    record { held = starting func s l; from_is = refl; who = outermost s; asks = asks.2; within = asks.3; asking = asking }

pub returns-in-Waiting-clause-asks : goal.returns-in-Waiting-clause-asks
returns-in-Waiting-clause-asks c = λ s area. (subst (AsksOnly (length c.args.setting.now.imports.items)) c.in-Waiting.is c.requires.turn, area)

pub returns-in-StepsSpent-clause-comes : goal.returns-in-StepsSpent-clause-comes
returns-in-StepsSpent-clause-comes c = λ w is s s' w' func l left used lt calls.
    ended_next w (starting func s l) left used (E.StepsSpent c.args.setting.now.steps) s' c.ends.result l w' c.ends.ensures.end
    (subst (λ n. EndsAt w (starting func s l) left used (E.StepsSpent n) s') is.steps (import_spent w l func s left used s' w' lt
    (subst (λ t. Calls w.source s func [] left used t s' w') c.in-StepsSpent.is calls)))

pub unreachable-requires : goal.unreachable-requires
unreachable-requires c = subst (AsksOnly (length c.args.setting.now.imports.items)) c.in-Returned.is c.requires.turn

pub unreachable-requires-in-Trapped : goal.unreachable-requires-in-Trapped
unreachable-requires-in-Trapped c = subst (AsksOnly (length c.args.setting.now.imports.items)) c.in-Trapped.is c.requires.turn
