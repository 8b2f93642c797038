use Rattle.std.proofs.Common.{refl, subst}
use Rattle.wa_model.specs.Blocking.{an_entry}
use Rattle.pause_host.specs.Views.{entry_of, left_of}
use Rattle.pause_host.specs.Moves.{TaskTurn}
use Rattle.pause_host.proofs.Hosting.{stops_first}
use Rattle.pause_host.proofs.Tasks.{entry_returned}
use Rattle.pause_host.proofs.running.entry_ran.Goals as goal

pub returns-in-Returned-clause-comes : goal.returns-in-Returned-clause-comes
returns-in-Returned-clause-comes c = λ w is h left used s waits ran. λ supply.
    entry_returned w h (left_of c.args.left.now) (left_of c.returned.new.left) (entry_of c.args.entry) left used c.in-Returned.value s waits c.returned.result supply c.returned.ensures.left
    c.returned.ensures.event c.returned.ensures.stage
    (subst (λ t. TaskTurn w h (left_of c.args.left.now) (an_entry (entry_of c.args.entry)) left used t s waits) c.in-Returned.is ran)

pub returns-in_default-clause-comes : goal.returns-in_default-clause-comes
returns-in_default-clause-comes c = λ w is h left used s waits ran. c.stopped.ensures.comes w is (an_entry (entry_of c.args.entry)) h (left_of c.args.left.now) left used s waits refl ran

pub stopped-requires : goal.stopped-requires
stopped-requires c =
    record { turn = stops_first _ c.args.turn c.requires.turn c.in_default.not-Returned }
