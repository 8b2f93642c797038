-- What is left is told, or some of it.
use Rattle.std.proofs.Common.{inl}
use Rattle.vault_port.proofs.Telling.{put_once}
use Rattle.transcript.proofs.Counts.{put_alone}
use Rattle.script_command.proofs.Steps.{continued, put_counts, put_stop, rest_stops}
use Rattle.script_command.proofs.continuing.tell_rest.Goals as goal

pub returns-in-Ok-clause-does : goal.returns-in-Ok-clause-does
returns-in-Ok-clause-does g c = λ files name snap f f' s s' play shot holds events are taken_out.
    continued name snap files f f' s s' _ _ _ _ play _ _ shot holds c.args.detaches.items taken_out (c.in-Ok.ensures.told play.run.parts shot events are)
    (c.in-Ok.ensures.stays (λ e. cc))

pub returns-in-Ok-clause-counts : goal.returns-in-Ok-clause-counts
returns-in-Ok-clause-counts g c = λ f f' s s' fetched saved.
    let still = c.in-Ok.ensures.stays (λ e. cc) in
    put_alone 0 f f' s s' _ _ fetched saved (inl still) (λ e. still)

pub returns-in-Err-clause-does : goal.returns-in-Err-clause-does
returns-in-Err-clause-does g c = λ files name snap f f' s s' play shot holds events are taken_out.
    rest_stops name snap files f f' s s' _ _ _ _ play _ _ shot holds c.args.detaches.items taken_out c.in-Err.fault c.stop_by.result c.stop_by.ensures c.in-Err.ensures.fault
    c.in-Err.ensures.stays (c.in-Err.ensures.part play.run.parts shot events are)

pub returns-in-Err-clause-told : goal.returns-in-Err-clause-told
returns-in-Err-clause-told g c = put_stop c.in-Err.fault c.stop_by.result c.stop_by.ensures

pub returns-in-Err-clause-counts : goal.returns-in-Err-clause-counts
returns-in-Err-clause-counts g c = λ f f' s s' fetched saved.
    put_counts f f' s s' _ _ c.stop_by.result (put_stop c.in-Err.fault c.stop_by.result c.stop_by.ensures) fetched saved
    (put_once _ _ _ c.in-Err.ensures.fault c.in-Err.ensures.stays)
