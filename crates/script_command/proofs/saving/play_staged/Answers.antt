-- What the first events are told as.
use Rattle.script_command.proofs.Steps.{part_stops, put_stop}
use Rattle.script_command.proofs.saving.play_staged.Goals as goal

pub returns-in-Err-clause-part : goal.returns-in-Err-clause-part
returns-in-Err-clause-part g c = λ files name snap f f' s s' play staged taken_out.
    part_stops c.args.most name snap files f f' s s' _ _ _ _ _ _ play c.args.detaches.items taken_out c.in-Err.fault c.stop_by.result c.stop_by.ensures c.in-Err.ensures.fault
    c.in-Err.ensures.stays (c.in-Err.ensures.part play.run.parts staged)

pub returns-in-Err-clause-put : goal.returns-in-Err-clause-put
returns-in-Err-clause-put g c = put_stop c.in-Err.fault c.stop_by.result c.stop_by.ensures
