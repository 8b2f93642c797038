-- The parts of a line, joined.
use Rattle.script_model.specs.Transcript.{event_line}
use Rattle.transcript.proofs.Joined.{three}
use Rattle.transcript.proofs.events.line.Goals as goal

pub returns : goal.returns
unfolding event_line
returns c = three _ _ _ _ _ _ _ c.new-text.ensures.items c.in_ok-put_times.ensures c.in_ok-put_event.ensures c.in_ok-put.ensures
