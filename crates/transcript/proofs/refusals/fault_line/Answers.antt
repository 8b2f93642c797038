-- The parts of a refusal's line, joined.
use Rattle.script_model.specs.Transcript.{refusal_line}
use Rattle.transcript.proofs.Joined.{three}
use Rattle.transcript.proofs.refusals.fault_line.Goals as goal

pub returns : goal.returns
unfolding refusal_line
returns c = three _ _ _ _ _ _ _ c.new-line.ensures.items c.in_ok-put_program.ensures c.in_ok-put_refusal.ensures c.in_ok-put.ensures
