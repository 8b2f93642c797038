-- The laws of where a host stands, together.
use Rattle.strand_host.proofs.Events.{Laws}
use Rattle.strand_host.proofs.StandingEnds.{program_ends, steps_run_out, strand_ends, turn_pauses}
use Rattle.strand_host.proofs.StandingLed.{last_move_leads}
use Rattle.strand_host.proofs.StandingNext.{no_turn_is_left}
use Rattle.strand_host.proofs.StandingTurns.{turn_tells}

pub all_laws : Laws
all_laws = record {
  last_move = last_move_leads;
  turn_tells = turn_tells;
  turn_pauses = turn_pauses;
  strand_ends = strand_ends;
  program_ends = program_ends;
  steps_run_out = steps_run_out;
  no_turn_is_left = no_turn_is_left;
}
