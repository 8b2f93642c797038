use Rattle.strand_host.proofs.StandingEnds.{program_ends, steps_run_out, strand_ends, turn_pauses}
use Rattle.strand_host.proofs.standings.turns_end.Goals as goal

pub returns-clause-pauses : goal.returns-clause-pauses
returns-clause-pauses c = turn_pauses

pub returns-clause-own : goal.returns-clause-own
returns-clause-own c = strand_ends

pub returns-clause-program : goal.returns-clause-program
returns-clause-program c = program_ends

pub returns-clause-spent : goal.returns-clause-spent
returns-clause-spent c = steps_run_out
