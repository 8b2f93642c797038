use Rattle.mail_laws.proofs.SameOutcomes.{met_fix_lines}
use Rattle.mail_laws.proofs.StoriesFix.{stories_fix_lines}
use Rattle.mail_laws.proofs.replay_laws.met_outcomes_with_mail_fix_lines.Goals as goal

pub returns-clause-protocol : goal.returns-clause-protocol
returns-clause-protocol c = met_fix_lines

pub returns-clause-blocking : goal.returns-clause-blocking
returns-clause-blocking c = stories_fix_lines
