use Rattle.mail_laws.proofs.FixedLines.{journals_fix_lines}
use Rattle.mail_laws.proofs.replay_laws.journals_with_mail_fix_lines.Goals as goal

pub returns : goal.returns
returns c = journals_fix_lines
