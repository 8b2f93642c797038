use Rattle.mail_laws.proofs.FixedLines.{mailboxes_fix_lines, unbound_fix_lines}
use Rattle.mail_laws.proofs.replay_laws.mailboxes_fix_lines.Goals as goal

pub returns-clause-mailboxes : goal.returns-clause-mailboxes
returns-clause-mailboxes c = mailboxes_fix_lines

pub returns-clause-unbound : goal.returns-clause-unbound
returns-clause-unbound c = unbound_fix_lines
