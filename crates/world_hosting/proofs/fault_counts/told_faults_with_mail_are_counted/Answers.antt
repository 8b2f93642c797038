use Rattle.world_hosting.proofs.MailCounting.{mail_faults_counted}
use Rattle.world_hosting.proofs.fault_counts.told_faults_with_mail_are_counted.Goals as goal

pub returns : goal.returns
returns c = mail_faults_counted
