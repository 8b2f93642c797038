use Rattle.std.proofs.Common.{length}
use Rattle.many_host.proofs.mail_turns.Turns+Hosted.+settle_sent.Given as goal

abbrev pub decreases-settle_sent : goal.decreases-settle_sent
decreases-settle_sent l = length l.mail.now.settled
