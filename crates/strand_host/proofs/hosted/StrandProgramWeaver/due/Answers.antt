use Rattle.strand_host.proofs.HostedStrands.{due_then}
use Rattle.strand_host.proofs.hosted.StrandProgramWeaver.due.Goals as goal

pub returns : goal.returns
returns c = due_then c.args.self.now.dues.items c.args.self.now.state c.due.result c.due.ensures
