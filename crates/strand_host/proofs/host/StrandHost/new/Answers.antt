use Rattle.strand_host.proofs.HostedStrands.{all_start}
use Rattle.strand_host.proofs.host.StrandHost.new.Goals as goal

pub returns-clause-told : goal.returns-clause-told
returns-clause-told c = λ gs ds set. c.in_ok-turns.ensures.stands gs ds (all_start gs c.args.shows.items c.args.programs.items set)
