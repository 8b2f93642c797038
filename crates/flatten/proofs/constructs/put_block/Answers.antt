use Rattle.flatten.proofs.ConstructLemmas.{block_put, on_ok}
use Rattle.flatten.proofs.constructs.put_block.Goals as goal

pub returns : goal.returns
returns c =
    on_ok c.put_arrival.result _ _ (λ h. block_put c.args.names.now c.args.given c.args.inner c.args.at.now c.put_arrival.new.at c.args.out.now.items c.push.new.self.items
    c.put_arrival.new.out.items c.in_ok-push.ensures.items h) c.put_arrival.ensures
