use Rattle.event_order.proofs.Showing.{next_here}
use Rattle.event_order.proofs.shows.next_show.Goals as goal

pub returns-then-show-program : goal.returns-then-show-program
returns-then-show-program c =
    next_here c.args.program c.args.shows.now c.args.from c.loop-place.place _ c.loop-place-test.true c.loop-place.invariant.0 c.if-show-program.true
    c.loop-place.invariant.1
