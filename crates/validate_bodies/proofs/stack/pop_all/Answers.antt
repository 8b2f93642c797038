use Rattle.std.proofs.Common.{arith, ◌<◌, reverse, take, length, ap, sym, ◌∙◌}
use Rattle.std.proofs.lemmas.List.{length-reverse, length-take-le}
use Rattle.validate_bodies.specs.Stack.{known, popped}
use Rattle.validate_bodies.proofs.Lists.{pops_none}
use Rattle.validate_bodies.proofs.stack.pop_all.Goals as goal

pub returns-then-len-o-clause-popped : goal.returns-then-len-o-clause-popped
returns-then-len-o-clause-popped c =
    let some : 0 < length (reverse (take c.loop-n.n c.args.wanted.now)) =
    omega (arith, length-reverse (take c.loop-n.n c.args.wanted.now), length-take-le c.loop-n.n c.args.wanted.now c.loop-n.invariant.within) in
    c.loop-n.invariant.popped
    ∙ pops_none c.loop-n.o.base c.loop-n.o.types.items (reverse (take c.loop-n.n c.args.wanted.now)) c.args.o.now.free (omega arith) some
    ∙ ap (λ b. popped b (known c.loop-n.o)) (sym c.loop-n.invariant.free)
