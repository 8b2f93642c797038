use Rattle.std.proofs.Common.{arith, drop}
use Rattle.snapshot_store.proofs.Nothing.{no_globals}
use Rattle.snapshot_store.proofs.reading.globals_at.Goals as goal

pub returns-in_default-clause-refused : goal.returns-in_default-clause-refused
returns-in_default-clause-refused c = λ u.
    no_globals (drop c.args.at.now c.args.bytes.now) c.args.count c.globals.globals.items (drop c.globals.at c.args.bytes.now) c.globals.invariant.so_far c.globals.invariant.fit
    (omega (arith, c.globals-test.true, c.len.ensures)) c.in_default.ensures.none
