use Rattle.wasm_grammar.proofs.machine.check.Goals as goal

pub feed-requires-clause-stands : goal.feed-requires-clause-stands
feed-requires-clause-stands c = c.in_ok-machine.ensures.stands c.args.bounds.now c.args.bytes.now.all
