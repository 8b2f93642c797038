use Rattle.wasm_grammar.proofs.Faults.{on_false}
use Rattle.wasm_grammar.proofs.PieceEnds.{waits_begun, stands_on}
use Rattle.wasm_grammar.proofs.machine.Machine.feed_all.Goals as goal

pub returns-clause-begun : goal.returns-clause-begun
returns-clause-begun c = waits_begun c.args.bytes.now.all _ _ (on_false _ _ _ c.if-branch.false c.in_ok-go_on.ensures.on)

pub returns-clause-more : goal.returns-clause-more
returns-clause-more c = λ piece. stands_on c.args.bytes.now.all piece _ _ (on_false _ _ _ c.if-branch.false c.in_ok-go_on.ensures.on).stands
