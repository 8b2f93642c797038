use Rattle.std.proofs.Common.{sym, arith}
use Rattle.leb_numbers.proofs.LebLemmas.{at_last}
use Rattle.wasm_grammar.proofs.numbers.unsigned_32.Goals as goal

pub returns-then-byte-lt128-clause-exact : goal.returns-then-byte-lt128-clause-exact
returns-then-byte-lt128-clause-exact c =
    let low = c.if-byte-lt128.true in
    sym (at_last 32 c.args.bytes.now c.args.at.now c.if-at-bytes.true low (omega (arith, low)))
