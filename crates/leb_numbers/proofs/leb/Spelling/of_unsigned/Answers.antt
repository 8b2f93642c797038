use Rattle.std.proofs.Common.{arith}
use Rattle.leb_numbers.specs.Leb.{shortest}
use Rattle.leb_numbers.proofs.UnsignedSpelling.{write_more, write_last}
use Rattle.leb_numbers.proofs.leb.Spelling.of_unsigned.Goals as goal

pub loop-rest-preserved : goal.loop-rest-preserved
loop-rest-preserved c =
    (write_more c.loop-rest.text c.push.new.self (shortest c.args.n) c.loop-rest.rest (omega arith) (omega arith) c.push.ensures c.loop-rest.invariant.0, omega arith)

pub returns : goal.returns
returns c = write_last c.loop-rest.text c.push-2.new.self (shortest c.args.n) c.loop-rest.rest (omega arith) c.push-2.ensures c.loop-rest.invariant.0
