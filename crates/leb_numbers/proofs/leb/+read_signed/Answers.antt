use Rattle.std.proofs.Common.{arith}
use Rattle.leb_numbers.proofs.LebLemmas.{pow_split, pow_word}
use Rattle.leb_numbers.proofs.leb.+read_signed.Goals as goal

pub overflow_mul-result : goal.overflow_mul-result
overflow_mul-result t c = omega (arith, pow_split c.args.bits (omega arith), pow_word c.args.bits (omega arith), c.in_ok-high.ensures.fits)

pub overflow_add-result : goal.overflow_add-result
overflow_add-result t c = omega (arith, pow_split c.args.bits (omega arith), pow_word c.args.bits (omega arith), c.in_ok-high.ensures.fits, c.type_inv.bytes c.args.at.now)

pub returns-in_ok-high-clause-fits : goal.returns-in_ok-high-clause-fits
returns-in_ok-high-clause-fits t c = omega (arith, pow_split c.args.bits (omega arith), pow_word c.args.bits (omega arith), c.in_ok-high.ensures.fits, c.type_inv.bytes c.args.at.now)
