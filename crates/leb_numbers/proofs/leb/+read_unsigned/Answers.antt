use Rattle.std.proofs.Common.{arith, sym}
use Rattle.leb_numbers.proofs.LebLemmas.{pow_split, pow_seven, pow_word, at_bits, at_last, shl_small}
use Rattle.leb_numbers.proofs.leb.+read_unsigned.Goals as goal
use Rattle.leb_numbers.proofs.leb.+read_unsigned.Goals.{else-bits-lt7-via-then-bits-lt7+else-b-bits, else-bits-lt7-via-else-bits-lt7}

pub returns-then-b-bits-clause-exact : goal.returns-then-b-bits-clause-exact
returns-then-b-bits-clause-exact t c = sym (at_bits c.args.bits c.args.bytes.now c.args.at.now (omega arith) (omega arith) (omega (arith, shl_small c.args.bits (omega arith))))

pub overflow_mul-result : goal.overflow_mul-result
overflow_mul-result t c = omega (arith, pow_split c.args.bits (omega arith), pow_word c.args.bits (omega arith), c.in_ok-high.ensures.fits)

pub overflow_add-result : goal.overflow_add-result
overflow_add-result t c = omega (arith, pow_split c.args.bits (omega arith), pow_word c.args.bits (omega arith), c.in_ok-high.ensures.fits, c.type_inv.bytes c.args.at.now)

pub returns-else-bits-lt7-clause-fits : goal.returns-else-bits-lt7-clause-fits
returns-else-bits-lt7-clause-fits t c =
    elim c.else-bits-lt7.branch [
      | else-bits-lt7-via-then-bits-lt7+else-b-bits w ↦ omega (arith, shl_small c.args.bits (omega arith))
      | else-bits-lt7-via-else-bits-lt7 w ↦ omega (arith, pow_seven c.args.bits (omega arith))
    ]

pub returns-else-bits-lt7-clause-exact : goal.returns-else-bits-lt7-clause-exact
returns-else-bits-lt7-clause-exact t c =
    sym (at_last c.args.bits c.args.bytes.now c.args.at.now (omega arith) (omega arith) (returns-else-bits-lt7-clause-fits t c))

pub returns-in_ok-high-clause-fits : goal.returns-in_ok-high-clause-fits
returns-in_ok-high-clause-fits t c = omega (arith, pow_split c.args.bits (omega arith), pow_word c.args.bits (omega arith), c.in_ok-high.ensures.fits, c.type_inv.bytes c.args.at.now)
