use Rattle.std.proofs.Common.{arith, ◌-◌}
use Rattle.leb_numbers.proofs.LebLemmas.{shl_word, pow_half}
use Rattle.leb_numbers.proofs.SignedSpelling.{one_low, one_minus}
use Rattle.leb_numbers.proofs.leb.as_signed_byte.Goals as goal

pub returns-then-n-lt64 : goal.returns-then-n-lt64
returns-then-n-lt64 c = let half = shl_word (c.args.bits - 1) (omega arith) in one_low c.args.bits c.args.n (omega arith) (omega (arith, half))

pub returns-then-n-half-2 : goal.returns-then-n-half-2
returns-then-n-half-2 c =
    let half = shl_word (c.args.bits - 1) (omega arith) in
    let twice = pow_half c.args.bits c.requires.some in
    one_minus c.args.bits c.args.n _ c.requires.some (omega (arith, half)) (omega (arith, half, twice)) (omega (arith, half, twice))
