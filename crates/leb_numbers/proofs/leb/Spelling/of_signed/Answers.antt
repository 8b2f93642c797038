use Rattle.std.proofs.Common.{◌≡◌, ◌+◌, ◌∙◌, ap, arith, length}
use Rattle.std.proofs.lemmas.List.{length_push}
use Rattle.leb_numbers.specs.Leb.{shortest_signed}
use Rattle.leb_numbers.proofs.SignedSpelling.{signed_last, signed_more, high_many, high_fits}
use Rattle.leb_numbers.proofs.leb.Spelling.of_signed.Goals as goal

pub returns-in-Some : goal.returns-in-Some
returns-in-Some c =
    signed_last c.loop-last.text c.push.new.self (shortest_signed c.args.bits c.args.n) c.loop-last.width c.loop-last.rest c.in-Some.last
    (omega arith) c.in-Some.ensures c.push.ensures c.loop-last.invariant.written

pub overflow_sub-width : goal.overflow_sub-width
overflow_sub-width c =
    let many = high_many c.loop-last.width c.loop-last.rest c.in-None.ensures c.loop-last.invariant.some in
    omega (arith, many)

pub loop-last-preserved : goal.loop-last-preserved
loop-last-preserved c =
    let many = high_many c.loop-last.width c.loop-last.rest c.in-None.ensures c.loop-last.invariant.some in
    let longer : length c.push-in-None.new.self ≡ length c.loop-last.text + 1 = ap length c.push-in-None.ensures ∙ length_push c.loop-last.text _ in
    record {
      written =
          signed_more c.loop-last.text c.push-in-None.new.self (shortest_signed c.args.bits c.args.n) c.loop-last.width c.loop-last.rest
          (omega arith) c.in-None.ensures c.push-in-None.ensures c.loop-last.invariant.written;
      width = omega (arith, many, longer);
      some = omega (arith, many);
      fits = high_fits c.loop-last.width c.loop-last.rest many c.loop-last.invariant.fits;
    }
