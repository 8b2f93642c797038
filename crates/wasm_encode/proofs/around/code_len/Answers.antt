use Rattle.std.proofs.Common.{◌+◌, ap, arith, length, sym}
use Rattle.leb_numbers.specs.Leb.{shortest}
use Rattle.wasm_encode.proofs.AroundLemmas.{code_length, code_none, counted}
use Rattle.wasm_encode.proofs.around.code_len.Goals as goal

pub returns-then-count-eq0 : goal.returns-then-count-eq0
returns-then-count-eq0 c = λ es h fits. sym (ap length (code_none c.args.count es c.if-count-eq0.true))

pub returns : goal.returns
returns c = λ es h fits.
    let whole = code_length c.args.count es c.if-count-eq0.false in
    let own = counted c.args.count c.args.entries.now es c.if-count-eq0.false h fits in
    let size = ap (λ k. length (shortest (c.unsigned_len.result + k))) own in
    let number = ap (λ k. length (shortest (k + length es))) c.unsigned_len.ensures.exact in
    omega (arith, whole, own, size, number, c.unsigned_len.ensures.exact, c.sized_len.ensures)
