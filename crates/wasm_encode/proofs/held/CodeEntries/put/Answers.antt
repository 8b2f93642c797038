use Rattle.std.proofs.Common.{◌≡◌, ap, arith, length}
use Rattle.leb_numbers.specs.Leb.{shortest}
use Rattle.wa_types.specs.Encoding.{body_bytes}
use Rattle.wa_types.specs.View.{func_of}
use Rattle.wasm_encode.specs.Around.{code_entry}
use Rattle.wasm_encode.proofs.EntryCounts.{sized_length, more_counted, more_kept}
use Rattle.wasm_encode.proofs.held.CodeEntries.put.Goals as goal

pub body_len-size-requires-clause-fits : goal.body_len-size-requires-clause-fits
body_len-size-requires-clause-fits c = let s = sized_length (body_bytes (func_of c.args.func.now)) in omega (arith, s, c.requires.fits)

pub sized_len-requires : goal.sized_len-requires
sized_len-requires c =
    let s = sized_length (body_bytes (func_of c.args.func.now)) in
    let n = ap (λ k. length (shortest k)) c.body_len-size.ensures in
    omega (arith, s, n, c.body_len-size.ensures, c.requires.fits)

pub returns-then-self-gt-LONGEST : goal.returns-then-self-gt-LONGEST
returns-then-self-gt-LONGEST c = λ es h.
    let s = sized_length (body_bytes (func_of c.args.func.now)) in
    let n = ap (λ k. length (shortest k)) c.body_len-size.ensures in
    let size : c.sized_len.result ≡ length (code_entry (func_of c.args.func.now)) = omega (arith, s, n, c.body_len-size.ensures, c.sized_len.ensures) in
    more_counted c.args.self.now _ c.sized_len.result es (code_entry (func_of c.args.func.now)) h size c.saturating_add-self.ensures c.if-self-gt-LONGEST.true c.new.ensures.items

pub returns : goal.returns
returns c = λ es h.
    let s = sized_length (body_bytes (func_of c.args.func.now)) in
    let n = ap (λ k. length (shortest k)) c.body_len-size.ensures in
    let size : c.sized_len.result ≡ length (code_entry (func_of c.args.func.now)) = omega (arith, s, n, c.body_len-size.ensures, c.sized_len.ensures) in
    more_kept c.args.self.now _ c.sized_len.result es (code_entry (func_of c.args.func.now)) h size c.saturating_add-self.ensures c.if-self-gt-LONGEST.false c.in_ok-put_sized.ensures
