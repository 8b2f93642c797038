use Rattle.std.proofs.Common.{w64, Ok, ◌+◌, get_or, sym, ap, ◌∙◌, arith}
use Rattle.std.proofs.lemmas.Int.{of_z-to_z}
use Rattle.leb_numbers.proofs.LebLemmas.{s_last}
use Rattle.wasm_grammar.proofs.LowNumbers.{low_signed}
use Rattle.wasm_grammar.proofs.numbers.signed_64.Goals as goal

pub returns-then-byte-lt64-clause-exact : goal.returns-then-byte-lt64-clause-exact
returns-then-byte-lt64-clause-exact c =
    let low = c.if-byte-lt64.true in
    ap (λ x. (Ok x, c.args.at.now + 1)) (of_z-to_z w64 (get_or c.args.bytes.now c.args.at.now 0) (omega (arith, low)))
    ∙ sym (s_last 64 c.args.bytes.now c.args.at.now c.if-at-bytes.true (omega (arith, low)) ∙ ap (λ r. (r, c.args.at.now + 1)) (low_signed 64 _ (omega arith) low))
