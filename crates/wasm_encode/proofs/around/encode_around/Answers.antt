use Rattle.std.proofs.Common.{◌++◌, ◌∙◌, ap, arith}
use Rattle.wa_types.specs.Encoding.{Enc}
use Rattle.wasm_encode.proofs.AroundLemmas.{entries_within}
use Rattle.wasm_encode.proofs.around.encode_around.Goals as goal

pub put_around-requires : goal.put_around-requires
put_around-requires c =
    let p = c.requires.0 in
    let len = c.around_len-len.ensures p c.requires.1 c.requires.2 in
    (p, c.requires.1, c.as_slice.ensures ∙ c.requires.2.bytes (omega (arith, len, c.if-len-gt-LONGEST.false, entries_within p)))

pub returns-clause-ok : goal.returns-clause-ok
returns-clause-ok c = λ p a h.
    let len = c.around_len-len.ensures p a h in
    let same = c.as_slice.ensures ∙ h.bytes (omega (arith, len, c.if-len-gt-LONGEST.false, entries_within p)) in
    c.in_ok-put_around.ensures p a same ∙ ap (λ bs. bs ++ Enc p) c.in_ok-out.ensures.items
