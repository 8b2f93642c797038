use Rattle.std.proofs.Common.{◌<◌, ◌^◌, ap, arith, length, sym}
use Rattle.std.proofs.lemmas.Bool.{eqb-false}
use Rattle.leb_numbers.specs.Leb.{shortest}
use Rattle.wa_types.specs.Encoding.{vector}
use Rattle.wasm_encode.proofs.SectionLemmas.{section_length}
use Rattle.wasm_encode.proofs.sections.section_len.Goals as goal

pub vector_len-requires-clause-few : goal.vector_len-requires-clause-few
vector_len-requires-clause-few g c =
    let some = eqb-false (length c.args.items.now) 0 (sym c.if-is_empty.ensures) in
    let few : length (vector g.E.Entry.bytes c.args.items.now) < 2 ^ 64 = omega (arith, section_length c.args.id g.E.Entry.bytes c.args.items.now some, c.requires.few) in
    few

pub sized_len-requires : goal.sized_len-requires
sized_len-requires g c =
    let some = eqb-false (length c.args.items.now) 0 (sym c.if-is_empty.ensures) in
    let number = ap (λ n. length (shortest n)) c.vector_len.ensures in
    omega (arith, section_length c.args.id g.E.Entry.bytes c.args.items.now some, number, c.vector_len.ensures, c.requires.few)

pub overflow_add-result : goal.overflow_add-result
overflow_add-result g c =
    let some = eqb-false (length c.args.items.now) 0 (sym c.if-is_empty.ensures) in
    let number = ap (λ n. length (shortest n)) c.vector_len.ensures in
    omega (arith, section_length c.args.id g.E.Entry.bytes c.args.items.now some, number, c.vector_len.ensures, c.sized_len.ensures, c.requires.few)

pub returns : goal.returns
returns g c =
    let some = eqb-false (length c.args.items.now) 0 (sym c.if-is_empty.ensures) in
    let number = ap (λ n. length (shortest n)) c.vector_len.ensures in
    omega (arith, section_length c.args.id g.E.Entry.bytes c.args.items.now some, number, c.vector_len.ensures, c.sized_len.ensures)
