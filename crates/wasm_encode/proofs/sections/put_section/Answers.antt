use Rattle.std.proofs.Common.{[], ◌∷◌, ◌<◌, ◌^◌, arith, length, sym}
use Rattle.std.proofs.lemmas.Bool.{eqb-false}
use Rattle.std.proofs.lemmas.Result.{on_ok_weaker}
use Rattle.wa_types.specs.Encoding.{section, vector}
use Rattle.wasm_encode.proofs.SectionLemmas.{put_sized, section_length, section_some}
use Rattle.wasm_encode.proofs.sections.put_section.Goals as goal

pub vector_len-requires-clause-few : goal.vector_len-requires-clause-few
vector_len-requires-clause-few g c =
    let some = eqb-false (length c.args.items.now) 0 (sym c.if-is_empty.ensures) in
    let few : length (vector g.E.Entry.bytes c.args.items.now) < 2 ^ 64 = omega (arith, section_length c.args.id g.E.Entry.bytes c.args.items.now some, c.requires.few) in
    few

pub returns : goal.returns
returns g c =
    let bytes = vector g.E.Entry.bytes c.args.items.now in
    let some = eqb-false (length c.args.items.now) 0 (sym c.if-is_empty.ensures) in
    on_ok_weaker c.put_vector.result
    (λ put. put_sized c.args.out.now.items (c.args.id ∷ []) bytes c.extend_from_slice.new.self.items c.put_unsigned.new.out.items c.put_vector.new.out.items
    (section c.args.id g.E.Entry.bytes c.args.items.now) c.vector_len.result c.in_ok-extend_from_slice.ensures.ok c.in_ok-put_unsigned.ensures c.vector_len.ensures put
    (section_some c.args.id g.E.Entry.bytes c.args.items.now some))
    c.put_vector.ensures
