use Rattle.std.proofs.Common.{◌≡◌, ◌<◌, ◌^◌, ◌++◌, ◌∙◌, ap, length, arith, length-append}
use Rattle.leb_numbers.specs.Leb.{shortest}
use Rattle.wa_types.specs.View.{elem_of, code}
use Rattle.wa_types.specs.Encoding.{vector, expression_bytes, elem_bytes}
use Rattle.wasm_encode.proofs.entries.ElementEntryEntry.size.Goals as goal

pub overflow_add-result-2 : goal.overflow_add-result-2
overflow_add-result-2 c =
    let whole = length-append (shortest c.args.item.now.table ++ expression_bytes (elem_of c.args.item.now).offset) (vector shortest c.args.item.now.funcs.items) in
    let front = length-append (shortest c.args.item.now.table) (expression_bytes (elem_of c.args.item.now).offset) in
    let offset : c.expression_len.result ≡ length (expression_bytes (elem_of c.args.item.now).offset) = c.expression_len.ensures ∙ ap (λ s. length (expression_bytes (code s))) c.deref.ensures.value in
    let funcs : c.vector_len.result ≡ length (vector shortest c.args.item.now.funcs.items) = c.vector_len.ensures ∙ ap (λ s. length (vector shortest s)) c.deref-2.ensures.value in
    let few : length (elem_bytes (elem_of c.args.item.now)) < 2 ^ 64 = c.requires.few in
    omega (arith, whole, front, offset, funcs, few, c.unsigned_len.ensures.exact)
