use Rattle.std.proofs.Common.{◌<◌, ◌^◌, ◌∙◌, ap, length, map, arith, subst, sym}
use Rattle.wa_types.specs.Encoding.{customs_behind}
use Rattle.wa_types.specs.View.{module_of, custom_of}
use Rattle.wasm_encode.specs.Around.{code_entries}
use Rattle.wasm_encode.proofs.AroundLemmas.{count_more, place_fits, customs_fit}
use Rattle.wasm_encode.proofs.ModuleLemmas.{first_length, none_length}
use Rattle.wasm_encode.proofs.around.around_len.Goals as goal

pub loop-id-init : goal.loop-id-init
loop-id-init c = λ p a h. let l = first_length p in omega (arith, l)

pub place_len-requires-clause-locals : goal.place_len-requires-clause-locals
place_len-requires-clause-locals c = c.requires.1.locals

pub place_len-requires-clause-fits : goal.place_len-requires-clause-fits
place_len-requires-clause-fits c =
    let i = c.loop-id.invariant c.requires.0 c.requires.1 c.requires.2 in
    (code_entries c.requires.0, c.requires.2, place_fits (module_of c.args.module.now) c.requires.0 c.requires.1 c.loop-id.id (omega arith) (omega (arith, i)))

pub customs_len-requires : goal.customs_len-requires
customs_len-requires c =
    let i = c.loop-id.invariant c.requires.0 c.requires.1 c.requires.2 in
    subst (λ cs. length (customs_behind c.loop-id.id (map custom_of cs)) < 2 ^ 64) (sym c.deref.ensures.value)
    (customs_fit (module_of c.args.module.now) c.requires.0 c.requires.1 c.loop-id.id (omega arith) (omega (arith, i)))

pub overflow_add-len : goal.overflow_add-len
overflow_add-len c =
    let p = c.requires.0 in
    let a = c.requires.1 in
    let before = c.loop-id.invariant p a c.requires.2 in
    let place = c.place_len.ensures (code_entries p) c.requires.2 (place_fits (module_of c.args.module.now) p a c.loop-id.id (omega arith) (omega (arith, before))) in
    let customs = c.customs_len.ensures ∙ ap (λ cs. length (customs_behind c.loop-id.id (map custom_of cs))) c.deref.ensures.value in
    let i = count_more (module_of c.args.module.now) p a c.loop-id.id c.loop-id.len _ _ (omega arith) place customs before in
    omega (arith, i, a.fits)

pub overflow_add-len-in-loop-id : goal.overflow_add-len-in-loop-id
overflow_add-len-in-loop-id c =
    let p = c.requires.0 in
    let a = c.requires.1 in
    let before = c.loop-id.invariant p a c.requires.2 in
    let place = c.place_len.ensures (code_entries p) c.requires.2 (place_fits (module_of c.args.module.now) p a c.loop-id.id (omega arith) (omega (arith, before))) in
    let customs = c.customs_len.ensures ∙ ap (λ cs. length (customs_behind c.loop-id.id (map custom_of cs))) c.deref.ensures.value in
    let i = count_more (module_of c.args.module.now) p a c.loop-id.id c.loop-id.len _ _ (omega arith) place customs before in
    omega (arith, i, a.fits)

pub loop-id-preserved : goal.loop-id-preserved
loop-id-preserved c = λ p a h.
    let before = c.loop-id.invariant p a h in
    let place = c.place_len.ensures (code_entries p) h (place_fits (module_of c.args.module.now) p a c.loop-id.id (omega arith) (omega (arith, before))) in
    let customs = c.customs_len.ensures ∙ ap (λ cs. length (customs_behind c.loop-id.id (map custom_of cs))) c.deref.ensures.value in
    count_more (module_of c.args.module.now) p a c.loop-id.id c.loop-id.len _ _ (omega arith) place customs before

pub returns : goal.returns
returns c = λ p a h. let l = none_length p c.loop-id.id (omega arith) in let i = c.loop-id.invariant p a h in omega (arith, l, i)
