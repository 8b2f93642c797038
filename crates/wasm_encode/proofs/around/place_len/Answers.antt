use Rattle.std.proofs.Common.{◌≡◌, ◌∙◌, ◌<◌, ◌^◌, ℕ, List, ap, arith, length, subst, sym}
use Rattle.std.proofs.lemmas.List.{length-map}
use Rattle.wa_types.specs.View.{func_of, module_of}
use Rattle.wasm_encode.specs.Around.{code_section}
use Rattle.wasm_encode.proofs.AroundLemmas.{around_code, around_known}
use Rattle.wasm_encode.proofs.around.place_len.Goals as goal

pub code_len-requires : goal.code_len-requires
code_len-requires c =
    let m = module_of c.args.module.now in
    let es = c.requires.fits.0 in
    let many = length-map c.args.module.now.funcs.items func_of in
    let n : c.len.result ≡ length m.funcs = omega (arith, c.len.ensures, many) in
    let here = subst (λ (bs : List ℕ). length bs < 2 ^ 64) (around_code c.args.id m es c.if-id-eq-CODE_ID.true) c.requires.fits.2 in
    (es, c.requires.fits.1, subst (λ k. length (code_section k es) < 2 ^ 64) (sym n) here)

pub known_len-requires-clause-fits : goal.known_len-requires-clause-fits
known_len-requires-clause-fits c =
    subst (λ (bs : List ℕ). length bs < 2 ^ 64) (around_known c.args.id (module_of c.args.module.now) c.requires.fits.0 c.if-id-eq-CODE_ID.false) c.requires.fits.2

pub returns-then-id-eq-CODE_ID : goal.returns-then-id-eq-CODE_ID
returns-then-id-eq-CODE_ID c = λ es h fits.
    let m = module_of c.args.module.now in
    let many = length-map c.args.module.now.funcs.items func_of in
    let n : c.len.result ≡ length m.funcs = omega (arith, c.len.ensures, many) in
    let same = around_code c.args.id m es c.if-id-eq-CODE_ID.true in
    let here = subst (λ k. length (code_section k es) < 2 ^ 64) (sym n) (subst (λ (bs : List ℕ). length bs < 2 ^ 64) same fits) in
    c.code_len.ensures es h here ∙ ap (λ k. length (code_section k es)) n ∙ sym (ap length same)

pub returns : goal.returns
returns c = λ es h fits. c.known_len.ensures ∙ sym (ap length (around_known c.args.id (module_of c.args.module.now) es c.if-id-eq-CODE_ID.false))
