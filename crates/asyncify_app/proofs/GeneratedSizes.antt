-- Generated modules are short, and declare few locals.
use Rattle.std.proofs.Common.{arith, ◌≡◌, ℕ, zero, suc, ◌+◌, ◌*◌, ◌^◌, ◌<◌, ◌≤◌, List, [], ◌∷◌, refl, sym, subst, length, length-append, All, add-one}
use Rattle.std.proofs.lemmas.List.Elements.{All-nil, All-cons}
use Rattle.std.specs.List.{flat_map}
use Rattle.leb_numbers.specs.Leb.{shortest}
use Rattle.wa_types.specs.Syntax.{Func, Module}
use Rattle.wa_types.specs.Encoding.{Enc, body_bytes, code_bytes, export_bytes, expression_bytes, import_bytes, func_type_bytes, merged, run_bytes, section, sized, vector}
use Rattle.wa_model.specs.Rewrites.{instructions_and_labels}
use Rattle.wasm_encode.specs.Locals.{local_count}
use Rattle.wasm_encode.specs.Modules.{FewLocals}
use Rattle.emitted_form.proofs.LengthBy.{code_length}
use Rattle.emitted_form.proofs.Grown.{enc_length}
use Rattle.emitted_form.proofs.Lengths.{entries_length, section_length, shortest_length, sized_length}
use Rattle.asyncify_app.proofs.GeneratedLocals.{each}
use Rattle.gen_module.specs.Generated.{first_code, func_by, func_with, generated, generated_func, generated_funcs, one_local, one_to_one, run_export, sleep}

func_count : (n : ℕ) → length (generated_funcs n) ≡ n
func_count zero = refl
func_count (suc n) = rw (length-append (generated_funcs n) (generated_func n ∷ []), func_count n) (add-one n)

-- ---- locals

abbrev DeclaresFew : Func → Type 0
DeclaresFew f = local_count f.locals < 2 ^ 32

by_few : (i r : ℕ) → DeclaresFew (func_by i r)
by_few i zero = omega arith
by_few i (suc zero) = omega arith
by_few i (suc (suc k)) = omega arith

pub few_locals : (n : ℕ) → FewLocals (generated n)
unfolding generated
few_locals n = each DeclaresFew (omega arith) by_few n

-- ---- bytes

-- a body of seven instructions at most
body_short : (f : Func) → length (vector run_bytes (merged f.locals)) ≤ 30 → instructions_and_labels f.body ≤ 7 → length (sized (body_bytes f)) ≤ 230
body_short f locals few =
    omega (
      arith,
      locals,
      few,
      sized_length (body_bytes f),
      length-append (vector run_bytes (merged f.locals)) (expression_bytes f.body),
      length-append (code_bytes f.body) (0x0B ∷ []),
      code_length f.body,
    )

abbrev IsShort : Func → Type 0
IsShort f = length (sized (body_bytes f)) ≤ 230

no_runs : length (vector run_bytes (merged [])) ≤ 30
no_runs = omega (arith, shortest_length 0, length-append (shortest 0) [])

one_run : length (vector run_bytes (merged (one_local ∷ []))) ≤ 30
one_run = simp length-append (omega (arith, shortest_length 1))

by_short : (i r : ℕ) → IsShort (func_by i r)
unfolding instructions_and_labels
by_short i zero = body_short (func_by i 0) one_run (omega arith)
by_short i (suc zero) = body_short (func_by i 1) no_runs (omega arith)
by_short i (suc (suc k)) = body_short (func_by i (suc (suc k))) no_runs (omega arith)

first_short : IsShort (func_with [] first_code)
unfolding instructions_and_labels
first_short = body_short (func_with [] first_code) no_runs (omega arith)

sort_short : (fs : List Func) → All (λ (f : Func). length (shortest f.sort) ≤ 10) fs
sort_short [] = All-nil (λ (f : Func). length (shortest f.sort) ≤ 10)
sort_short (f ∷ fs) = All-cons (λ (f : Func). length (shortest f.sort) ≤ 10) f fs (shortest_length f.sort) (sort_short fs)

sorts_length : (n : ℕ) → length (section 3 (λ (f : Func). shortest f.sort) (generated_funcs n)) ≤ 21 + n * 10
sorts_length n =
    let a = section_length 3 (λ (f : Func). shortest f.sort) (generated_funcs n) in
    let b = entries_length (λ (f : Func). shortest f.sort) 10 (generated_funcs n) (sort_short (generated_funcs n)) in
    omega (arith, a, b, func_count n)

bodies_length : (n : ℕ) → length (section 10 (λ f. sized (body_bytes f)) (generated_funcs n)) ≤ 21 + n * 230
bodies_length n =
    let a = section_length 10 (λ (f : Func). sized (body_bytes f)) (generated_funcs n) in
    let b = entries_length (λ (f : Func). sized (body_bytes f)) 230 (generated_funcs n) (each IsShort first_short by_short n) in
    omega (arith, a, b, func_count n)

export_length : (n : ℕ) → length (section 7 export_bytes (run_export n ∷ [])) ≤ 60
export_length n =
    let a = section_length 7 export_bytes (run_export n ∷ []) in
    let b : length (flat_map export_bytes (run_export n ∷ [])) ≤ 39 = simp length-append (omega (arith, shortest_length n, shortest_length 3)) in
    omega (arith, a, b)

types_length : length (section 1 func_type_bytes (one_to_one ∷ [])) ≤ 100
types_length =
    let a = section_length 1 func_type_bytes (one_to_one ∷ []) in
    let b : length (flat_map func_type_bytes (one_to_one ∷ [])) ≤ 79 = simp length-append (omega (arith, shortest_length 1)) in
    omega (arith, a, b)

imports_length : length (section 2 import_bytes (sleep ∷ [])) ≤ 100
imports_length =
    let a = section_length 2 import_bytes (sleep ∷ []) in
    let b : length (flat_map import_bytes (sleep ∷ [])) ≤ 79 = simp length-append (omega (arith, shortest_length 0, shortest_length 3, shortest_length 5)) in
    omega (arith, a, b)

-- The file of a generated module is within the limit of the encoder.
pub generated_short : (n : ℕ) → n ≤ 4000 → length (Enc (generated n)) ≤ 67108864
unfolding generated
generated_short n h = omega (arith, h, enc_length (generated n), sorts_length n, bodies_length n, export_length n, types_length, imports_length)

pub short_as : (n : ℕ) (m : Module) → m ≡ generated n → n ≤ 4000 → length (Enc m) ≤ 67108864
short_as n m e h = subst (λ (z : Module). length (Enc z) ≤ 67108864) (sym e) (generated_short n h)
