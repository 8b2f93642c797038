-- How many bytes what is emitted with asserts takes.
use Rattle.std.proofs.Common.{◌≡◌, ◌∙◌, ℕ, suc, ◌+◌, ◌*◌, ◌^◌, ◌<◌, ◌≤◌, List, [], ◌∷◌, length, Some, Bool, true, false, refl, sym, ap, subst, arith, length-append}
use Rattle.std.specs.Prelude.{slice_get}
use Rattle.std.specs.List.{flat_map}
use Rattle.wa_types.specs.Encoding.{Enc, body_bytes, code_bytes, expression_bytes, merged, run_bytes, sections, vector}
use Rattle.wa_types.specs.Modules.{defined_at, func_imports}
use Rattle.wa_types.specs.Pausing.{Settings, is_told}
use Rattle.wa_types.specs.Runtime.{global_space}
use Rattle.wa_types.specs.Sizes.{FuncSizes}
use Rattle.wa_types.specs.Syntax.{Code, Func, Module}
use Rattle.wa_types.proofs.SizeBounds.{weight_fits}
use Rattle.leb_numbers.specs.Leb.{shortest}
use Rattle.wasm_encode.proofs.AroundLemmas.{same_sort_bytes}
use Rattle.guard_form.specs.Asserts.{asserted_reached}
use Rattle.emitted_form.specs.CodesHold.{AllCodesHold, AllCodesSmall, codes_size}
use Rattle.emitted_form.specs.EmittedBy.{FrameCode, asyncified_by, func_by, funcs_by, written_by}
use Rattle.emitted_form.proofs.EmittedBy.{defined_of, same_sorts}
use Rattle.emitted_form.proofs.FitsBy.{one_of_all}
use Rattle.emitted_form.proofs.Grown.{customs_total, enc_length, with_runtime_length}
use Rattle.emitted_form.proofs.LengthBy.{code_length, entry, written_entry}
use Rattle.emitted_form.proofs.Lengths.{entries_within, section_length, sized_length}
use Rattle.emitted_form.specs.PolicyLaws.{CanBeEmitted}
use Rattle.assert_laws.specs.AssertedModules.{AssertedIsShort}
use Rattle.assert_laws.specs.EmittedWithAsserts.{func_with_asserts, funcs_with_asserts, module_with_asserts}
use Rattle.assert_laws.proofs.FunctionsWithAsserts.{built_same}
use Rattle.assert_laws.proofs.ModuleWithAsserts.{sorts_from}
use Rattle.assert_laws.proofs.SizesWithAsserts.{counts_items, reached_items}
use Rattle.assert_laws.proofs.WrittenWithAsserts.{asserted_size, calls_few, codes_of, told_with, untold_with, written_with}

-- an entry with another body
other_body : (g : Func) (c : Code) → length (entry (record g { body = c })) ≤ length (entry g) + length (code_bytes c) + 11
other_body g c =
    omega (
      arith,
      sized_length (body_bytes (record g { body = c })),
      length-append (vector run_bytes (merged g.locals)) (expression_bytes c),
      length-append (code_bytes c) (0x0B ∷ []),
      length-append (shortest (length (body_bytes g))) (body_bytes g),
      length-append (vector run_bytes (merged g.locals)) (expression_bytes g.body),
    )

-- the module whose functions these are, without the runtime's parts
abbrev with_tests : Module → Settings → List Bool → ((index : ℕ) → Func → FrameCode) → Module
with_tests m s which codes = record m { funcs = funcs_with_asserts m s which (func_imports m) (funcs_by m s which codes (func_imports m) m.funcs) }

module _ (m : Module) (s : Settings) (which : List Bool) (codes : (index : ℕ) → Func → FrameCode) (c : CanBeEmitted m s which) (hold : AllCodesHold m s which codes)
    (small : AllCodesSmall m which codes)
    (few : (x : ℕ) (f : Func) → defined_at m x ≡ Some f → is_told (slice_get which x) ≡ true → codes_size (codes x f) ≤ 2 ^ 36 + 1500000 * length (entry f)) where
  abbrev made : ℕ → Func → Func
  made x f = func_with_asserts m s which x (func_by m s which codes x f)

  abbrev IsShort : Func → Func → Type 0
  IsShort f g = length (entry g) ≤ 75000001 * length (entry f) + 2 ^ 43

  entry_few : (i : ℕ) (f : Func) → slice_get m.funcs i ≡ Some f → IsShort f (made (func_imports m + i) f)
  entry_few i f e = by (is_told (slice_get which (func_imports m + i))) refl
    where
      sizes : FuncSizes (2 ^ 31) (2 ^ 31) m f
      sizes = one_of_all (FuncSizes (2 ^ 31) (2 ^ 31) m) m.funcs i f c.sizes.each_func e

      by : (b : Bool) → is_told (slice_get which (func_imports m + i)) ≡ b → IsShort f (made (func_imports m + i) f)
      by true b =
          let is = defined_of m i f e in
          let k = few (func_imports m + i) f is b in
          let w = weight_fits (2 ^ 31) (2 ^ 31) m f sizes in
          let a = written_entry m s which codes (func_imports m + i) f sizes (c.few (func_imports m + i) f is b) (1500000 * length (entry f)) (hold (func_imports m + i) f is b).slim k in
          let z = asserted_size m s which codes c hold small (func_imports m + i) f is b in
          let l = code_length (written_with m s which codes c hold small (func_imports m + i) f).body in
          let o = other_body (written_by m s which codes (func_imports m + i) f) (written_with m s which codes c hold small (func_imports m + i) f).body in
          subst (IsShort f) (sym (told_with m s which codes c hold small (func_imports m + i) f b)) (omega (arith, k, w, a, z, l, o))
      by false b =
          let items = reached_items (global_space m) f.body in
          let counts = counts_items (asserted_reached (global_space m) f.body) in
          let calls = calls_few f.body in
          let own = counts_items f.body in
          let total = sizes.total in
          let l = code_length (asserted_reached (global_space m) f.body) in
          let o = other_body f (asserted_reached (global_space m) f.body) in
          subst (IsShort f) (sym (untold_with m s which codes c hold small (func_imports m + i) f b)) (omega (arith, items, counts, calls, own, total, l, o))

  entries_few : (y : ℕ) (fs : List Func) → ((i : ℕ) (f : Func) → slice_get fs i ≡ Some f → IsShort f (made (y + i) f))
      → length (flat_map entry (funcs_with_asserts m s which y (funcs_by m s which codes y fs))) ≤ 75000001 * length (flat_map entry fs) + length fs * 2 ^ 43
  entries_few y [] h = omega arith
  entries_few y (f ∷ fs) h =
      let z : y + 0 ≡ y = omega arith in
      let first : length (entry (made y f)) ≤ 75000001 * length (entry f) + 2 ^ 43 = subst (λ j. IsShort f (made j f)) z (h 0 f refl) in
      let ih = entries_few (suc y) fs (λ i g e. let k : y + suc i ≡ suc y + i = omega arith in subst (λ j. IsShort g (made j g)) k (h (suc i) g e)) in
      omega (
        arith,
        first,
        ih,
        length-append (entry (made y f)) (flat_map entry (funcs_with_asserts m s which (suc y) (funcs_by m s which codes (suc y) fs))),
        length-append (entry f) (flat_map entry fs),
      )

  inner_length : length m.funcs ≤ 100000 → length (Enc (with_tests m s which codes)) ≤ 75000002 * length (Enc m) + 2 ^ 60
  inner_length n =
      let p : Module = with_tests m s which codes in
      let s3 = ap length (same_sort_bytes p.funcs m.funcs (sorts_from m s which (func_imports m) (funcs_by m s which codes (func_imports m) m.funcs) ∙ same_sorts m s which codes)) in
      let s10 = section_length 10 entry p.funcs in
      let within = entries_within 10 entry m.funcs in
      let added = entries_few (func_imports m) m.funcs entry_few in
      let same : customs_total 1 (sections p) p.customs ≡ customs_total 1 (sections m) m.customs = refl in
      omega (arith, enc_length m, enc_length p, s3, s10, within, added, same, n)

  pub short_with : length m.funcs ≤ 100000 → length (Enc m) ≤ 2 ^ 36 → length (Enc (module_with_asserts m s which (asyncified_by m s which codes))) < 2 ^ 64
  short_with n l =
      subst (λ (z : Module). length (Enc z) < 2 ^ 64) (built_same m s which (funcs_by m s which codes (func_imports m) m.funcs))
      (omega (arith, with_runtime_length (with_tests m s which codes), inner_length n, l))

pub short_law : AssertedIsShort
short_law m s which q c h n l =
    let f = codes_of m s which h.without c h.emitted in
    subst (λ (z : Module). length (Enc z) < 2 ^ 64) (sym (h.is ∙ ap (module_with_asserts m s which) f.is)) (short_with m s which f.codes c f.hold f.small f.few n l)
