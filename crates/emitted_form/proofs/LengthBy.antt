-- How many bytes an emitted module takes, and how many locals its functions declare, by how large the codes of frames are.
use Rattle.std.proofs.Common.{◌≡◌, ℕ, suc, ◌+◌, ◌*◌, ◌<◌, ◌≤◌, ◌^◌, List, [], ◌∷◌, ◌++◌, length, map, Some, Bool, true, false, All, refl, sym, ap, subst, arith, length-append}
use Rattle.std.specs.Prelude.{slice_get, if◌then◌else◌, ◌==◌}
use Rattle.std.specs.List.{flat_map, sum_by}
use Rattle.std.proofs.lemmas.List.{length-map}
use Rattle.std.proofs.lemmas.List.Elements.{All-nil, All-cons}
use Rattle.std.proofs.lemmas.List.Sums.{sum_by-cons}
use Rattle.wa_types.specs.declared.syntax.Run.{Run}
use Rattle.wa_types.specs.declared.values.ValType.{ValType}
use Rattle.wa_types.specs.declared.values.Value.TheVariants as V
use Rattle.wa_types.specs.Bounds.{code_weight}
use Rattle.wa_types.specs.Encoding.{Enc, sections, type_byte, vector, sized, same_type, plain_bytes, else_bytes, code_bytes, expression_bytes, run_onto, merged, run_bytes, body_bytes}
use Rattle.wa_types.specs.Frames.{Pair, SlotPairs, ResultPairs, Count}
use Rattle.leb_numbers.specs.Leb.{shortest}
use Rattle.wa_types.specs.Modules.{defined_at, func_imports, locals_of}
use Rattle.wa_types.specs.Pausing.{Numbered, Settings, is_told}
use Rattle.wa_types.specs.Pruned.{pruned}
use Rattle.wa_types.specs.Sizes.{label_count, FuncSizes, StrictSizeRule}
use Rattle.wa_types.specs.Syntax.{Basic, nop, drop, select, const, num, global_get, global_set, load, store, memory_size, memory_grow, memory_copy, memory_fill, basic, local_get, local_set, local_tee, br, br_if, br_table, return, unreachable, call, call_indirect, Plain, Code, done, plain, nest, branch, Func, Module}
use Rattle.wa_types.proofs.SizeBounds.{weight_fits}
use Rattle.run_theory.specs.FlatFits.{one_run}
use Rattle.wa_model.specs.Rewrites.{instructions_and_labels}
use Rattle.flat_laws.specs.FlatModule.{extra_types}
use Rattle.wasm_encode.specs.Locals.{local_count}
use Rattle.wasm_encode.specs.Modules.{FewLocals}
use Rattle.wasm_encode.proofs.AroundLemmas.{same_sort_bytes}
use Rattle.emitted_form.specs.EmittedBy.{FrameCode, written_by, func_by, funcs_by, asyncified_by}
use Rattle.emitted_form.specs.Sizes.{FewWritten}
use Rattle.emitted_form.proofs.EmittedBy.{inner, told, not_told, same_sorts, defined_of}
use Rattle.emitted_form.proofs.SizesBy.{written_size}
use Rattle.slim_laws.specs.SlimModule.{SlimPieces}
use Rattle.emitted_form.specs.CodesHold.{AllCodesSlim, codes_size, three}
use Rattle.emitted_form.proofs.FitsBy.{one_of_all}
use Rattle.emitted_form.proofs.GrownFits.{grown_locals}
use Rattle.emitted_form.proofs.Grown.{customs_total, enc_length, with_runtime_length}
use Rattle.emitted_form.proofs.Lengths.{shortest_length, shortest_signed_length, vector_length, sized_length, entries_within, section_length}

-- ---- code

basic_length : (b : Basic) → length (plain_bytes (basic b)) ≤ 21
basic_length nop = omega arith
basic_length drop = omega arith
basic_length select = omega arith
basic_length (const (V.I32 n)) = omega (arith, shortest_signed_length 32 n)
basic_length (const (V.I64 n)) = omega (arith, shortest_signed_length 64 n)
basic_length (num op) = omega arith
basic_length (global_get x) = omega (arith, shortest_length x)
basic_length (global_set x) = omega (arith, shortest_length x)
basic_length (load op align offset) = omega (arith, length-append (shortest align) (shortest offset), shortest_length align, shortest_length offset)
basic_length (store op align offset) = omega (arith, length-append (shortest align) (shortest offset), shortest_length align, shortest_length offset)
basic_length memory_size = omega arith
basic_length memory_grow = omega arith
basic_length memory_copy =
    let e : length (plain_bytes (basic memory_copy)) ≡ suc (length (shortest 10) + 2) = ap suc (length-append (shortest 10) (0x00 ∷ 0x00 ∷ [])) in
    omega (arith, e, shortest_length 10)
basic_length memory_fill =
    let e : length (plain_bytes (basic memory_fill)) ≡ suc (length (shortest 11) + 1) = ap suc (length-append (shortest 11) (0x00 ∷ [])) in
    omega (arith, e, shortest_length 11)

labels_length : (ls : List ℕ) → length (flat_map shortest ls) ≤ 10 * length ls
labels_length [] = omega arith
labels_length (l ∷ ls) = omega (arith, length-append (shortest l) (flat_map shortest ls), shortest_length l, labels_length ls)

plain_length : (p : Plain) → length (plain_bytes p) ≤ 25 * (1 + label_count p)
plain_length (basic b) = omega (arith, basic_length b)
plain_length (local_get x) = omega (arith, shortest_length x)
plain_length (local_set x) = omega (arith, shortest_length x)
plain_length (local_tee x) = omega (arith, shortest_length x)
plain_length (br l) = omega (arith, shortest_length l)
plain_length (br_if l) = omega (arith, shortest_length l)
plain_length (br_table ls l) =
    omega (arith, length-append (vector shortest ls) (shortest l), vector_length shortest ls, labels_length ls, shortest_length l)
plain_length return = omega arith
plain_length unreachable = omega arith
plain_length (call x) = omega (arith, shortest_length x)
plain_length (call_indirect x) = omega (arith, length-append (shortest x) (0 ∷ []), shortest_length x)

else_length : (b : Code) (bytes : List ℕ) → length (else_bytes b bytes) ≤ 1 + length bytes
else_length done bytes = omega arith
else_length (plain p rest) bytes = omega arith
else_length (nest s r body rest) bytes = omega arith
else_length (branch r a b rest) bytes = omega arith

pub code_length : (c : Code) → length (code_bytes c) ≤ 25 * instructions_and_labels c
unfolding code_bytes instructions_and_labels
code_length done = omega arith
code_length (plain p rest) = omega (arith, length-append (plain_bytes p) (code_bytes rest), plain_length p, code_length rest)
code_length (nest s r body rest) = omega (arith, length-append (code_bytes body) (0x0B ∷ code_bytes rest), code_length body, code_length rest)
code_length (branch r a b rest) =
    omega (
      arith,
      length-append (code_bytes a ++ else_bytes b (code_bytes b)) (0x0B ∷ code_bytes rest),
      length-append (code_bytes a) (else_bytes b (code_bytes b)),
      else_length b (code_bytes b),
      code_length a,
      code_length b,
      code_length rest,
    )

-- ---- a written function

onto_length : (r : Run) (rs : List Run) → length (run_onto r rs) ≤ 1 + length rs
onto_length r [] = omega arith
onto_length r (s ∷ rest) = by (same_type r.ty s.ty)
  where
    by : (b : Bool) → length (if b then (record { count = r.count + s.count; ty = r.ty }) ∷ rest else r ∷ s ∷ rest) ≤ 1 + length (s ∷ rest)
    by true = omega arith
    by false = omega arith

merged_length : (rs : List Run) → length (merged rs) ≤ length rs
merged_length [] = omega arith
merged_length (r ∷ rest) = by (r.count == 0) (merged_length rest) (onto_length r (merged rest))
  where
    by : (b : Bool) → length (merged rest) ≤ length rest → length (run_onto r (merged rest)) ≤ 1 + length (merged rest)
        → length (if b then merged rest else run_onto r (merged rest)) ≤ length (r ∷ rest)
    by true h k = omega (arith, h)
    by false h k = omega (arith, h, k)

runs_length : (rs : List Run) → length (flat_map run_bytes rs) ≤ 11 * length rs
runs_length [] = omega arith
runs_length (r ∷ rs) = omega (arith, length-append (run_bytes r) (flat_map run_bytes rs), length-append (shortest r.count) (type_byte r.ty ∷ []), shortest_length r.count, runs_length rs)

-- A written function takes at most so many bytes, where its codes have at most 2 ^ 36 instructions.
abbrev pub most : ℕ
most = 2 ^ 42

bound : (all body runs code size w l cs more locals : ℕ) → all ≤ 10 + body → body ≤ 10 + runs + (code + 1) → runs ≤ 11 * locals → locals ≤ 2 ^ 31 + 50003 → code ≤ 25 * size
    → size ≤ 19 * w + cs + 11 → cs ≤ 2 ^ 36 + more → w + l < 2 ^ 31 → all ≤ most + 25 * more
bound all body runs code size w l cs more locals a b c d e f h g = omega (arith, a, b, c, d, e, f, h, g)

abbrev pub entry : Func → List ℕ
entry f = sized (body_bytes f)

extra_few : (m : Module) (f : Func) → Count m f ≤ 50000 → length (extra_types m f ++ three) ≤ 50003
extra_few m f few =
    let k = length-append (extra_types m f) three in
    let l = length-append (map (λ (p : Pair). p.ty) (SlotPairs m f)) (map (λ (p : Pair). p.ty) (ResultPairs m f)) in
    let a = length-map (SlotPairs m f) (λ (p : Pair). p.ty) in
    let b = length-map (ResultPairs m f) (λ (p : Pair). p.ty) in omega (arith, k, l, a, b, few)

one_runs : (ts : List ValType) → sum_by (λ (r : Run). r.count) (map one_run ts) ≡ length ts
one_runs [] = refl
one_runs (t ∷ ts) = let e = one_runs ts in let k = sum_by-cons (λ (r : Run). r.count) (one_run t) (map one_run ts) in omega (arith, e, k)

sum_runs : (rs ss : List Run) → sum_by (λ (r : Run). r.count) (rs ++ ss) ≡ sum_by (λ (r : Run). r.count) rs + sum_by (λ (r : Run). r.count) ss
sum_runs [] ss = omega arith
sum_runs (r ∷ rs) ss =
    let e = sum_runs rs ss in
    let k = sum_by-cons (λ (r : Run). r.count) r (rs ++ ss) in
    let l = sum_by-cons (λ (r : Run). r.count) r rs in omega (arith, e, k, l)

module _ (m : Module) (s : Settings) (which : List Bool) (codes : (index : ℕ) → Func → FrameCode) (x : ℕ) (f : Func) (sizes : FuncSizes (2 ^ 31) (2 ^ 31) m f) (low : Count m f ≤ 50000) where
  abbrev g : Func
  g = written_by m s which codes x f

  pub written_entry : (more : ℕ) → SlimPieces m (Numbered m s which f) x f (codes x f).pieces → codes_size (codes x f) ≤ 2 ^ 36 + more
      → length (entry (written_by m s which codes x f)) ≤ most + 25 * more
  written_entry more sp codes_few =
      let runs = length-append f.locals (map one_run (extra_types m f ++ three)) in
      let ones = length-map (extra_types m f ++ three) one_run in
      let extra = extra_few m f low in
      let own = sizes.runs in
      let count = merged_length g.locals in
      bound (length (entry g)) (length (body_bytes g)) (length (flat_map run_bytes (merged g.locals))) (length (code_bytes g.body)) (instructions_and_labels g.body)
      (code_weight m (pruned f.body)) (length (locals_of m f)) (codes_size (codes x f)) more (length (merged g.locals)) (sized_length (body_bytes g))
      (omega (arith, length-append (vector run_bytes (merged g.locals)) (expression_bytes g.body), vector_length run_bytes (merged g.locals), length-append (code_bytes g.body) (0x0B ∷ [])))
      (runs_length (merged g.locals)) (omega (arith, runs, ones, extra, own, count)) (code_length g.body) (written_size m s which codes x f sp) codes_few (weight_fits (2 ^ 31) (2 ^ 31) m f sizes)

  pub written_locals_few : local_count (written_by m s which codes x f).locals < 2 ^ 32
  written_locals_few =
      let a = sum_runs f.locals (map one_run (extra_types m f ++ three)) in
      let b = one_runs (extra_types m f ++ three) in
      let c = extra_few m f low in omega (arith, a, b, c, sizes.total)

-- the codes of each told function have at most 2 ^ 36 instructions, and so many more
abbrev pub AllCodesShort : Module → (which : List Bool) → (codes : (index : ℕ) → Func → FrameCode) → (more : Func → ℕ) → Type 0
AllCodesShort m which codes more = (x : ℕ) (f : Func) → defined_at m x ≡ Some f → is_told (slice_get which x) ≡ true → codes_size (codes x f) ≤ 2 ^ 36 + more f

module _ (m : Module) (s : Settings) (which : List Bool) (codes : (index : ℕ) → Func → FrameCode) (strict : StrictSizeRule m) (few : FewWritten m which) where
  -- ---- all functions

  locals_few : (i : ℕ) (f : Func) → slice_get m.funcs i ≡ Some f → local_count (func_by m s which codes (func_imports m + i) f).locals < 2 ^ 32
  locals_few i f e = by (is_told (slice_get which (func_imports m + i))) refl
    where
      sizes : FuncSizes (2 ^ 31) (2 ^ 31) m f
      sizes = one_of_all (FuncSizes (2 ^ 31) (2 ^ 31) m) m.funcs i f strict.each_func e

      by : (b : Bool) → is_told (slice_get which (func_imports m + i)) ≡ b → local_count (func_by m s which codes (func_imports m + i) f).locals < 2 ^ 32
      by true b =
          subst (λ (h : Func). local_count h.locals < 2 ^ 32) (sym (told m s which codes (func_imports m + i) f b))
          (written_locals_few m s which codes (func_imports m + i) f sizes (few (func_imports m + i) f (defined_of m i f e) b))
      by false b = subst (λ (h : Func). local_count h.locals < 2 ^ 32) (sym (not_told m s which codes (func_imports m + i) f b)) (let t = sizes.total in omega (arith, t))

  all_few : (y : ℕ) (fs : List Func) → ((i : ℕ) (f : Func) → slice_get fs i ≡ Some f → local_count (func_by m s which codes (y + i) f).locals < 2 ^ 32)
      → All (λ (f : Func). local_count f.locals < 2 ^ 32) (funcs_by m s which codes y fs)
  all_few y [] h = All-nil (λ (f : Func). local_count f.locals < 2 ^ 32)
  all_few y (f ∷ fs) h =
      let z : y + 0 ≡ y = omega arith in
      All-cons (λ (f : Func). local_count f.locals < 2 ^ 32) (func_by m s which codes y f) (funcs_by m s which codes (suc y) fs)
      (subst (λ j. local_count (func_by m s which codes j f).locals < 2 ^ 32) z (h 0 f refl))
      (all_few (suc y) fs (λ i g e. let k : y + suc i ≡ suc y + i = omega arith in subst (λ j. local_count (func_by m s which codes j g).locals < 2 ^ 32) k (h (suc i) g e)))

  pub emitted_few : FewLocals (asyncified_by m s which codes)
  emitted_few = grown_locals (inner m s which codes) (all_few (func_imports m) m.funcs locals_few)

  module _ (more : Func → ℕ) (slim : AllCodesSlim m s which codes) (short : AllCodesShort m which codes more) where
    entry_few : (i : ℕ) (f : Func) → slice_get m.funcs i ≡ Some f → length (entry (func_by m s which codes (func_imports m + i) f)) ≤ length (entry f) + most + 25 * more f
    entry_few i f e = by (is_told (slice_get which (func_imports m + i))) refl
      where
        by : (b : Bool) → is_told (slice_get which (func_imports m + i)) ≡ b → length (entry (func_by m s which codes (func_imports m + i) f)) ≤ length (entry f) + most + 25 * more f
        by true b =
            let z = ap (λ (h : Func). length (entry h)) (told m s which codes (func_imports m + i) f b) in
            let sizes = one_of_all (FuncSizes (2 ^ 31) (2 ^ 31) m) m.funcs i f strict.each_func e in
            let at = defined_of m i f e in
            let l = written_entry m s which codes (func_imports m + i) f sizes (few (func_imports m + i) f at b) (more f) (slim (func_imports m + i) f at b)
            (short (func_imports m + i) f at b) in
            omega (arith, z, l)
        by false b = let z = ap (λ (h : Func). length (entry h)) (not_told m s which codes (func_imports m + i) f b) in omega (arith, z)

    entries_few : (y : ℕ) (fs : List Func) → ((i : ℕ) (f : Func) → slice_get fs i ≡ Some f → length (entry (func_by m s which codes (y + i) f)) ≤ length (entry f) + most + 25 * more f)
        → length (flat_map entry (funcs_by m s which codes y fs)) ≤ length (flat_map entry fs) + length fs * most + 25 * sum_by more fs
    entries_few y [] h = omega arith
    entries_few y (f ∷ fs) h =
        let z : y + 0 ≡ y = omega arith in
        let first : length (entry (func_by m s which codes y f)) ≤ length (entry f) + most
        + 25 * more f = subst (λ j. length (entry (func_by m s which codes j f)) ≤ length (entry f) + most + 25 * more f) z (h 0 f refl) in
        let ih = entries_few (suc y) fs (λ i g e. let k : y + suc i ≡ suc y + i = omega arith
        in subst (λ j. length (entry (func_by m s which codes j g)) ≤ length (entry g) + most + 25 * more g) k (h (suc i) g e)) in
        omega (
          arith,
          first,
          ih,
          sum_by-cons more f fs,
          length-append (entry (func_by m s which codes y f)) (flat_map entry (funcs_by m s which codes (suc y) fs)),
          length-append (entry f) (flat_map entry fs),
        )

    inner_length : length m.funcs ≤ 100000 → length (Enc (inner m s which codes)) ≤ length (Enc m) + 2 ^ 60 + 25 * sum_by more m.funcs
    inner_length n =
        let p : Module = inner m s which codes in
        let s3 = ap length (same_sort_bytes p.funcs m.funcs (same_sorts m s which codes)) in
        let s10 = section_length 10 entry p.funcs in
        let within = entries_within 10 entry m.funcs in
        let added = entries_few (func_imports m) m.funcs entry_few in
        let same : customs_total 1 (sections p) p.customs ≡ customs_total 1 (sections m) m.customs = refl in
        omega (arith, enc_length m, enc_length p, s3, s10, within, added, same, n)

    -- fewer bytes than a u64 numbers
    pub emitted_short : length m.funcs ≤ 100000 → length (Enc m) ≤ 2 ^ 60 → 25 * sum_by more m.funcs ≤ 2 ^ 62 → length (Enc (asyncified_by m s which codes)) < 2 ^ 64
    emitted_short n l many = omega (arith, with_runtime_length (inner m s which codes), inner_length n, l, many)
