-- The module that is written for a small one is little longer.
use Rattle.std.proofs.Common.{◌≡◌, ℕ, suc, ◌+◌, ◌≤◌, List, [], ◌∷◌, ◌++◌, refl, ap, sym, subst, length, length-append, arith}
use Rattle.std.specs.List.{flat_map}
use Rattle.wa_types.specs.declared.syntax.Limits.{Limits}
use Rattle.leb_numbers.specs.Leb.{shortest}
use Rattle.wa_types.specs.Syntax.{Func, Custom, Module}
use Rattle.wa_types.specs.Encoding.{Enc, sections, with_customs, customs_behind, section, start_section, func_type_bytes, import_bytes, table_bytes, limits_bytes, global_bytes, export_bytes, elem_bytes, segment_bytes, sized, body_bytes, code_bytes, preamble}
use Rattle.wa_types.specs.Base.{added_memories}
use Rattle.wa_types.specs.Modules.{all_memories}
use Rattle.wa_types.specs.Runtime.{with_runtime, runtime_types, runtime_globals, runtime_funcs, runtime_exports, runtime_func, func_space, global_space, start_code, stop_code, state_code, test_code}
use Rattle.emitted_form.proofs.Lengths.{section_grows, shortest_length, shortest_signed_length, sized_length}

types_bytes : length (flat_map func_type_bytes runtime_types) ≤ 90
types_bytes = simp length-append (omega (arith, shortest_length 0, shortest_length 1))

globals_bytes : length (flat_map global_bytes runtime_globals) ≤ 60
unfolding code_bytes
globals_bytes = simp length-append (omega (arith, shortest_signed_length 32 0))

memories_bytes : (ms : List Limits) → length (flat_map limits_bytes (added_memories ms)) ≤ 30
memories_bytes [] = simp length-append (omega (arith, shortest_length 1))
memories_bytes (m ∷ ms) = omega arith

sorts_bytes : (first state address : ℕ) → length (flat_map (λ (f : Func). shortest f.sort) (runtime_funcs first state address)) ≤ 50
sorts_bytes first state address = simp length-append (omega (arith, shortest_length first, shortest_length (first + 1), shortest_length (first + 2)))

exports_bytes : (first : ℕ) → length (flat_map export_bytes (runtime_exports first)) ≤ 300
exports_bytes first = simp length-append (omega (
  arith,
  shortest_length first,
  shortest_length (first + 1),
  shortest_length (first + 2),
  shortest_length (first + 3),
  shortest_length (first + 4),
  shortest_length 20,
  shortest_length 21,
  shortest_length 18,
))

test_bytes : (address : ℕ) → length (code_bytes (test_code address)) ≤ 100
unfolding code_bytes
test_bytes address = simp length-append (omega (arith, shortest_length address, shortest_length 0, shortest_length 2, shortest_length 4))

start_bytes : (sort number state address : ℕ) → length (sized (body_bytes (runtime_func sort (start_code number state address)))) ≤ 200
unfolding code_bytes
start_bytes sort number state address =
    let most = sized_length (body_bytes (runtime_func sort (start_code number state address))) in
    let body : length (body_bytes (runtime_func sort (start_code number state address))) ≤ 190 =
    simp length-append (omega (arith, shortest_signed_length 32 number, shortest_length state, shortest_length address, shortest_length 0, shortest_length 2, shortest_length 4)) in
    omega (arith, most, body)

stop_bytes : (sort state address : ℕ) → length (sized (body_bytes (runtime_func sort (stop_code state address)))) ≤ 200
unfolding code_bytes
stop_bytes sort state address =
    let most = sized_length (body_bytes (runtime_func sort (stop_code state address))) in
    let body : length (body_bytes (runtime_func sort (stop_code state address))) ≤ 190 =
    simp length-append (omega (arith, shortest_signed_length 32 0, shortest_length state, shortest_length address, shortest_length 0, shortest_length 2, shortest_length 4)) in
    omega (arith, most, body)

state_bytes : (sort state : ℕ) → length (sized (body_bytes (runtime_func sort (state_code state)))) ≤ 200
unfolding code_bytes
state_bytes sort state =
    let most = sized_length (body_bytes (runtime_func sort (state_code state))) in
    let body : length (body_bytes (runtime_func sort (state_code state))) ≤ 190 = simp length-append (omega (arith, shortest_length state, shortest_length 0)) in
    omega (arith, most, body)

bodies_bytes : (first state address : ℕ) → length (flat_map (λ f. sized (body_bytes f)) (runtime_funcs first state address)) ≤ 1000
bodies_bytes first state address =
    let entry : Func → List ℕ = λ f. sized (body_bytes f) in
    let a = runtime_func first (start_code 1 state address) in
    let b = runtime_func (first + 1) (stop_code state address) in
    let c = runtime_func first (start_code 2 state address) in
    let d = runtime_func (first + 2) (state_code state) in
    omega (
      arith,
      length-append (entry a) (flat_map entry (b ∷ c ∷ b ∷ d ∷ [])),
      length-append (entry b) (flat_map entry (c ∷ b ∷ d ∷ [])),
      length-append (entry c) (flat_map entry (b ∷ d ∷ [])),
      length-append (entry b) (flat_map entry (d ∷ [])),
      length-append (entry d) [],
      start_bytes first 1 state address,
      start_bytes first 2 state address,
      stop_bytes (first + 1) state address,
      state_bytes (first + 2) state,
    )

-- the lengths of sections together
abbrev pub total : List (List ℕ) → ℕ
total [] = 0
total (s ∷ ss) = length s + total ss

-- the lengths of the custom sections behind them
abbrev pub customs_total : ℕ → List (List ℕ) → List Custom → ℕ
customs_total id [] cs = 0
customs_total id (s ∷ ss) cs = length (customs_behind id cs) + customs_total (suc id) ss cs

with_customs_length : (id : ℕ) (ss : List (List ℕ)) (cs : List Custom) → length (with_customs id ss cs) ≡ total ss + customs_total id ss cs
with_customs_length id [] cs = refl
with_customs_length id (s ∷ ss) cs =
    let a = length-append (s ++ customs_behind id cs) (with_customs (suc id) ss cs) in
    let b = length-append s (customs_behind id cs) in
    let c = with_customs_length (suc id) ss cs in omega (arith, a, b, c)

pub enc_length : (m : Module) → length (Enc m) ≡ 8 + length (customs_behind 0 m.customs) + (total (sections m) + customs_total 1 (sections m) m.customs)
unfolding Enc
enc_length m =
    let a = length-append (preamble ++ customs_behind 0 m.customs) (with_customs 1 (sections m) m.customs) in
    let b = length-append preamble (customs_behind 0 m.customs) in
    let c = with_customs_length 1 (sections m) m.customs in omega (arith, a, b, c)

same_length : {X : Type 0} → (bytes : X → List ℕ) (x y : X) → x ≡ y → length (bytes x) ≡ length (bytes y)
same_length bytes x y e = ap (λ z. length (bytes z)) e

grows : {X : Type 0} → (id : ℕ) (entry : X → List ℕ) (new xs ys : List X) → new ≡ xs ++ ys → length (section id entry new) ≤ length (section id entry xs) + (length (flat_map entry ys) + 21)
grows id entry new xs ys e = subst (λ zs. length (section id entry zs) ≤ length (section id entry xs) + (length (flat_map entry ys) + 21)) (sym e) (section_grows id entry xs ys)

total_grows : (m p : Module) (first state address : ℕ) (ms : List Limits) (k : ℕ)
    → p.types ≡ m.types ++ runtime_types → p.imports ≡ m.imports → p.funcs ≡ m.funcs ++ runtime_funcs first state address → p.tables ≡ m.tables
    → p.memories ≡ m.memories ++ added_memories ms → p.globals ≡ m.globals ++ runtime_globals → p.exports ≡ m.exports ++ runtime_exports k → p.start ≡ m.start
    → p.elems ≡ m.elems → p.segments ≡ m.segments → total (sections p) ≤ total (sections m) + 1900
total_grows m p first state address ms k types imports funcs tables memories globals exports start elems segments =
    let s1 = grows 1 func_type_bytes p.types m.types runtime_types types in
    let s2 = same_length (section 2 import_bytes) p.imports m.imports imports in
    let s3 = grows 3 (λ (f : Func). shortest f.sort) p.funcs m.funcs (runtime_funcs first state address) funcs in
    let s4 = same_length (section 4 table_bytes) p.tables m.tables tables in
    let s5 = grows 5 limits_bytes p.memories m.memories (added_memories ms) memories in
    let s6 = grows 6 global_bytes p.globals m.globals runtime_globals globals in
    let s7 = grows 7 export_bytes p.exports m.exports (runtime_exports k) exports in
    let s8 = same_length start_section p.start m.start start in
    let s9 = same_length (section 9 elem_bytes) p.elems m.elems elems in
    let s10 = grows 10 (λ f. sized (body_bytes f)) p.funcs m.funcs (runtime_funcs first state address) funcs in
    let s11 = same_length (section 11 segment_bytes) p.segments m.segments segments in
    omega (arith, s1, s2, s3, s4, s5, s6, s7, s8, s9, s10, s11, types_bytes, sorts_bytes first state address, memories_bytes ms, globals_bytes, exports_bytes k, bodies_bytes first state address)

-- The runtime's parts take fewer than 2,000 bytes.
pub with_runtime_length : (m : Module) → length (Enc (with_runtime m)) ≤ length (Enc m) + 2000
unfolding with_runtime
with_runtime_length m =
    let p : Module = with_runtime m in
    let more : total (sections p) ≤ total (sections m) + 1900 =
    total_grows m p (length m.types) (global_space m) (global_space m + 1) (all_memories m) (func_space m) refl refl refl refl refl refl refl refl refl refl in
    let same : customs_total 1 (sections p) p.customs ≡ customs_total 1 (sections m) m.customs = refl in
    let front : length (customs_behind 0 p.customs) ≡ length (customs_behind 0 m.customs) = refl in
    omega (arith, enc_length m, enc_length p, more, same, front)
