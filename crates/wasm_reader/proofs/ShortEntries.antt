-- No spelling of an entry is shorter than the one that it is written in.
use Rattle.std.proofs.Common.{◌≡◌, ℕ, zero, suc, ◌+◌, ◌*◌, ◌/◌, ◌≤◌, inl, inr, List, [], ◌∷◌, ◌++◌, flat_map, length, Option, Some, None, refl, ap, sym, subst, arith, length-append, Bool, true, false, cond, nat_eq, nat_lt}
use Rattle.std.proofs.lemmas.Bool.{ltb-true, ltb-false}
use Rattle.std.specs.List.{AllZip}
use Rattle.wa_types.specs.declared.values.ValType.{ValType}
use Rattle.wa_types.specs.declared.syntax.Limits.{Limits}
use Rattle.wa_types.specs.declared.syntax.ImportKind.{ImportKind}
use Rattle.wa_types.specs.declared.syntax.Import.{Import}
use Rattle.wa_types.specs.declared.syntax.Export.{Export}
use Rattle.wa_types.specs.declared.syntax.Run.{Run}
use Rattle.leb_numbers.specs.Leb.{spelled, shortest}
use Rattle.wa_types.specs.Encoding.{vector, sized, type_byte, func_type_bytes, max_bytes, limits_bytes, table_bytes, global_type_bytes, expression_bytes, same_type, run_onto, merged, run_bytes, body_bytes, import_kind_bytes, import_bytes, global_bytes, space_byte, export_bytes, elem_bytes, segment_bytes}
use Rattle.wa_types.specs.Syntax.{FuncType, Func, GlobalDef, Elem, Segment}
use Rattle.wa_types.specs.Binary.{Placed, RawType, RawKind, raw_func, raw_table, raw_memory, raw_global, RawImport, RawGlobal, RawElem, RawRun, RawBody, RawSegment}
use Rattle.wa_types.specs.Spells.{Text, Vector, ValueType, FunctionType, Maximum, LimitsOf, TableType, ImportKindOf, ImportOf, GlobalOf, ExportOf, ElementOf, RunOf, BodyOf, SegmentOf}
use Rattle.wa_types.specs.Reading.{IsValueType, IsFuncType, IsKind, IsImport, IsGlobal, IsElem, IsRun, IsBody, IsSegment}
use Rattle.wasm_reader.proofs.ShortNumbers.{by_test, number_short, shortest_rises, spelled_small, spelled_big, spelled_some}
use Rattle.wasm_reader.proofs.ShortCode.{vector_short, items_short, Same, indices_short, sized_short, expression_short}
use Rattle.wasm_reader.proofs.SpelledCodeSizes.{length_split}
use Rattle.wasm_reader.proofs.SpelledSizes.{each_length}

value_type_short : (x : Placed) (t : ValType) (at : ℕ) (a : List ℕ) → ValueType x at a → IsValueType x t → 1 ≤ length a
value_type_short x t at a h e = omega (arith, ap length h.1.1)

pub type_short : (x : RawType) (t : FuncType) (at : ℕ) (a : List ℕ) → FunctionType x at a → IsFuncType x t → length (func_type_bytes t) ≤ length a
type_short x t at a h i =
    let g = h.4 in
    omega (
      arith,
      length_split a h.0 h.1 h.2,
      ap length h.3,
      length_split h.1 g.0 g.1 g.2,
      length-append (vector (λ p. type_byte p ∷ []) t.params) (vector (λ r. type_byte r ∷ []) t.results),
      vector_short ValueType (λ p. type_byte p ∷ []) IsValueType value_type_short x.params t.params (at + length h.0) g.0 g.3 i.params,
      vector_short ValueType (λ r. type_byte r ∷ []) IsValueType value_type_short x.results t.results (at + length h.0 + length g.0) g.1 g.4 i.results,
    )

maximum_short : (low : ℕ) (high : Option ℕ) (at : ℕ) (a : List ℕ) → Maximum low high at a → length (max_bytes low high) ≤ length a
maximum_short low None at a h = omega (arith, length_split a h.0 h.1 h.2, ap length h.3, number_short low h.1 h.4)
maximum_short low (Some high) at a h =
    let g = h.4 in
    omega (arith, length_split a h.0 h.1 h.2, ap length h.3, length_split h.1 g.0 g.1 g.2, length-append (shortest low) (shortest high), number_short low g.0 g.3, number_short high g.1 g.4)

pub limits_short : (x y : Limits) (at : ℕ) (a : List ℕ) → LimitsOf x at a → Same x y → length (limits_bytes y) ≤ length a
limits_short x y at a h e = subst (λ (z : Limits). length (limits_bytes z) ≤ length a) (sym e) (maximum_short x.min x.max at a h)

pub table_short : (x y : Limits) (at : ℕ) (a : List ℕ) → TableType x at a → Same x y → length (table_bytes y) ≤ length a
table_short x y at a h e = omega (arith, length_split a h.0 h.1 h.2, ap length h.3, limits_short x y (at + length h.0) h.1 h.4 e)

same_limits : (x : Limits) → Same x x
same_limits x = refl

pub text_short : (n : List ℕ) (at : ℕ) (a : List ℕ) → Text n at a → length (sized n) ≤ length a
text_short n at a h = omega (arith, length_split a h.0 h.1 h.2, length-append (shortest (length n)) n, number_short (length n) h.0 h.3, ap length h.4.0)

kind_short : (x : RawKind) (k : ImportKind) (at : ℕ) (a : List ℕ) → ImportKindOf x at a → IsKind x k → length (import_kind_bytes k) ≤ length a
kind_short (raw_func sort) k at a h i = subst (λ z. length (import_kind_bytes z) ≤ length a) (sym i) (omega (arith, length_split a h.0 h.1 h.2, ap length h.3, number_short sort h.1 h.4))
kind_short (raw_table l) k at a h i = subst (λ z. length (import_kind_bytes z) ≤ length a) (sym i)
    (omega (arith, length_split a h.0 h.1 h.2, ap length h.3, table_short l l (at + length h.0) h.1 h.4 (same_limits l)))
kind_short (raw_memory l) k at a h i = subst (λ z. length (import_kind_bytes z) ≤ length a) (sym i)
    (omega (arith, length_split a h.0 h.1 h.2, ap length h.3, limits_short l l (at + length h.0) h.1 h.4 (same_limits l)))
kind_short (raw_global t m) k at a h i =
    let g = h.4 in
    subst (λ z. length (import_kind_bytes z) ≤ length a) (sym i.1) (omega (arith, length_split a h.0 h.1 h.2, ap length h.3, length_split h.1 g.0 g.1 g.2, ap length g.3.1.1, ap length g.4))

pub import_short : (x : RawImport) (y : Import) (at : ℕ) (a : List ℕ) → ImportOf x at a → IsImport x y → length (import_bytes y) ≤ length a
import_short x y at a h i =
    let g = h.4 in
    omega (
      arith,
      length_split a h.0 h.1 h.2,
      length_split h.1 g.0 g.1 g.2,
      length-append (sized y.«module» ++ sized y.base) (import_kind_bytes y.kind),
      length-append (sized y.«module») (sized y.base),
      ap (λ z. length (sized z)) i.module_name,
      ap (λ z. length (sized z)) i.base,
      text_short x.module_name at h.0 h.3,
      text_short x.base (at + length h.0) g.0 g.3,
      kind_short x.kind y.kind (at + length h.0 + length g.0) g.1 g.4 i.kind,
    )

pub global_short : (x : RawGlobal) (y : GlobalDef) (at : ℕ) (a : List ℕ) → GlobalOf x at a → IsGlobal x y → length (global_bytes y) ≤ length a
global_short x y at a h i =
    let t = h.3 in
    omega (
      arith,
      length_split a h.0 h.1 h.2,
      length_split h.0 t.0 t.1 t.2,
      ap length t.3.1.1,
      ap length t.4,
      length-append (global_type_bytes y.ty y.mutable) (expression_bytes y.init),
      expression_short x.init y.init (at + length h.0) h.1 h.4 i.init,
    )

pub export_short : (x y : Export) (at : ℕ) (a : List ℕ) → ExportOf x at a → Same x y → length (export_bytes y) ≤ length a
export_short x y at a h e =
    let g = h.4 in
    subst (λ (z : Export). length (export_bytes z) ≤ length a) (sym e)
    (omega (
      arith,
      length_split a h.0 h.1 h.2,
      length_split h.1 g.0 g.1 g.2,
      ap length g.3,
      length-append (sized x.name) (space_byte x.space ∷ shortest x.index),
      text_short x.name at h.0 h.3,
      number_short x.index g.1 g.4,
    ))

pub elem_short : (x : RawElem) (y : Elem) (at : ℕ) (a : List ℕ) → ElementOf x at a → IsElem x y → length (elem_bytes y) ≤ length a
elem_short x y at a h i =
    let g = h.4 in
    omega (
      arith,
      length_split a h.0 h.1 h.2,
      length_split h.1 g.0 g.1 g.2,
      length-append (shortest y.table ++ expression_bytes y.offset) (vector shortest y.funcs),
      length-append (shortest y.table) (expression_bytes y.offset),
      ap (λ z. length (shortest z)) i.table,
      ap (λ z. length (vector shortest z)) i.funcs,
      number_short x.table h.0 h.3,
      expression_short x.offset y.offset (at + length h.0) g.0 g.3 i.offset,
      indices_short x.funcs (at + length h.0 + length g.0) g.1 g.4,
    )

pub segment_short : (x : RawSegment) (y : Segment) (at : ℕ) (a : List ℕ) → SegmentOf x at a → IsSegment x y → length (segment_bytes y) ≤ length a
segment_short x y at a h i =
    let g = h.4 in
    let k = g.4 in
    omega (
      arith,
      length_split a h.0 h.1 h.2,
      length_split h.1 g.0 g.1 g.2,
      length_split g.1 k.0 k.1 k.2,
      ap length k.4,
      length-append (shortest y.memory ++ expression_bytes y.offset) (sized y.bytes),
      length-append (shortest y.memory) (expression_bytes y.offset),
      length-append (shortest (length y.bytes)) y.bytes,
      ap (λ z. length (shortest z)) i.memory,
      ap length i.bytes,
      ap (λ z. length (shortest (length z))) i.bytes,
      number_short x.memory h.0 h.3,
      expression_short x.offset y.offset (at + length h.0) g.0 g.3 i.offset,
      number_short (length x.bytes) k.0 k.3,
    )

-- the shortest spelling of a sum
spelled_double : (k x y : ℕ) → y ≤ 2 * x + 1 → length (spelled k y) ≤ length (spelled k x) + 1
unfolding spelled
spelled_double zero x y h = omega arith
spelled_double (suc k) x y h = elim (by_test (nat_lt y 128)) [
  | inl small ↦ let s = spelled_small (suc k) y (ltb-true y 128 small) in omega (arith, s)
  | inr big ↦
      let l = ltb-false y 128 big in
      elim (by_test (nat_lt x 128)) [
        | inl low ↦ omega (arith, spelled_big k y l, spelled_small k (y / 128) (omega (arith, h, ltb-true x 128 low)), spelled_some k x)
        | inr high ↦ omega (arith, spelled_big k y l, spelled_big k x (ltb-false x 128 high), spelled_double k (x / 128) (y / 128) (omega (arith, h)))
      ]
]

sum_short : (m n : ℕ) → length (shortest (m + n)) ≤ length (shortest m) + length (shortest n)
sum_short m n = elim (by_test (nat_lt m n)) [
  | inl less ↦ let l = ltb-true m n less in omega (arith, spelled_double 10 n (m + n) (omega (arith, l)), spelled_some 9 m)
  | inr more ↦ let l = ltb-false m n more in omega (arith, spelled_double 10 m (m + n) (omega (arith, l)), spelled_some 9 n)
]

-- the bytes of runs, with their number of items
runs_length : List Run → ℕ
runs_length rs = length (flat_map run_bytes rs)

run_length : (r : Run) → length (run_bytes r) ≡ length (shortest r.count) + 1
run_length r = length-append (shortest r.count) (type_byte r.ty ∷ [])

onto_short : (r : Run) (rs : List Run) → (runs_length (run_onto r rs) ≤ length (run_bytes r) + runs_length rs) × (length (run_onto r rs) ≤ suc (length rs))
unfolding runs_length
onto_short r [] = (omega (arith, length-append (run_bytes r) []), omega arith)
onto_short r (s ∷ rest) = by_type (same_type r.ty s.ty)
  where
    both : Run
    both = record { count = r.count + s.count; ty = r.ty }

    by_type : (t : Bool) → (runs_length (cond t (both ∷ rest) (r ∷ s ∷ rest)) ≤ length (run_bytes r) + runs_length (s ∷ rest))
        × (length (cond t (both ∷ rest) (r ∷ s ∷ rest)) ≤ suc (length (s ∷ rest)))
    by_type true = (
      omega (
        arith,
        length-append (run_bytes both) (flat_map run_bytes rest),
        length-append (run_bytes s) (flat_map run_bytes rest),
        run_length both,
        run_length r,
        run_length s,
        sum_short r.count s.count,
      ),
      omega arith,
    )
    by_type false = (omega (arith, length-append (run_bytes r) (flat_map run_bytes (s ∷ rest))), omega arith)

merged_short : (rs : List Run) → (runs_length (merged rs) ≤ runs_length rs) × (length (merged rs) ≤ length rs)
unfolding runs_length
merged_short [] = (omega arith, omega arith)
merged_short (r ∷ rest) = by_count (nat_eq r.count 0) (merged_short rest)
  where
    by_count : (t : Bool) → (runs_length (merged rest) ≤ runs_length rest) × (length (merged rest) ≤ length rest)
        → (runs_length (cond t (merged rest) (run_onto r (merged rest))) ≤ runs_length (r ∷ rest)) × (length (cond t (merged rest) (run_onto r (merged rest))) ≤ length (r ∷ rest))
    by_count true h = (omega (arith, h.0, length-append (run_bytes r) (flat_map run_bytes rest)), omega (arith, h.1))
    by_count false h = let o = onto_short r (merged rest) in (omega (arith, h.0, o.0, length-append (run_bytes r) (flat_map run_bytes rest)), omega (arith, h.1, o.1))

run_short : (x : RawRun) (y : Run) (at : ℕ) (a : List ℕ) → RunOf x at a → IsRun x y → length (run_bytes y) ≤ length a
run_short x y at a h i = omega (arith, length_split a h.0 h.1 h.2, run_length y, ap (λ n. length (shortest n)) i.count, number_short x.count h.0 h.3, ap length h.4.1.1)

-- runs are merged, and then no longer
locals_short : (xs : List RawRun) (ys : List Run) (at : ℕ) (a : List ℕ) → Vector RunOf xs at a → AllZip IsRun xs ys → length (vector run_bytes (merged ys)) ≤ length a
unfolding runs_length
locals_short xs ys at a h e =
    let m = merged_short ys in
    omega (
      arith,
      length_split a h.0 h.1 h.2,
      length-append (shortest (length (merged ys))) (flat_map run_bytes (merged ys)),
      m.0,
      shortest_rises (length (merged ys)) (length ys) m.1,
      number_short (length xs) h.0 h.3,
      ap (λ n. length (shortest n)) (each_length IsRun xs ys e),
      items_short RunOf run_bytes IsRun run_short xs ys (at + length h.0) h.1 h.4 e,
    )

-- a body, without its size
pub content_short : (x : RawBody) (f : Func) (at : ℕ) (a : List ℕ) → BodyOf x at a → IsBody x f → length (body_bytes f) ≤ x.size
content_short x f at a h i =
    let g = h.4.1 in
    omega (
      arith,
      h.4.0,
      length_split h.1 g.0 g.1 g.2,
      length-append (vector run_bytes (merged f.locals)) (expression_bytes f.body),
      locals_short x.locals f.locals (at + length h.0) g.0 g.3 i.locals,
      expression_short x.code f.body (at + length h.0 + length g.0) g.1 g.4 i.body,
    )

pub body_short : (x : RawBody) (f : Func) (at : ℕ) (a : List ℕ) → BodyOf x at a → IsBody x f → length (sized (body_bytes f)) ≤ length a
body_short x f at a h i = sized_short (body_bytes f) x.size a h.0 h.1 h.2 h.3 h.4.0 (content_short x f at a h i)
