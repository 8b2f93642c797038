-- The bytes that entries of sections are written as spell them.
use Rattle.std.proofs.Common.{ℕ, ◌+◌, ◌<◌, ◌^◌, List, [], ◌∷◌, ◌++◌, Option, Some, None, refl, arith, append_assoc, length, length-append, IsUtf8, All}
use Rattle.std.specs.List.{AllZip}
use Rattle.wa_types.specs.declared.values.ValType.{ValType}
use Rattle.wa_types.specs.declared.syntax.Run.{Run}
use Rattle.wa_types.specs.declared.syntax.Limits.{Limits}
use Rattle.wa_types.specs.declared.syntax.ImportKind.{ImportKind}
use Rattle.wa_types.specs.declared.syntax.ImportKind.TheVariants.{Func as a_func_import, Table as a_table_import, Memory as a_memory_import, Global as a_global_import}
use Rattle.wa_types.specs.declared.syntax.Import.{Import}
use Rattle.wa_types.specs.declared.syntax.Export.{Export}
use Rattle.leb_numbers.specs.Leb.{shortest}
use Rattle.wa_types.specs.Encoding.{vector, sized, type_byte, func_type_bytes, max_bytes, limits_bytes, table_bytes, mutable_byte, global_type_bytes, expression_bytes, import_kind_bytes, import_bytes, global_bytes, space_byte, export_bytes, elem_bytes, segment_bytes, run_bytes, merged, body_bytes}
use Rattle.wa_types.specs.Syntax.{FuncType, Func, GlobalDef, Elem, Segment}
use Rattle.wa_types.specs.Binary.{raw_func, raw_table, raw_memory, raw_global}
use Rattle.wa_types.specs.Spells.{Vector, Text, ValueType, FunctionType, Maximum, LimitsOf, TableType, ImportKindOf, ImportOf, GlobalOf, ExportOf, ElementOf, RunOf, BodyOf, SegmentOf}
use Rattle.wa_types.specs.Reading.{IsFuncType, IsKind, IsImport, IsGlobal, IsElem, IsRun, IsBody, IsSegment, IsValueType}
use Rattle.wa_types.specs.Sizes.{CodeFits, MaxFits, LimitsFit, KindFits, ImportFits, ExportFits, ElemFits, SegmentFits}
use Rattle.file_laws.proofs.NumberWriting.{shortest_spells}
use Rattle.file_laws.proofs.CodeWriting.{Written, write_vector, write_numbers, number_some, write_type, write_expression, Itself}

type_some : (t : ValType) → 0 < length (type_byte t ∷ [])
type_some t = omega arith

every : {Y : Type 0} (ys : List Y) → All (λ y. Unit {0}) ys
every ys = λ k d h. tt

write_types : (ts : List ValType) → length (vector (λ t. type_byte t ∷ []) ts) < 2 ^ 32 → (at : ℕ) → Written (Vector ValueType) (AllZip IsValueType) ts at (vector (λ t. type_byte t ∷ []) ts)
write_types ts l at = write_vector ValueType IsValueType (λ t. Unit {0}) (λ t. type_byte t ∷ []) write_type type_some ts (every ts) l at

pub write_func_type : (t : FuncType) → Unit {0} → length (func_type_bytes t) < 2 ^ 32 → (at : ℕ) → Written FunctionType IsFuncType t at (func_type_bytes t)
write_func_type t u l at =
    let ps = vector (λ p. type_byte p ∷ []) t.params in
    let rs = vector (λ p. type_byte p ∷ []) t.results in
    let p = write_types t.params (omega (arith, l, length-append ps rs)) (at + 1) in
    let r = write_types t.results (omega (arith, l, length-append ps rs)) (at + 1 + length ps) in
    record {
      raw = record { params = p.raw; results = r.raw };
      spelled = (0x60 ∷ [], ps ++ rs, refl, refl, (ps, rs, refl, p.spelled, r.spelled));
      means = record { params = p.means; results = r.means };
    }

max_spelled : (low : ℕ) (high : Option ℕ) → low < 2 ^ 32 → MaxFits high → (at : ℕ) → Maximum low high at (max_bytes low high)
max_spelled low None h k at = (0x00 ∷ [], shortest low, refl, refl, shortest_spells low h)
max_spelled low (Some high) h k at = (0x01 ∷ [], shortest low ++ shortest high, refl, refl, (shortest low, shortest high, refl, shortest_spells low h, shortest_spells high k))

pub limits_spelled : (l : Limits) → LimitsFit l → (at : ℕ) → LimitsOf l at (limits_bytes l)
limits_spelled l h at = max_spelled l.min l.max h.0 h.1 at

pub write_limits : (l : Limits) → LimitsFit l → length (limits_bytes l) < 2 ^ 32 → (at : ℕ) → Written LimitsOf Itself l at (limits_bytes l)
write_limits l h n at = record { raw = l; spelled = limits_spelled l h at; means = refl }

table_spelled : (l : Limits) → LimitsFit l → (at : ℕ) → TableType l at (table_bytes l)
table_spelled l h at = (0x70 ∷ [], limits_bytes l, refl, refl, limits_spelled l h (at + 1))

pub write_table : (l : Limits) → LimitsFit l → length (table_bytes l) < 2 ^ 32 → (at : ℕ) → Written TableType Itself l at (table_bytes l)
write_table l h n at = record { raw = l; spelled = table_spelled l h at; means = refl }

pub name_spelled : (n : List ℕ) → IsUtf8 n → length (sized n) < 2 ^ 32 → (at : ℕ) → Text n at (sized n)
name_spelled n u l at = (shortest (length n), n, refl, shortest_spells (length n) (omega (arith, l, length-append (shortest (length n)) n)), (refl, u))

write_kind : (k : ImportKind) → KindFits k → (at : ℕ) → Written ImportKindOf IsKind k at (import_kind_bytes k)
write_kind (a_func_import sort) h at = record { raw = raw_func sort; spelled = (0x00 ∷ [], shortest sort, refl, refl, shortest_spells sort h); means = refl }
write_kind (a_table_import l) h at = record { raw = raw_table l; spelled = (0x01 ∷ [], table_bytes l, refl, refl, table_spelled l h (at + 1)); means = refl }
write_kind (a_memory_import l) h at = record { raw = raw_memory l; spelled = (0x02 ∷ [], limits_bytes l, refl, refl, limits_spelled l h (at + 1)); means = refl }
write_kind (a_global_import t m) h at =
    let w = write_type t tt (omega arith) (at + 1) in
    record { raw = raw_global w.raw m; spelled = (0x03 ∷ [], global_type_bytes t m, refl, refl, (type_byte t ∷ [], mutable_byte m ∷ [], refl, w.spelled, refl)); means = (t, refl, w.means) }

pub write_import : (i : Import) → ImportFits i → length (import_bytes i) < 2 ^ 32 → (at : ℕ) → Written ImportOf IsImport i at (import_bytes i)
write_import i h l at =
    let m = sized i.module in
    let b = sized i.base in
    let k = import_kind_bytes i.kind in
    let len : length m + (length b + length k) < 2 ^ 32 = omega (arith, l, length-append (m ++ b) k, length-append m b) in
    let w = write_kind i.kind h.kind (at + length m + length b) in
    record {
      raw = record { module_name = i.module; base = i.base; kind = w.raw };
      spelled = (m, b ++ k, append_assoc m b k, name_spelled i.module h.module_name (omega (arith, len)) at, (b, k, refl, name_spelled i.base h.base (omega (arith, len)) (at + length m), w.spelled));
      means = record { module_name = refl; base = refl; kind = w.means };
    }

pub write_global : (g : GlobalDef) → CodeFits g.init → length (global_bytes g) < 2 ^ 32 → (at : ℕ) → Written GlobalOf IsGlobal g at (global_bytes g)
write_global g h l at =
    let t = write_type g.ty tt (omega arith) at in
    let e = write_expression g.init h (omega (arith, l)) (at + 2) in
    record {
      raw = record { ty = t.raw; mutable = g.mutable; init = e.raw };
      spelled = (global_type_bytes g.ty g.mutable, expression_bytes g.init, refl, (type_byte g.ty ∷ [], mutable_byte g.mutable ∷ [], refl, t.spelled, refl), e.spelled);
      means = record { ty = t.means; mutable = refl; init = e.means };
    }

pub write_export : (x : Export) → ExportFits x → length (export_bytes x) < 2 ^ 32 → (at : ℕ) → Written ExportOf Itself x at (export_bytes x)
write_export x h l at =
    let n = sized x.name in
    let b = space_byte x.space ∷ shortest x.index in
    record {
      raw = x;
      spelled = (n, b, refl, name_spelled x.name h.name (omega (arith, l, length-append n b)) at, (space_byte x.space ∷ [], shortest x.index, refl, refl, shortest_spells x.index h.index));
      means = refl;
    }

pub write_elem : (e : Elem) → ElemFits e → length (elem_bytes e) < 2 ^ 32 → (at : ℕ) → Written ElementOf IsElem e at (elem_bytes e)
write_elem e h l at =
    let t = shortest e.table in
    let o = expression_bytes e.offset in
    let f = vector shortest e.funcs in
    let len : length t + (length o + length f) < 2 ^ 32 = omega (arith, l, length-append (t ++ o) f, length-append t o) in
    let w = write_expression e.offset h.offset (omega (arith, len)) (at + length t) in
    record {
      raw = record { table = e.table; offset = w.raw; funcs = e.funcs };
      spelled = (t, o ++ f, append_assoc t o f, shortest_spells e.table h.table, (o, f, refl, w.spelled, write_numbers e.funcs h.funcs (omega (arith, len)) (at + length t + length o)));
      means = record { table = refl; offset = w.means; funcs = refl };
    }

pub write_segment : (s : Segment) → SegmentFits s → length (segment_bytes s) < 2 ^ 32 → (at : ℕ) → Written SegmentOf IsSegment s at (segment_bytes s)
write_segment s h l at =
    let t = shortest s.memory in
    let o = expression_bytes s.offset in
    let f = sized s.bytes in
    let len : length t + (length o + length f) < 2 ^ 32 = omega (arith, l, length-append (t ++ o) f, length-append t o) in
    let w = write_expression s.offset h.offset (omega (arith, len)) (at + length t) in
    record {
      raw = record { memory = s.memory; offset = w.raw; bytes = s.bytes };
      spelled = (
        t,
        o ++ f,
        append_assoc t o f,
        shortest_spells s.memory h.memory,
        (
          o,
          f,
          refl,
          w.spelled,
          (shortest (length s.bytes), s.bytes, refl, shortest_spells (length s.bytes) (omega (arith, len, length-append (shortest (length s.bytes)) s.bytes)), refl),
        ),
      );
      means = record { memory = refl; offset = w.means; bytes = refl };
    }

write_run : (r : Run) → r.count < 2 ^ 32 → length (run_bytes r) < 2 ^ 32 → (at : ℕ) → Written RunOf IsRun r at (run_bytes r)
write_run r h l at =
    let t = write_type r.ty tt (omega arith) (at + length (shortest r.count)) in
    record {
      raw = record { count = r.count; ty = t.raw };
      spelled = (shortest r.count, type_byte r.ty ∷ [], refl, shortest_spells r.count h, t.spelled);
      means = record { count = refl; ty = t.means };
    }

run_some : (r : Run) → 0 < length (run_bytes r)
run_some r = omega (arith, length-append (shortest r.count) (type_byte r.ty ∷ []))

-- a body's runs fit, merged, and so does its code
pub record BodyFits (f : Func) : Type 0 where
  pub runs : All (λ (r : Run). r.count < 2 ^ 32) (merged f.locals)
  pub body : CodeFits f.body

-- a function with its runs merged
abbrev pub merged_func : Func → Func
merged_func f = record f { locals = merged f.locals }

pub write_body : (f : Func) → BodyFits f → length (sized (body_bytes f)) < 2 ^ 32 → (at : ℕ) → Written BodyOf (λ raw f. IsBody raw (merged_func f)) f at (sized (body_bytes f))
write_body f h l at =
    let all = body_bytes f in
    let n = shortest (length all) in
    let v = vector run_bytes (merged f.locals) in
    let e = expression_bytes f.body in
    let len : length n + (length v + length e) < 2 ^ 32 = omega (arith, l, length-append n all, length-append v e) in
    let r = write_vector RunOf IsRun (λ (r : Run). r.count < 2 ^ 32) run_bytes write_run run_some (merged f.locals) h.runs (omega (arith, len)) (at + length n) in
    let w = write_expression f.body h.body (omega (arith, len)) (at + length n + length v) in
    record {
      raw = record { size = length all; locals = r.raw; code = w.raw };
      spelled = (n, all, refl, shortest_spells (length all) (omega (arith, len, length-append v e)), (refl, (v, e, refl, r.spelled, w.spelled)));
      means = record { locals = r.means; body = w.means };
    }

pub func_type_some : (t : FuncType) → 0 < length (func_type_bytes t)
func_type_some t = omega arith

pub limits_some : (l : Limits) → 0 < length (limits_bytes l)
limits_some l = by_max l.max where
  by_max : (m : Option ℕ) → 0 < length (max_bytes l.min m)
  by_max None = omega arith
  by_max (Some high) = omega arith

pub table_some : (l : Limits) → 0 < length (table_bytes l)
table_some l = omega arith

kind_some : (k : ImportKind) → 0 < length (import_kind_bytes k)
kind_some (a_func_import sort) = omega arith
kind_some (a_table_import l) = omega arith
kind_some (a_memory_import l) = omega arith
kind_some (a_global_import t m) = omega arith

pub import_some : (i : Import) → 0 < length (import_bytes i)
import_some i = omega (arith, kind_some i.kind, length-append (sized i.module ++ sized i.base) (import_kind_bytes i.kind))

pub global_some : (g : GlobalDef) → 0 < length (global_bytes g)
global_some g = omega arith

pub export_some : (x : Export) → 0 < length (export_bytes x)
export_some x = omega (arith, length-append (sized x.name) (space_byte x.space ∷ shortest x.index))

pub elem_some : (e : Elem) → 0 < length (elem_bytes e)
elem_some e = omega (arith, number_some e.table, length-append (shortest e.table ++ expression_bytes e.offset) (vector shortest e.funcs), length-append (shortest e.table) (expression_bytes e.offset))

pub segment_some : (s : Segment) → 0 < length (segment_bytes s)
segment_some s = omega (arith, number_some s.memory, length-append (shortest s.memory ++ expression_bytes s.offset) (sized s.bytes), length-append (shortest s.memory) (expression_bytes s.offset))

pub body_some : (f : Func) → 0 < length (sized (body_bytes f))
body_some f = omega (arith, number_some (length (body_bytes f)), length-append (shortest (length (body_bytes f))) (body_bytes f))
