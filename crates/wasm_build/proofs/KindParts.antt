-- The parts of imports.
use Rattle.std.proofs.Common.{◌≡◌, ℕ, ◌+◌, List, [], ◌∷◌, ap, sym, subst, arith, length, None, Bool, false}
use Rattle.wa_types.specs.declared.syntax.Limits.{Limits}
use Rattle.wa_types.specs.declared.syntax.Import.{Import}
use Rattle.wa_types.specs.declared.syntax.ImportKind.{ImportKind}
use Rattle.wa_types.specs.declared.syntax.ImportKind.TheVariants.{Func as a_func_import, Table as a_table_import, Memory as a_memory_import, Global as a_global_import}
use Rattle.wa_types.specs.declared.values.ValType.TheVariants.{I32}
use Rattle.wa_types.specs.declared.values.ValType.{ValType}
use Rattle.wa_types.specs.Binary.{RawKind, raw_func, raw_table, raw_memory, raw_global}
use Rattle.wa_types.specs.Spells.{◌▸◌, Exactly, Number, Text, LimitsOf, TableType, ImportKindOf, ImportOf}
use Rattle.wa_types.specs.Reading.{IsKind, IsImport}
use Rattle.wasm_build.specs.Builds.{SpelledAs, SpelledGlobalType}

abbrev pub SpelledKind : ImportKind → ℕ → List ℕ → Type 0
SpelledKind = SpelledAs ImportKindOf IsKind

-- an import
pub import_parts : (i : Import) (at : ℕ) (bytes : List ℕ) → SpelledAs ImportOf IsImport i at bytes → (Text i.module ▸ (Text i.base ▸ SpelledKind i.kind)) at bytes
import_parts i at bytes (raw, is, h) = (
  h.0,
  h.1,
  h.2,
  subst (λ n. Text n at h.0) (sym is.module_name) h.3,
  (h.4.0, h.4.1, h.4.2, subst (λ n. Text n (at + length h.0) h.4.0) (sym is.base) h.4.3, (raw.kind, is.kind, h.4.4)),
)

-- what is imported, by its first byte
abbrev pub kind_byte : ImportKind → ℕ
kind_byte (a_func_import sort) = 0x00
kind_byte (a_table_import l) = 0x01
kind_byte (a_memory_import l) = 0x02
kind_byte (a_global_import t mutable) = 0x03

abbrev pub KindTail : ImportKind → ℕ → List ℕ → Type 0
KindTail (a_func_import sort) = Number sort
KindTail (a_table_import l) = TableType l
KindTail (a_memory_import l) = LimitsOf l
KindTail (a_global_import t mutable) = SpelledGlobalType (t, mutable)

kind_by : (raw : RawKind) (k : ImportKind) (at : ℕ) (bytes : List ℕ) → IsKind raw k → ImportKindOf raw at bytes → (Exactly (kind_byte k ∷ []) ▸ KindTail k) at bytes
kind_by (raw_func sort) k at bytes e h = subst (λ k. (Exactly (kind_byte k ∷ []) ▸ KindTail k) at bytes) (sym e) h
kind_by (raw_table l) k at bytes e h = subst (λ k. (Exactly (kind_byte k ∷ []) ▸ KindTail k) at bytes) (sym e) h
kind_by (raw_memory l) k at bytes e h = subst (λ k. (Exactly (kind_byte k ∷ []) ▸ KindTail k) at bytes) (sym e) h
kind_by (raw_global raw mutable) k at bytes e h =
    subst (λ k. (Exactly (kind_byte k ∷ []) ▸ KindTail k) at bytes) (sym e.1) (h.0, h.1, h.2, h.3, (raw, e.2, h.4))

pub kind_parts : (k : ImportKind) (at : ℕ) (bytes : List ℕ) → SpelledKind k at bytes → (Exactly (kind_byte k ∷ []) ▸ KindTail k) at bytes
kind_parts k at bytes (raw, is, h) = kind_by raw k at bytes is h

abbrev pub sort_in : ImportKind → ℕ
sort_in (a_func_import sort) = sort
sort_in _ = 0

abbrev pub limits_in : ImportKind → Limits
limits_in (a_func_import sort) = record { min = sort; max = None }
limits_in (a_table_import l) = l
limits_in (a_memory_import l) = l
limits_in (a_global_import t mutable) = record { min = 0; max = None }

abbrev pub global_in : ImportKind → ValType × Bool
global_in (a_func_import sort) = (I32, false)
global_in (a_table_import l) = (I32, false)
global_in (a_memory_import l) = (I32, false)
global_in (a_global_import t mutable) = (t, mutable)

pub func_tail : (k : ImportKind) (at : ℕ) (bytes : List ℕ) → 0x00 ≡ kind_byte k → KindTail k at bytes → Number (sort_in k) at bytes
func_tail (a_func_import sort) at bytes e h = h
func_tail (a_table_import l) at bytes e h = absurd (omega (arith, e))
func_tail (a_memory_import l) at bytes e h = absurd (omega (arith, e))
func_tail (a_global_import t mutable) at bytes e h = absurd (omega (arith, e))

pub func_is : (v : ℕ) (k : ImportKind) → 0x00 ≡ kind_byte k → v ≡ sort_in k → a_func_import v ≡ k
func_is v (a_func_import sort) e f = ap (λ z. a_func_import z) f
func_is v (a_table_import l) e f = absurd (omega (arith, e))
func_is v (a_memory_import l) e f = absurd (omega (arith, e))
func_is v (a_global_import t mutable) e f = absurd (omega (arith, e))

pub table_tail : (k : ImportKind) (at : ℕ) (bytes : List ℕ) → 0x01 ≡ kind_byte k → KindTail k at bytes → TableType (limits_in k) at bytes
table_tail (a_func_import sort) at bytes e h = absurd (omega (arith, e))
table_tail (a_table_import l) at bytes e h = h
table_tail (a_memory_import l) at bytes e h = absurd (omega (arith, e))
table_tail (a_global_import t mutable) at bytes e h = absurd (omega (arith, e))

pub memory_tail : (k : ImportKind) (at : ℕ) (bytes : List ℕ) → 0x02 ≡ kind_byte k → KindTail k at bytes → LimitsOf (limits_in k) at bytes
memory_tail (a_func_import sort) at bytes e h = absurd (omega (arith, e))
memory_tail (a_table_import l) at bytes e h = absurd (omega (arith, e))
memory_tail (a_memory_import l) at bytes e h = h
memory_tail (a_global_import t mutable) at bytes e h = absurd (omega (arith, e))

pub global_tail : (k : ImportKind) (at : ℕ) (bytes : List ℕ) → 0x03 ≡ kind_byte k → KindTail k at bytes → SpelledGlobalType (global_in k) at bytes
global_tail (a_func_import sort) at bytes e h = absurd (omega (arith, e))
global_tail (a_table_import l) at bytes e h = absurd (omega (arith, e))
global_tail (a_memory_import l) at bytes e h = absurd (omega (arith, e))
global_tail (a_global_import t mutable) at bytes e h = h

pub table_is : (v : Limits) (k : ImportKind) → 0x01 ≡ kind_byte k → v ≡ limits_in k → a_table_import v ≡ k
table_is v (a_func_import sort) e f = absurd (omega (arith, e))
table_is v (a_table_import l) e f = ap (λ z. a_table_import z) f
table_is v (a_memory_import l) e f = absurd (omega (arith, e))
table_is v (a_global_import t mutable) e f = absurd (omega (arith, e))

pub memory_is : (v : Limits) (k : ImportKind) → 0x02 ≡ kind_byte k → v ≡ limits_in k → a_memory_import v ≡ k
memory_is v (a_func_import sort) e f = absurd (omega (arith, e))
memory_is v (a_table_import l) e f = absurd (omega (arith, e))
memory_is v (a_memory_import l) e f = ap (λ z. a_memory_import z) f
memory_is v (a_global_import t mutable) e f = absurd (omega (arith, e))

pub global_is : (v : ValType × Bool) (k : ImportKind) → 0x03 ≡ kind_byte k → v ≡ global_in k → a_global_import v.0 v.1 ≡ k
global_is v (a_func_import sort) e f = absurd (omega (arith, e))
global_is v (a_table_import l) e f = absurd (omega (arith, e))
global_is v (a_memory_import l) e f = absurd (omega (arith, e))
global_is v (a_global_import t mutable) e f = ap (λ z. a_global_import z.0 z.1) f
