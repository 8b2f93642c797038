-- Goals of entries, kind by kind.
use Rattle.std.proofs.Common.{◌≡◌, ℕ, ◌+◌, List, [], ◌∷◌, ◌++◌, Option, Some, None, refl, ap, sym, ◌∙◌, subst, arith, append_assoc, append-nil, length, length-append, false, nat_eq, eqb-true, IsTrue}
use Rattle.wa_types.specs.Opcodes.{is_value_type}
use Rattle.wa_types.specs.Binary.{RawGlobal}
use Rattle.wa_types.specs.Begun.{Goal, code, number, name, value_type, mutable, import_kind, space, limits, count, entries, until, name_of, some_types, some_imports, some_functions}
use Rattle.wa_types.specs.Begun.{some_tables, some_memories, some_globals, some_exports, some_elements, some_bodies, some_segments, some_value_types, some_runs, some_indices, some_bytes}
use Rattle.wa_types.specs.Begun.{a_byte, an_unsigned, next, and_then, where_true, behind_flag}
use Rattle.wa_types.specs.Spells.{◌▸◌, Exactly, Number, Items, Vector, Text, ValueType, FunctionType, LimitsOf, TableType, CodeOf, ImportKindOf, ImportOf, GlobalOf, ExportOf, ElementOf}
use Rattle.wa_types.specs.Spells.{RunOf, BodyOf, SegmentOf}
use Rattle.file_laws.proofs.GoalReads.{Any, Reads, ReadsNext, reads_none, reads_then, reads_as, Begins, reads_first, next_where, Ends, reads_until, to_left, to_right}
use Rattle.file_laws.proofs.Leaves.{reads_number, reads_value_type, reads_mutable, Mutability, SpaceOf, reads_space, reads_limits, reads_name, reads_import_kind, alone, with_nothing, NameOf}
use Rattle.file_laws.proofs.Leaves.{reads_name_of, text_from, text_to, Flagged, next_flag, limits_from, limits_to}
use Rattle.file_laws.proofs.Vectors.{reads_count, reads_append, reads_alone}
use Rattle.file_laws.proofs.CodeReads.{reads_code, reads_index}

-- with no entry behind
then_next : (o : Option (List Goal)) (F : ℕ → List ℕ → Type 0) → ReadsNext o F → ReadsNext (and_then o []) F
then_next None F r = r
then_next (Some new) F r = reads_alone new F r

pub reads_function : Reads (entries some_functions 1 ∷ []) (Any Number)
unfolding next
reads_function = reads_as _ (Begins an_unsigned (λ v k. Exactly [])) (Any Number) (λ at a h. alone an_unsigned at a h) (λ at a h. with_nothing an_unsigned at h.0 a h.1)
    (reads_first (entries some_functions 1) (λ v k. Exactly []) refl refl (λ v k. reads_none))

-- a byte, whichever
abbrev pub ByteIs : ℕ → ℕ → List ℕ → Type 0
ByteIs b = Exactly (b ∷ [])

pub reads_any_byte : Reads (entries some_bytes 1 ∷ []) (Any ByteIs)
unfolding next
reads_any_byte = reads_as _ (Begins a_byte (λ v k. Exactly [])) (Any ByteIs) (λ at a h. alone a_byte at a h) (λ at a h. with_nothing a_byte at h.0 a h.1)
    (reads_first (entries some_bytes 1) (λ v k. Exactly []) refl refl (λ v k. reads_none))

-- a first byte under a test
byte_whole : (at v : ℕ) (F : (v at : ℕ) → ℕ → List ℕ → Type 0) (a : List ℕ) (b : Begins a_byte F at a) → a ≡ b.value ∷ b.back
byte_whole at v F a b = b.whole ∙ ap (λ z. z ++ b.back) b.is_item

pub reads_type_entry : Reads (entries some_value_types 1 ∷ []) (Any ValueType)
unfolding next
reads_type_entry =
    let F : (v at : ℕ) → ℕ → List ℕ → Type 0 = λ v k at bytes. IsTrue (is_value_type v) × Exactly [] at bytes in
    reads_as _ (Begins a_byte F) (Any ValueType)
    (λ at a b. (record { place = at; byte = b.value }, (b.follows.0, (refl, byte_whole at 0 F a b ∙ ap (λ z. b.value ∷ z) b.follows.1))))
    (λ at a h. record { front = h.0.byte ∷ []; back = []; value = h.0.byte; whole = h.1.1.1; is_item = refl; follows = (h.1.0, refl) })
    (reads_first (entries some_value_types 1) F refl refl (λ v k. then_next (where_true (is_value_type v) []) (F v k) (next_where (is_value_type v) [] (Exactly []) reads_none)))

TypeTail : (v at : ℕ) → ℕ → List ℕ → Type 0
TypeTail v k at bytes = IsTrue (nat_eq v 0x60) × (Any (Vector ValueType) ▸ Any (Vector ValueType)) at bytes

type_from : (at : ℕ) (a : List ℕ) → Begins a_byte TypeTail at a → Any FunctionType at a
unfolding TypeTail
type_from at a b =
    let one : b.front ≡ 0x60 ∷ [] = b.is_item ∙ ap (λ z. z ∷ []) (eqb-true b.value 0x60 b.follows.0) in
    let t = b.follows.1 in
    (record { params = t.3.0; results = t.4.0 }, (b.front, b.back, b.whole, one, (t.0, t.1, t.2, t.3.1, t.4.1)))

type_to : (at : ℕ) (a : List ℕ) → Any FunctionType at a → Begins a_byte TypeTail at a
unfolding TypeTail
type_to at a h =
    let t = h.1.4 in
    record { front = h.1.0; back = h.1.1; value = 0x60; whole = h.1.2; is_item = h.1.3; follows = (refl, (t.0, t.1, t.2, (h.0.params, t.3), (h.0.results, t.4))) }

pub reads_type : Reads (entries some_types 1 ∷ []) (Any FunctionType)
unfolding next TypeTail
reads_type =
    let V : Reads (count some_value_types ∷ []) (Any (Vector ValueType)) = reads_count ValueType some_value_types reads_type_entry in
    reads_as _ (Begins a_byte TypeTail) (Any FunctionType) type_from type_to
    (reads_first (entries some_types 1) TypeTail refl refl (λ v k. then_next (where_true (nat_eq v 0x60) (count some_value_types ∷ count some_value_types ∷ [])) (TypeTail v k)
    (next_where (nat_eq v 0x60) (count some_value_types ∷ count some_value_types ∷ []) (Any (Vector ValueType) ▸ Any (Vector ValueType))
    (reads_then (count some_value_types) (count some_value_types ∷ []) (Any (Vector ValueType)) (Any (Vector ValueType)) V V))))

TableTail : (v at : ℕ) → ℕ → List ℕ → Type 0
TableTail v k at bytes = IsTrue (nat_eq v 0x70) × Any LimitsOf at bytes

table_from : (at : ℕ) (a : List ℕ) → Begins a_byte TableTail at a → Any TableType at a
unfolding TableTail
table_from at a b = (b.follows.1.0, (b.front, b.back, b.whole, b.is_item ∙ ap (λ z. z ∷ []) (eqb-true b.value 0x70 b.follows.0), b.follows.1.1))

table_to : (at : ℕ) (a : List ℕ) → Any TableType at a → Begins a_byte TableTail at a
unfolding TableTail
table_to at a h = record { front = h.1.0; back = h.1.1; value = 0x70; whole = h.1.2; is_item = h.1.3; follows = (refl, (h.0, h.1.4)) }

pub reads_table : Reads (entries some_tables 1 ∷ []) (Any TableType)
unfolding next TableTail
reads_table = reads_as _ (Begins a_byte TableTail) (Any TableType) table_from table_to
    (reads_first (entries some_tables 1) TableTail refl refl (λ v k. then_next (where_true (nat_eq v 0x70) (limits ∷ [])) (TableTail v k)
    (next_where (nat_eq v 0x70) (limits ∷ []) (Any LimitsOf) reads_limits)))

pub reads_memory : Reads (entries some_memories 1 ∷ []) (Any LimitsOf)
unfolding next
reads_memory = reads_as _ (Begins a_byte (λ v k. Flagged v)) (Any LimitsOf) limits_from limits_to
    (reads_first (entries some_memories 1) (λ v k. Flagged v) refl refl (λ v k. then_next (behind_flag v) (Flagged v) (next_flag v)))

GlobalTail : (v at : ℕ) → ℕ → List ℕ → Type 0
GlobalTail v k at bytes = IsTrue (is_value_type v) × (Any Mutability ▸ Any (CodeOf false)) at bytes

global_from : (at : ℕ) (a : List ℕ) → Begins a_byte GlobalTail at a → Any GlobalOf at a
unfolding GlobalTail
global_from at a b =
    let t = b.follows.1 in
    let g : RawGlobal = record { ty = record { place = at; byte = b.value }; mutable = t.3.0; init = t.4.0 } in (
      g,
      to_left (ValueType g.ty) (Mutability g.mutable) (CodeOf false g.init) at a (b.front, b.back, b.whole, (b.follows.0, (refl, b.is_item)), (t.0, t.1, t.2, t.3.1, t.4.1)),
    )

global_to : (at : ℕ) (a : List ℕ) → Any GlobalOf at a → Begins a_byte GlobalTail at a
unfolding GlobalTail
global_to at a h =
    let g = h.0 in
    let r = to_right (ValueType g.ty) (Mutability g.mutable) (CodeOf false g.init) at a h.1 in
    let t = r.4 in
    record { front = r.0; back = r.1; value = g.ty.byte; whole = r.2; is_item = r.3.1.1; follows = (r.3.0, (t.0, t.1, t.2, (g.mutable, t.3), (g.init, t.4))) }

pub reads_global : Reads (entries some_globals 1 ∷ []) (Any GlobalOf)
unfolding next GlobalTail
reads_global = reads_as _ (Begins a_byte GlobalTail) (Any GlobalOf) global_from global_to
    (reads_first (entries some_globals 1) GlobalTail refl refl (λ v k. then_next (where_true (is_value_type v) (mutable ∷ code false ∷ [])) (GlobalTail v k)
    (next_where (is_value_type v) (mutable ∷ code false ∷ []) (Any Mutability ▸ Any (CodeOf false))
    (reads_then mutable (code false ∷ []) (Any Mutability) (Any (CodeOf false)) reads_mutable (reads_code false)))))

-- a name, and what stands behind it
named_from : (F : ℕ → List ℕ → Type 0) (at : ℕ) (a : List ℕ) → Begins an_unsigned (λ v k. NameOf v ▸ F) at a → (Any Text ▸ F) at a
named_from F at a b =
    let t = b.follows in (
      b.front ++ t.0,
      t.1,
      b.whole ∙ ap (λ z. b.front ++ z) t.2 ∙ sym (append_assoc b.front t.0 t.1),
      text_from at (b.front ++ t.0) (record { front = b.front; back = t.0; value = b.value; whole = refl; is_item = b.is_item; follows = t.3 }),
      subst (λ n. F n t.1) (omega (arith, length-append b.front t.0)) t.4,
    )

named_to : (F : ℕ → List ℕ → Type 0) (at : ℕ) (a : List ℕ) → (Any Text ▸ F) at a → Begins an_unsigned (λ v k. NameOf v ▸ F) at a
named_to F at a h =
    let b = text_to at h.0 h.3 in
    record {
      front = b.front;
      back = b.back ++ h.1;
      value = b.value;
      whole = h.2 ∙ ap (λ z. z ++ h.1) b.whole ∙ append_assoc b.front b.back h.1;
      is_item = b.is_item;
      follows = (b.back, h.1, refl, b.follows, subst (λ n. F n h.1) (omega (arith, ap length b.whole, length-append b.front b.back)) h.4);
    }

import_from : (at : ℕ) (a : List ℕ) → (Any Text ▸ (Any Text ▸ Any ImportKindOf)) at a → Any ImportOf at a
import_from at a h = let t = h.4 in (record { module_name = h.3.0; base = t.3.0; kind = t.4.0 }, (h.0, h.1, h.2, h.3.1, (t.0, t.1, t.2, t.3.1, t.4.1)))

import_to : (at : ℕ) (a : List ℕ) → Any ImportOf at a → (Any Text ▸ (Any Text ▸ Any ImportKindOf)) at a
import_to at a h = let s = h.1 in let t = s.4 in (s.0, s.1, s.2, (h.0.module_name, s.3), (t.0, t.1, t.2, (h.0.base, t.3), (h.0.kind, t.4)))

pub reads_import : Reads (entries some_imports 1 ∷ []) (Any ImportOf)
unfolding next
reads_import =
    let T : ℕ → List ℕ → Type 0 = Any Text ▸ Any ImportKindOf in
    reads_as _ (Begins an_unsigned (λ v k. NameOf v ▸ T)) (Any ImportOf) (λ at a h. import_from at a (named_from T at a h)) (λ at a h. named_to T at a (import_to at a h))
    (reads_first (entries some_imports 1) (λ v k. NameOf v ▸ T) refl refl
    (λ v k. then_next (Some (name_of v ++ name ∷ import_kind ∷ [])) (NameOf v ▸ T) (reads_append (name_of v) (name ∷ import_kind ∷ []) (NameOf v) T (reads_name_of v)
    (reads_then name (import_kind ∷ []) (Any Text) (Any ImportKindOf) reads_name reads_import_kind))))

export_from : (at : ℕ) (a : List ℕ) → (Any Text ▸ (Any SpaceOf ▸ Any Number)) at a → Any ExportOf at a
export_from at a h = let t = h.4 in (record { name = h.3.0; space = t.3.0; index = t.4.0 }, (h.0, h.1, h.2, h.3.1, (t.0, t.1, t.2, t.3.1, t.4.1)))

export_to : (at : ℕ) (a : List ℕ) → Any ExportOf at a → (Any Text ▸ (Any SpaceOf ▸ Any Number)) at a
export_to at a h = let s = h.1 in let t = s.4 in (s.0, s.1, s.2, (h.0.name, s.3), (t.0, t.1, t.2, (h.0.space, t.3), (h.0.index, t.4)))

pub reads_export : Reads (entries some_exports 1 ∷ []) (Any ExportOf)
unfolding next
reads_export =
    let T : ℕ → List ℕ → Type 0 = Any SpaceOf ▸ Any Number in
    reads_as _ (Begins an_unsigned (λ v k. NameOf v ▸ T)) (Any ExportOf) (λ at a h. export_from at a (named_from T at a h)) (λ at a h. named_to T at a (export_to at a h))
    (reads_first (entries some_exports 1) (λ v k. NameOf v ▸ T) refl refl
    (λ v k. then_next (Some (name_of v ++ space ∷ number ∷ [])) (NameOf v ▸ T) (reads_append (name_of v) (space ∷ number ∷ []) (NameOf v) T (reads_name_of v)
    (reads_then space (number ∷ []) (Any SpaceOf) (Any Number) reads_space reads_number))))

-- an entry that begins with a number
abbrev NumberThen : (ℕ → List ℕ → Type 0) → (v at : ℕ) → ℕ → List ℕ → Type 0
NumberThen F v k = F

element_from : (at : ℕ) (a : List ℕ) → Begins an_unsigned (NumberThen (Any (CodeOf false) ▸ Any (Vector Number))) at a → Any ElementOf at a
element_from at a b = let t = b.follows in (record { table = b.value; offset = t.3.0; funcs = t.4.0 }, (b.front, b.back, b.whole, b.is_item, (t.0, t.1, t.2, t.3.1, t.4.1)))

element_to : (at : ℕ) (a : List ℕ) → Any ElementOf at a → Begins an_unsigned (NumberThen (Any (CodeOf false) ▸ Any (Vector Number))) at a
element_to at a h = let s = h.1 in let t = s.4 in record { front = s.0; back = s.1; value = h.0.table; whole = s.2; is_item = s.3; follows = (t.0, t.1, t.2, (h.0.offset, t.3), (h.0.funcs, t.4)) }

pub reads_element : Reads (entries some_elements 1 ∷ []) (Any ElementOf)
unfolding next
reads_element =
    let T : ℕ → List ℕ → Type 0 = Any (CodeOf false) ▸ Any (Vector Number) in
    reads_as _ (Begins an_unsigned (NumberThen T)) (Any ElementOf) element_from element_to
    (reads_first (entries some_elements 1) (NumberThen T) refl refl
    (λ v k. then_next (Some (code false ∷ count some_indices ∷ [])) T (reads_then (code false) (count some_indices ∷ []) (Any (CodeOf false)) (Any (Vector Number)) (reads_code false)
    (reads_count Number some_indices reads_index))))

bytes_of : (xs : List ℕ) (at : ℕ) (a : List ℕ) → Items ByteIs xs at a → a ≡ xs
bytes_of [] at a h = h
bytes_of (x ∷ xs) at a h = h.2 ∙ ap (λ z. z ++ h.1) h.3 ∙ ap (λ z. x ∷ z) (bytes_of xs (at + length h.0) h.1 h.4)

as_bytes : (xs : List ℕ) (at : ℕ) → Items ByteIs xs at xs
as_bytes [] at = refl
as_bytes (x ∷ xs) at = (x ∷ [], xs, refl, refl, as_bytes xs (at + 1))

segment_from : (at : ℕ) (a : List ℕ) → Begins an_unsigned (NumberThen (Any (CodeOf false) ▸ Any (Vector ByteIs))) at a → Any SegmentOf at a
segment_from at a b =
    let t = b.follows in
    let u = t.4.1 in
    (record { memory = b.value; offset = t.3.0; bytes = t.4.0 }, (b.front, b.back, b.whole, b.is_item, (t.0, t.1, t.2, t.3.1, (u.0, u.1, u.2, u.3, bytes_of t.4.0 _ u.1 u.4))))

segment_to : (at : ℕ) (a : List ℕ) → Any SegmentOf at a → Begins an_unsigned (NumberThen (Any (CodeOf false) ▸ Any (Vector ByteIs))) at a
segment_to at a h =
    let s = h.1 in
    let t = s.4 in
    let u = t.4 in
    record {
      front = s.0;
      back = s.1;
      value = h.0.memory;
      whole = s.2;
      is_item = s.3;
      follows = (t.0, t.1, t.2, (h.0.offset, t.3), (h.0.bytes, (u.0, u.1, u.2, u.3, subst (Items ByteIs h.0.bytes (at + length s.0 + length t.0 + length u.0)) (sym u.4) (as_bytes h.0.bytes _))));
    }

pub reads_segment : Reads (entries some_segments 1 ∷ []) (Any SegmentOf)
unfolding next
reads_segment =
    let T : ℕ → List ℕ → Type 0 = Any (CodeOf false) ▸ Any (Vector ByteIs) in
    reads_as _ (Begins an_unsigned (NumberThen T)) (Any SegmentOf) segment_from segment_to
    (reads_first (entries some_segments 1) (NumberThen T) refl refl
    (λ v k. then_next (Some (code false ∷ count some_bytes ∷ [])) T (reads_then (code false) (count some_bytes ∷ []) (Any (CodeOf false)) (Any (Vector ByteIs)) (reads_code false)
    (reads_count ByteIs some_bytes reads_any_byte))))

run_from : (at : ℕ) (a : List ℕ) → Begins an_unsigned (NumberThen (Any ValueType)) at a → Any RunOf at a
run_from at a b = (record { count = b.value; ty = b.follows.0 }, (b.front, b.back, b.whole, b.is_item, b.follows.1))

run_to : (at : ℕ) (a : List ℕ) → Any RunOf at a → Begins an_unsigned (NumberThen (Any ValueType)) at a
run_to at a h = let s = h.1 in record { front = s.0; back = s.1; value = h.0.count; whole = s.2; is_item = s.3; follows = (h.0.ty, s.4) }

pub reads_run : Reads (entries some_runs 1 ∷ []) (Any RunOf)
unfolding next
reads_run = reads_as _ (Begins an_unsigned (NumberThen (Any ValueType))) (Any RunOf) run_from run_to
    (reads_first (entries some_runs 1) (NumberThen (Any ValueType)) refl refl (λ v k. then_next (Some (value_type ∷ [])) (Any ValueType) reads_value_type))

BodyTail : (v at : ℕ) → ℕ → List ℕ → Type 0
BodyTail v k = Any (Vector RunOf) ▸ (Any (CodeOf false) ▸ Ends (k + v))

body_from : (at : ℕ) (a : List ℕ) → Begins an_unsigned BodyTail at a → Any BodyOf at a
unfolding BodyTail
body_from at a b =
    let t = b.follows in
    let u = t.4 in
    let all : u.1 ≡ [] = u.4.1 in
    let code_is : t.1 ≡ u.0 = u.2 ∙ ap (λ z. u.0 ++ z) all ∙ append-nil u.0 in
    let size : length b.back ≡ b.value = omega (arith, u.4.0, ap length t.2, length-append t.0 t.1, ap length code_is) in (
      record { size = b.value; locals = t.3.0; code = u.3.0 },
      (b.front, b.back, b.whole, b.is_item, (size, (t.0, t.1, t.2, t.3.1, subst (CodeOf false u.3.0 (at + length b.front + length t.0)) (sym code_is) u.3.1))),
    )

body_to : (at : ℕ) (a : List ℕ) → Any BodyOf at a → Begins an_unsigned BodyTail at a
unfolding BodyTail
body_to at a h =
    let s = h.1 in
    let t = s.4.1 in
    let place : at + length s.0 + length t.0 + length t.1 ≡ at + length s.0 + h.0.size = omega (arith, s.4.0, ap length t.2, length-append t.0 t.1) in
    record {
      front = s.0;
      back = s.1;
      value = h.0.size;
      whole = s.2;
      is_item = s.3;
      follows = (t.0, t.1, t.2, (h.0.locals, t.3), (t.1, [], sym (append-nil t.1), (h.0.code, t.4), (place, refl)));
    }

pub reads_body : Reads (entries some_bodies 1 ∷ []) (Any BodyOf)
unfolding next BodyTail
reads_body = reads_as _ (Begins an_unsigned BodyTail) (Any BodyOf) body_from body_to
    (reads_first (entries some_bodies 1) BodyTail refl refl
    (λ v k. then_next (Some (count some_runs ∷ code false ∷ until (k + v) ∷ [])) (BodyTail v k)
    (reads_then (count some_runs) (code false ∷ until (k + v) ∷ []) (Any (Vector RunOf)) (Any (CodeOf false) ▸ Ends (k + v)) (reads_count RunOf some_runs reads_run)
    (reads_then (code false) (until (k + v) ∷ []) (Any (CodeOf false)) (Ends (k + v)) (reads_code false) (reads_until (k + v))))))
