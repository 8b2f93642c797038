-- A module that is spelled within bounds keeps the size rule.
use Rattle.std.proofs.Common.{◌≡◌, ℕ, zero, suc, ◌+◌, ◌*◌, ◌<◌, ◌≤◌, List, [], ◌∷◌, map, flat_map, length, refl, ap, subst, arith, length-append, All, Option, Some, None, Bool, true, false}
use Rattle.std.proofs.Common.{cond, nat_lt}
use Rattle.std.proofs.lemmas.Bool.{ltb-false}
use Rattle.std.proofs.lemmas.List.Elements.{All-head, All-tail, All-cons, All-append}
use Rattle.std.proofs.lemmas.List.Sums.{sum_by-cons, count_by-le-length}
use Rattle.std.specs.List.{AllZip, sum_by}
use Rattle.wa_types.specs.declared.syntax.Limits.{Limits}
use Rattle.wa_types.specs.declared.syntax.Import.{Import}
use Rattle.wa_types.specs.declared.syntax.Export.{Export}
use Rattle.wa_types.specs.declared.syntax.Run.{Run}
use Rattle.wa_types.specs.Syntax.{FuncType, Func, GlobalDef, Elem, Segment, Module}
use Rattle.wa_types.specs.Binary.{Placed, RawType, RawImport, RawGlobal, RawElem, RawRun, RawBody, RawSegment, Section, types, imports, functions, tables, memories, globals, exports}
use Rattle.wa_types.specs.Binary.{elements, bodies, segments}
use Rattle.wa_types.specs.Spells.{◌▸◌, Exactly, Number, Items, Vector, Sized, Text, ValueType, FunctionType, Maximum, LimitsOf, TableType, ImportOf, GlobalOf, ExportOf, ElementOf, RunOf}
use Rattle.wa_types.specs.Spells.{BodyOf, SegmentOf, SectionOf, sorts_in, bodies_in}
use Rattle.wa_types.specs.Reading.{IsValueType, IsFuncType, IsImport, IsGlobal, IsElem, IsRun, IsBody, IsSegment, types_in, imports_in, tables_in, memories_in, globals_in, exports_in}
use Rattle.wa_types.specs.Reading.{elements_in, segments_in, SpellsModule, IsModule}
use Rattle.wa_types.specs.Marks.{local_counts, locals_with, params_at, first_above}
use Rattle.wa_types.specs.Sizes.{params_of_type, is_func, is_table, is_memory, is_global, code_lists, FuncSizes, TypeSizes, ElemSizes, SegmentSizes, MeetsSizes}
use Rattle.wasm_reader.specs.Locals.{func_locals}
use Rattle.wasm_reader.proofs.SpelledCodeSizes.{length_split, number_takes, vector_takes, HaveFewParams, expression_holds}

-- something that is spelled in at most so many bytes
pub record Seen (n : ℕ) {X : Type 0} (f : X → ℕ → List ℕ → Type 0) (x : X) : Type 0 where
  pub place : ℕ
  pub bytes : List ℕ
  pub spelled : f x place bytes
  pub few : length bytes ≤ n

none_seen : {X : Type 0} (P : X → Type 0) → All P []
none_seen P = λ k d l. absurd (omega (arith, l))

seen_items : (n : ℕ) {X : Type 0} (f : X → ℕ → List ℕ → Type 0) (xs : List X) (at : ℕ) (a : List ℕ) → Items f xs at a → length a ≤ n → All (Seen n f) xs
seen_items n f [] at a h l = none_seen (Seen n f)
seen_items n f (x ∷ xs) at a h l =
    let e = length_split a h.0 h.1 h.2 in
    All-cons (Seen n f) x xs (record { place = at; bytes = h.0; spelled = h.3; few = omega (arith, e, l) }) (seen_items n f xs (at + length h.0) h.1 h.4 (omega (arith, e, l)))

pub seen_vector : (n : ℕ) {X : Type 0} (f : X → ℕ → List ℕ → Type 0) (xs : List X) (at : ℕ) (a : List ℕ) → Vector f xs at a → length a ≤ n → All (Seen n f) xs
seen_vector n f xs at a h l = let e = length_split a h.0 h.1 h.2 in seen_items n f xs (at + length h.0) h.1 h.4 (omega (arith, e, l))

section_seen : (n : ℕ) {X : Type 0} (f : X → ℕ → List ℕ → Type 0) (xs : List X) (id at : ℕ) (a : List ℕ) → (Exactly (id ∷ []) ▸ Sized (Vector f xs)) at a → length a ≤ n → All (Seen n f) xs
section_seen n f xs id at a h l =
    let z = h.4.1 in
    let e = length_split a h.0 h.1 h.2 in
    let d = length_split h.1 z.0 z.1 z.2 in
    seen_vector n f xs (at + length h.0 + length z.0) z.1 z.4.1 (omega (arith, e, d, l))

-- .. and no more of them than bytes
section_takes : {X : Type 0} (f : X → ℕ → List ℕ → Type 0) → ((x : X) (at : ℕ) (a : List ℕ) → f x at a → 1 ≤ length a) → (xs : List X) (id at : ℕ) (a : List ℕ)
    → (Exactly (id ∷ []) ▸ Sized (Vector f xs)) at a → length xs ≤ length a
section_takes f t xs id at a h =
    let z = h.4.1 in
    omega (arith, length_split a h.0 h.1 h.2, length_split h.1 z.0 z.1 z.2, vector_takes f t xs (at + length h.0 + length z.0) z.1 z.4.1)

pub held_seen : (n : ℕ) {X : Type 0} (f : X → ℕ → List ℕ → Type 0) (g : Section → List X) → ((s : Section) (at : ℕ) (a : List ℕ) → SectionOf s at a → length a ≤ n → All (Seen n f) (g s))
    → (ss : List Section) (at : ℕ) (a : List ℕ) → Items SectionOf ss at a → length a ≤ n → All (Seen n f) (flat_map g ss)
held_seen n f g w [] at a h l = none_seen (Seen n f)
held_seen n f g w (s ∷ ss) at a h l =
    let e = length_split a h.0 h.1 h.2 in
    All-append (Seen n f) (g s) (flat_map g ss) (w s at h.0 h.3 (omega (arith, e, l))) (held_seen n f g w ss (at + length h.0) h.1 h.4 (omega (arith, e, l)))

held_take : {X : Type 0} (g : Section → List X) → ((s : Section) (at : ℕ) (a : List ℕ) → SectionOf s at a → length (g s) ≤ length a) → (ss : List Section) (at : ℕ) (a : List ℕ)
    → Items SectionOf ss at a → length (flat_map g ss) ≤ length a
held_take g w [] at a h = omega arith
held_take g w (s ∷ ss) at a h =
    let e = length_split a h.0 h.1 h.2 in
    omega (arith, e, length-append (g s) (flat_map g ss), w s at h.0 h.3, held_take g w ss (at + length h.0) h.1 h.4)

-- each part takes a byte at least
value_takes : (t : Placed) (at : ℕ) (a : List ℕ) → ValueType t at a → 1 ≤ length a
value_takes t at a h = omega (arith, ap length h.1.1)

type_takes : (t : RawType) (at : ℕ) (a : List ℕ) → FunctionType t at a → 1 ≤ length a
type_takes t at a h = omega (arith, length_split a h.0 h.1 h.2, ap length h.3)

maximum_takes : (low : ℕ) (high : Option ℕ) (at : ℕ) (a : List ℕ) → Maximum low high at a → 1 ≤ length a
maximum_takes low None at a h = omega (arith, length_split a h.0 h.1 h.2, ap length h.3)
maximum_takes low (Some high) at a h = omega (arith, length_split a h.0 h.1 h.2, ap length h.3)

limits_take : (l : Limits) (at : ℕ) (a : List ℕ) → LimitsOf l at a → 1 ≤ length a
limits_take l at a h = maximum_takes l.min l.max at a h

table_takes : (l : Limits) (at : ℕ) (a : List ℕ) → TableType l at a → 1 ≤ length a
table_takes l at a h = omega (arith, length_split a h.0 h.1 h.2, ap length h.3)

text_takes : (n : List ℕ) (at : ℕ) (a : List ℕ) → Text n at a → 1 ≤ length a
text_takes n at a h = omega (arith, length_split a h.0 h.1 h.2, number_takes (length n) at h.0 h.3)

import_takes : (i : RawImport) (at : ℕ) (a : List ℕ) → ImportOf i at a → 1 ≤ length a
import_takes i at a h = omega (arith, length_split a h.0 h.1 h.2, text_takes i.module_name at h.0 h.3)

global_takes : (g : RawGlobal) (at : ℕ) (a : List ℕ) → GlobalOf g at a → 1 ≤ length a
global_takes g at a h = let t = h.3 in omega (arith, length_split a h.0 h.1 h.2, length_split h.0 t.0 t.1 t.2, value_takes g.ty at t.0 t.3)

export_takes : (e : Export) (at : ℕ) (a : List ℕ) → ExportOf e at a → 1 ≤ length a
export_takes e at a h = omega (arith, length_split a h.0 h.1 h.2, text_takes e.name at h.0 h.3)

element_takes : (e : RawElem) (at : ℕ) (a : List ℕ) → ElementOf e at a → 1 ≤ length a
element_takes e at a h = omega (arith, length_split a h.0 h.1 h.2, number_takes e.table at h.0 h.3)

run_takes : (r : RawRun) (at : ℕ) (a : List ℕ) → RunOf r at a → 1 ≤ length a
run_takes r at a h = omega (arith, length_split a h.0 h.1 h.2, number_takes r.count at h.0 h.3)

body_takes : (b : RawBody) (at : ℕ) (a : List ℕ) → BodyOf b at a → 1 ≤ length a
body_takes b at a h = omega (arith, length_split a h.0 h.1 h.2, number_takes b.size at h.0 h.3)

segment_takes : (s : RawSegment) (at : ℕ) (a : List ℕ) → SegmentOf s at a → 1 ≤ length a
segment_takes s at a h = omega (arith, length_split a h.0 h.1 h.2, number_takes s.memory at h.0 h.3)

-- what each kind of section holds is seen, and no more of it than bytes
pub types_seen : (n : ℕ) (s : Section) (at : ℕ) (a : List ℕ) → SectionOf s at a → length a ≤ n → All (Seen n FunctionType) (types_in s)
types_seen n (types xs) at a h l = section_seen n FunctionType xs 1 at a h l
types_seen n _ at a h l = none_seen (Seen n FunctionType)

pub imports_seen : (n : ℕ) (s : Section) (at : ℕ) (a : List ℕ) → SectionOf s at a → length a ≤ n → All (Seen n ImportOf) (imports_in s)
imports_seen n (imports xs) at a h l = section_seen n ImportOf xs 2 at a h l
imports_seen n _ at a h l = none_seen (Seen n ImportOf)

pub elements_seen : (n : ℕ) (s : Section) (at : ℕ) (a : List ℕ) → SectionOf s at a → length a ≤ n → All (Seen n ElementOf) (elements_in s)
elements_seen n (elements xs) at a h l = section_seen n ElementOf xs 9 at a h l
elements_seen n _ at a h l = none_seen (Seen n ElementOf)

pub globals_seen : (n : ℕ) (s : Section) (at : ℕ) (a : List ℕ) → SectionOf s at a → length a ≤ n → All (Seen n GlobalOf) (globals_in s)
globals_seen n (globals xs) at a h l = section_seen n GlobalOf xs 6 at a h l
globals_seen n _ at a h l = none_seen (Seen n GlobalOf)

pub bodies_seen : (n : ℕ) (s : Section) (at : ℕ) (a : List ℕ) → SectionOf s at a → length a ≤ n → All (Seen n BodyOf) (bodies_in s)
bodies_seen n (bodies xs) at a h l = section_seen n BodyOf xs 10 at a h l
bodies_seen n _ at a h l = none_seen (Seen n BodyOf)

pub segments_seen : (n : ℕ) (s : Section) (at : ℕ) (a : List ℕ) → SectionOf s at a → length a ≤ n → All (Seen n SegmentOf) (segments_in s)
segments_seen n (segments xs) at a h l = section_seen n SegmentOf xs 11 at a h l
segments_seen n _ at a h l = none_seen (Seen n SegmentOf)

types_take : (s : Section) (at : ℕ) (a : List ℕ) → SectionOf s at a → length (types_in s) ≤ length a
types_take (types xs) at a h = section_takes FunctionType type_takes xs 1 at a h
types_take _ at a h = omega arith

imports_take : (s : Section) (at : ℕ) (a : List ℕ) → SectionOf s at a → length (imports_in s) ≤ length a
imports_take (imports xs) at a h = section_takes ImportOf import_takes xs 2 at a h
imports_take _ at a h = omega arith

sorts_take : (s : Section) (at : ℕ) (a : List ℕ) → SectionOf s at a → length (sorts_in s) ≤ length a
sorts_take (functions xs) at a h = section_takes Number number_takes xs 3 at a h
sorts_take _ at a h = omega arith

tables_take : (s : Section) (at : ℕ) (a : List ℕ) → SectionOf s at a → length (tables_in s) ≤ length a
tables_take (tables xs) at a h = section_takes TableType table_takes xs 4 at a h
tables_take _ at a h = omega arith

memories_take : (s : Section) (at : ℕ) (a : List ℕ) → SectionOf s at a → length (memories_in s) ≤ length a
memories_take (memories xs) at a h = section_takes LimitsOf limits_take xs 5 at a h
memories_take _ at a h = omega arith

globals_take : (s : Section) (at : ℕ) (a : List ℕ) → SectionOf s at a → length (globals_in s) ≤ length a
globals_take (globals xs) at a h = section_takes GlobalOf global_takes xs 6 at a h
globals_take _ at a h = omega arith

exports_take : (s : Section) (at : ℕ) (a : List ℕ) → SectionOf s at a → length (exports_in s) ≤ length a
exports_take (exports xs) at a h = section_takes ExportOf export_takes xs 7 at a h
exports_take _ at a h = omega arith

elements_take : (s : Section) (at : ℕ) (a : List ℕ) → SectionOf s at a → length (elements_in s) ≤ length a
elements_take (elements xs) at a h = section_takes ElementOf element_takes xs 9 at a h
elements_take _ at a h = omega arith

bodies_take : (s : Section) (at : ℕ) (a : List ℕ) → SectionOf s at a → length (bodies_in s) ≤ length a
bodies_take (bodies xs) at a h = section_takes BodyOf body_takes xs 10 at a h
bodies_take _ at a h = omega arith

segments_take : (s : Section) (at : ℕ) (a : List ℕ) → SectionOf s at a → length (segments_in s) ≤ length a
segments_take (segments xs) at a h = section_takes SegmentOf segment_takes xs 11 at a h
segments_take _ at a h = omega arith

-- two lists whose items are each the other's are of one length
pub each_length : {X Y : Type 0} (R : X → Y → Type 0) (xs : List X) (ys : List Y) → AllZip R xs ys → length xs ≡ length ys
each_length R [] [] h = refl
each_length R [] (y ∷ ys) h = absurd h
each_length R (x ∷ xs) [] h = absurd h
each_length R (x ∷ xs) (y ∷ ys) h = ap suc (each_length R xs ys h.1)

each_all : {X Y : Type 0} (S : X → Type 0) (R : X → Y → Type 0) (P : Y → Type 0) → ((x : X) (y : Y) → S x → R x y → P y) → (xs : List X) (ys : List Y) → All S xs → AllZip R xs ys → All P ys
each_all S R P h [] [] s e = none_seen P
each_all S R P h [] (y ∷ ys) s e = absurd e
each_all S R P h (x ∷ xs) [] s e = absurd e
each_all S R P h (x ∷ xs) (y ∷ ys) s e = All-cons P y ys (h x y (All-head S x xs s) e.0) (each_all S R P h xs ys (All-tail S x xs s) e.1)

both_all : {X : Type 0} (S T : X → Type 0) (xs : List X) → All S xs → All T xs → All (λ x. S x × T x) xs
both_all S T [] s t = none_seen (λ x. S x × T x)
both_all S T (x ∷ xs) s t = All-cons (λ x. S x × T x) x xs (All-head S x xs s, All-head T x xs t) (both_all S T xs (All-tail S x xs s) (All-tail T x xs t))

length_map : {X Y : Type 0} (f : X → Y) (xs : List X) → length (map f xs) ≡ length xs
length_map f [] = refl
length_map f (x ∷ xs) = ap suc (length_map f xs)

-- nothing is above a bound
chosen : (b : Bool) (n : ℕ) (more : Option ℕ) → cond b (Some n) more ≡ None → (b ≡ false) × (more ≡ None)
chosen true n more e = absurd (cc)
chosen false n more e = (refl, e)

pub none_above : {X : Type 0} (f : X → ℕ) (bound : ℕ) (xs : List X) → first_above bound (map f xs) ≡ None → All (λ x. f x ≤ bound) xs
none_above f bound [] e = none_seen (λ x. f x ≤ bound)
none_above f bound (x ∷ xs) e =
    let c = chosen (nat_lt bound (f x)) (f x) (first_above bound (map f xs)) e in
    All-cons (λ x. f x ≤ bound) x xs (ltb-false bound (f x) c.0) (none_above f bound xs c.1)

-- the parameters of a type, read and spelled
same_params : (ts : List RawType) (us : List FuncType) (sort : ℕ) → AllZip IsFuncType ts us → params_at ts sort ≡ params_of_type us sort
same_params [] [] sort h = refl
same_params [] (u ∷ us) sort h = absurd h
same_params (t ∷ ts) [] sort h = absurd h
same_params (t ∷ ts) (u ∷ us) zero h = each_length IsValueType t.params u.params h.0.params
same_params (t ∷ ts) (u ∷ us) (suc sort) h = same_params ts us sort h.1

same_counts : (rs : List RawRun) (qs : List Run) → AllZip IsRun rs qs → sum_by (λ (r : RawRun). r.count) rs ≡ sum_by (λ (r : Run). r.count) qs
same_counts [] [] h = refl
same_counts [] (q ∷ qs) h = absurd h
same_counts (r ∷ rs) [] h = absurd h
same_counts (r ∷ rs) (q ∷ qs) h =
    omega (arith, h.0.count, same_counts rs qs h.1, sum_by-cons (λ (r : RawRun). r.count) r rs, sum_by-cons (λ (r : Run). r.count) q qs)

-- the parameters and locals of each function, read and spelled
same_locals : (ts : List RawType) (us : List FuncType) (bs : List RawBody) (fs : List Func) → AllZip IsFuncType ts us → AllZip IsBody bs fs
    → locals_with ts (map (λ (f : Func). f.sort) fs) bs ≡ map (func_locals us) fs
same_locals ts us [] [] h e = refl
same_locals ts us [] (f ∷ fs) h e = absurd e
same_locals ts us (b ∷ bs) [] h e = absurd e
same_locals ts us (b ∷ bs) (f ∷ fs) h e =
    cong2 (same_params ts us f.sort h) (same_counts b.locals f.locals e.0.locals) (same_locals ts us bs fs h e.1)
  where
    cong2 : {p q r s : ℕ} {xs ys : List ℕ} → p ≡ q → r ≡ s → xs ≡ ys → (p + r) ∷ xs ≡ (q + s) ∷ ys
    cong2 a b c = cc

pub spelled_locals : (ss : List Section) (m : Module) → IsModule ss m → local_counts ss ≡ map (func_locals m.types) m.funcs
spelled_locals ss m i = subst (λ z. locals_with (flat_map types_in ss) z (flat_map bodies_in ss) ≡ map (func_locals m.types) m.funcs) i.sorts
    (same_locals (flat_map types_in ss) m.types (flat_map bodies_in ss) m.funcs i.types i.funcs)

-- the parts of a module, each within the size rule
type_sizes : (n lists : ℕ) → n < lists → (t : RawType) (u : FuncType) → Seen n FunctionType t → IsFuncType t u → TypeSizes lists u
type_sizes n lists l t u s i =
    let h = s.spelled in
    let g = h.4 in
    let e = length_split s.bytes h.0 h.1 h.2 in
    let d = length_split h.1 g.0 g.1 g.2 in
    record {
      params = omega (arith, s.few, l, e, d, each_length IsValueType t.params u.params i.params, vector_takes ValueType value_takes t.params (s.place + length h.0) g.0 g.3);
      results = omega (arith, s.few, l, e, d, each_length IsValueType t.results u.results i.results, vector_takes ValueType value_takes t.results (s.place + length h.0 + length g.0) g.1 g.4);
    }

elem_sizes : (n lists : ℕ) → n < lists → (m : Module) → HaveFewParams m.types → (x : RawElem) (y : Elem) → Seen n ElementOf x → IsElem x y → ElemSizes lists y
elem_sizes n lists l m f x y s i =
    let h = s.spelled in
    let g = h.4 in
    let e = length_split s.bytes h.0 h.1 h.2 in
    let d = length_split h.1 g.0 g.1 g.2 in
    record {
      funcs = omega (arith, s.few, l, e, d, ap length i.funcs, vector_takes Number number_takes x.funcs (s.place + length h.0 + length g.0) g.1 g.4);
      offset = (expression_holds m lists f x.offset y.offset (s.place + length h.0) g.0 g.3 i.offset (omega (arith, s.few, l, e, d))).labels;
    }

global_sizes : (n lists : ℕ) → n < lists → (m : Module) → HaveFewParams m.types → (x : RawGlobal) (y : GlobalDef) → Seen n GlobalOf x → IsGlobal x y → code_lists lists y.init
global_sizes n lists l m f x y s i =
    let h = s.spelled in
    let e = length_split s.bytes h.0 h.1 h.2 in
    (expression_holds m lists f x.init y.init (s.place + length h.0) h.1 h.4 i.init (omega (arith, s.few, l, e))).labels

segment_sizes : (n lists : ℕ) → n < lists → (m : Module) → HaveFewParams m.types → (x : RawSegment) (y : Segment) → Seen n SegmentOf x → IsSegment x y → SegmentSizes lists y
segment_sizes n lists l m f x y s i =
    let h = s.spelled in
    let g = h.4 in
    let k = g.4 in
    let e = length_split s.bytes h.0 h.1 h.2 in
    let d = length_split h.1 g.0 g.1 g.2 in
    let c = length_split g.1 k.0 k.1 k.2 in
    record {
      bytes = omega (arith, s.few, l, e, d, c, ap length i.bytes, ap length k.4);
      offset = (expression_holds m lists f x.offset y.offset (s.place + length h.0) g.0 g.3 i.offset (omega (arith, s.few, l, e, d))).labels;
    }

-- a body of few bytes, with few locals
abbrev FewBytes : (n most : ℕ) → RawBody → Type 0
FewBytes n most b = Seen n BodyOf b × (b.size ≤ most)

func_sizes : (n lists items most : ℕ) → n < lists → 1001 * most + 50000 < items → (m : Module) → HaveFewParams m.types → (x : RawBody) (y : Func) → FewBytes n most x → IsBody x y
    → func_locals m.types y ≤ 50000 → FuncSizes lists items m y
func_sizes n lists items most l k m f x y s i few =
    let h = s.0.spelled in
    let c = h.4 in
    let g = c.1 in
    let e = length_split s.0.bytes h.0 h.1 h.2 in
    let d = length_split h.1 g.0 g.1 g.2 in
    let v = expression_holds m lists f x.code y.body (s.0.place + length h.0 + length g.0) g.1 g.4 i.body (omega (arith, s.0.few, l, e, d)) in
    record {
      runs = omega (arith, s.0.few, l, e, d, each_length IsRun x.locals y.locals i.locals, vector_takes RunOf run_takes x.locals (s.0.place + length h.0) g.0 g.3);
      labels = v.labels;
      total = omega (arith, v.items, v.params, c.0, d, s.1, k, few);
    }

funcs_sizes : (n lists items most : ℕ) → n < lists → 1001 * most + 50000 < items → (m : Module) → HaveFewParams m.types → (xs : List RawBody) (ys : List Func) → All (FewBytes n most) xs
    → AllZip IsBody xs ys → All (λ (y : Func). func_locals m.types y ≤ 50000) ys → All (FuncSizes lists items m) ys
funcs_sizes n lists items most l k m f [] [] s e a = none_seen (FuncSizes lists items m)
funcs_sizes n lists items most l k m f [] (y ∷ ys) s e a = absurd e
funcs_sizes n lists items most l k m f (x ∷ xs) [] s e a = absurd e
funcs_sizes n lists items most l k m f (x ∷ xs) (y ∷ ys) s e a =
    All-cons (FuncSizes lists items m) y ys
    (func_sizes n lists items most l k m f x y (All-head (FewBytes n most) x xs s) e.0 (All-head (λ (y : Func). func_locals m.types y ≤ 50000) y ys a))
    (funcs_sizes n lists items most l k m f xs ys (All-tail (FewBytes n most) x xs s) e.1 (All-tail (λ (y : Func). func_locals m.types y ≤ 50000) y ys a))

-- a body has no more runs than bytes
func_runs : (n : ℕ) (x : RawBody) (y : Func) → Seen n BodyOf x → IsBody x y → length y.locals ≤ n
func_runs n x y s i =
    let h = s.spelled in
    let g = h.4.1 in
    omega (
      arith,
      s.few,
      length_split s.bytes h.0 h.1 h.2,
      length_split h.1 g.0 g.1 g.2,
      each_length IsRun x.locals y.locals i.locals,
      vector_takes RunOf run_takes x.locals (s.place + length h.0) g.0 g.3,
    )

pub spelled_runs : (bytes : List ℕ) (m : Module) → SpellsModule bytes m → All (λ (y : Func). length y.locals ≤ length bytes) m.funcs
spelled_runs bytes m s =
    let p = s.spells.parts in
    let e = length_split bytes p.0 p.1 p.2 in
    each_all (Seen (length bytes) BodyOf) IsBody (λ (y : Func). length y.locals ≤ length bytes) (func_runs (length bytes)) (flat_map bodies_in s.sections) m.funcs
    (held_seen (length bytes) BodyOf bodies_in (bodies_seen (length bytes)) s.sections (0 + length p.0) p.1 p.4 (omega (arith, e))) s.is_module.funcs

-- types of few parameters, read and spelled
few_params : (ts : List RawType) (us : List FuncType) → AllZip IsFuncType ts us → All (λ (t : RawType). length t.params ≤ 1000) ts → HaveFewParams us
few_params ts us e a = each_all (λ (t : RawType). length t.params ≤ 1000) IsFuncType (λ (u : FuncType). length u.params ≤ 1000)
    (λ t u s i. omega (arith, s, each_length IsValueType t.params u.params i.params)) ts us a e

-- What is spelled keeps a size rule: in so few bytes, with few parameters, short bodies and few locals.
pub spelled_sizes : (lists items most : ℕ) (bytes : List ℕ) (m : Module) (s : SpellsModule bytes m)
    → 2 * length bytes < lists → 1001 * most + 50000 < items
    → All (λ (t : RawType). length t.params ≤ 1000) (flat_map types_in s.sections)
    → All (λ (b : RawBody). b.size ≤ most) (flat_map bodies_in s.sections)
    → All (λ (y : Func). func_locals m.types y ≤ 50000) m.funcs
    → MeetsSizes lists items m
spelled_sizes lists items most bytes m s l k few short locals =
    let p = s.spells.parts in
    let at = 0 + length p.0 in
    let e = length_split bytes p.0 p.1 p.2 in
    let n = length p.1 in
    let n_few : n ≤ n = omega arith in
    let n_lists : n < lists = omega (arith, e, l) in
    let ss = s.sections in
    let i = s.is_module in
    let f = few_params (flat_map types_in ss) m.types i.types few in
    let imports_len = each_length IsImport (flat_map imports_in ss) m.imports i.imports in
    let imports_few = held_take imports_in imports_take ss at p.1 p.4 in
    let globals_len = each_length IsGlobal (flat_map globals_in ss) m.globals i.globals in
    let funcs_len = each_length IsBody (flat_map bodies_in ss) m.funcs i.funcs in
    record {
      types = omega (arith, n_lists, each_length IsFuncType (flat_map types_in ss) m.types i.types, held_take types_in types_take ss at p.1 p.4);
      each_type = each_all (Seen n FunctionType) IsFuncType (TypeSizes lists) (type_sizes n lists n_lists) (flat_map types_in ss) m.types
          (held_seen n FunctionType types_in (types_seen n) ss at p.1 p.4 n_few) i.types;
      imports = omega (arith, n_lists, imports_len, imports_few);
      funcs = omega (arith, e, l, imports_len, imports_few, funcs_len, held_take bodies_in bodies_take ss at p.1 p.4, count_by-le-length (λ (i : Import). is_func i.kind) m.imports);
      tables = omega (arith, e, l, imports_len, imports_few, ap length i.tables, held_take tables_in tables_take ss at p.1 p.4, count_by-le-length (λ (i : Import). is_table i.kind) m.imports);
      memories = omega (
        arith,
        e,
        l,
        imports_len,
        imports_few,
        ap length i.memories,
        held_take memories_in memories_take ss at p.1 p.4,
        count_by-le-length (λ (i : Import). is_memory i.kind) m.imports,
      );
      globals = omega (arith, e, l, imports_len, imports_few, globals_len, held_take globals_in globals_take ss at p.1 p.4, count_by-le-length (λ (i : Import). is_global i.kind) m.imports);
      exports = omega (arith, n_lists, ap length i.exports, held_take exports_in exports_take ss at p.1 p.4);
      elems = omega (arith, n_lists, each_length IsElem (flat_map elements_in ss) m.elems i.elems, held_take elements_in elements_take ss at p.1 p.4);
      segments = omega (arith, n_lists, each_length IsSegment (flat_map segments_in ss) m.segments i.segments, held_take segments_in segments_take ss at p.1 p.4);
      each_func = funcs_sizes n lists items most n_lists k m f (flat_map bodies_in ss) m.funcs
          (both_all (Seen n BodyOf) (λ (b : RawBody). b.size ≤ most) (flat_map bodies_in ss) (held_seen n BodyOf bodies_in (bodies_seen n) ss at p.1 p.4 n_few) short) i.funcs locals;
      each_global = each_all (Seen n GlobalOf) IsGlobal (λ (g : GlobalDef). code_lists lists g.init) (global_sizes n lists n_lists m f) (flat_map globals_in ss) m.globals
          (held_seen n GlobalOf globals_in (globals_seen n) ss at p.1 p.4 n_few) i.globals;
      each_elem = each_all (Seen n ElementOf) IsElem (ElemSizes lists) (elem_sizes n lists n_lists m f) (flat_map elements_in ss) m.elems
          (held_seen n ElementOf elements_in (elements_seen n) ss at p.1 p.4 n_few) i.elems;
      each_segment = each_all (Seen n SegmentOf) IsSegment (SegmentSizes lists) (segment_sizes n lists n_lists m f) (flat_map segments_in ss) m.segments
          (held_seen n SegmentOf segments_in (segments_seen n) ss at p.1 p.4 n_few) i.segments;
    }
