-- Sections that are spelled, without a float, are a module.
use Rattle.std.proofs.Common.{◌≡◌, ℕ, ◌+◌, ◌≤◌, inl, inr, List, [], ◌∷◌, ◌++◌, map, flat_map, length, Option, Some, None, Bool, true, false, ◌&&◌, nat_eq, nat_le, refl, ap, sym, ◌∙◌, subst}
use Rattle.std.proofs.Common.{arith, eqb-true, option_to_list, All}
use Rattle.std.proofs.lemmas.Bool.{leb-true, leb-false, eqb-false}
use Rattle.std.proofs.lemmas.List.Elements.{All-head, All-tail}
use Rattle.std.specs.List.{AllZip}
use Rattle.wa_types.specs.declared.values.ValType.{ValType}
use Rattle.wa_types.specs.declared.values.ValType.TheVariants.{I32, I64}
use Rattle.wa_types.specs.declared.syntax.ImportKind.{ImportKind}
use Rattle.wa_types.specs.declared.syntax.ImportKind.TheVariants.{Func as a_func_import, Table as a_table_import, Memory as a_memory_import, Global as a_global_import}
use Rattle.wa_types.specs.declared.syntax.Import.{Import}
use Rattle.wa_types.specs.declared.syntax.Run.{Run}
use Rattle.wa_types.specs.Encoding.{type_byte, block_type_byte, shape_byte}
use Rattle.wa_types.specs.Opcodes.{is_float_type, is_float_op, is_value_type, is_block_type, is_nest}
use Rattle.wa_types.specs.Syntax.{Shape, a_block, a_loop, Code, done, plain, nest, branch, FuncType, Func, GlobalDef, Elem, Segment, Module}
use Rattle.wa_types.specs.Binary.{Placed, RawCode, ended, otherwise, instr, nested, branched, RawType, RawKind, raw_func, raw_table, raw_memory, raw_global, RawImport, RawGlobal, RawElem}
use Rattle.wa_types.specs.Binary.{RawRun, RawBody, RawSegment, Section, custom, types, imports, functions, tables, memories, globals, exports, start, elements, bodies, segments}
use Rattle.wa_types.specs.Spells.{ValueType, FunctionType, CodeOf, ImportKindOf, ImportOf, GlobalOf, ElementOf, RunOf, BodyOf, SegmentOf, Rising, sorts_in, bodies_in, Spells}
use Rattle.wa_types.specs.Reading.{IsCode, IsValueType, IsFuncType, IsKind, IsImport, IsGlobal, IsElem, IsRun, IsBody, IsSegment, types_in, imports_in, tables_in, memories_in}
use Rattle.wa_types.specs.Reading.{globals_in, exports_in, starts_in, elements_in, segments_in, customs_of, IsModule}
use Rattle.wa_types.specs.Marks.{place_if, float_type, code_floats, type_floats, kind_floats, body_floats, section_floats, floats}
use Rattle.wasm_reader.proofs.SpelledSizes.{Seen, seen_vector, held_seen, types_seen, imports_seen, globals_seen, elements_seen, bodies_seen, segments_seen}
use Rattle.wasm_reader.proofs.SpelledCodeSizes.{length_split}
use Rattle.wasm_reader.proofs.OpcodesMade.{by_test, first_of_two, other_of_two, either_of, plain_made}

-- lists that are empty together
front_clear : {X : Type 0} (xs ys : List X) → xs ++ ys ≡ [] → xs ≡ []
front_clear [] ys e = refl
front_clear (x ∷ xs) ys e = absurd (cc)

back_clear : {X : Type 0} (xs ys : List X) → xs ++ ys ≡ [] → ys ≡ []
back_clear [] ys e = e
back_clear (x ∷ xs) ys e = absurd (cc)

pub join_clear : {X : Type 0} (xs ys : List X) → xs ≡ [] → ys ≡ [] → xs ++ ys ≡ []
join_clear xs ys e f = rw (e, f) refl

not_placed : (b : Bool) (k : ℕ) → place_if b k ≡ [] → b ≡ false
not_placed true k e = absurd (cc)
not_placed false k e = refl

-- what holds no float, section by section
held_clear : {X : Type 0} (g : Section → List X) (h : X → List ℕ) → ((s : Section) → section_floats s ≡ [] → flat_map h (g s) ≡ []) → (ss : List Section) → floats ss ≡ []
    → flat_map h (flat_map g ss) ≡ []
held_clear g h w [] e = refl
held_clear g h w (s ∷ ss) e =
    over (g s) (flat_map g ss) (w s (front_clear (section_floats s) (floats ss) e)) (held_clear g h w ss (back_clear (section_floats s) (floats ss) e))
  where
    over : (xs ys : _) → flat_map h xs ≡ [] → flat_map h ys ≡ [] → flat_map h (xs ++ ys) ≡ []
    over [] ys e f = f
    over (x ∷ xs) ys e f = join_clear (h x) (flat_map h (xs ++ ys)) (front_clear (h x) (flat_map h xs) e) (over xs ys (back_clear (h x) (flat_map h xs) e) f)

-- each of some parts that are spelled and have no float is something
each_made : {X Y : Type 0} (S : X → Type 0) (h : X → List ℕ) (R : X → Y → Type 0) → ((x : X) → S x → h x ≡ [] → (y : Y) × R x y) → (xs : List X) → All S xs → flat_map h xs ≡ []
    → (ys : List Y) × AllZip R xs ys
each_made S h R w [] s e = ([], tt)
each_made S h R w (x ∷ xs) s e =
    let one = w x (All-head S x xs s) (front_clear (h x) (flat_map h xs) e) in
    let more = each_made S h R w xs (All-tail S x xs s) (back_clear (h x) (flat_map h xs) e) in
    (one.0 ∷ more.0, (one.1, more.1))

-- a value type that is no float's
second_false : (a b : Bool) → a && b ≡ false → a ≡ true → b ≡ false
second_false true b e f = e
second_false false b e f = absurd (let g : false ≡ true = f in cc)

type_made : (b : ℕ) → is_value_type b ≡ true → is_float_type b ≡ false → (t : ValType) × (b ≡ type_byte t)
type_made b v f =
    let low = first_of_two (nat_le 0x7C b) (nat_le b 0x7F) v in
    let high = leb-true b 0x7F (other_of_two (nat_le 0x7C b) (nat_le b 0x7F) v) in
    let above = leb-false b 0x7D (second_false (nat_le 0x7C b) (nat_le b 0x7D) f low) in
    elim (by_test (nat_eq b 0x7F)) [
      | inl same ↦ (I32, eqb-true b 0x7F same)
      | inr other ↦ (I64, omega (arith, high, above, eqb-false b 0x7F other))
    ]

placed_made : (n : ℕ) (x : Placed) → Seen n ValueType x → float_type x ≡ [] → (t : ValType) × IsValueType x t
placed_made n x s e = type_made x.byte s.spelled.0 (not_placed (is_float_type x.byte) x.place e)

result_made : (x : Placed) → is_block_type x.byte ≡ true → float_type x ≡ [] → (r : Option ValType) × (x.byte ≡ block_type_byte r)
result_made x v e = elim (by_test (nat_eq x.byte 0x40)) [
  | inl none ↦ (None, eqb-true x.byte 0x40 none)
  | inr other ↦ let t = type_made x.byte (either_of (nat_eq x.byte 0x40) (is_value_type x.byte) v other) (not_placed (is_float_type x.byte) x.place e) in (Some t.0, t.1)
]

-- a block or a loop
shape_made : (op : ℕ) → is_nest op ≡ true → (s : Shape) × (op ≡ shape_byte s)
shape_made op v =
    let low = leb-true 0x02 op (first_of_two (nat_le 0x02 op) (nat_le op 0x03) v) in
    let high = leb-true op 0x03 (other_of_two (nat_le 0x02 op) (nat_le op 0x03) v) in
    elim (by_test (nat_eq op 0x02)) [
      | inl same ↦ (a_block, eqb-true op 0x02 same)
      | inr other ↦ (a_loop, omega (arith, low, high, eqb-false op 0x02 other))
    ]

-- Code that has no float is code; only behind a first arm stands another.
pub record MadeCode (x : RawCode) (first_arm : Bool) : Type 0 where
  code : Code
  else_arm : Code
  is_code : IsCode x code else_arm
  alone : first_arm ≡ false → else_arm ≡ done

code_made : (x : RawCode) (first_arm : Bool) (at : ℕ) (a : List ℕ) → CodeOf first_arm x at a → code_floats x ≡ [] → MadeCode x first_arm
code_made (ended k) first_arm at a h e = record { code = done; else_arm = done; is_code = refl; alone = λ f. refl }
code_made (otherwise k arm) first_arm at a h e =
    let t = h.1 in
    let v = code_made arm false (at + length t.0) t.1 t.4 e in
    record { code = done; else_arm = v.code; is_code = subst (λ z. IsCode arm v.code z) (v.alone refl) v.is_code; alone = λ f. absurd (let g : true ≡ false = sym h.0 ∙ f in cc) }
code_made (instr op o rest) first_arm at a h e =
    let t = h.1 in
    let u = t.4 in
    let p = plain_made op o (at + length t.0) u.0 u.3 h.0 (not_placed (is_float_op op.byte) op.place (front_clear (place_if (is_float_op op.byte) op.place) (code_floats rest) e)) in
    let v = code_made rest first_arm (at + length t.0 + length u.0) u.1 u.4 (back_clear (place_if (is_float_op op.byte) op.place) (code_floats rest) e) in
    record { code = plain p.0 v.code; else_arm = v.else_arm; is_code = (p.1, v.is_code); alone = v.alone }
code_made (nested op result body rest) first_arm at a h e =
    let f = h.1 in
    let g = f.4 in
    let j = g.4 in
    let e1 = front_clear (float_type result ++ code_floats body) (code_floats rest) e in
    let s = shape_made op.byte h.0 in
    let r = result_made result g.3.0 (front_clear (float_type result) (code_floats body) e1) in
    let v = code_made body false (at + length f.0 + length g.0) j.0 j.3 (back_clear (float_type result) (code_floats body) e1) in
    let w = code_made rest first_arm (at + length f.0 + length g.0 + length j.0) j.1 j.4 (back_clear (float_type result ++ code_floats body) (code_floats rest) e) in
    record { code = nest s.0 r.0 v.code w.code; else_arm = w.else_arm; is_code = (s.1, r.1, subst (λ z. IsCode body v.code z) (v.alone refl) v.is_code, w.is_code); alone = w.alone }
code_made (branched op result arms rest) first_arm at a h e =
    let f = h.1 in
    let g = f.4 in
    let j = g.4 in
    let e1 = front_clear (float_type result ++ code_floats arms) (code_floats rest) e in
    let r = result_made result g.3.0 (front_clear (float_type result) (code_floats arms) e1) in
    let v = code_made arms true (at + length f.0 + length g.0) j.0 j.3 (back_clear (float_type result) (code_floats arms) e1) in
    let w = code_made rest first_arm (at + length f.0 + length g.0 + length j.0) j.1 j.4 (back_clear (float_type result ++ code_floats arms) (code_floats rest) e) in
    record { code = branch r.0 v.code v.else_arm w.code; else_arm = w.else_arm; is_code = (r.1, v.is_code, w.is_code); alone = w.alone }

expression_made : (x : RawCode) (at : ℕ) (a : List ℕ) → CodeOf false x at a → code_floats x ≡ [] → (c : Code) × IsCode x c done
expression_made x at a h e = let v = code_made x false at a h e in (v.code, subst (λ z. IsCode x v.code z) (v.alone refl) v.is_code)

func_type_made : (n : ℕ) (x : RawType) → Seen n FunctionType x → type_floats x ≡ [] → (t : FuncType) × IsFuncType x t
func_type_made n x s e =
    let h = s.spelled in
    let g = h.4 in
    let m = length s.bytes in
    let d1 = length_split s.bytes h.0 h.1 h.2 in
    let d2 = length_split h.1 g.0 g.1 g.2 in
    let p = each_made (Seen m ValueType) float_type IsValueType (placed_made m) x.params (seen_vector m ValueType x.params (s.place + length h.0) g.0 g.3 (omega (arith, d1, d2)))
    (front_clear (flat_map float_type x.params) (flat_map float_type x.results) e) in
    let r = each_made (Seen m ValueType) float_type IsValueType (placed_made m) x.results
    (seen_vector m ValueType x.results (s.place + length h.0 + length g.0) g.1 g.4 (omega (arith, d1, d2)))
    (back_clear (flat_map float_type x.params) (flat_map float_type x.results) e) in
    (record { params = p.0; results = r.0 }, record { params = p.1; results = r.1 })

kind_made : (x : RawKind) (at : ℕ) (a : List ℕ) → ImportKindOf x at a → kind_floats x ≡ [] → (k : ImportKind) × IsKind x k
kind_made (raw_func sort) at a h e = (a_func_import sort, refl)
kind_made (raw_table l) at a h e = (a_table_import l, refl)
kind_made (raw_memory l) at a h e = (a_memory_import l, refl)
kind_made (raw_global t mutable) at a h e =
    let g = h.4 in
    let r = type_made t.byte g.3.0 (not_placed (is_float_type t.byte) t.place e) in
    (a_global_import r.0 mutable, (r.0, refl, r.1))

import_made : (n : ℕ) (x : RawImport) → Seen n ImportOf x → kind_floats x.kind ≡ [] → (i : Import) × IsImport x i
import_made n x s e =
    let h = s.spelled in
    let g = h.4 in
    let k = kind_made x.kind (s.place + length h.0 + length g.0) g.1 g.4 e in
    (record { «module» = x.module_name; base = x.base; kind = k.0 }, record { module_name = refl; base = refl; kind = k.1 })

global_made : (n : ℕ) (x : RawGlobal) → Seen n GlobalOf x → float_type x.ty ++ code_floats x.init ≡ [] → (g : GlobalDef) × IsGlobal x g
global_made n x s e =
    let h = s.spelled in
    let t = type_made x.ty.byte h.3.3.0 (not_placed (is_float_type x.ty.byte) x.ty.place (front_clear (float_type x.ty) (code_floats x.init) e)) in
    let c = expression_made x.init (s.place + length h.0) h.1 h.4 (back_clear (float_type x.ty) (code_floats x.init) e) in
    (record { ty = t.0; mutable = x.mutable; init = c.0 }, record { ty = t.1; mutable = refl; init = c.1 })

elem_made : (n : ℕ) (x : RawElem) → Seen n ElementOf x → code_floats x.offset ≡ [] → (y : Elem) × IsElem x y
elem_made n x s e =
    let h = s.spelled in
    let g = h.4 in
    let c = expression_made x.offset (s.place + length h.0) g.0 g.3 e in
    (record { table = x.table; offset = c.0; funcs = x.funcs }, record { table = refl; offset = c.1; funcs = refl })

segment_made : (n : ℕ) (x : RawSegment) → Seen n SegmentOf x → code_floats x.offset ≡ [] → (y : Segment) × IsSegment x y
segment_made n x s e =
    let h = s.spelled in
    let g = h.4 in
    let c = expression_made x.offset (s.place + length h.0) g.0 g.3 e in
    (record { memory = x.memory; offset = c.0; bytes = x.bytes }, record { memory = refl; offset = c.1; bytes = refl })

run_made : (n : ℕ) (x : RawRun) → Seen n RunOf x → float_type x.ty ≡ [] → (r : Run) × IsRun x r
run_made n x s e =
    let t = type_made x.ty.byte s.spelled.4.0 (not_placed (is_float_type x.ty.byte) x.ty.place e) in
    (record { count = x.count; ty = t.0 }, record { count = refl; ty = t.1 })

body_made : (n sort : ℕ) (x : RawBody) → Seen n BodyOf x → body_floats x ≡ [] → (f : Func) × IsBody x f × (f.sort ≡ sort)
body_made n sort x s e =
    let h = s.spelled in
    let g = h.4.1 in
    let m = length s.bytes in
    let d1 = length_split s.bytes h.0 h.1 h.2 in
    let d2 = length_split h.1 g.0 g.1 g.2 in
    let ls = each_made (Seen m RunOf) (λ (r : RawRun). float_type r.ty) IsRun (run_made m) x.locals (seen_vector m RunOf x.locals (s.place + length h.0) g.0 g.3 (omega (arith, d1, d2)))
    (front_clear (flat_map (λ (r : RawRun). float_type r.ty) x.locals) (code_floats x.code) e) in
    let c = expression_made x.code (s.place + length h.0 + length g.0) g.1 g.4 (back_clear (flat_map (λ (r : RawRun). float_type r.ty) x.locals) (code_floats x.code) e) in
    (record { sort = sort; locals = ls.0; body = c.0 }, record { locals = ls.1; body = c.1 }, refl)

funcs_made : (n : ℕ) (sorts : List ℕ) (xs : List RawBody) → length sorts ≡ length xs → All (Seen n BodyOf) xs → flat_map body_floats xs ≡ []
    → (fs : List Func) × AllZip IsBody xs fs × (map (λ (f : Func). f.sort) fs ≡ sorts)
funcs_made n [] [] l s e = ([], tt, refl)
funcs_made n [] (x ∷ xs) l s e = absurd (omega (arith, l))
funcs_made n (k ∷ ks) [] l s e = absurd (omega (arith, l))
funcs_made n (k ∷ ks) (x ∷ xs) l s e =
    let one = body_made n k x (All-head (Seen n BodyOf) x xs s) (front_clear (body_floats x) (flat_map body_floats xs) e) in
    let more = funcs_made n ks xs (omega (arith, l)) (All-tail (Seen n BodyOf) x xs s) (back_clear (body_floats x) (flat_map body_floats xs) e) in
    (one.0 ∷ more.0, (one.1, more.1), (λ i. one.2 i ∷ more.2 i))

-- what each kind of section has of floats
types_clear : (s : Section) → section_floats s ≡ [] → flat_map type_floats (types_in s) ≡ []
types_clear (types ts) e = e
types_clear _ e = refl

imports_clear : (s : Section) → section_floats s ≡ [] → flat_map (λ (i : RawImport). kind_floats i.kind) (imports_in s) ≡ []
imports_clear (imports is) e = e
imports_clear _ e = refl

globals_clear : (s : Section) → section_floats s ≡ [] → flat_map (λ (g : RawGlobal). float_type g.ty ++ code_floats g.init) (globals_in s) ≡ []
globals_clear (globals gs) e = e
globals_clear _ e = refl

elements_clear : (s : Section) → section_floats s ≡ [] → flat_map (λ (x : RawElem). code_floats x.offset) (elements_in s) ≡ []
elements_clear (elements es) e = e
elements_clear _ e = refl

bodies_clear : (s : Section) → section_floats s ≡ [] → flat_map body_floats (bodies_in s) ≡ []
bodies_clear (bodies bs) e = e
bodies_clear _ e = refl

segments_clear : (s : Section) → section_floats s ≡ [] → flat_map (λ (x : RawSegment). code_floats x.offset) (segments_in s) ≡ []
segments_clear (segments xs) e = e
segments_clear _ e = refl

-- behind a start section stands no other
no_start : (last : ℕ) (ss : List Section) → 8 ≤ last → Rising last ss → flat_map starts_in ss ≡ []
no_start last [] l r = refl
no_start last (custom n b ∷ ss) l r = no_start last ss l r
no_start last (types xs ∷ ss) l r = absurd (omega (arith, l, r.0))
no_start last (imports xs ∷ ss) l r = absurd (omega (arith, l, r.0))
no_start last (functions xs ∷ ss) l r = absurd (omega (arith, l, r.0))
no_start last (tables xs ∷ ss) l r = absurd (omega (arith, l, r.0))
no_start last (memories xs ∷ ss) l r = absurd (omega (arith, l, r.0))
no_start last (globals xs ∷ ss) l r = absurd (omega (arith, l, r.0))
no_start last (exports xs ∷ ss) l r = absurd (omega (arith, l, r.0))
no_start last (start x ∷ ss) l r = absurd (omega (arith, l, r.0))
no_start last (elements xs ∷ ss) l r = no_start 9 ss (omega arith) r.1
no_start last (bodies xs ∷ ss) l r = no_start 10 ss (omega arith) r.1
no_start last (segments xs ∷ ss) l r = no_start 11 ss (omega arith) r.1

start_made : (last : ℕ) (ss : List Section) → Rising last ss → (o : Option ℕ) × (option_to_list o ≡ flat_map starts_in ss)
start_made last [] r = (None, refl)
start_made last (custom n b ∷ ss) r = start_made last ss r
start_made last (types xs ∷ ss) r = start_made 1 ss r.1
start_made last (imports xs ∷ ss) r = start_made 2 ss r.1
start_made last (functions xs ∷ ss) r = start_made 3 ss r.1
start_made last (tables xs ∷ ss) r = start_made 4 ss r.1
start_made last (memories xs ∷ ss) r = start_made 5 ss r.1
start_made last (globals xs ∷ ss) r = start_made 6 ss r.1
start_made last (exports xs ∷ ss) r = start_made 7 ss r.1
start_made last (start x ∷ ss) r = (Some x, ap (λ z. x ∷ z) (sym (no_start 8 ss (omega arith) r.1)))
start_made last (elements xs ∷ ss) r = start_made 9 ss r.1
start_made last (bodies xs ∷ ss) r = start_made 10 ss r.1
start_made last (segments xs ∷ ss) r = start_made 11 ss r.1

-- A file without a float is a module.
pub module_made : (bytes : List ℕ) (ss : List Section) → Spells bytes ss → floats ss ≡ [] → (m : Module) × IsModule ss m
module_made bytes ss s e =
    let p = s.parts in
    let at = 0 + length p.0 in
    let n = length p.1 in
    let l : n ≤ n = omega arith in
    let ts = each_made (Seen n FunctionType) type_floats IsFuncType (func_type_made n) (flat_map types_in ss) (held_seen n FunctionType types_in (types_seen n) ss at p.1 p.4 l)
    (held_clear types_in type_floats types_clear ss e) in
    let is = each_made (Seen n ImportOf) (λ (i : RawImport). kind_floats i.kind) IsImport (import_made n) (flat_map imports_in ss)
    (held_seen n ImportOf imports_in (imports_seen n) ss at p.1 p.4 l) (held_clear imports_in (λ (i : RawImport). kind_floats i.kind) imports_clear ss e) in
    let gs = each_made (Seen n GlobalOf) (λ (g : RawGlobal). float_type g.ty ++ code_floats g.init) IsGlobal (global_made n) (flat_map globals_in ss)
    (held_seen n GlobalOf globals_in (globals_seen n) ss at p.1 p.4 l) (held_clear globals_in (λ (g : RawGlobal). float_type g.ty ++ code_floats g.init) globals_clear ss e) in
    let es = each_made (Seen n ElementOf) (λ (x : RawElem). code_floats x.offset) IsElem (elem_made n) (flat_map elements_in ss)
    (held_seen n ElementOf elements_in (elements_seen n) ss at p.1 p.4 l) (held_clear elements_in (λ (x : RawElem). code_floats x.offset) elements_clear ss e) in
    let ds = each_made (Seen n SegmentOf) (λ (x : RawSegment). code_floats x.offset) IsSegment (segment_made n) (flat_map segments_in ss)
    (held_seen n SegmentOf segments_in (segments_seen n) ss at p.1 p.4 l) (held_clear segments_in (λ (x : RawSegment). code_floats x.offset) segments_clear ss e) in
    let fs = funcs_made n (flat_map sorts_in ss) (flat_map bodies_in ss) s.counts (held_seen n BodyOf bodies_in (bodies_seen n) ss at p.1 p.4 l) (held_clear bodies_in body_floats bodies_clear ss e) in
    let o = start_made 0 ss s.order in (
      record {
        types = ts.0;
        imports = is.0;
        funcs = fs.0;
        tables = flat_map tables_in ss;
        memories = flat_map memories_in ss;
        globals = gs.0;
        exports = flat_map exports_in ss;
        start = o.0;
        elems = es.0;
        segments = ds.0;
        customs = customs_of 0 ss;
      },
      record {
        types = ts.1;
        imports = is.1;
        sorts = fs.2;
        funcs = fs.1;
        tables = refl;
        memories = refl;
        globals = gs.1;
        exports = refl;
        start = o.1;
        elems = es.1;
        segments = ds.1;
        customs = refl;
      },
    )
