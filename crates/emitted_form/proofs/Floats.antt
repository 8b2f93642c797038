-- Sections that are a module hold no float.
use Rattle.std.proofs.Common.{◌≡◌, ◌∙◌, ℕ, ◌<◌, inl, inr, List, [], ◌∷◌, ◌++◌, Bool, true, false, Option, Some, None, All, refl, ap, arith}
use Rattle.std.specs.Prelude.{nat_le, ◌||◌, not}
use Rattle.std.specs.List.{AllZip, flat_map}
use Rattle.std.proofs.lemmas.Bool.{and_parts, leb-true, or_cases, or_left, or_right}
use Rattle.std.proofs.lemmas.List.Elements.{All-nil, All-cons, All-head, All-tail}
use Rattle.wa_types.specs.declared.operators.NumOp.{NumOp}
use Rattle.wa_types.specs.declared.operators.NumOp.TheVariants.{I32Eqz}
use Rattle.wa_types.specs.declared.values.Value.TheVariants as V
use Rattle.wa_types.specs.declared.values.ValType.{ValType}
use Rattle.wa_types.specs.declared.values.ValType.TheVariants.{I32, I64}
use Rattle.wa_types.specs.declared.syntax.ImportKind.{ImportKind}
use Rattle.wa_types.specs.Binary.{Placed, RawCode, ended, otherwise, instr, nested, branched, RawType, RawKind, raw_func, raw_table, raw_memory, raw_global, RawImport, RawGlobal}
use Rattle.wa_types.specs.Binary.{RawElem, RawRun, RawBody, RawSegment, Section, custom, types, imports, functions, tables, memories, globals, exports, start, elements, bodies, segments}
use Rattle.wa_types.specs.Encoding.{type_byte, block_type_byte}
use Rattle.wa_types.specs.declared.syntax.Run.{Run}
use Rattle.wa_types.specs.Marks.{place_if, float_type, code_floats, type_floats, kind_floats, body_floats, section_floats, floats}
use Rattle.wa_types.specs.Opcodes.{within, is_float_type, is_float_op, is_load_op, is_store_op, plain_opcode}
use Rattle.wa_types.specs.Operators.{opcode_of}
use Rattle.wa_types.specs.Reading.{HasKind, IsCode, IsValueType, IsFuncType, IsKind, IsImport, IsGlobal, IsElem, IsRun, IsBody, IsSegment, types_in, imports_in}
use Rattle.wa_types.specs.Reading.{globals_in, elements_in, segments_in, IsModule}
use Rattle.wa_types.specs.Spells.{bodies_in}
use Rattle.wa_types.specs.Syntax.{nop, drop, select, const, num, global_get, global_set, load, store, memory_size, memory_grow, memory_copy, memory_fill, Plain, basic, local_get, local_set, local_tee, br}
use Rattle.wa_types.specs.Syntax.{br_if, br_table, return, unreachable, call, call_indirect, Code, done, plain, nest, branch, Module}
use Rattle.wa_types.proofs.Ranges.{all_from, passes}
use Rattle.wasm_reader.proofs.ModulesMade.{join_clear}

-- ---- opcodes

num_clear : (op : NumOp) → is_float_op (opcode_of op) ≡ false
num_clear I32Eqz = refl
num_clear _ = refl

-- an opcode of an access is none of a float
access_test : ℕ → Bool
access_test op = not (is_load_op op || is_store_op op) || not (is_float_op op)

accesses_pass : all_from access_test 0 64 ≡ true
unfolding all_from access_test
accesses_pass = refl

load_small : (op : ℕ) → is_load_op op ≡ true → op < 64
load_small op h = elim (or_cases (within 0x28 0x29 op) (within 0x2C 0x35 op) h) [
  | inl a ↦ let l = leb-true op 0x29 (and_parts (nat_le 0x28 op) (nat_le op 0x29) a).1 in omega (arith, l)
  | inr a ↦ let l = leb-true op 0x35 (and_parts (nat_le 0x2C op) (nat_le op 0x35) a).1 in omega (arith, l)
]

store_small : (op : ℕ) → is_store_op op ≡ true → op < 64
store_small op h = elim (or_cases (within 0x36 0x37 op) (within 0x3A 0x3E op) h) [
  | inl a ↦ let l = leb-true op 0x37 (and_parts (nat_le 0x36 op) (nat_le op 0x37) a).1 in omega (arith, l)
  | inr a ↦ let l = leb-true op 0x3E (and_parts (nat_le 0x3A op) (nat_le op 0x3E) a).1 in omega (arith, l)
]

access_clear : (op : ℕ) → op < 64 → is_load_op op || is_store_op op ≡ true → is_float_op op ≡ false
unfolding access_test
access_clear op small h = by (is_load_op op || is_store_op op) (is_float_op op) h (passes access_test 0 64 op (omega arith) small accesses_pass)
  where
    by : (a b : Bool) → a ≡ true → not a || not b ≡ true → b ≡ false
    by true true e h = absurd (let g : false ≡ true = h in cc)
    by true false e h = refl
    by false b e h = absurd (let g : false ≡ true = e in cc)

plain_clear : (p : Plain) → HasKind p → is_float_op (plain_opcode p) ≡ false
plain_clear (basic nop) h = refl
plain_clear (basic drop) h = refl
plain_clear (basic select) h = refl
plain_clear (basic (const (V.I32 n))) h = refl
plain_clear (basic (const (V.I64 n))) h = refl
plain_clear (basic (num op)) h = num_clear op
plain_clear (basic (global_get x)) h = refl
plain_clear (basic (global_set x)) h = refl
plain_clear (basic (load op align offset)) h = access_clear op (load_small op h) (or_left (is_load_op op) (is_store_op op) h)
plain_clear (basic (store op align offset)) h = access_clear op (store_small op h) (or_right (is_load_op op) (is_store_op op) h)
plain_clear (basic memory_size) h = refl
plain_clear (basic memory_grow) h = refl
plain_clear (basic memory_copy) h = refl
plain_clear (basic memory_fill) h = refl
plain_clear (local_get x) h = refl
plain_clear (local_set x) h = refl
plain_clear (local_tee x) h = refl
plain_clear (br l) h = refl
plain_clear (br_if l) h = refl
plain_clear (br_table ls l) h = refl
plain_clear return h = refl
plain_clear unreachable h = refl
plain_clear (call x) h = refl
plain_clear (call_indirect x) h = refl

-- ---- parts

type_clear : (t : Placed) (v : ValType) → IsValueType t v → float_type t ≡ []
type_clear t v e = ap (λ b. place_if (is_float_type b) t.place) e ∙ by v
  where
    by : (v : ValType) → place_if (is_float_type (type_byte v)) t.place ≡ []
    by I32 = refl
    by I64 = refl

block_clear : (t : Placed) (r : Option ValType) → t.byte ≡ block_type_byte r → float_type t ≡ []
block_clear t r e = ap (λ b. place_if (is_float_type b) t.place) e ∙ by r
  where
    by : (r : Option ValType) → place_if (is_float_type (block_type_byte r)) t.place ≡ []
    by None = refl
    by (Some I32) = refl
    by (Some I64) = refl

code_clear : (raw : RawCode) (c e : Code) → IsCode raw c e → code_floats raw ≡ []
code_clear (ended k) c e h = refl
code_clear (otherwise k arm) done e h = code_clear arm e done h
code_clear (otherwise k arm) (plain p more) e h = absurd h
code_clear (otherwise k arm) (nest s r body more) e h = absurd h
code_clear (otherwise k arm) (branch r a b more) e h = absurd h
code_clear (instr op operands rest) (plain p more) e h =
    let z = ap (λ b. place_if b op.place) (ap is_float_op h.0.opcode ∙ plain_clear p h.0.kind) in
    join_clear (place_if (is_float_op op.byte) op.place) (code_floats rest) z (code_clear rest more e h.1)
code_clear (instr op operands rest) done e h = absurd h
code_clear (instr op operands rest) (nest s r body more) e h = absurd h
code_clear (instr op operands rest) (branch r a b more) e h = absurd h
code_clear (nested op result body rest) (nest s r inner more) e h =
    join_clear (float_type result ++ code_floats body) (code_floats rest)
    (join_clear (float_type result) (code_floats body) (block_clear result r h.1) (code_clear body inner done h.2)) (code_clear rest more e h.3)
code_clear (nested op result body rest) done e h = absurd h
code_clear (nested op result body rest) (plain p more) e h = absurd h
code_clear (nested op result body rest) (branch r a b more) e h = absurd h
code_clear (branched op result arms rest) (branch r a b more) e h =
    join_clear (float_type result ++ code_floats arms) (code_floats rest)
    (join_clear (float_type result) (code_floats arms) (block_clear result r h.0) (code_clear arms a b h.1)) (code_clear rest more e h.2)
code_clear (branched op result arms rest) done e h = absurd h
code_clear (branched op result arms rest) (plain p more) e h = absurd h
code_clear (branched op result arms rest) (nest s r inner more) e h = absurd h

-- parts that are each something are each clear
pub each_all : {X Y : Type 0} (R : X → Y → Type 0) (P : X → Type 0) (Q : Y → Type 0) → ((x : X) (y : Y) → R x y → Q y → P x) → (xs : List X) (ys : List Y) → AllZip R xs ys → All Q ys → All P xs
each_all R P Q w [] [] h q = All-nil P
each_all R P Q w [] (y ∷ ys) h q = absurd h
each_all R P Q w (x ∷ xs) [] h q = absurd h
each_all R P Q w (x ∷ xs) (y ∷ ys) h q = All-cons P x xs (w x y h.0 (All-head Q y ys q)) (each_all R P Q w xs ys h.1 (All-tail Q y ys q))

any_all : {Y : Type 0} (ys : List Y) → All (λ (y : Y). Unit {0}) ys
any_all [] = All-nil (λ y. Unit {0})
any_all (y ∷ ys) = All-cons (λ y. Unit {0}) y ys tt (any_all ys)

pub each_are : {X Y : Type 0} (R : X → Y → Type 0) (P : X → Type 0) → ((x : X) (y : Y) → R x y → P x) → (xs : List X) (ys : List Y) → AllZip R xs ys → All P xs
each_are R P w xs ys h = each_all R P (λ y. Unit {0}) (λ x y r u. w x y r) xs ys h (any_all ys)

-- what is clear part by part is clear
pub all_clear : {X : Type 0} (h : X → List ℕ) (xs : List X) → All (λ x. h x ≡ []) xs → flat_map h xs ≡ []
all_clear h [] a = refl
all_clear h (x ∷ xs) a = join_clear (h x) (flat_map h xs) (All-head (λ x. h x ≡ []) x xs a) (all_clear h xs (All-tail (λ x. h x ≡ []) x xs a))

types_clear : (xs : List Placed) (ys : List ValType) → AllZip IsValueType xs ys → flat_map float_type xs ≡ []
types_clear xs ys h = all_clear float_type xs (each_are IsValueType (λ x. float_type x ≡ []) type_clear xs ys h)

runs_clear : (xs : List RawRun) (ys : List Run) → AllZip IsRun xs ys → flat_map (λ (r : RawRun). float_type r.ty) xs ≡ []
runs_clear xs ys h = all_clear (λ (r : RawRun). float_type r.ty) xs (each_are IsRun (λ (x : RawRun). float_type x.ty ≡ []) (λ x y r. type_clear x.ty y.ty r.ty) xs ys h)

kind_clear : (raw : RawKind) (k : ImportKind) → IsKind raw k → kind_floats raw ≡ []
kind_clear (raw_func sort) k h = refl
kind_clear (raw_table l) k h = refl
kind_clear (raw_memory l) k h = refl
kind_clear (raw_global t mutable) k h = type_clear t h.0 h.2

-- ---- sections

-- The parts of the sections are clear, each kind of its own.
record Clear (ss : List Section) : Type 0 where
  types : All (λ (t : RawType). type_floats t ≡ []) (flat_map types_in ss)
  imports : All (λ (i : RawImport). kind_floats i.kind ≡ []) (flat_map imports_in ss)
  globals : All (λ (g : RawGlobal). float_type g.ty ++ code_floats g.init ≡ []) (flat_map globals_in ss)
  elems : All (λ (e : RawElem). code_floats e.offset ≡ []) (flat_map elements_in ss)
  bodies : All (λ (b : RawBody). body_floats b ≡ []) (flat_map bodies_in ss)
  segments : All (λ (s : RawSegment). code_floats s.offset ≡ []) (flat_map segments_in ss)

-- the parts of the first section, and those behind it
pub front_all : {X : Type 0} (P : X → Type 0) (xs ys : List X) → All P (xs ++ ys) → All P xs
front_all P [] ys h = All-nil P
front_all P (x ∷ xs) ys h = All-cons P x xs (All-head P x (xs ++ ys) h) (front_all P xs ys (All-tail P x (xs ++ ys) h))

pub back_all : {X : Type 0} (P : X → Type 0) (xs ys : List X) → All P (xs ++ ys) → All P ys
back_all P [] ys h = h
back_all P (x ∷ xs) ys h = back_all P xs ys (All-tail P x (xs ++ ys) h)

section_clear : (s : Section) (ss : List Section) → Clear (s ∷ ss) → section_floats s ≡ []
section_clear (custom name bytes) ss c = refl
section_clear (types ts) ss c = all_clear type_floats ts (front_all (λ (t : RawType). type_floats t ≡ []) ts (flat_map types_in ss) c.types)
section_clear (imports is) ss c = all_clear (λ (i : RawImport). kind_floats i.kind) is (front_all (λ (i : RawImport). kind_floats i.kind ≡ []) is (flat_map imports_in ss) c.imports)
section_clear (functions sorts) ss c = refl
section_clear (tables ts) ss c = refl
section_clear (memories ms) ss c = refl
section_clear (globals gs) ss c = all_clear (λ (g : RawGlobal). float_type g.ty ++ code_floats g.init) gs
    (front_all (λ (g : RawGlobal). float_type g.ty ++ code_floats g.init ≡ []) gs (flat_map globals_in ss) c.globals)
section_clear (exports es) ss c = refl
section_clear (start x) ss c = refl
section_clear (elements es) ss c = all_clear (λ (e : RawElem). code_floats e.offset) es (front_all (λ (e : RawElem). code_floats e.offset ≡ []) es (flat_map elements_in ss) c.elems)
section_clear (bodies bs) ss c = all_clear body_floats bs (front_all (λ (b : RawBody). body_floats b ≡ []) bs (flat_map bodies_in ss) c.bodies)
section_clear (segments ds) ss c = all_clear (λ (s : RawSegment). code_floats s.offset) ds (front_all (λ (s : RawSegment). code_floats s.offset ≡ []) ds (flat_map segments_in ss) c.segments)

rest_clear : (s : Section) (ss : List Section) → Clear (s ∷ ss) → Clear ss
rest_clear s ss c = record {
  types = back_all (λ (t : RawType). type_floats t ≡ []) (types_in s) (flat_map types_in ss) c.types;
  imports = back_all (λ (i : RawImport). kind_floats i.kind ≡ []) (imports_in s) (flat_map imports_in ss) c.imports;
  globals = back_all (λ (g : RawGlobal). float_type g.ty ++ code_floats g.init ≡ []) (globals_in s) (flat_map globals_in ss) c.globals;
  elems = back_all (λ (e : RawElem). code_floats e.offset ≡ []) (elements_in s) (flat_map elements_in ss) c.elems;
  bodies = back_all (λ (b : RawBody). body_floats b ≡ []) (bodies_in s) (flat_map bodies_in ss) c.bodies;
  segments = back_all (λ (s : RawSegment). code_floats s.offset ≡ []) (segments_in s) (flat_map segments_in ss) c.segments;
}

clear_floats : (ss : List Section) → Clear ss → floats ss ≡ []
clear_floats [] c = refl
clear_floats (s ∷ ss) c = join_clear (section_floats s) (floats ss) (section_clear s ss c) (clear_floats ss (rest_clear s ss c))

module_clear : (ss : List Section) (m : Module) → IsModule ss m → Clear ss
module_clear ss m h = record {
  types = each_are IsFuncType (λ (t : RawType). type_floats t ≡ []) (λ x y r. join_clear (flat_map float_type x.params) (flat_map float_type x.results)
      (types_clear x.params y.params r.params) (types_clear x.results y.results r.results))
      (flat_map types_in ss) m.types h.types;
  imports = each_are IsImport (λ (i : RawImport). kind_floats i.kind ≡ []) (λ x y r. kind_clear x.kind y.kind r.kind) (flat_map imports_in ss) m.imports h.imports;
  globals = each_are IsGlobal (λ (g : RawGlobal). float_type g.ty ++ code_floats g.init ≡ [])
      (λ x y r. join_clear (float_type x.ty) (code_floats x.init) (type_clear x.ty y.ty r.ty) (code_clear x.init y.init done r.init))
      (flat_map globals_in ss) m.globals h.globals;
  elems = each_are IsElem (λ (e : RawElem). code_floats e.offset ≡ []) (λ x y r. code_clear x.offset y.offset done r.offset) (flat_map elements_in ss) m.elems h.elems;
  bodies = each_are IsBody (λ (b : RawBody). body_floats b ≡ []) (λ x y r. join_clear (flat_map (λ (r : RawRun). float_type r.ty) x.locals) (code_floats x.code)
      (runs_clear x.locals y.locals r.locals) (code_clear x.code y.body done r.body))
      (flat_map bodies_in ss) m.funcs h.funcs;
  segments = each_are IsSegment (λ (s : RawSegment). code_floats s.offset ≡ []) (λ x y r. code_clear x.offset y.offset done r.offset) (flat_map segments_in ss) m.segments h.segments;
}

-- no float stands in sections that are a module
pub no_floats : (ss : List Section) (m : Module) → IsModule ss m → floats ss ≡ []
no_floats ss m h = clear_floats ss (module_clear ss m h)
