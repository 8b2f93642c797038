-- The sections of a file are at most one module.
use Rattle.std.proofs.Common.{◌≡◌, ℕ, List, [], ◌∷◌, map, Option, Some, None, refl, ap, sym, ◌∙◌, subst, arith, length, option_to_list}
use Rattle.std.specs.List.{AllZip}
use Rattle.wa_types.specs.declared.values.ValType.{ValType}
use Rattle.wa_types.specs.declared.values.ValType.TheVariants.{I32, I64}
use Rattle.wa_types.specs.declared.syntax.Run.{Run}
use Rattle.wa_types.specs.declared.syntax.ImportKind.{ImportKind}
use Rattle.wa_types.specs.declared.syntax.ImportKind.TheVariants.{Global as a_global_import}
use Rattle.wa_types.specs.declared.syntax.Import.{Import}
use Rattle.wa_types.specs.Encoding.{type_byte, block_type_byte, shape_byte}
use Rattle.wa_types.specs.Syntax.{Plain, Shape, a_block, a_loop, Code, done, plain, nest, branch, FuncType, Func, GlobalDef, Elem, Segment, Module}
use Rattle.wa_types.specs.Binary.{Placed, Immediates, RawCode, ended, otherwise, instr, nested, branched, RawType, RawKind, raw_func, raw_table, raw_memory, raw_global, RawImport, RawGlobal}
use Rattle.wa_types.specs.Binary.{RawElem, RawRun, RawBody, RawSegment, Section}
use Rattle.wa_types.specs.Reading.{IsPlain, IsCode, IsValueType, IsFuncType, IsKind, IsImport, IsGlobal, IsElem, IsRun, IsBody, IsSegment, IsModule, SpellsModule}
use Rattle.wa_types.specs.Opcodes.{plain_opcode, plain_immediates}
use Rattle.file_laws.proofs.PlainOf.{plain_of, plain_again}
use Rattle.file_laws.proofs.UniqueCode.{one_file}

one_plain : (op : Placed) (o : Immediates) (p q : Plain) → IsPlain op o p → IsPlain op o q → p ≡ q
one_plain op o p q h k =
    let a : plain_opcode p ≡ plain_opcode q = sym h.opcode ∙ k.opcode in
    let b : plain_immediates p ≡ plain_immediates q = sym h.follows ∙ k.follows in
    sym (plain_again p h.kind) ∙ (λ i. plain_of (a i) (b i)) ∙ plain_again q k.kind

one_shape : (s t : Shape) → shape_byte s ≡ shape_byte t → s ≡ t
one_shape a_block a_block e = refl
one_shape a_loop a_loop e = refl
one_shape a_block a_loop e = absurd (omega (arith, e))
one_shape a_loop a_block e = absurd (omega (arith, e))

one_type : (s t : ValType) → type_byte s ≡ type_byte t → s ≡ t
one_type I32 I32 e = refl
one_type I64 I64 e = refl
one_type I32 I64 e = absurd (omega (arith, e))
one_type I64 I32 e = absurd (omega (arith, e))

one_block_type : (s t : Option ValType) → block_type_byte s ≡ block_type_byte t → s ≡ t
one_block_type None None e = refl
one_block_type None (Some I32) e = absurd (omega (arith, e))
one_block_type None (Some I64) e = absurd (omega (arith, e))
one_block_type (Some I32) None e = absurd (omega (arith, e))
one_block_type (Some I64) None e = absurd (omega (arith, e))
one_block_type (Some s) (Some t) e = ap (λ z. Some z) (one_type s t e)

one_code : (x : RawCode) (c d e f : Code) → IsCode x c e → IsCode x d f → (c ≡ d) × (e ≡ f)
one_code (ended k) done done e f h i = (refl, h ∙ sym i)
one_code (ended k) done (plain p r) e f h i = absurd i
one_code (ended k) done (nest s r b m) e f h i = absurd i
one_code (ended k) done (branch r a b m) e f h i = absurd i
one_code (ended k) (plain p r) d e f h i = absurd h
one_code (ended k) (nest s r b m) d e f h i = absurd h
one_code (ended k) (branch r a b m) d e f h i = absurd h
one_code (otherwise k x) done done e f h i = (refl, (one_code x e f done done h i).0)
one_code (otherwise k x) done (plain p r) e f h i = absurd i
one_code (otherwise k x) done (nest s r b m) e f h i = absurd i
one_code (otherwise k x) done (branch r a b m) e f h i = absurd i
one_code (otherwise k x) (plain p r) d e f h i = absurd h
one_code (otherwise k x) (nest s r b m) d e f h i = absurd h
one_code (otherwise k x) (branch r a b m) d e f h i = absurd h
one_code (instr op o x) (plain p c) (plain q d) e f h i =
    let r = one_code x c d e f h.1 i.1 in
    let s = one_plain op o p q h.0 i.0 in
    ((λ t. plain (s t) (r.0 t)), r.1)
one_code (instr op o x) (plain p c) done e f h i = absurd i
one_code (instr op o x) (plain p c) (nest s r b m) e f h i = absurd i
one_code (instr op o x) (plain p c) (branch r a b m) e f h i = absurd i
one_code (instr op o x) done d e f h i = absurd h
one_code (instr op o x) (nest s r b m) d e f h i = absurd h
one_code (instr op o x) (branch r a b m) d e f h i = absurd h
one_code (nested op t x y) (nest s r b c) (nest s' r' b' d) e f h i =
    let u = one_shape s s' (sym h.0 ∙ i.0) in
    let v = one_block_type r r' (sym h.1 ∙ i.1) in
    let w = one_code x b b' done done h.2 i.2 in
    let z = one_code y c d e f h.3 i.3 in
    ((λ j. nest (u j) (v j) (w.0 j) (z.0 j)), z.1)
one_code (nested op t x y) (nest s r b c) done e f h i = absurd i
one_code (nested op t x y) (nest s r b c) (plain p m) e f h i = absurd i
one_code (nested op t x y) (nest s r b c) (branch a g k m) e f h i = absurd i
one_code (nested op t x y) done d e f h i = absurd h
one_code (nested op t x y) (plain p m) d e f h i = absurd h
one_code (nested op t x y) (branch a g k m) d e f h i = absurd h
one_code (branched op t x y) (branch r a b c) (branch r' a' b' d) e f h i =
    let v = one_block_type r r' (sym h.0 ∙ i.0) in
    let w = one_code x a a' b b' h.1 i.1 in
    let z = one_code y c d e f h.2 i.2 in
    ((λ j. branch (v j) (w.0 j) (w.1 j) (z.0 j)), z.1)
one_code (branched op t x y) (branch r a b c) done e f h i = absurd i
one_code (branched op t x y) (branch r a b c) (plain p m) e f h i = absurd i
one_code (branched op t x y) (branch r a b c) (nest s g k m) e f h i = absurd i
one_code (branched op t x y) done d e f h i = absurd h
one_code (branched op t x y) (plain p m) d e f h i = absurd h
one_code (branched op t x y) (nest s g k m) d e f h i = absurd h

one_each : {X Y : Type 0} (R : X → Y → Type 0) → ((x : X) (y z : Y) → R x y → R x z → y ≡ z) → (xs : List X) (ys zs : List Y) → AllZip R xs ys → AllZip R xs zs → ys ≡ zs
one_each R u [] [] [] h k = refl
one_each R u [] [] (z ∷ zs) h k = absurd k
one_each R u [] (y ∷ ys) zs h k = absurd h
one_each R u (x ∷ xs) [] zs h k = absurd h
one_each R u (x ∷ xs) (y ∷ ys) [] h k = absurd k
one_each R u (x ∷ xs) (y ∷ ys) (z ∷ zs) h k =
    let a = u x y z h.0 k.0 in
    let b = one_each R u xs ys zs h.1 k.1 in
    λ i. a i ∷ b i

types_one : (xs : List Placed) (ys zs : List ValType) → AllZip IsValueType xs ys → AllZip IsValueType xs zs → ys ≡ zs
types_one xs ys zs h k = one_each IsValueType (λ x y z a b. one_type y z (sym a ∙ b)) xs ys zs h k

func_type_one : (x : RawType) (s t : FuncType) → IsFuncType x s → IsFuncType x t → s ≡ t
func_type_one x s t h k =
    let p = types_one x.params s.params t.params h.params k.params in
    let r = types_one x.results s.results t.results h.results k.results in
    λ i. record { params = p i; results = r i }

kind_one : (x : RawKind) (s t : ImportKind) → IsKind x s → IsKind x t → s ≡ t
kind_one (raw_func sort) s t h k = h ∙ sym k
kind_one (raw_table l) s t h k = h ∙ sym k
kind_one (raw_memory l) s t h k = h ∙ sym k
kind_one (raw_global ty m) s t h k = h.1 ∙ ap (λ z. a_global_import z m) (one_type h.0 k.0 (sym h.2 ∙ k.2)) ∙ sym k.1

import_one : (x : RawImport) (s t : Import) → IsImport x s → IsImport x t → s ≡ t
import_one x s t h k =
    let m = h.module_name ∙ sym k.module_name in
    let b = h.base ∙ sym k.base in
    let n = kind_one x.kind s.kind t.kind h.kind k.kind in
    λ i. record { «module» = m i; base = b i; kind = n i }

global_one : (x : RawGlobal) (s t : GlobalDef) → IsGlobal x s → IsGlobal x t → s ≡ t
global_one x s t h k =
    let a = one_type s.ty t.ty (sym h.ty ∙ k.ty) in
    let b = h.mutable ∙ sym k.mutable in
    let c = (one_code x.init s.init t.init done done h.init k.init).0 in
    λ i. record { ty = a i; mutable = b i; init = c i }

elem_one : (x : RawElem) (s t : Elem) → IsElem x s → IsElem x t → s ≡ t
elem_one x s t h k =
    let a = h.table ∙ sym k.table in
    let b = (one_code x.offset s.offset t.offset done done h.offset k.offset).0 in
    let c = h.funcs ∙ sym k.funcs in
    λ i. record { table = a i; offset = b i; funcs = c i }

segment_one : (x : RawSegment) (s t : Segment) → IsSegment x s → IsSegment x t → s ≡ t
segment_one x s t h k =
    let a = h.memory ∙ sym k.memory in
    let b = (one_code x.offset s.offset t.offset done done h.offset k.offset).0 in
    let c = h.bytes ∙ sym k.bytes in
    λ i. record { memory = a i; offset = b i; bytes = c i }

run_one : (x : RawRun) (s t : Run) → IsRun x s → IsRun x t → s ≡ t
run_one x s t h k =
    let a = h.count ∙ sym k.count in
    let b = one_type s.ty t.ty (sym h.ty ∙ k.ty) in
    λ i. record { count = a i; ty = b i }

tail_same : (m n : ℕ) (ms ns : List ℕ) → m ∷ ms ≡ n ∷ ns → (m ≡ n) × (ms ≡ ns)
tail_same m n ms ns e = ((let p : m ≡ n = cc in p), (let p : ms ≡ ns = cc in p))

funcs_one : (xs : List RawBody) (fs gs : List Func) → map (λ (f : Func). f.sort) fs ≡ map (λ (f : Func). f.sort) gs → AllZip IsBody xs fs → AllZip IsBody xs gs → fs ≡ gs
funcs_one [] [] [] e h k = refl
funcs_one [] [] (g ∷ gs) e h k = absurd k
funcs_one [] (f ∷ fs) gs e h k = absurd h
funcs_one (x ∷ xs) [] gs e h k = absurd h
funcs_one (x ∷ xs) (f ∷ fs) [] e h k = absurd k
funcs_one (x ∷ xs) (f ∷ fs) (g ∷ gs) e h k =
    let s = tail_same f.sort g.sort (map (λ (f : Func). f.sort) fs) (map (λ (f : Func). f.sort) gs) e in
    let l = one_each IsRun run_one x.locals f.locals g.locals h.0.locals k.0.locals in
    let b = (one_code x.code f.body g.body done done h.0.body k.0.body).0 in
    let r = funcs_one xs fs gs s.1 h.1 k.1 in
    λ i. (record { sort = s.0 i; locals = l i; body = b i }) ∷ r i

start_one : (a b : Option ℕ) → option_to_list a ≡ option_to_list b → a ≡ b
start_one None None e = refl
start_one None (Some y) e = absurd (omega (arith, ap length e))
start_one (Some x) None e = absurd (omega (arith, ap length e))
start_one (Some x) (Some y) e = ap (λ z. Some z) (tail_same x y [] [] e).0

-- Sections are at most one module.
pub one_module : (ss : List Section) (m n : Module) → IsModule ss m → IsModule ss n → m ≡ n
one_module ss m n h k =
    let a = one_each IsFuncType func_type_one _ m.types n.types h.types k.types in
    let b = one_each IsImport import_one _ m.imports n.imports h.imports k.imports in
    let c = funcs_one _ m.funcs n.funcs (h.sorts ∙ sym k.sorts) h.funcs k.funcs in
    let d = h.tables ∙ sym k.tables in
    let e = h.memories ∙ sym k.memories in
    let f = one_each IsGlobal global_one _ m.globals n.globals h.globals k.globals in
    let g = h.exports ∙ sym k.exports in
    let s = start_one m.start n.start (h.start ∙ sym k.start) in
    let p = one_each IsElem elem_one _ m.elems n.elems h.elems k.elems in
    let q = one_each IsSegment segment_one _ m.segments n.segments h.segments k.segments in
    let r = h.customs ∙ sym k.customs in
    λ i. record { types = a i; imports = b i; funcs = c i; tables = d i; memories = e i; globals = f i; exports = g i; start = s i; elems = p i; segments = q i; customs = r i }

-- Bytes spell at most one module.
pub one_spelled : (bytes : List ℕ) (m n : Module) → SpellsModule bytes m → SpellsModule bytes n → m ≡ n
one_spelled bytes m n h k =
    let same = one_file bytes h.sections k.sections h.spells k.spells in
    one_module k.sections m n (subst (λ z. IsModule z m) same h.is_module) k.is_module
