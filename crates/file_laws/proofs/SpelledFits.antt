-- What is spelled is well formed.
use Rattle.std.proofs.Common.{◌≡◌, ℕ, ◌+◌, ◌-◌, ◌*◌, ◌<◌, ◌^◌, ◌⊎◌, inl, inr, List, [], ◌∷◌, ◌++◌, map, flat_map, length, Option, Some, None, Bool, true, false, Result, Ok, Err, refl, ap, sym, ◌∙◌, subst, arith, nat_lt, cond, IsUtf8, All, option_to_list}
use Rattle.std.proofs.lemmas.Bool.{ltb-true, ltb-false}
use Rattle.std.proofs.lemmas.Nat.{pow-add}
use Rattle.std.proofs.Math.Pow.{pow_mono}
use Rattle.std.proofs.lemmas.List.Elements.{All-head, All-tail, All-cons, All-append}
use Rattle.std.specs.List.{AllZip}
use Rattle.leb_numbers.specs.declared.leb.LebFault.{LebFault}
use Rattle.leb_numbers.specs.declared.leb.LebFault.TheVariants.{Bits}
use Rattle.wa_types.specs.declared.values.Value.TheVariants.{I32 as value_32, I64 as value_64}
use Rattle.wa_types.specs.declared.syntax.Limits.{Limits}
use Rattle.wa_types.specs.declared.syntax.ImportKind.{ImportKind}
use Rattle.wa_types.specs.declared.syntax.Import.{Import}
use Rattle.wa_types.specs.declared.syntax.Export.{Export}
use Rattle.wa_types.specs.declared.syntax.Run.{Run}
use Rattle.leb_numbers.specs.Leb.{IsUnsigned, IsSigned, last_signed}
use Rattle.wa_types.specs.Syntax.{nop, drop, select, const, num, global_get, global_set, load, store, memory_size, memory_grow, memory_copy, memory_fill, Plain, basic, local_get, local_set, local_tee, br, br_if, br_table, return, unreachable, call, call_indirect, Code, done, plain, nest, branch, Func, GlobalDef, Elem, Segment, Module}
use Rattle.wa_types.specs.Binary.{Placed, Immediates, RawCode, ended, otherwise, instr, nested, branched, RawKind, raw_func, raw_table, raw_memory, raw_global, RawImport, RawGlobal, RawElem, RawRun, RawBody, RawSegment, Section, custom, types, imports, functions, tables, memories, globals, exports, start, elements, bodies, segments, section_id}
use Rattle.wa_types.specs.Spells.{◌▸◌, Exactly, Number, Items, Vector, Sized, Text, Maximum, LimitsOf, TableType, ImmediatesOf, CodeOf, ImportKindOf, ImportOf, GlobalOf, ExportOf, ElementOf, RunOf, BodyOf, SegmentOf, SectionOf, sorts_in, bodies_in}
use Rattle.wa_types.specs.Reading.{HasKind, IsPlain, IsCode, IsKind, IsImport, IsGlobal, IsElem, IsRun, IsBody, IsSegment, imports_in, tables_in, memories_in, globals_in, exports_in, starts_in, elements_in, segments_in, customs_of, SpellsModule}
use Rattle.wa_types.specs.Opcodes.{plain_immediates}
use Rattle.wa_types.specs.Sizes.{PlainFits, CodeFits, MaxFits, LimitsFit, KindFits, ImportFits, FuncFits, ExportFits, ElemFits, SegmentFits, CustomFits, StartFits, WellFormed}

pow_split : (bits : ℕ) → 7 < bits → 2 ^ bits ≡ 128 * 2 ^ (bits - 7)
pow_split bits h = let e : bits ≡ 7 + (bits - 7) = omega arith in ap (λ k. 2 ^ k) e ∙ pow-add 2 7 (bits - 7)

-- a number that is spelled has its number of bits
pub unsigned_fits : (bits : ℕ) (bytes : List ℕ) (n : ℕ) → IsUnsigned bits bytes n → n < 2 ^ bits
unsigned_fits bits [] n h = absurd h
unsigned_fits bits (b ∷ bs) n (inl h) = omega (arith, h.1, h.3)
unsigned_fits bits (b ∷ bs) n (inr h) =
    let more = unsigned_fits (bits - 7) bs h.3 h.5 in
    omega (arith, pow_split bits h.2, more, h.4, h.0, h.1)

chosen : {A : Type 0} → (b : Bool) (x y z : A) → cond b x y ≡ z → ((b ≡ true) × (x ≡ z)) ⊎ ((b ≡ false) × (y ≡ z))
chosen true x y z e = inl (refl, e)
chosen false x y z e = inr (refl, e)

ok_same : (m n : ℕ) (r : Result ℕ LebFault) → r ≡ Ok m → r ≡ Ok n → m ≡ n
ok_same m n r e f = cc

not_ok : (n : ℕ) (d : LebFault) → Err d ≡ Ok n → ⊥
not_ok n d e = cc

last_fits : (bits b n : ℕ) → b < 128 → last_signed bits b ≡ Ok n → n < 2 ^ bits
last_fits bits b n h e = elim (chosen (nat_lt b 64) _ _ _ e) [
  | inl low ↦ elim (chosen (nat_lt b (2 ^ (bits - 1))) _ _ _ low.1) [
    | inl small ↦ omega (arith, ltb-true _ _ small.0, ok_same b n _ refl small.1, pow_mono {i = bits - 1} {j = bits} (omega arith))
    | inr past ↦ absurd (not_ok n Bits past.1)
  ]
  | inr high ↦ elim (chosen (nat_lt (b + 2 ^ (bits - 1)) 128) _ _ _ high.1) [
    | inl past ↦ absurd (not_ok n Bits past.1)
    | inr sign ↦ omega (arith, h, ok_same (b + 2 ^ bits - 128) n _ refl sign.1, ltb-false _ _ high.0, ltb-false _ _ sign.0, pow_mono {i = bits - 1} {j = bits} (omega arith))
  ]
]

pub signed_fits : (bits : ℕ) (bytes : List ℕ) (n : ℕ) → IsSigned bits bytes n → n < 2 ^ bits
signed_fits bits [] n h = absurd h
signed_fits bits (b ∷ bs) n (inl h) = last_fits bits b n h.0 h.2
signed_fits bits (b ∷ bs) n (inr h) =
    let more = signed_fits (bits - 7) bs h.3 h.5 in
    omega (arith, pow_split bits h.2, more, h.4, h.0, h.1)

-- bytes are bytes
abbrev pub AreBytes : List ℕ → Type 0
AreBytes a = All (λ b. b < 2 ^ 8) a

left_bytes : (a b : List ℕ) → AreBytes (a ++ b) → AreBytes a
left_bytes [] b h = λ k d l. absurd (omega (arith, l))
left_bytes (x ∷ a) b h = All-cons (λ b. b < 2 ^ 8) x a (All-head (λ b. b < 2 ^ 8) x (a ++ b) h) (left_bytes a b (All-tail (λ b. b < 2 ^ 8) x (a ++ b) h))

right_bytes : (a b : List ℕ) → AreBytes (a ++ b) → AreBytes b
right_bytes [] b h = h
right_bytes (x ∷ a) b h = right_bytes a b (All-tail (λ b. b < 2 ^ 8) x (a ++ b) h)

-- something that is spelled somewhere
pub record Seen {X : Type 0} (f : X → ℕ → List ℕ → Type 0) (x : X) : Type 0 where
  place : ℕ
  bytes : List ℕ
  spelled : f x place bytes
  are_bytes : AreBytes bytes

none_seen : {X : Type 0} (P : X → Type 0) → All P []
none_seen P = λ k d l. absurd (omega (arith, l))

seen_items : {X : Type 0} (f : X → ℕ → List ℕ → Type 0) (xs : List X) (at : ℕ) (a : List ℕ) → Items f xs at a → AreBytes a → All (Seen f) xs
seen_items f [] at a h b = none_seen (Seen f)
seen_items f (x ∷ xs) at a h b =
    let c = subst AreBytes h.2 b in
    All-cons (Seen f) x xs (record { place = at; bytes = h.0; spelled = h.3; are_bytes = left_bytes h.0 h.1 c }) (seen_items f xs (at + length h.0) h.1 h.4 (right_bytes h.0 h.1 c))

seen_vector : {X : Type 0} (f : X → ℕ → List ℕ → Type 0) (xs : List X) (at : ℕ) (a : List ℕ) → Vector f xs at a → AreBytes a → All (Seen f) xs
seen_vector f xs at a h b = seen_items f xs (at + length h.0) h.1 h.4 (right_bytes h.0 h.1 (subst AreBytes h.2 b))

-- each of what is spelled fits, as what it is
each_fits : {X Y : Type 0} (f : X → ℕ → List ℕ → Type 0) (R : X → Y → Type 0) (Fits : Y → Type 0) → ((x : X) (y : Y) → Seen f x → R x y → Fits y) → (xs : List X) (ys : List Y)
    → All (Seen f) xs → AllZip R xs ys → All Fits ys
each_fits f R Fits h [] [] s e = none_seen Fits
each_fits f R Fits h [] (y ∷ ys) s e = absurd e
each_fits f R Fits h (x ∷ xs) [] s e = absurd e
each_fits f R Fits h (x ∷ xs) (y ∷ ys) s e = All-cons Fits y ys (h x y (All-head (Seen f) x xs s) e.0) (each_fits f R Fits h xs ys (All-tail (Seen f) x xs s) e.1)

all_fits : {X : Type 0} (f : X → ℕ → List ℕ → Type 0) (Fits : X → Type 0) → ((x : X) → Seen f x → Fits x) → (xs : List X) → All (Seen f) xs → All Fits xs
all_fits f Fits h [] s = none_seen Fits
all_fits f Fits h (x ∷ xs) s = All-cons Fits x xs (h x (All-head (Seen f) x xs s)) (all_fits f Fits h xs (All-tail (Seen f) x xs s))

number_fits : (n : ℕ) → Seen Number n → n < 2 ^ 32
number_fits n s = unsigned_fits 32 s.bytes n s.spelled

numbers_fit : (ns : List ℕ) (at : ℕ) (a : List ℕ) → Vector Number ns at a → AreBytes a → All (λ n. n < 2 ^ 32) ns
numbers_fit ns at a h b = all_fits Number (λ n. n < 2 ^ 32) number_fits ns (seen_vector Number ns at a h b)

max_fits : (low : ℕ) (high : Option ℕ) (at : ℕ) (a : List ℕ) → Maximum low high at a → (low < 2 ^ 32) × MaxFits high
max_fits low None at a h = (unsigned_fits 32 h.1 low h.4, tt)
max_fits low (Some high) at a h = (unsigned_fits 32 h.4.0 low h.4.3, unsigned_fits 32 h.4.1 high h.4.4)

limits_fit : (l : Limits) → Seen LimitsOf l → LimitsFit l
limits_fit l s = let m = max_fits l.min l.max s.place s.bytes s.spelled in (m.0, m.1)

table_fits : (l : Limits) → Seen TableType l → LimitsFit l
table_fits l s = let h = s.spelled in let m = max_fits l.min l.max (s.place + length h.0) h.1 h.4 in (m.0, m.1)

-- an instruction's operands fit
operands_fit : (p : Plain) (at : ℕ) (a : List ℕ) → HasKind p → ImmediatesOf (plain_immediates p) at a → AreBytes a → PlainFits p
operands_fit (basic nop) at a k h b = tt
operands_fit (basic drop) at a k h b = tt
operands_fit (basic select) at a k h b = tt
operands_fit (basic (const (value_32 n))) at a k h b = signed_fits 32 a n h
operands_fit (basic (const (value_64 n))) at a k h b = signed_fits 64 a n h
operands_fit (basic (num op)) at a k h b = tt
operands_fit (basic (global_get x)) at a k h b = unsigned_fits 32 a x h
operands_fit (basic (global_set x)) at a k h b = unsigned_fits 32 a x h
operands_fit (basic (load op align offset)) at a k h b = (k, unsigned_fits 32 h.0 align h.3, unsigned_fits 32 h.1 offset h.4)
operands_fit (basic (store op align offset)) at a k h b = (k, unsigned_fits 32 h.0 align h.3, unsigned_fits 32 h.1 offset h.4)
operands_fit (basic memory_size) at a k h b = tt
operands_fit (basic memory_grow) at a k h b = tt
operands_fit (basic memory_copy) at a k h b = tt
operands_fit (basic memory_fill) at a k h b = tt
operands_fit (local_get x) at a k h b = unsigned_fits 32 a x h
operands_fit (local_set x) at a k h b = unsigned_fits 32 a x h
operands_fit (local_tee x) at a k h b = unsigned_fits 32 a x h
operands_fit (br x) at a k h b = unsigned_fits 32 a x h
operands_fit (br_if x) at a k h b = unsigned_fits 32 a x h
operands_fit (br_table targets last) at a k h b = (numbers_fit targets at h.0 h.3 (left_bytes h.0 h.1 (subst AreBytes h.2 b)), unsigned_fits 32 h.1 last h.4)
operands_fit return at a k h b = tt
operands_fit unreachable at a k h b = tt
operands_fit (call x) at a k h b = unsigned_fits 32 a x h
operands_fit (call_indirect x) at a k h b = unsigned_fits 32 h.0 x h.3

plain_fits : (op : Placed) (o : Immediates) (p : Plain) (at : ℕ) (a : List ℕ) → ImmediatesOf o at a → AreBytes a → IsPlain op o p → PlainFits p
plain_fits op o p at a h b i = operands_fit p at a i.kind (subst (λ z. ImmediatesOf z at a) i.follows h) b

code_fits : (x : RawCode) (c e : Code) (first_arm : Bool) (at : ℕ) (a : List ℕ) → CodeOf first_arm x at a → AreBytes a → IsCode x c e → CodeFits c × CodeFits e
code_fits (ended k) done e first_arm at a h b i = (tt, subst CodeFits (sym i) tt)
code_fits (ended k) (plain p r) e first_arm at a h b i = absurd i
code_fits (ended k) (nest s r y m) e first_arm at a h b i = absurd i
code_fits (ended k) (branch r y z m) e first_arm at a h b i = absurd i
code_fits (otherwise k x) done e first_arm at a h b i =
    let t = h.1 in
    (tt, (code_fits x e done false (at + length t.0) t.1 t.4 (right_bytes t.0 t.1 (subst AreBytes t.2 b)) i).0)
code_fits (otherwise k x) (plain p r) e first_arm at a h b i = absurd i
code_fits (otherwise k x) (nest s r y m) e first_arm at a h b i = absurd i
code_fits (otherwise k x) (branch r y z m) e first_arm at a h b i = absurd i
code_fits (instr op o x) (plain p c) e first_arm at a h b i =
    let t = h.1 in
    let u = t.4 in
    let c1 = right_bytes t.0 t.1 (subst AreBytes t.2 b) in
    let c2 = subst AreBytes u.2 c1 in
    let r = code_fits x c e first_arm (at + length t.0 + length u.0) u.1 u.4 (right_bytes u.0 u.1 c2) i.1 in
    ((plain_fits op o p (at + length t.0) u.0 u.3 (left_bytes u.0 u.1 c2) i.0, r.0), r.1)
code_fits (instr op o x) done e first_arm at a h b i = absurd i
code_fits (instr op o x) (nest s r y m) e first_arm at a h b i = absurd i
code_fits (instr op o x) (branch r y z m) e first_arm at a h b i = absurd i
code_fits (nested op t x y) (nest s r c m) e first_arm at a h b i =
    let f = h.1 in
    let g = f.4 in
    let j = g.4 in
    let c1 = right_bytes f.0 f.1 (subst AreBytes f.2 b) in
    let c2 = right_bytes g.0 g.1 (subst AreBytes g.2 c1) in
    let c3 = subst AreBytes j.2 c2 in
    let v = code_fits x c done false (at + length f.0 + length g.0) j.0 j.3 (left_bytes j.0 j.1 c3) i.2 in
    let w = code_fits y m e first_arm (at + length f.0 + length g.0 + length j.0) j.1 j.4 (right_bytes j.0 j.1 c3) i.3 in
    ((v.0, w.0), w.1)
code_fits (nested op t x y) done e first_arm at a h b i = absurd i
code_fits (nested op t x y) (plain p r) e first_arm at a h b i = absurd i
code_fits (nested op t x y) (branch r c d m) e first_arm at a h b i = absurd i
code_fits (branched op t x y) (branch r c d m) e first_arm at a h b i =
    let f = h.1 in
    let g = f.4 in
    let j = g.4 in
    let c1 = right_bytes f.0 f.1 (subst AreBytes f.2 b) in
    let c2 = right_bytes g.0 g.1 (subst AreBytes g.2 c1) in
    let c3 = subst AreBytes j.2 c2 in
    let v = code_fits x c d true (at + length f.0 + length g.0) j.0 j.3 (left_bytes j.0 j.1 c3) i.1 in
    let w = code_fits y m e first_arm (at + length f.0 + length g.0 + length j.0) j.1 j.4 (right_bytes j.0 j.1 c3) i.2 in
    ((v.0, v.1, w.0), w.1)
code_fits (branched op t x y) done e first_arm at a h b i = absurd i
code_fits (branched op t x y) (plain p r) e first_arm at a h b i = absurd i
code_fits (branched op t x y) (nest s r c m) e first_arm at a h b i = absurd i

text_fits : (n : List ℕ) (at : ℕ) (a : List ℕ) → Text n at a → IsUtf8 n
text_fits n at a h = h.4.1

kind_fits : (x : RawKind) (k : ImportKind) (at : ℕ) (a : List ℕ) → ImportKindOf x at a → AreBytes a → IsKind x k → KindFits k
kind_fits (raw_func sort) k at a h b i = subst KindFits (sym i) (unsigned_fits 32 h.1 sort h.4)
kind_fits (raw_table l) k at a h b i = subst KindFits (sym i) (table_fits l (record { place = at + length h.0; bytes = h.1; spelled = h.4; are_bytes = right_bytes h.0 h.1 (subst AreBytes h.2 b) }))
kind_fits (raw_memory l) k at a h b i = subst KindFits (sym i) (limits_fit l (record { place = at + length h.0; bytes = h.1; spelled = h.4; are_bytes = right_bytes h.0 h.1 (subst AreBytes h.2 b) }))
kind_fits (raw_global t m) k at a h b i = subst KindFits (sym i.1) tt

import_fits : (x : RawImport) (i : Import) → Seen ImportOf x → IsImport x i → ImportFits i
import_fits x i s r =
    let h = s.spelled in
    let g = h.4 in
    let c = subst AreBytes g.2 (right_bytes h.0 h.1 (subst AreBytes h.2 s.are_bytes)) in
    record {
      module_name = subst IsUtf8 (sym r.module_name) (text_fits x.module_name s.place h.0 h.3);
      base = subst IsUtf8 (sym r.base) (text_fits x.base (s.place + length h.0) g.0 g.3);
      kind = kind_fits x.kind i.kind (s.place + length h.0 + length g.0) g.1 g.4 (right_bytes g.0 g.1 c) r.kind;
    }

global_fits : (x : RawGlobal) (g : GlobalDef) → Seen GlobalOf x → IsGlobal x g → CodeFits g.init
global_fits x g s r =
    let h = s.spelled in
    (code_fits x.init g.init done false (s.place + length h.0) h.1 h.4 (right_bytes h.0 h.1 (subst AreBytes h.2 s.are_bytes)) r.init).0

export_fits : (x : Export) → Seen ExportOf x → ExportFits x
export_fits x s = let h = s.spelled in record { name = text_fits x.name s.place h.0 h.3; index = unsigned_fits 32 h.4.1 x.index h.4.4 }

elem_fits : (x : RawElem) (e : Elem) → Seen ElementOf x → IsElem x e → ElemFits e
elem_fits x e s r =
    let h = s.spelled in
    let g = h.4 in
    let c = subst AreBytes g.2 (right_bytes h.0 h.1 (subst AreBytes h.2 s.are_bytes)) in
    record {
      table = subst (λ n. n < 2 ^ 32) (sym r.table) (unsigned_fits 32 h.0 x.table h.3);
      offset = (code_fits x.offset e.offset done false (s.place + length h.0) g.0 g.3 (left_bytes g.0 g.1 c) r.offset).0;
      funcs = subst (All (λ n. n < 2 ^ 32)) (sym r.funcs) (numbers_fit x.funcs (s.place + length h.0 + length g.0) g.1 g.4 (right_bytes g.0 g.1 c));
    }

segment_fits : (x : RawSegment) (e : Segment) → Seen SegmentOf x → IsSegment x e → SegmentFits e
segment_fits x e s r =
    let h = s.spelled in
    let g = h.4 in
    let c = subst AreBytes g.2 (right_bytes h.0 h.1 (subst AreBytes h.2 s.are_bytes)) in
    let v = g.4 in
    let d = right_bytes v.0 v.1 (subst AreBytes v.2 (right_bytes g.0 g.1 c)) in
    record {
      memory = subst (λ n. n < 2 ^ 32) (sym r.memory) (unsigned_fits 32 h.0 x.memory h.3);
      offset = (code_fits x.offset e.offset done false (s.place + length h.0) g.0 g.3 (left_bytes g.0 g.1 c) r.offset).0;
      bytes = subst AreBytes (v.4 ∙ sym r.bytes) d;
    }

run_fits : (x : RawRun) (r : Run) → Seen RunOf x → IsRun x r → r.count < 2 ^ 32
run_fits x r s i = subst (λ n. n < 2 ^ 32) (sym i.count) (unsigned_fits 32 s.spelled.0 x.count s.spelled.3)

-- what bodies say of functions
body_fits : (x : RawBody) (f : Func) → Seen BodyOf x → IsBody x f → f.sort < 2 ^ 32 → FuncFits f
body_fits x f s r n =
    let h = s.spelled in
    let g = h.4.1 in
    let c = subst AreBytes g.2 (right_bytes h.0 h.1 (subst AreBytes h.2 s.are_bytes)) in
    record {
      sort = n;
      locals = each_fits RunOf IsRun (λ (r : Run). r.count < 2 ^ 32) run_fits x.locals f.locals (seen_vector RunOf x.locals (s.place + length h.0) g.0 g.3 (left_bytes g.0 g.1 c)) r.locals;
      body = (code_fits x.code f.body done false (s.place + length h.0 + length g.0) g.1 g.4 (right_bytes g.0 g.1 c) r.body).0;
    }

funcs_fit : (xs : List RawBody) (fs : List Func) (ns : List ℕ) → All (Seen BodyOf) xs → AllZip IsBody xs fs → map (λ (f : Func). f.sort) fs ≡ ns → All (λ n. n < 2 ^ 32) ns → All FuncFits fs
funcs_fit [] [] ns s e m a = none_seen FuncFits
funcs_fit [] (f ∷ fs) ns s e m a = absurd e
funcs_fit (x ∷ xs) [] ns s e m a = absurd e
funcs_fit (x ∷ xs) (f ∷ fs) ns s e m a =
    let b : All (λ n. n < 2 ^ 32) (f.sort ∷ map (λ (f : Func). f.sort) fs) = subst (All (λ n. n < 2 ^ 32)) (sym m) a in
    All-cons FuncFits f fs
    (body_fits x f (All-head (Seen BodyOf) x xs s) e.0 (All-head (λ n. n < 2 ^ 32) f.sort (map (λ (f : Func). f.sort) fs) b))
    (funcs_fit xs fs (map (λ (f : Func). f.sort) fs) (All-tail (Seen BodyOf) x xs s) e.1 refl (All-tail (λ n. n < 2 ^ 32) f.sort (map (λ (f : Func). f.sort) fs) b))

-- what a section of entries holds is seen
section_seen : {X : Type 0} (f : X → ℕ → List ℕ → Type 0) (xs : List X) (id at : ℕ) (a : List ℕ) → (Exactly (id ∷ []) ▸ Sized (Vector f xs)) at a → AreBytes a → All (Seen f) xs
section_seen f xs id at a h b =
    let z = h.4.1 in
    let c1 = right_bytes h.0 h.1 (subst AreBytes h.2 b) in
    let c2 = right_bytes z.0 z.1 (subst AreBytes z.2 c1) in
    seen_vector f xs (at + length h.0 + length z.0) z.1 z.4.1 c2

-- what all sections hold
held_seen : {X : Type 0} (f : X → ℕ → List ℕ → Type 0) (g : Section → List X) → ((s : Section) (at : ℕ) (a : List ℕ) → SectionOf s at a → AreBytes a → All (Seen f) (g s))
    → (ss : List Section) (at : ℕ) (a : List ℕ) → Items SectionOf ss at a → AreBytes a → All (Seen f) (flat_map g ss)
held_seen f g w [] at a h b = none_seen (Seen f)
held_seen f g w (s ∷ ss) at a h b =
    let c = subst AreBytes h.2 b in
    All-append (Seen f) (g s) (flat_map g ss) (w s at h.0 h.3 (left_bytes h.0 h.1 c)) (held_seen f g w ss (at + length h.0) h.1 h.4 (right_bytes h.0 h.1 c))

imports_seen : (s : Section) (at : ℕ) (a : List ℕ) → SectionOf s at a → AreBytes a → All (Seen ImportOf) (imports_in s)
imports_seen (imports xs) at a h b = section_seen ImportOf xs 2 at a h b
imports_seen _ at a h b = none_seen (Seen ImportOf)

sorts_seen : (s : Section) (at : ℕ) (a : List ℕ) → SectionOf s at a → AreBytes a → All (Seen Number) (sorts_in s)
sorts_seen (functions xs) at a h b = section_seen Number xs 3 at a h b
sorts_seen _ at a h b = none_seen (Seen Number)

tables_seen : (s : Section) (at : ℕ) (a : List ℕ) → SectionOf s at a → AreBytes a → All (Seen TableType) (tables_in s)
tables_seen (tables xs) at a h b = section_seen TableType xs 4 at a h b
tables_seen _ at a h b = none_seen (Seen TableType)

memories_seen : (s : Section) (at : ℕ) (a : List ℕ) → SectionOf s at a → AreBytes a → All (Seen LimitsOf) (memories_in s)
memories_seen (memories xs) at a h b = section_seen LimitsOf xs 5 at a h b
memories_seen _ at a h b = none_seen (Seen LimitsOf)

globals_seen : (s : Section) (at : ℕ) (a : List ℕ) → SectionOf s at a → AreBytes a → All (Seen GlobalOf) (globals_in s)
globals_seen (globals xs) at a h b = section_seen GlobalOf xs 6 at a h b
globals_seen _ at a h b = none_seen (Seen GlobalOf)

exports_seen : (s : Section) (at : ℕ) (a : List ℕ) → SectionOf s at a → AreBytes a → All (Seen ExportOf) (exports_in s)
exports_seen (exports xs) at a h b = section_seen ExportOf xs 7 at a h b
exports_seen _ at a h b = none_seen (Seen ExportOf)

elements_seen : (s : Section) (at : ℕ) (a : List ℕ) → SectionOf s at a → AreBytes a → All (Seen ElementOf) (elements_in s)
elements_seen (elements xs) at a h b = section_seen ElementOf xs 9 at a h b
elements_seen _ at a h b = none_seen (Seen ElementOf)

bodies_seen : (s : Section) (at : ℕ) (a : List ℕ) → SectionOf s at a → AreBytes a → All (Seen BodyOf) (bodies_in s)
bodies_seen (bodies xs) at a h b = section_seen BodyOf xs 10 at a h b
bodies_seen _ at a h b = none_seen (Seen BodyOf)

segments_seen : (s : Section) (at : ℕ) (a : List ℕ) → SectionOf s at a → AreBytes a → All (Seen SegmentOf) (segments_in s)
segments_seen (segments xs) at a h b = section_seen SegmentOf xs 11 at a h b
segments_seen _ at a h b = none_seen (Seen SegmentOf)

starts_seen : (s : Section) (at : ℕ) (a : List ℕ) → SectionOf s at a → AreBytes a → All (Seen Number) (starts_in s)
starts_seen (start x) at a h b =
    let z = h.4.1 in
    let c1 = right_bytes h.0 h.1 (subst AreBytes h.2 b) in
    All-cons (Seen Number) x [] (record { place = at + length h.0 + length z.0; bytes = z.1; spelled = z.4.1; are_bytes = right_bytes z.0 z.1 (subst AreBytes z.2 c1) }) (none_seen (Seen Number))
starts_seen _ at a h b = none_seen (Seen Number)

start_fits : (o : Option ℕ) (xs : List ℕ) → option_to_list o ≡ xs → All (λ n. n < 2 ^ 32) xs → StartFits o
start_fits None xs e a = tt
start_fits (Some x) xs e a = All-head (λ n. n < 2 ^ 32) x [] (subst (All (λ n. n < 2 ^ 32)) (sym e) a)

id_small : (s : Section) → section_id s < 2 ^ 8
id_small (custom n t) = omega arith
id_small (types xs) = omega arith
id_small (imports xs) = omega arith
id_small (functions xs) = omega arith
id_small (tables xs) = omega arith
id_small (memories xs) = omega arith
id_small (globals xs) = omega arith
id_small (exports xs) = omega arith
id_small (start x) = omega arith
id_small (elements xs) = omega arith
id_small (bodies xs) = omega arith
id_small (segments xs) = omega arith

customs_fit : (ss : List Section) (last at : ℕ) (a : List ℕ) → last < 2 ^ 8 → Items SectionOf ss at a → AreBytes a → All CustomFits (customs_of last ss)
customs_fit [] last at a l h b = none_seen CustomFits
customs_fit (custom n t ∷ ss) last at a l h b =
    let c = subst AreBytes h.2 b in
    let s = h.3 in
    let z = s.4.1 in
    let v = z.4.1 in
    let c1 = right_bytes s.0 s.1 (subst AreBytes s.2 (left_bytes h.0 h.1 c)) in
    let c2 = right_bytes z.0 z.1 (subst AreBytes z.2 c1) in
    All-cons CustomFits (record { after = last; name = n; bytes = t }) (customs_of last ss)
    (record { after = l; name = text_fits n (at + length s.0 + length z.0) v.0 v.3; bytes = subst AreBytes v.4 (right_bytes v.0 v.1 (subst AreBytes v.2 c2)) })
    (customs_fit ss last (at + length h.0) h.1 l h.4 (right_bytes h.0 h.1 c))
customs_fit (types xs ∷ ss) last at a l h b = customs_fit ss (section_id (types xs)) (at + length h.0) h.1 (id_small (types xs)) h.4 (right_bytes h.0 h.1 (subst AreBytes h.2 b))
customs_fit (imports xs ∷ ss) last at a l h b = customs_fit ss (section_id (imports xs)) (at + length h.0) h.1 (id_small (imports xs)) h.4 (right_bytes h.0 h.1 (subst AreBytes h.2 b))
customs_fit (functions xs ∷ ss) last at a l h b = customs_fit ss (section_id (functions xs)) (at + length h.0) h.1 (id_small (functions xs)) h.4 (right_bytes h.0 h.1 (subst AreBytes h.2 b))
customs_fit (tables xs ∷ ss) last at a l h b = customs_fit ss (section_id (tables xs)) (at + length h.0) h.1 (id_small (tables xs)) h.4 (right_bytes h.0 h.1 (subst AreBytes h.2 b))
customs_fit (memories xs ∷ ss) last at a l h b = customs_fit ss (section_id (memories xs)) (at + length h.0) h.1 (id_small (memories xs)) h.4 (right_bytes h.0 h.1 (subst AreBytes h.2 b))
customs_fit (globals xs ∷ ss) last at a l h b = customs_fit ss (section_id (globals xs)) (at + length h.0) h.1 (id_small (globals xs)) h.4 (right_bytes h.0 h.1 (subst AreBytes h.2 b))
customs_fit (exports xs ∷ ss) last at a l h b = customs_fit ss (section_id (exports xs)) (at + length h.0) h.1 (id_small (exports xs)) h.4 (right_bytes h.0 h.1 (subst AreBytes h.2 b))
customs_fit (start xs ∷ ss) last at a l h b = customs_fit ss (section_id (start xs)) (at + length h.0) h.1 (id_small (start xs)) h.4 (right_bytes h.0 h.1 (subst AreBytes h.2 b))
customs_fit (elements xs ∷ ss) last at a l h b = customs_fit ss (section_id (elements xs)) (at + length h.0) h.1 (id_small (elements xs)) h.4 (right_bytes h.0 h.1 (subst AreBytes h.2 b))
customs_fit (bodies xs ∷ ss) last at a l h b = customs_fit ss (section_id (bodies xs)) (at + length h.0) h.1 (id_small (bodies xs)) h.4 (right_bytes h.0 h.1 (subst AreBytes h.2 b))
customs_fit (segments xs ∷ ss) last at a l h b = customs_fit ss (section_id (segments xs)) (at + length h.0) h.1 (id_small (segments xs)) h.4 (right_bytes h.0 h.1 (subst AreBytes h.2 b))

-- Bytes spell a module that is well formed.
pub spelled_fits : (bytes : List ℕ) (m : Module) → AreBytes bytes → SpellsModule bytes m → WellFormed m
spelled_fits bytes m b s =
    let p = s.spells.parts in
    let at = 0 + length p.0 in
    let c = right_bytes p.0 p.1 (subst AreBytes p.2 b) in
    let ss = s.sections in
    let i = s.is_module in
    record {
      imports = each_fits ImportOf IsImport ImportFits import_fits (flat_map imports_in ss) m.imports (held_seen ImportOf imports_in imports_seen ss at p.1 p.4 c) i.imports;
      funcs = funcs_fit (flat_map bodies_in ss) m.funcs (flat_map sorts_in ss) (held_seen BodyOf bodies_in bodies_seen ss at p.1 p.4 c) i.funcs i.sorts
          (all_fits Number (λ n. n < 2 ^ 32) number_fits (flat_map sorts_in ss) (held_seen Number sorts_in sorts_seen ss at p.1 p.4 c));
      tables = subst (All LimitsFit) (sym i.tables) (all_fits TableType LimitsFit table_fits (flat_map tables_in ss) (held_seen TableType tables_in tables_seen ss at p.1 p.4 c));
      memories = subst (All LimitsFit) (sym i.memories) (all_fits LimitsOf LimitsFit limits_fit (flat_map memories_in ss) (held_seen LimitsOf memories_in memories_seen ss at p.1 p.4 c));
      globals = each_fits GlobalOf IsGlobal (λ (g : GlobalDef). CodeFits g.init) global_fits (flat_map globals_in ss) m.globals (held_seen GlobalOf globals_in globals_seen ss at p.1 p.4 c) i.globals;
      exports = subst (All ExportFits) (sym i.exports) (all_fits ExportOf ExportFits export_fits (flat_map exports_in ss) (held_seen ExportOf exports_in exports_seen ss at p.1 p.4 c));
      start = start_fits m.start (flat_map starts_in ss) i.start (all_fits Number (λ n. n < 2 ^ 32) number_fits (flat_map starts_in ss) (held_seen Number starts_in starts_seen ss at p.1 p.4 c));
      elems = each_fits ElementOf IsElem ElemFits elem_fits (flat_map elements_in ss) m.elems (held_seen ElementOf elements_in elements_seen ss at p.1 p.4 c) i.elems;
      segments = each_fits SegmentOf IsSegment SegmentFits segment_fits (flat_map segments_in ss) m.segments (held_seen SegmentOf segments_in segments_seen ss at p.1 p.4 c) i.segments;
      customs = subst (All CustomFits) (sym i.customs) (customs_fit ss 0 at p.1 (omega arith) p.4 c);
    }
