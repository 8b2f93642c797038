-- Bytes spell at most one code, and one file.
use Rattle.std.proofs.Common.{◌≡◌, ℕ, ◌+◌, List, [], ◌∷◌, ◌++◌, Option, Some, Bool, true, false, refl, ap, sym, ◌∙◌, subst, arith, append_assoc, length, length-append, IsTrue, nat_eq, cond, inl, inr}
use Rattle.wa_types.specs.Encoding.{preamble}
use Rattle.wa_types.specs.Opcodes.{Form, follows, form, zeros_of, is_nest}
use Rattle.wa_types.specs.Binary.{Placed, Immediates, nothing, zero_byte, index, index_and_zero, access, labels, constant, float, bulk, RawCode, ended, otherwise, instr, nested, branched, Section}
use Rattle.wa_types.specs.Binary.{custom, types, imports, functions, tables, memories, globals, exports, start, elements, bodies, segments, section_id}
use Rattle.wa_types.specs.Spells.{◌▸◌, Exactly, Number, SignedNumber, Items, Vector, Filling, Sized, Text, Byte, ValueType, BlockType, FunctionType, LimitsOf, TableType, GlobalType}
use Rattle.wa_types.specs.Spells.{ImmediatesOf, CodeOf, ImportOf, GlobalOf, ExportOf, ElementOf, RunOf, BodyOf, SegmentOf, ContentOf, SectionOf, Spells}
use Rattle.file_laws.proofs.Items.{same_cut}
use Rattle.file_laws.proofs.CodeReads.{nest_range, refuted, none_nest}
use Rattle.file_laws.proofs.Unique.{Same, One, Pair, one_pair, one_view, one_exact, one_number, one_signed, one_vector, one_text, one_byte, one_value_type, one_block_type, one_global_type}
use Rattle.file_laws.proofs.Unique.{one_function_type, one_limits, one_table, one_import, one_export, heads, one_head}

same_zeros : (o p : Option (List ℕ)) (zs ys : List ℕ) → o ≡ Some zs → p ≡ Some ys → o ≡ p → zs ≡ ys
same_zeros o p zs ys e f g = cc

-- what follows an opcode, of one shape
one_operands : (x y : Immediates) (at : ℕ) (a b c d : List ℕ) → form x ≡ form y → ImmediatesOf x at a → ImmediatesOf y at c → a ++ b ≡ c ++ d → Same x y a c
one_operands nothing nothing at a b c d n h k e = record { value = refl; front = h ∙ sym k }
one_operands zero_byte zero_byte at a b c d n h k e = record { value = refl; front = h ∙ sym k }
one_operands (index x) (index y) at a b c d n h k e = let o = one_number x y at a b c d h k e in record { value = ap (λ z. index z) o.value; front = o.front }
one_operands (index_and_zero x) (index_and_zero y) at a b c d n h k e =
    let o = one_pair Number (λ (u : Unit {0}). Exactly (0x00 ∷ [])) one_number (one_exact (0x00 ∷ [])) (x, tt) (y, tt) at a b c d h k e in
    record { value = ap (λ z. index_and_zero z.0) o.value; front = o.front }
one_operands (access x u) (access y v) at a b c d n h k e =
    let o = one_pair Number Number one_number one_number (x, u) (y, v) at a b c d h k e in
    record { value = ap (λ z. access z.0 z.1) o.value; front = o.front }
one_operands (labels x u) (labels y v) at a b c d n h k e =
    let o = one_pair (Vector Number) Number (one_vector Number one_number) one_number (x, u) (y, v) at a b c d h k e in
    record { value = ap (λ z. labels z.0 z.1) o.value; front = o.front }
one_operands (constant bits x) (constant bytes y) at a b c d n h k e =
    let same : bits ≡ bytes = constant_bits n in
    let o = one_signed bits x y at a b c d h (subst (λ z. SignedNumber z y at c) (sym same) k) e in
    record { value = λ i. constant (same i) (o.value i); front = o.front } where
      constant_bits : form (constant bits x) ≡ form (constant bytes y) → bits ≡ bytes
      constant_bits p = cc
one_operands (float x) (float y) at a b c d n h k e =
    let same : length x ≡ length y = float_size n in
    let cut = (same_cut a b c d e (ap length h ∙ same ∙ ap length (sym k))).0 in
    record { value = ap (λ z. float z) (sym h ∙ cut ∙ k); front = cut } where
      float_size : form (float x) ≡ form (float y) → length x ≡ length y
      float_size p = cc
one_operands (bulk x) (bulk y) at a b c d n h k e =
    let cut : h.0 ++ (h.1 ++ b) ≡ k.0 ++ (k.1 ++ d) = sym (append_assoc h.0 h.1 b) ∙ ap (λ z. z ++ b) (sym h.2) ∙ e ∙ ap (λ z. z ++ d) k.2 ∙ append_assoc k.0 k.1 d in
    let o = one_number x y at h.0 (h.1 ++ b) k.0 (k.1 ++ d) h.3 k.3 cut in
    let zeros = same_zeros (zeros_of x) (zeros_of y) h.1 k.1 h.4 k.4 (ap zeros_of o.value) in
    record { value = ap (λ z. bulk z) o.value; front = h.2 ∙ ap (λ z. z ++ h.1) o.front ∙ ap (λ z. k.0 ++ z) zeros ∙ sym k.2 }
one_operands nothing _ at a b c d n h k e = absurd (cc)
one_operands zero_byte _ at a b c d n h k e = absurd (cc)
one_operands (index x) _ at a b c d n h k e = absurd (cc)
one_operands (index_and_zero x) _ at a b c d n h k e = absurd (cc)
one_operands (access x u) _ at a b c d n h k e = absurd (cc)
one_operands (labels x u) _ at a b c d n h k e = absurd (cc)
one_operands (constant bits x) _ at a b c d n h k e = absurd (cc)
one_operands (float x) _ at a b c d n h k e = absurd (cc)
one_operands (bulk x) _ at a b c d n h k e = absurd (cc)

-- which instruction an opcode begins
op_class : ℕ → ℕ
op_class op = cond (nat_eq op 0x0B) 0 (cond (nat_eq op 0x05) 1 (cond (is_nest op) 2 (cond (nat_eq op 0x04) 3 4)))

class_of : RawCode → ℕ
class_of (ended k) = 0
class_of (otherwise k arm) = 1
class_of (nested op result body rest) = 2
class_of (branched op result arms rest) = 3
class_of (instr op operands rest) = 4

nest_class : (op : ℕ) → IsTrue (is_nest op) → op_class op ≡ 2
unfolding op_class
nest_class op h = elim (nest_range op h) [
  | inl e ↦ ap op_class e
  | inr e ↦ ap op_class e
]

instr_class : (op : ℕ) (f : Form) → follows op ≡ Some f → op_class op ≡ 4
unfolding op_class follows
instr_class op f e = rw (refuted op 0x0B f e refl, refuted op 0x05 f e refl, none_nest op f e, refuted op 0x04 f e refl) refl

byte_head : (op : Placed) (F : ℕ → List ℕ → Type 0) (at : ℕ) (a : List ℕ) → (Byte op ▸ F) at a → (r : List ℕ) × (a ≡ op.byte ∷ r)
byte_head op F at a h = (h.1, h.2 ∙ ap (λ z. z ++ h.1) h.3.1)

code_head : (x : RawCode) (first_arm : Bool) (at : ℕ) (a : List ℕ) → CodeOf first_arm x at a → (op : ℕ) × (r : List ℕ) × (a ≡ op ∷ r) × (op_class op ≡ class_of x)
unfolding op_class class_of
code_head (ended k) first_arm at a h = (0x0B, [], h.1, refl)
code_head (otherwise k arm) first_arm at a h = let p = byte_head (record { place = k; byte = 0x05 }) (CodeOf false arm) at a h.1 in (0x05, p.0, p.1, refl)
code_head (instr op operands rest) first_arm at a h =
    let p = byte_head op (ImmediatesOf operands ▸ CodeOf first_arm rest) at a h.1 in
    (op.byte, p.0, p.1, instr_class op.byte (form operands) h.0)
code_head (nested op result body rest) first_arm at a h =
    let p = byte_head op (BlockType result ▸ CodeOf false body ▸ CodeOf first_arm rest) at a h.1 in
    (op.byte, p.0, p.1, nest_class op.byte h.0)
code_head (branched op result arms rest) first_arm at a h =
    let p = byte_head op (BlockType result ▸ CodeOf true arms ▸ CodeOf first_arm rest) at a h.1 in
    (op.byte, p.0, p.1, ap op_class h.0)

code_class : (x y : RawCode) (first_arm : Bool) (at : ℕ) (a b c d : List ℕ) → CodeOf first_arm x at a → CodeOf first_arm y at c → a ++ b ≡ c ++ d → class_of x ≡ class_of y
code_class x y first_arm at a b c d h k e =
    let p = code_head x first_arm at a h in
    let q = code_head y first_arm at c k in
    sym p.3 ∙ ap op_class (heads p.0 q.0 p.1 q.1 a b c d p.2 q.2 e) ∙ q.3

-- the parts behind a first one that is the same
record Behind (G H : ℕ → List ℕ → Type 0) (at : ℕ) (a b c d : List ℕ) : Type 0 where
  p : List ℕ
  q : List ℕ
  place : ℕ
  one : G place p
  two : H place q
  cut : p ++ b ≡ q ++ d
  whole : p ≡ q → a ≡ c

behind : {X : Type 0} (f : X → ℕ → List ℕ → Type 0) (G H : ℕ → List ℕ → Type 0) → One f → (x y : X) (at : ℕ) (a b c d : List ℕ) → (f x ▸ G) at a → (f y ▸ H) at c → a ++ b ≡ c ++ d
    → (x ≡ y) × Behind G H at a b c d
behind f G H u x y at a b c d h k e =
    let cut : h.0 ++ (h.1 ++ b) ≡ k.0 ++ (k.1 ++ d) = sym (append_assoc h.0 h.1 b) ∙ ap (λ z. z ++ b) (sym h.2) ∙ e ∙ ap (λ z. z ++ d) k.2 ∙ append_assoc k.0 k.1 d in
    let s = u x y at h.0 (h.1 ++ b) k.0 (k.1 ++ d) h.3 k.3 cut in (
      s.value,
      record {
        p = h.1;
        q = k.1;
        place = at + length h.0;
        one = h.4;
        two = subst (λ z. H (at + length z) k.1) (sym s.front) k.4;
        cut = (same_cut h.0 (h.1 ++ b) k.0 (k.1 ++ d) cut (ap length s.front)).1;
        whole = λ r. h.2 ∙ ap (λ z. z ++ h.1) s.front ∙ ap (λ z. k.0 ++ z) r ∙ sym k.2;
      },
    )

some_follows : (e f : Form) → Some e ≡ Some f → e ≡ f
some_follows e f p = cc

one_code : (x y : RawCode) (first_arm : Bool) (at : ℕ) (a b c d : List ℕ) → class_of x ≡ class_of y → CodeOf first_arm x at a → CodeOf first_arm y at c → a ++ b ≡ c ++ d → Same x y a c
unfolding class_of
one_code (ended k) (ended j) first_arm at a b c d n h i e = record { value = ap (λ z. ended z) (sym h.0 ∙ i.0); front = h.1 ∙ sym i.1 }
one_code (otherwise k x) (otherwise j y) first_arm at a b c d n h i e =
    let s = behind Byte (CodeOf false x) (CodeOf false y) one_byte (record { place = k; byte = 0x05 }) (record { place = j; byte = 0x05 }) at a b c d h.1 i.1 e in
    let r = one_code x y false s.1.place s.1.p b s.1.q d (code_class x y false s.1.place s.1.p b s.1.q d s.1.one s.1.two s.1.cut) s.1.one s.1.two s.1.cut in
    record { value = λ t. otherwise (s.0 t).place (r.value t); front = s.1.whole r.front }
one_code (instr op o x) (instr op' o' y) first_arm at a b c d n h i e =
    let s = behind Byte (ImmediatesOf o ▸ CodeOf first_arm x) (ImmediatesOf o' ▸ CodeOf first_arm y) one_byte op op' at a b c d h.1 i.1 e in
    let same : form o ≡ form o' = some_follows (form o) (form o') (sym h.0 ∙ ap (λ z. follows z.byte) s.0 ∙ i.0) in
    let u = s.1.one in
    let v = s.1.two in
    let cut : u.0 ++ (u.1 ++ b) ≡ v.0 ++ (v.1 ++ d) = sym (append_assoc u.0 u.1 b) ∙ ap (λ z. z ++ b) (sym u.2) ∙ s.1.cut ∙ ap (λ z. z ++ d) v.2 ∙ append_assoc v.0 v.1 d in
    let w = one_operands o o' s.1.place u.0 (u.1 ++ b) v.0 (v.1 ++ d) same u.3 v.3 cut in
    let rest = (same_cut u.0 (u.1 ++ b) v.0 (v.1 ++ d) cut (ap length w.front)).1 in
    let t : CodeOf first_arm y (s.1.place + length u.0) v.1 = subst (λ z. CodeOf first_arm y (s.1.place + length z) v.1) (sym w.front) v.4 in
    let r = one_code x y first_arm (s.1.place + length u.0) u.1 b v.1 d (code_class x y first_arm (s.1.place + length u.0) u.1 b v.1 d u.4 t rest) u.4 t rest in
    record { value = λ j. instr (s.0 j) (w.value j) (r.value j); front = s.1.whole (u.2 ∙ ap (λ z. z ++ u.1) w.front ∙ ap (λ z. v.0 ++ z) r.front ∙ sym v.2) }
one_code (nested op t x rest) (nested op' t' y rest') first_arm at a b c d n h i e =
    let s = behind Byte (BlockType t ▸ CodeOf false x ▸ CodeOf first_arm rest) (BlockType t' ▸ CodeOf false y ▸ CodeOf first_arm rest') one_byte op op' at a b c d h.1 i.1 e in
    let u = behind BlockType (CodeOf false x ▸ CodeOf first_arm rest) (CodeOf false y ▸ CodeOf first_arm rest') one_block_type t t' s.1.place s.1.p b s.1.q d s.1.one s.1.two s.1.cut in
    let f = u.1.one in
    let g = u.1.two in
    let cut : f.0 ++ (f.1 ++ b) ≡ g.0 ++ (g.1 ++ d) = sym (append_assoc f.0 f.1 b) ∙ ap (λ z. z ++ b) (sym f.2) ∙ u.1.cut ∙ ap (λ z. z ++ d) g.2 ∙ append_assoc g.0 g.1 d in
    let w = one_code x y false u.1.place f.0 (f.1 ++ b) g.0 (g.1 ++ d) (code_class x y false u.1.place f.0 (f.1 ++ b) g.0 (g.1 ++ d) f.3 g.3 cut) f.3 g.3 cut in
    let last = (same_cut f.0 (f.1 ++ b) g.0 (g.1 ++ d) cut (ap length w.front)).1 in
    let k : CodeOf first_arm rest' (u.1.place + length f.0) g.1 = subst (λ z. CodeOf first_arm rest' (u.1.place + length z) g.1) (sym w.front) g.4 in
    let r = one_code rest rest' first_arm (u.1.place + length f.0) f.1 b g.1 d (code_class rest rest' first_arm (u.1.place + length f.0) f.1 b g.1 d f.4 k last) f.4 k last in
    record { value = λ j. nested (s.0 j) (u.0 j) (w.value j) (r.value j); front = s.1.whole (u.1.whole (f.2 ∙ ap (λ z. z ++ f.1) w.front ∙ ap (λ z. g.0 ++ z) r.front ∙ sym g.2)) }
one_code (branched op t x rest) (branched op' t' y rest') first_arm at a b c d n h i e =
    let s = behind Byte (BlockType t ▸ CodeOf true x ▸ CodeOf first_arm rest) (BlockType t' ▸ CodeOf true y ▸ CodeOf first_arm rest') one_byte op op' at a b c d h.1 i.1 e in
    let u = behind BlockType (CodeOf true x ▸ CodeOf first_arm rest) (CodeOf true y ▸ CodeOf first_arm rest') one_block_type t t' s.1.place s.1.p b s.1.q d s.1.one s.1.two s.1.cut in
    let f = u.1.one in
    let g = u.1.two in
    let cut : f.0 ++ (f.1 ++ b) ≡ g.0 ++ (g.1 ++ d) = sym (append_assoc f.0 f.1 b) ∙ ap (λ z. z ++ b) (sym f.2) ∙ u.1.cut ∙ ap (λ z. z ++ d) g.2 ∙ append_assoc g.0 g.1 d in
    let w = one_code x y true u.1.place f.0 (f.1 ++ b) g.0 (g.1 ++ d) (code_class x y true u.1.place f.0 (f.1 ++ b) g.0 (g.1 ++ d) f.3 g.3 cut) f.3 g.3 cut in
    let last = (same_cut f.0 (f.1 ++ b) g.0 (g.1 ++ d) cut (ap length w.front)).1 in
    let k : CodeOf first_arm rest' (u.1.place + length f.0) g.1 = subst (λ z. CodeOf first_arm rest' (u.1.place + length z) g.1) (sym w.front) g.4 in
    let r = one_code rest rest' first_arm (u.1.place + length f.0) f.1 b g.1 d (code_class rest rest' first_arm (u.1.place + length f.0) f.1 b g.1 d f.4 k last) f.4 k last in
    record { value = λ j. branched (s.0 j) (u.0 j) (w.value j) (r.value j); front = s.1.whole (u.1.whole (f.2 ∙ ap (λ z. z ++ f.1) w.front ∙ ap (λ z. g.0 ++ z) r.front ∙ sym g.2)) }
one_code (ended k) _ first_arm at a b c d n h i e = absurd (omega (arith, n))
one_code (otherwise k x) _ first_arm at a b c d n h i e = absurd (omega (arith, n))
one_code (instr op o x) _ first_arm at a b c d n h i e = absurd (omega (arith, n))
one_code (nested op t x rest) _ first_arm at a b c d n h i e = absurd (omega (arith, n))
one_code (branched op t x rest) _ first_arm at a b c d n h i e = absurd (omega (arith, n))

one_expression : One (CodeOf false)
one_expression x y at a b c d h k e = one_code x y false at a b c d (code_class x y false at a b c d h k e) h k e

one_global : One GlobalOf
one_global = one_view GlobalOf (Pair (λ (t : Placed × Bool). GlobalType t.0 t.1) (CodeOf false)) (λ g. ((g.ty, g.mutable), g.init)) (λ p. record { ty = p.0.0; mutable = p.0.1; init = p.1 })
    (λ g. refl) (λ g at a h. h)
    (one_pair (λ (t : Placed × Bool). GlobalType t.0 t.1) (CodeOf false) one_global_type one_expression)

one_element : One ElementOf
one_element = one_view ElementOf (Pair Number (Pair (CodeOf false) (Vector Number))) (λ g. (g.table, (g.offset, g.funcs))) (λ p. record { table = p.0; offset = p.1.0; funcs = p.1.1 })
    (λ g. refl) (λ g at a h. h)
    (one_pair Number (Pair (CodeOf false) (Vector Number)) one_number (one_pair (CodeOf false) (Vector Number) one_expression (one_vector Number one_number)))

one_run : One RunOf
one_run = one_view RunOf (Pair Number ValueType) (λ g. (g.count, g.ty)) (λ p. record { count = p.0; ty = p.1 }) (λ g. refl) (λ g at a h. h) (one_pair Number ValueType one_number one_value_type)

one_body : One BodyOf
one_body = one_view BodyOf (Pair Number (Pair (Vector RunOf) (CodeOf false))) (λ g. (g.size, (g.locals, g.code))) (λ p. record { size = p.0; locals = p.1.0; code = p.1.1 }) (λ g. refl)
    (λ g at a h. (h.0, h.1, h.2, h.3, h.4.1))
    (one_pair Number (Pair (Vector RunOf) (CodeOf false)) one_number (one_pair (Vector RunOf) (CodeOf false) (one_vector RunOf one_run) one_expression))

-- bytes behind their number
Counted : List ℕ → ℕ → List ℕ → Type 0
Counted xs = Number (length xs) ▸ Exactly xs

one_counted : One Counted
unfolding Counted
one_counted x y at a b c d h k e =
    let s = behind Number (Exactly x) (Exactly y) one_number (length x) (length y) at a b c d h k e in
    let same = (same_cut s.1.p b s.1.q d s.1.cut (ap length s.1.one ∙ s.0 ∙ ap length (sym s.1.two))).0 in
    record { value = sym s.1.one ∙ same ∙ s.1.two; front = s.1.whole same }

one_segment : One SegmentOf
unfolding Counted
one_segment = one_view SegmentOf (Pair Number (Pair (CodeOf false) Counted)) (λ g. (g.memory, (g.offset, g.bytes))) (λ p. record { memory = p.0; offset = p.1.0; bytes = p.1.1 }) (λ g. refl)
    (λ g at a h. h)
    (one_pair Number (Pair (CodeOf false) Counted) one_number (one_pair (CodeOf false) Counted one_expression one_counted))

whole_cut : (a c : List ℕ) → a ≡ c → a ++ [] ≡ c ++ []
whole_cut a c e = ap (λ z. z ++ []) e

-- what a section holds, of all of the same bytes
one_content : (x y : Section) (at : ℕ) (a : List ℕ) → section_id x ≡ section_id y → ContentOf x at a → ContentOf y at a → x ≡ y
one_content (custom n t) (custom m u) at a e h k =
    let s = behind Text (Exactly t) (Exactly u) one_text n m at a [] a [] h k refl in
    let cut = (same_cut s.1.p [] s.1.q [] s.1.cut (omega (arith, ap length s.1.cut, length-append s.1.p [], length-append s.1.q []))).0 in
    λ i. custom (s.0 i) ((sym s.1.one ∙ cut ∙ s.1.two) i)
one_content (types x) (types y) at a e h k = ap (λ z. types z) (one_vector FunctionType one_function_type x y at a [] a [] h k refl).value
one_content (imports x) (imports y) at a e h k = ap (λ z. imports z) (one_vector ImportOf one_import x y at a [] a [] h k refl).value
one_content (functions x) (functions y) at a e h k = ap (λ z. functions z) (one_vector Number one_number x y at a [] a [] h k refl).value
one_content (tables x) (tables y) at a e h k = ap (λ z. tables z) (one_vector TableType one_table x y at a [] a [] h k refl).value
one_content (memories x) (memories y) at a e h k = ap (λ z. memories z) (one_vector LimitsOf one_limits x y at a [] a [] h k refl).value
one_content (globals x) (globals y) at a e h k = ap (λ z. globals z) (one_vector GlobalOf one_global x y at a [] a [] h k refl).value
one_content (exports x) (exports y) at a e h k = ap (λ z. exports z) (one_vector ExportOf one_export x y at a [] a [] h k refl).value
one_content (start x) (start y) at a e h k = ap (λ z. start z) (one_number x y at a [] a [] h k refl).value
one_content (elements x) (elements y) at a e h k = ap (λ z. elements z) (one_vector ElementOf one_element x y at a [] a [] h k refl).value
one_content (bodies x) (bodies y) at a e h k = ap (λ z. bodies z) (one_vector BodyOf one_body x y at a [] a [] h k refl).value
one_content (segments x) (segments y) at a e h k = ap (λ z. segments z) (one_vector SegmentOf one_segment x y at a [] a [] h k refl).value
one_content (custom n t) _ at a e h k = absurd (omega (arith, e))
one_content (types x) _ at a e h k = absurd (omega (arith, e))
one_content (imports x) _ at a e h k = absurd (omega (arith, e))
one_content (functions x) _ at a e h k = absurd (omega (arith, e))
one_content (tables x) _ at a e h k = absurd (omega (arith, e))
one_content (memories x) _ at a e h k = absurd (omega (arith, e))
one_content (globals x) _ at a e h k = absurd (omega (arith, e))
one_content (exports x) _ at a e h k = absurd (omega (arith, e))
one_content (start x) _ at a e h k = absurd (omega (arith, e))
one_content (elements x) _ at a e h k = absurd (omega (arith, e))
one_content (bodies x) _ at a e h k = absurd (omega (arith, e))
one_content (segments x) _ at a e h k = absurd (omega (arith, e))

id_byte : ℕ → ℕ → List ℕ → Type 0
id_byte id = Exactly (id ∷ [])

one_id : One id_byte
unfolding id_byte
one_id x y at a b c d h k e =
    let same = one_head x y b d (sym (ap (λ z. z ++ b) h) ∙ e ∙ ap (λ z. z ++ d) k) in
    record { value = same; front = h ∙ ap (λ z. z ∷ []) same ∙ sym k }

one_section : One SectionOf
unfolding id_byte
one_section x y at a b c d h k e =
    let s = behind id_byte (Sized (ContentOf x)) (Sized (ContentOf y)) one_id (section_id x) (section_id y) at a b c d h k e in
    let u = s.1.one in
    let v = s.1.two in
    let t = behind Number (Filling u.0 (ContentOf x)) (Filling v.0 (ContentOf y)) one_number u.0 v.0 s.1.place s.1.p b s.1.q d u.1 v.1 s.1.cut in
    let same = (same_cut t.1.p b t.1.q d t.1.cut (t.1.one.0 ∙ t.0 ∙ sym t.1.two.0)).0 in
    record {
      value = one_content x y t.1.place t.1.p s.0 t.1.one.1 (subst (ContentOf y t.1.place) (sym same) t.1.two.1);
      front = s.1.whole (t.1.whole same);
    }

one_sections : (xs ys : List Section) (at : ℕ) (a : List ℕ) → Items SectionOf xs at a → Items SectionOf ys at a → xs ≡ ys
one_sections [] [] at a h k = refl
one_sections [] (y ∷ ys) at a h k = absurd (omega (arith, ap length h, ap length k.2, length-append k.0 k.1, ap length k.3.2, ap length k.3.3, length-append k.3.0 k.3.1))
one_sections (x ∷ xs) [] at a h k = absurd (omega (arith, ap length k, ap length h.2, length-append h.0 h.1, ap length h.3.2, ap length h.3.3, length-append h.3.0 h.3.1))
one_sections (x ∷ xs) (y ∷ ys) at a h k =
    let s = behind SectionOf (Items SectionOf xs) (Items SectionOf ys) one_section x y at a [] a [] h k refl in
    let cut = (same_cut s.1.p [] s.1.q [] s.1.cut (omega (arith, ap length s.1.cut, length-append s.1.p [], length-append s.1.q []))).0 in
    let r = one_sections xs ys s.1.place s.1.p s.1.one (subst (Items SectionOf ys s.1.place) (sym cut) s.1.two) in
    λ i. s.0 i ∷ r i

-- Bytes spell at most one file.
pub one_file : (bytes : List ℕ) (x y : List Section) → Spells bytes x → Spells bytes y → x ≡ y
one_file bytes x y s t =
    let u = behind (λ (w : Unit {0}). Exactly preamble) (Items SectionOf x) (Items SectionOf y) (one_exact preamble) tt tt 0 bytes [] bytes [] s.parts t.parts refl in
    let cut = (same_cut u.1.p [] u.1.q [] u.1.cut (omega (arith, ap length u.1.cut, length-append u.1.p [], length-append u.1.q []))).0 in
    one_sections x y u.1.place u.1.p u.1.one (subst (Items SectionOf y u.1.place) (sym cut) u.1.two)
