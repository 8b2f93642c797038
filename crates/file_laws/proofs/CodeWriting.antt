-- The bytes that code is written as spell it.
use Rattle.std.proofs.Common.{◌≡◌, ℕ, suc, ◌+◌, ◌<◌, ◌≤◌, ◌^◌, ◌⊎◌, List, [], ◌∷◌, ◌++◌, Option, Some, None, Bool, true, false, refl, ap, sym, ◌∙◌, subst, arith, append_assoc, length, length-append, IsTrue, nat_eq, nat_lt, nat_le, ◌%◌, ◌/◌, cond, inl, inr, All, flat_map, ◌&&◌, ◌||◌}
use Rattle.std.proofs.lemmas.List.Elements.{All-head, All-tail}
use Rattle.std.proofs.lemmas.Bool.{leb-true, le-leb}
use Rattle.std.specs.List.{AllZip}
use Rattle.wa_types.specs.declared.values.ValType.{ValType}
use Rattle.wa_types.specs.declared.values.ValType.TheVariants.{I32, I64}
use Rattle.wa_types.specs.declared.values.Value.TheVariants.{I32 as value_32, I64 as value_64}
use Rattle.leb_numbers.specs.Leb.{spelled, shortest, shortest_signed}
use Rattle.wa_types.specs.Encoding.{vector, type_byte, block_type_byte, plain_bytes, shape_byte, else_bytes, code_bytes, expression_bytes}
use Rattle.wa_types.specs.Opcodes.{an_access, follows, form, within, is_nest, is_load_op, is_store_op, plain_opcode, plain_immediates}
use Rattle.wa_types.specs.Binary.{Placed, RawCode, ended, otherwise, instr, nested, branched}
use Rattle.wa_types.specs.Spells.{Number, Items, Vector, ValueType, BlockType, ImmediatesOf, CodeOf}
use Rattle.wa_types.specs.Syntax.{Basic, nop, drop, select, const, num, global_get, global_set, load, store, memory_size, memory_grow, memory_copy, memory_fill, Plain, basic, local_get, local_set, local_tee, br, br_if, br_table, return, unreachable, call, call_indirect, Shape, a_block, a_loop, Code, done, plain, nest, branch}
use Rattle.wa_types.specs.Reading.{HasKind, IsCode}
use Rattle.wa_types.specs.Sizes.{PlainFits, CodeFits}
use Rattle.file_laws.proofs.NumberWriting.{shortest_spells, shortest_signed_spells}
use Rattle.file_laws.proofs.OpcodeTable.{num_follows, within_above}

-- A value is written so: the bytes spell something that is the value.
pub record Written {X Y : Type 0} (f : X → ℕ → List ℕ → Type 0) (R : X → Y → Type 0) (y : Y) (at : ℕ) (bytes : List ℕ) : Type 0 where
  pub raw : X
  pub spelled : f raw at bytes
  pub means : R raw y

-- items one behind another
pub write_items : {X Y : Type 0} (f : X → ℕ → List ℕ → Type 0) (R : X → Y → Type 0) (Fits : Y → Type 0) (enc : Y → List ℕ)
    → ((y : Y) → Fits y → length (enc y) < 2 ^ 32 → (at : ℕ) → Written f R y at (enc y)) → (ys : List Y) → All Fits ys → length (flat_map enc ys) < 2 ^ 32 → (at : ℕ)
    → Written (Items f) (AllZip R) ys at (flat_map enc ys)
write_items f R Fits enc w [] a h at = record { raw = []; spelled = refl; means = tt }
write_items f R Fits enc w (y ∷ ys) a h at =
    let s = w y (All-head Fits y ys a) (omega (arith, h, length-append (enc y) (flat_map enc ys))) at in
    let t = write_items f R Fits enc w ys (All-tail Fits y ys a) (omega (arith, h, length-append (enc y) (flat_map enc ys))) (at + length (enc y)) in
    record { raw = s.raw ∷ t.raw; spelled = (enc y, flat_map enc ys, refl, s.spelled, t.spelled); means = (s.means, t.means) }

pub each_length : {X Y : Type 0} (R : X → Y → Type 0) (xs : List X) (ys : List Y) → AllZip R xs ys → length xs ≡ length ys
each_length R [] [] e = refl
each_length R [] (y ∷ ys) e = absurd e
each_length R (x ∷ xs) [] e = absurd e
each_length R (x ∷ xs) (y ∷ ys) e = ap suc (each_length R xs ys e.1)

-- each item has a byte
pub fewer : {Y : Type 0} (enc : Y → List ℕ) → ((y : Y) → 0 < length (enc y)) → (ys : List Y) → length ys ≤ length (flat_map enc ys)
fewer enc some [] = omega arith
fewer enc some (y ∷ ys) = omega (arith, some y, fewer enc some ys, length-append (enc y) (flat_map enc ys))

pub write_vector : {X Y : Type 0} (f : X → ℕ → List ℕ → Type 0) (R : X → Y → Type 0) (Fits : Y → Type 0) (enc : Y → List ℕ)
    → ((y : Y) → Fits y → length (enc y) < 2 ^ 32 → (at : ℕ) → Written f R y at (enc y)) → ((y : Y) → 0 < length (enc y)) → (ys : List Y) → All Fits ys → length (vector enc ys) < 2 ^ 32
    → (at : ℕ) → Written (Vector f) (AllZip R) ys at (vector enc ys)
write_vector f R Fits enc w some ys a h at =
    let head = shortest (length ys) in
    let s = write_items f R Fits enc w ys a (omega (arith, h, length-append head (flat_map enc ys))) (at + length head) in
    let n : length ys < 2 ^ 32 = omega (arith, h, fewer enc some ys, length-append head (flat_map enc ys)) in
    record {
      raw = s.raw;
      spelled = (head, flat_map enc ys, refl, subst (λ z. Number z at head) (sym (each_length R s.raw ys s.means)) (shortest_spells (length ys) n), s.spelled);
      means = s.means;
    }

-- numbers are themselves
abbrev pub Itself : {X : Type 0} → X → X → Type 0
Itself x y = x ≡ y

pub each_itself : {X : Type 0} (xs ys : List X) → AllZip Itself xs ys → xs ≡ ys
each_itself [] [] e = refl
each_itself [] (y ∷ ys) e = absurd e
each_itself (x ∷ xs) [] e = absurd e
each_itself (x ∷ xs) (y ∷ ys) e = λ i. e.0 i ∷ each_itself xs ys e.1 i

pub write_number : (n : ℕ) → n < 2 ^ 32 → length (shortest n) < 2 ^ 32 → (at : ℕ) → Written Number Itself n at (shortest n)
write_number n h l at = record { raw = n; spelled = shortest_spells n h; means = refl }

pub number_some : (n : ℕ) → 0 < length (shortest n)
unfolding spelled
number_some n = elim (nat_lt n 128) as (λ t. 0 < length (cond t (n ∷ []) ((n % 128 + 128) ∷ spelled 9 (n / 128)))) [ true ↦ omega arith | false ↦ omega arith ]

pub write_numbers : (xs : List ℕ) → All (λ x. x < 2 ^ 32) xs → length (vector shortest xs) < 2 ^ 32 → (at : ℕ) → Vector Number xs at (vector shortest xs)
write_numbers xs a h at =
    let w = write_vector Number Itself (λ x. x < 2 ^ 32) shortest write_number number_some xs a h at in
    subst (λ z. Vector Number z at (vector shortest xs)) (each_itself w.raw xs w.means) w.spelled

-- a value type at its place
pub write_type : (t : ValType) → Unit {0} → length (type_byte t ∷ []) < 2 ^ 32 → (at : ℕ) → Written ValueType (λ raw t. raw.byte ≡ type_byte t) t at (type_byte t ∷ [])
write_type I32 u l at = record { raw = record { place = at; byte = 0x7F }; spelled = (refl, (refl, refl)); means = refl }
write_type I64 u l at = record { raw = record { place = at; byte = 0x7E }; spelled = (refl, (refl, refl)); means = refl }

block_type : (r : Option ValType) (at : ℕ) → Written BlockType (λ raw r. raw.byte ≡ block_type_byte r) r at (block_type_byte r ∷ [])
block_type None at = record { raw = record { place = at; byte = 0x40 }; spelled = (refl, (refl, refl)); means = refl }
block_type (Some I32) at = record { raw = record { place = at; byte = 0x7F }; spelled = (refl, (refl, refl)); means = refl }
block_type (Some I64) at = record { raw = record { place = at; byte = 0x7E }; spelled = (refl, (refl, refl)); means = refl }

-- an instruction's opcode and operands
pub record PlainWritten (p : Plain) (at : ℕ) (bytes : List ℕ) : Type 0 where
  pub back : List ℕ
  pub whole : bytes ≡ plain_opcode p ∷ back
  pub spelled : ImmediatesOf (plain_immediates p) (at + 1) back
  pub follows : follows (plain_opcode p) ≡ Some (form (plain_immediates p))
  pub kind : HasKind p

within_inside : (low high n : ℕ) → low ≤ n → n ≤ high → within low high n ≡ true
within_inside low high n h k = rw (le-leb low n h, le-leb n high k) refl

not_equal : (n k : ℕ) → k < n → nat_eq n k ≡ false
not_equal n k h = grind (arith)

access_follows : (op : ℕ) → 0x28 ≤ op → op ≤ 0x3E → follows op ≡ Some an_access
unfolding follows
access_follows op h k =
    rw (
      within_above 0x00 0x01 op (omega (arith, h)),
      within_above 0x0C 0x0D op (omega (arith, h)),
      not_equal op 0x0E (omega (arith, h)),
      not_equal op 0x0F (omega (arith, h)),
      not_equal op 0x10 (omega (arith, h)),
      not_equal op 0x11 (omega (arith, h)),
      within_above 0x1A 0x1B op (omega (arith, h)),
      within_above 0x20 0x24 op (omega (arith, h)),
      within_inside 0x28 0x3E op h k,
    ) refl

in_range : (low high n : ℕ) → within low high n ≡ true → (low ≤ n) × (n ≤ high)
in_range low high n e = halves (nat_le low n) (nat_le n high) refl refl e where
  halves : (a b : Bool) → nat_le low n ≡ a → nat_le n high ≡ b → (a && b) ≡ true → (low ≤ n) × (n ≤ high)
  halves true true f g h = (leb-true low n f, leb-true n high g)
  halves true false f g h = absurd (cc)
  halves false b f g h = absurd (cc)

either_range : (a b c d n : ℕ) → (within a b n || within c d n) ≡ true → ((a ≤ n) × (n ≤ b)) ⊎ ((c ≤ n) × (n ≤ d))
either_range a b c d n e = halves (within a b n) refl e where
  halves : (t : Bool) → within a b n ≡ t → (t || within c d n) ≡ true → ((a ≤ n) × (n ≤ b)) ⊎ ((c ≤ n) × (n ≤ d))
  halves true f h = inl (in_range a b n f)
  halves false f h = inr (in_range c d n h)

pub load_range : (op : ℕ) → IsTrue (is_load_op op) → (0x28 ≤ op) × (op ≤ 0x35)
load_range op h = elim (either_range 0x28 0x29 0x2C 0x35 op h) [ inl r ↦ (r.0, omega (arith, r.1)) | inr r ↦ (omega (arith, r.0), r.1) ]

pub store_range : (op : ℕ) → IsTrue (is_store_op op) → (0x36 ≤ op) × (op ≤ 0x3E)
store_range op h = elim (either_range 0x36 0x37 0x3A 0x3E op h) [ inl r ↦ (r.0, omega (arith, r.1)) | inr r ↦ (omega (arith, r.0), r.1) ]

by_index : (x at : ℕ) → x < 2 ^ 32 → Number x at (shortest x)
by_index x at h = shortest_spells x h

write_basic : (b : Basic) → PlainFits (basic b) → (at : ℕ) → PlainWritten (basic b) at (plain_bytes (basic b))
unfolding follows
write_basic nop h at = record { back = []; whole = refl; spelled = refl; follows = refl; kind = tt }
write_basic drop h at = record { back = []; whole = refl; spelled = refl; follows = refl; kind = tt }
write_basic select h at = record { back = []; whole = refl; spelled = refl; follows = refl; kind = tt }
write_basic (const (value_32 n)) h at = record { back = shortest_signed 32 n; whole = refl; spelled = shortest_signed_spells 32 n (omega arith) (omega arith) h; follows = refl; kind = tt }
write_basic (const (value_64 n)) h at = record { back = shortest_signed 64 n; whole = refl; spelled = shortest_signed_spells 64 n (omega arith) (omega arith) h; follows = refl; kind = tt }
write_basic (num op) h at = record { back = []; whole = refl; spelled = refl; follows = num_follows op; kind = tt }
write_basic (global_get x) h at = record { back = shortest x; whole = refl; spelled = shortest_spells x h; follows = refl; kind = tt }
write_basic (global_set x) h at = record { back = shortest x; whole = refl; spelled = shortest_spells x h; follows = refl; kind = tt }
write_basic (load op align offset) h at =
    let r = load_range op h.0 in
    record {
      back = shortest align ++ shortest offset;
      whole = refl;
      spelled = (shortest align, shortest offset, refl, shortest_spells align h.1, shortest_spells offset h.2);
      follows =
          access_follows op r.0 (omega (arith, r.1));
      kind = h.0;
    }
write_basic (store op align offset) h at =
    let r = store_range op h.0 in
    record {
      back = shortest align ++ shortest offset;
      whole = refl;
      spelled = (shortest align, shortest offset, refl, shortest_spells align h.1, shortest_spells offset h.2);
      follows =
          access_follows op (omega (arith, r.0)) r.1;
      kind = h.0;
    }
write_basic memory_size h at = record { back = 0x00 ∷ []; whole = refl; spelled = refl; follows = refl; kind = tt }
write_basic memory_grow h at = record { back = 0x00 ∷ []; whole = refl; spelled = refl; follows = refl; kind = tt }
write_basic memory_copy h at = record {
  back = shortest 10 ++ 0x00 ∷ 0x00 ∷ [];
  whole = refl;
  spelled = (shortest 10, 0x00 ∷ 0x00 ∷ [], refl, shortest_spells 10 (omega arith), refl);
  follows = refl;
  kind = tt;
}
write_basic memory_fill h at = record {
  back = shortest 11 ++ 0x00 ∷ [];
  whole = refl;
  spelled = (shortest 11, 0x00 ∷ [], refl, shortest_spells 11 (omega arith), refl);
  follows = refl;
  kind = tt;
}

write_plain : (p : Plain) → PlainFits p → length (plain_bytes p) < 2 ^ 32 → (at : ℕ) → PlainWritten p at (plain_bytes p)
unfolding follows
write_plain (basic b) h l at = write_basic b h at
write_plain (local_get x) h l at = record { back = shortest x; whole = refl; spelled = shortest_spells x h; follows = refl; kind = tt }
write_plain (local_set x) h l at = record { back = shortest x; whole = refl; spelled = shortest_spells x h; follows = refl; kind = tt }
write_plain (local_tee x) h l at = record { back = shortest x; whole = refl; spelled = shortest_spells x h; follows = refl; kind = tt }
write_plain (br x) h l at = record { back = shortest x; whole = refl; spelled = shortest_spells x h; follows = refl; kind = tt }
write_plain (br_if x) h l at = record { back = shortest x; whole = refl; spelled = shortest_spells x h; follows = refl; kind = tt }
write_plain (br_table targets last) h l at =
    record {
      back = vector shortest targets ++ shortest last;
      whole = refl;
      spelled = (
        vector shortest targets,
        shortest last,
        refl,
        write_numbers targets h.0 (omega (arith, l, length-append (vector shortest targets) (shortest last))) (at + 1),
        shortest_spells last h.1,
      );
      follows = refl;
      kind = tt;
    }
write_plain return h l at = record { back = []; whole = refl; spelled = refl; follows = refl; kind = tt }
write_plain unreachable h l at = record { back = []; whole = refl; spelled = refl; follows = refl; kind = tt }
write_plain (call x) h l at = record { back = shortest x; whole = refl; spelled = shortest_spells x h; follows = refl; kind = tt }
write_plain (call_indirect x) h l at = record { back = shortest x ++ 0x00 ∷ []; whole = refl; spelled = (shortest x, 0x00 ∷ [], refl, shortest_spells x h, refl); follows = refl; kind = tt }

-- what stands behind a sequence: its end, or an else and the other arm
abbrev Tail : Bool → Code → List ℕ → Type 0
Tail first_arm e tail = (at : ℕ) → (t : RawCode) × CodeOf first_arm t at tail × IsCode t done e

end_tail : (first_arm : Bool) → Tail first_arm done (0x0B ∷ [])
end_tail first_arm at = (ended at, (refl, refl), refl)

-- what the else of an if is written as
abbrev OtherArm : Code → Type 0
OtherArm b = length (code_bytes b ++ 0x0B ∷ []) < 2 ^ 32 → (at : ℕ) → (x : RawCode) × CodeOf false x at (code_bytes b ++ 0x0B ∷ []) × IsCode x b done

else_tail : (b : Code) → length (0x05 ∷ (code_bytes b ++ 0x0B ∷ [])) < 2 ^ 32 → OtherArm b → Tail true b (0x05 ∷ (code_bytes b ++ 0x0B ∷ []))
else_tail b l w at =
    let x = w (omega (arith, l)) (at + 1) in
    (otherwise at x.0, (refl, (0x05 ∷ [], code_bytes b ++ 0x0B ∷ [], refl, (refl, refl), x.1)), x.2)

arm_tail : (b : Code) → length (else_bytes b (code_bytes b) ++ 0x0B ∷ []) < 2 ^ 32 → OtherArm b → Tail true b (else_bytes b (code_bytes b) ++ 0x0B ∷ [])
arm_tail done l w = end_tail true
arm_tail (plain p rest) l w = else_tail (plain p rest) l w
arm_tail (nest s r body rest) l w = else_tail (nest s r body rest) l w
arm_tail (branch r a b rest) l w = else_tail (branch r a b rest) l w

shape_nest : (s : Shape) → IsTrue (is_nest (shape_byte s))
shape_nest a_block = refl
shape_nest a_loop = refl

write_seq : (c : Code) → CodeFits c → (first_arm : Bool) (e : Code) (tail : List ℕ) → Tail first_arm e tail → length (code_bytes c ++ tail) < 2 ^ 32 → (at : ℕ)
    → (x : RawCode) × CodeOf first_arm x at (code_bytes c ++ tail) × IsCode x c e
unfolding code_bytes
write_seq done h first_arm e tail t l at = t at
write_seq (plain p rest) h first_arm e tail t l at =
    let len : length (plain_bytes p) + (length (code_bytes rest) + length tail) < 2 ^ 32 =
    omega (arith, l, length-append (plain_bytes p ++ code_bytes rest) tail, length-append (plain_bytes p) (code_bytes rest)) in
    let w = write_plain p h.0 (omega (arith, len)) at in
    let x = write_seq rest h.1 first_arm e tail t (omega (arith, len, length-append (code_bytes rest) tail)) (at + 1 + length w.back) in
    let op : Placed = record { place = at; byte = plain_opcode p } in (
      instr op (plain_immediates p) x.0,
      (
        w.follows,
        (
          plain_opcode p ∷ [],
          w.back ++ (code_bytes rest ++ tail),
          append_assoc (plain_bytes p) (code_bytes rest) tail ∙ ap (λ z. z ++ (code_bytes rest ++ tail)) w.whole,
          (refl, refl),
          (w.back, code_bytes rest ++ tail, refl, w.spelled, x.1),
        ),
      ),
      (record { opcode = refl; follows = refl; kind = w.kind }, x.2),
    )
write_seq (nest s r body rest) h first_arm e tail t l at =
    let inner = code_bytes body ++ 0x0B ∷ [] in
    let outer = code_bytes rest ++ tail in
    let cut : (code_bytes body ++ 0x0B ∷ code_bytes rest) ++ tail ≡ inner ++ outer = append_assoc (code_bytes body) (0x0B ∷ code_bytes rest) tail
    ∙ sym (append_assoc (code_bytes body) (0x0B ∷ []) outer) in
    let len : 2 + (length inner + length outer) < 2 ^ 32 = omega (arith, l, ap length cut, length-append inner outer) in
    let b = block_type r (at + 1) in
    let x = write_seq body h.0 false done (0x0B ∷ []) (end_tail false) (omega (arith, len)) (at + 1 + 1) in
    let y = write_seq rest h.1 first_arm e tail t (omega (arith, len)) (at + 1 + 1 + length inner) in
    let op : Placed = record { place = at; byte = shape_byte s } in (
      nested op b.raw x.0 y.0,
      (
        shape_nest s,
        (
          shape_byte s ∷ [],
          block_type_byte r ∷ (inner ++ outer),
          ap (λ z. shape_byte s ∷ block_type_byte r ∷ z) cut,
          (refl, refl),
          (block_type_byte r ∷ [], inner ++ outer, refl, b.spelled, (inner, outer, refl, x.1, y.1)),
        ),
      ),
      (refl, b.means, x.2, y.2),
    )
write_seq (branch r a b rest) h first_arm e tail t l at =
    let other = else_bytes b (code_bytes b) in
    let inner = code_bytes a ++ (other ++ 0x0B ∷ []) in
    let outer = code_bytes rest ++ tail in
    let cut : (code_bytes a ++ other ++ 0x0B ∷ code_bytes rest) ++ tail ≡ inner ++ outer =
    append_assoc (code_bytes a ++ other) (0x0B ∷ code_bytes rest) tail ∙ append_assoc (code_bytes a) other (0x0B ∷ outer)
    ∙ ap (λ z. code_bytes a ++ z) (sym (append_assoc other (0x0B ∷ []) outer)) ∙ sym (append_assoc (code_bytes a) (other ++ 0x0B ∷ []) outer) in
    let len : 2 + (length inner + length outer) < 2 ^ 32 = omega (arith, l, ap length cut, length-append inner outer) in
    let len_a : length (code_bytes a) + length (other ++ 0x0B ∷ []) < 2 ^ 32 = omega (arith, len, length-append (code_bytes a) (other ++ 0x0B ∷ [])) in
    let u = block_type r (at + 1) in
    let arms : Tail true b (other ++ 0x0B ∷ []) = arm_tail b (omega (arith, len_a)) (λ m k. write_seq b h.1 false done (0x0B ∷ []) (end_tail false) m k) in
    let x = write_seq a h.0 true b (other ++ 0x0B ∷ []) arms (omega (arith, len)) (at + 1 + 1) in
    let y = write_seq rest h.2 first_arm e tail t (omega (arith, len)) (at + 1 + 1 + length inner) in
    let op : Placed = record { place = at; byte = 0x04 } in (
      branched op u.raw x.0 y.0,
      (
        refl,
        (
          0x04 ∷ [],
          block_type_byte r ∷ (inner ++ outer),
          ap (λ z. 0x04 ∷ block_type_byte r ∷ z) cut,
          (refl, refl),
          (block_type_byte r ∷ [], inner ++ outer, refl, u.spelled, (inner, outer, refl, x.1, y.1)),
        ),
      ),
      (u.means, x.2, y.2),
    )

expression_length : (c : Code) → 0 < length (expression_bytes c)
expression_length c = omega (arith, length-append (code_bytes c) (0x0B ∷ []))

-- an expression is written so
pub write_expression : (c : Code) → CodeFits c → length (expression_bytes c) < 2 ^ 32 → (at : ℕ) → Written (CodeOf false) (λ raw c. IsCode raw c done) c at (expression_bytes c)
write_expression c h l at =
    let w = write_seq c h false done (0x0B ∷ []) (end_tail false) l at in
    record { raw = w.0; spelled = w.1; means = w.2 }
