-- No spelling of code is shorter than the one that it is written in.
use Rattle.std.proofs.Common.{◌≡◌, ℕ, suc, ◌+◌, ◌≤◌, List, [], ◌∷◌, ◌++◌, flat_map, length, refl, ap, sym, subst, arith, length-append, Bool, true, false, Some}
use Rattle.std.specs.List.{AllZip}
use Rattle.leb_numbers.proofs.SignedSpelling.{shortest_signed_least}
use Rattle.wa_types.specs.declared.values.Value.TheVariants.{I32 as value_32, I64 as value_64}
use Rattle.leb_numbers.specs.Leb.{shortest}
use Rattle.wa_types.specs.Encoding.{vector, sized, code_bytes, plain_bytes, else_bytes, expression_bytes}
use Rattle.wa_types.specs.Syntax.{nop, drop, select, const, num, global_get, global_set, load, store, memory_size, memory_grow, memory_copy, memory_fill, Plain, basic, local_get, local_set, local_tee, br, br_if, br_table, return, unreachable, call, call_indirect, Code, done, plain, nest, branch}
use Rattle.wa_types.specs.Binary.{RawCode, ended, otherwise, instr, nested, branched}
use Rattle.wa_types.specs.Spells.{Number, Items, Vector, ImmediatesOf, CodeOf}
use Rattle.wa_types.specs.Reading.{IsCode}
use Rattle.wa_types.specs.Opcodes.{plain_immediates}
use Rattle.wasm_reader.proofs.ShortNumbers.{number_short, shortest_rises}
use Rattle.wasm_reader.proofs.SpelledCodeSizes.{length_split}
use Rattle.wasm_reader.proofs.SpelledSizes.{each_length}

-- items that are each no shorter
pub items_short : {X Y : Type 0} (f : X → ℕ → List ℕ → Type 0) (entry : Y → List ℕ) (R : X → Y → Type 0) → ((x : X) (y : Y) (at : ℕ) (a : List ℕ) → f x at a → R x y → length (entry y) ≤ length a)
    → (xs : List X) (ys : List Y) (at : ℕ) (a : List ℕ) → Items f xs at a → AllZip R xs ys → length (flat_map entry ys) ≤ length a
items_short f entry R w [] [] at a h e = omega arith
items_short f entry R w [] (y ∷ ys) at a h e = absurd e
items_short f entry R w (x ∷ xs) [] at a h e = absurd e
items_short f entry R w (x ∷ xs) (y ∷ ys) at a h e =
    omega (arith, length_split a h.0 h.1 h.2, length-append (entry y) (flat_map entry ys), w x y at h.0 h.3 e.0, items_short f entry R w xs ys (at + length h.0) h.1 h.4 e.1)

pub vector_short : {X Y : Type 0} (f : X → ℕ → List ℕ → Type 0) (entry : Y → List ℕ) (R : X → Y → Type 0) → ((x : X) (y : Y) (at : ℕ) (a : List ℕ) → f x at a → R x y → length (entry y) ≤ length a)
    → (xs : List X) (ys : List Y) (at : ℕ) (a : List ℕ) → Vector f xs at a → AllZip R xs ys → length (vector entry ys) ≤ length a
vector_short f entry R w xs ys at a h e =
    omega (
      arith,
      length_split a h.0 h.1 h.2,
      length-append (shortest (length ys)) (flat_map entry ys),
      number_short (length xs) h.0 h.3,
      ap (λ n. length (shortest n)) (each_length R xs ys e),
      items_short f entry R w xs ys (at + length h.0) h.1 h.4 e,
    )

-- the same thing on both sides
abbrev pub Same : {X : Type 0} → X → X → Type 0
Same x y = y ≡ x

pub each_same : {X : Type 0} (xs : List X) → AllZip Same xs xs
each_same [] = tt
each_same (x ∷ xs) = (refl, each_same xs)

pub index_short : (x y at : ℕ) (a : List ℕ) → Number x at a → Same x y → length (shortest y) ≤ length a
index_short x y at a h e = omega (arith, number_short x a h, ap (λ n. length (shortest n)) e)

pub indices_short : (xs : List ℕ) (at : ℕ) (a : List ℕ) → Vector Number xs at a → length (vector shortest xs) ≤ length a
indices_short xs at a h = vector_short Number shortest Same index_short xs xs at a h (each_same xs)

-- bytes behind a size that is no smaller
pub sized_short : (bytes : List ℕ) (size : ℕ) (a b c : List ℕ) → a ≡ b ++ c → Number size 0 b → length c ≡ size → length bytes ≤ size → length (sized bytes) ≤ length a
sized_short bytes size a b c e n l k =
    omega (arith, length_split a b c e, length-append (shortest (length bytes)) bytes, number_short size b n, shortest_rises (length bytes) size k, l, k)

some_bytes : (zs ys : List ℕ) → Some zs ≡ Some ys → zs ≡ ys
some_bytes zs ys e = cc

operands_short : (p : Plain) (at : ℕ) (a : List ℕ) → ImmediatesOf (plain_immediates p) at a → length (plain_bytes p) ≤ suc (length a)
operands_short (basic nop) at a h = omega arith
operands_short (basic drop) at a h = omega arith
operands_short (basic select) at a h = omega arith
operands_short (basic (const (value_32 n))) at a h = omega (arith, shortest_signed_least 32 n a h)
operands_short (basic (const (value_64 n))) at a h = omega (arith, shortest_signed_least 64 n a h)
operands_short (basic (num op)) at a h = omega arith
operands_short (basic (global_get x)) at a h = omega (arith, number_short x a h)
operands_short (basic (global_set x)) at a h = omega (arith, number_short x a h)
operands_short (basic (load op align offset)) at a h = omega (
  arith,
  length_split a h.0 h.1 h.2,
  length-append (shortest align) (shortest offset),
  number_short align h.0 h.3,
  number_short offset h.1 h.4,
)
operands_short (basic (store op align offset)) at a h = omega (
  arith,
  length_split a h.0 h.1 h.2,
  length-append (shortest align) (shortest offset),
  number_short align h.0 h.3,
  number_short offset h.1 h.4,
)
operands_short (basic memory_size) at a h = omega (arith, ap length h)
operands_short (basic memory_grow) at a h = omega (arith, ap length h)
operands_short (basic memory_copy) at a h =
    let zeros : 0x00 ∷ 0x00 ∷ [] ≡ h.1 = some_bytes (0x00 ∷ 0x00 ∷ []) h.1 h.4 in
    omega (arith, length_split a h.0 h.1 h.2, length-append (shortest 10) (0x00 ∷ 0x00 ∷ []), number_short 10 h.0 h.3, ap length zeros)
operands_short (basic memory_fill) at a h =
    let zeros : 0x00 ∷ [] ≡ h.1 = some_bytes (0x00 ∷ []) h.1 h.4 in
    omega (arith, length_split a h.0 h.1 h.2, length-append (shortest 11) (0x00 ∷ []), number_short 11 h.0 h.3, ap length zeros)
operands_short (local_get x) at a h = omega (arith, number_short x a h)
operands_short (local_set x) at a h = omega (arith, number_short x a h)
operands_short (local_tee x) at a h = omega (arith, number_short x a h)
operands_short (br x) at a h = omega (arith, number_short x a h)
operands_short (br_if x) at a h = omega (arith, number_short x a h)
operands_short (br_table targets last) at a h = omega (
  arith,
  length_split a h.0 h.1 h.2,
  length-append (vector shortest targets) (shortest last),
  indices_short targets at h.0 h.3,
  number_short last h.1 h.4,
)
operands_short return at a h = omega arith
operands_short unreachable at a h = omega arith
operands_short (call x) at a h = omega (arith, number_short x a h)
operands_short (call_indirect x) at a h = omega (arith, length_split a h.0 h.1 h.2, length-append (shortest x) (0x00 ∷ []), number_short x h.0 h.3, ap length h.4)

-- the bytes of code, its end, and the arm behind it
code_length : Code → Code → ℕ
code_length c e = length (code_bytes c) + 1 + length (else_bytes e (code_bytes e))

else_short : (e : Code) → length (else_bytes e (code_bytes e)) ≤ suc (length (code_bytes e))
else_short done = omega arith
else_short (plain p rest) = omega arith
else_short (nest s r b rest) = omega arith
else_short (branch r a b rest) = omega arith

code_short : (x : RawCode) (c e : Code) (first_arm : Bool) (at : ℕ) (a : List ℕ) → CodeOf first_arm x at a → IsCode x c e → code_length c e ≤ length a
unfolding code_length code_bytes
code_short (ended k) done e first_arm at a h i = subst (λ z. 0 + 1 + length (else_bytes z (code_bytes z)) ≤ length a) (sym i) (omega (arith, ap length h.1))
code_short (ended k) (plain p r) e first_arm at a h i = absurd i
code_short (ended k) (nest s r y z) e first_arm at a h i = absurd i
code_short (ended k) (branch r y z w) e first_arm at a h i = absurd i
code_short (otherwise k x) done e first_arm at a h i =
    let t = h.1 in
    omega (arith, length_split a t.0 t.1 t.2, ap length t.3.1, code_short x e done false (at + length t.0) t.1 t.4 i, else_short e)
code_short (otherwise k x) (plain p r) e first_arm at a h i = absurd i
code_short (otherwise k x) (nest s r y z) e first_arm at a h i = absurd i
code_short (otherwise k x) (branch r y z w) e first_arm at a h i = absurd i
code_short (instr op o x) (plain p c) e first_arm at a h i =
    let t = h.1 in
    let u = t.4 in
    omega (
      arith,
      length_split a t.0 t.1 t.2,
      ap length t.3.1,
      length_split t.1 u.0 u.1 u.2,
      length-append (plain_bytes p) (code_bytes c),
      operands_short p (at + length t.0) u.0 (subst (λ z. ImmediatesOf z (at + length t.0) u.0) i.0.follows u.3),
      code_short x c e first_arm (at + length t.0 + length u.0) u.1 u.4 i.1,
    )
code_short (instr op o x) done e first_arm at a h i = absurd i
code_short (instr op o x) (nest s r y z) e first_arm at a h i = absurd i
code_short (instr op o x) (branch r y z w) e first_arm at a h i = absurd i
code_short (nested op t x y) (nest s r c d) e first_arm at a h i =
    let p = h.1 in
    let g = p.4 in
    let j = g.4 in
    omega (
      arith,
      length_split a p.0 p.1 p.2,
      ap length p.3.1,
      length_split p.1 g.0 g.1 g.2,
      ap length g.3.1.1,
      length_split g.1 j.0 j.1 j.2,
      length-append (code_bytes c) (0x0B ∷ code_bytes d),
      code_short x c done false (at + length p.0 + length g.0) j.0 j.3 i.2,
      code_short y d e first_arm (at + length p.0 + length g.0 + length j.0) j.1 j.4 i.3,
    )
code_short (nested op t x y) done e first_arm at a h i = absurd i
code_short (nested op t x y) (plain p r) e first_arm at a h i = absurd i
code_short (nested op t x y) (branch r c d z) e first_arm at a h i = absurd i
code_short (branched op t x y) (branch r c d z) e first_arm at a h i =
    let p = h.1 in
    let g = p.4 in
    let j = g.4 in
    omega (
      arith,
      length_split a p.0 p.1 p.2,
      ap length p.3.1,
      length_split p.1 g.0 g.1 g.2,
      ap length g.3.1.1,
      length_split g.1 j.0 j.1 j.2,
      length-append (code_bytes c) (else_bytes d (code_bytes d)),
      length-append (code_bytes c ++ else_bytes d (code_bytes d)) (0x0B ∷ code_bytes z),
      code_short x c d true (at + length p.0 + length g.0) j.0 j.3 i.1,
      code_short y z e first_arm (at + length p.0 + length g.0 + length j.0) j.1 j.4 i.2,
    )
code_short (branched op t x y) done e first_arm at a h i = absurd i
code_short (branched op t x y) (plain p r) e first_arm at a h i = absurd i
code_short (branched op t x y) (nest s r c z) e first_arm at a h i = absurd i

pub expression_short : (x : RawCode) (c : Code) (at : ℕ) (a : List ℕ) → CodeOf false x at a → IsCode x c done → length (expression_bytes c) ≤ length a
unfolding code_length
expression_short x c at a h i = omega (arith, length-append (code_bytes c) (0x0B ∷ []), code_short x c done false at a h i)
