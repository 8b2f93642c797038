-- Each opcode that is no float's, with its operands, is an instruction.
use Rattle.std.proofs.Common.{◌≡◌, ℕ, suc, ◌⊎◌, inl, inr, List, [], ◌∷◌, length, Option, Some, None, Bool, true, false, cond, ◌&&◌, ◌||◌, nat_eq, refl, ap, sym, ◌∙◌}
use Rattle.std.proofs.Common.{arith, eqb-true}
use Rattle.wa_types.specs.declared.values.Value.TheVariants.{I32 as value_32, I64 as value_64}
use Rattle.wa_types.specs.Opcodes.{Form, no_immediate, a_zero, an_index, an_index_and_zero, an_access, some_labels, a_bulk, a_constant, a_float, follows, form, is_float_op, is_load_op, is_store_op}
use Rattle.wa_types.specs.Binary.{Placed, Immediates, nothing, zero_byte, index, index_and_zero, access, labels, constant, float, bulk}
use Rattle.wa_types.specs.Syntax.{nop, drop, select, const, num, global_get, global_set, load, store, memory_size, memory_grow, memory_copy, memory_fill, Plain, basic, local_get, local_set, local_tee, br, br_if}
use Rattle.wa_types.specs.Syntax.{br_table, return, unreachable, call, call_indirect}
use Rattle.wa_types.specs.Reading.{HasKind, IsPlain}
use Rattle.wa_types.specs.Spells.{ImmediatesOf}
use Rattle.wa_types.specs.Opcodes.{plain_immediates, plain_opcode}
use Rattle.wa_types.proofs.OperatorLemmas.{operator_at, operator_in}
use Rattle.wa_types.proofs.Ranges.{all_from, passes}
use Rattle.file_laws.proofs.OpcodeTable.{known_low}

pub by_test : (b : Bool) → (b ≡ true) ⊎ (b ≡ false)
by_test true = inl refl
by_test false = inr refl

pub first_of_two : (a b : Bool) → a && b ≡ true → a ≡ true
first_of_two true b e = refl
first_of_two false b e = absurd (let f : false ≡ true = e in cc)

pub other_of_two : (a b : Bool) → a && b ≡ true → b ≡ true
other_of_two true b e = e
other_of_two false b e = absurd (let f : false ≡ true = e in cc)

pub either_of : (a b : Bool) → a || b ≡ true → a ≡ false → b ≡ true
either_of true b e f = absurd (let g : true ≡ false = f in cc)
either_of false b e f = e

-- how many opcodes there are up to the last that something follows
abbrev opcodes : ℕ
opcodes = suc 0xFC

-- the instruction of an opcode and operands
plain_of : ℕ → Immediates → Plain
plain_of op nothing =
    cond (nat_eq op 0x00) unreachable (cond (nat_eq op 0x01) (basic nop) (cond (nat_eq op 0x0F) return
    (cond (nat_eq op 0x1A) (basic drop) (cond (nat_eq op 0x1B) (basic select) (basic (num (operator_at op)))))))
plain_of op zero_byte = cond (nat_eq op 0x3F) (basic memory_size) (basic memory_grow)
plain_of op (index x) =
    cond (nat_eq op 0x0C) (br x) (cond (nat_eq op 0x0D) (br_if x) (cond (nat_eq op 0x10) (call x) (cond (nat_eq op 0x20) (local_get x) (cond (nat_eq op 0x21) (local_set x)
    (cond (nat_eq op 0x22) (local_tee x) (cond (nat_eq op 0x23) (basic (global_get x)) (basic (global_set x))))))))
plain_of op (index_and_zero x) = call_indirect x
plain_of op (access align offset) = cond (is_load_op op) (basic (load op align offset)) (basic (store op align offset))
plain_of op (labels targets last) = br_table targets last
plain_of op (constant bits n) = cond (nat_eq op 0x41) (basic (const (value_32 n))) (basic (const (value_64 n)))
plain_of op (float bytes) = basic nop
plain_of op (bulk n) = cond (nat_eq n 10) (basic memory_copy) (basic memory_fill)

-- a test where this follows an opcode
if_bare : Option Form → Bool → Bool
if_bare (Some no_immediate) t = t
if_bare _ t = true

if_zero : Option Form → Bool → Bool
if_zero (Some a_zero) t = t
if_zero _ t = true

if_index : Option Form → Bool → Bool
if_index (Some an_index) t = t
if_index _ t = true

if_index_zero : Option Form → Bool → Bool
if_index_zero (Some an_index_and_zero) t = t
if_index_zero _ t = true

if_access : Option Form → Bool → Bool
if_access (Some an_access) t = t
if_access _ t = true

if_labels : Option Form → Bool → Bool
if_labels (Some some_labels) t = t
if_labels _ t = true

if_bulk : Option Form → Bool → Bool
if_bulk (Some a_bulk) t = t
if_bulk _ t = true

-- the tests on opcodes
test_bare : ℕ → Bool
test_bare op = if_bare (follows op) (is_float_op op || nat_eq op (plain_opcode (plain_of op nothing)))

test_zero : ℕ → Bool
test_zero op = if_zero (follows op) (nat_eq op (plain_opcode (plain_of op zero_byte)))

test_index : (x : ℕ) → ℕ → Bool
test_index x op = if_index (follows op) (nat_eq op (plain_opcode (plain_of op (index x))))

test_index_zero : ℕ → Bool
test_index_zero op = if_index_zero (follows op) (nat_eq op 0x11)

test_access : ℕ → Bool
test_access op = if_access (follows op) (is_float_op op || (is_load_op op || is_store_op op))

test_labels : ℕ → Bool
test_labels op = if_labels (follows op) (nat_eq op 0x0E)

test_bulk : ℕ → Bool
test_bulk op = if_bulk (follows op) (nat_eq op 0xFC)

all_bare : all_from test_bare 0 opcodes ≡ true
unfolding all_from test_bare if_bare follows plain_of operator_at operator_in
all_bare = refl

all_zero : all_from test_zero 0 opcodes ≡ true
unfolding all_from test_zero if_zero follows plain_of
all_zero = refl

all_index : (x : ℕ) → all_from (test_index x) 0 opcodes ≡ true
unfolding all_from test_index if_index follows plain_of
all_index x = refl

all_index_zero : all_from test_index_zero 0 opcodes ≡ true
unfolding all_from test_index_zero if_index_zero follows
all_index_zero = refl

all_access : all_from test_access 0 opcodes ≡ true
unfolding all_from test_access if_access follows
all_access = refl

all_labels : all_from test_labels 0 opcodes ≡ true
unfolding all_from test_labels if_labels follows
all_labels = refl

all_bulk : all_from test_bulk 0 opcodes ≡ true
unfolding all_from test_bulk if_bulk follows
all_bulk = refl

-- a constant of so many bits
if_constant : Option Form → (ℕ → Bool) → Bool
if_constant (Some (a_constant bits)) t = t bits
if_constant _ t = true

test_constant : ℕ → Bool
test_constant op = if_constant (follows op) (λ bits. (nat_eq op 0x41 && nat_eq bits 32) || (nat_eq op 0x42 && nat_eq bits 64))

all_constant : all_from test_constant 0 opcodes ≡ true
unfolding all_from test_constant if_constant follows
all_constant = refl

if_float : Option Form → Bool → Bool
if_float (Some (a_float n)) t = t
if_float _ t = true

test_float : ℕ → Bool
test_float op = if_float (follows op) (is_float_op op)

all_float : all_from test_float 0 opcodes ≡ true
unfolding all_from test_float if_float follows
all_float = refl

-- an instruction with these operands
FitsWith : Immediates → Plain → Type 0
FitsWith o p = (o ≡ plain_immediates p) × HasKind p

either_fits : (o : Immediates) (t : Bool) (p q : Plain) → FitsWith o p → FitsWith o q → FitsWith o (cond t p q)
either_fits o true p q h k = h
either_fits o false p q h k = k

bare_fits : (op : ℕ) → FitsWith nothing (plain_of op nothing)
unfolding plain_of FitsWith
bare_fits op =
    either_fits nothing (nat_eq op 0x00) _ _ (refl, tt) (either_fits nothing (nat_eq op 0x01) _ _ (refl, tt) (either_fits nothing (nat_eq op 0x0F) _ _ (refl, tt)
    (either_fits nothing (nat_eq op 0x1A) _ _ (refl, tt) (either_fits nothing (nat_eq op 0x1B) _ _ (refl, tt) (refl, tt)))))

zero_fits : (op : ℕ) → FitsWith zero_byte (plain_of op zero_byte)
unfolding plain_of FitsWith
zero_fits op = either_fits zero_byte (nat_eq op 0x3F) _ _ (refl, tt) (refl, tt)

index_fits : (op x : ℕ) → FitsWith (index x) (plain_of op (index x))
unfolding plain_of FitsWith
index_fits op x =
    either_fits (index x) (nat_eq op 0x0C) _ _ (refl, tt) (either_fits (index x) (nat_eq op 0x0D) _ _ (refl, tt) (either_fits (index x) (nat_eq op 0x10) _ _ (refl, tt)
    (either_fits (index x) (nat_eq op 0x20) _ _ (refl, tt) (either_fits (index x) (nat_eq op 0x21) _ _ (refl, tt) (either_fits (index x) (nat_eq op 0x22) _ _ (refl, tt)
    (either_fits (index x) (nat_eq op 0x23) _ _ (refl, tt) (refl, tt)))))))

-- what a test says where it is asked
bare_said : (o : Option Form) (t : Bool) → o ≡ Some no_immediate → if_bare o t ≡ true → t ≡ true
unfolding if_bare
bare_said o t e h = rw e at h

zero_said : (o : Option Form) (t : Bool) → o ≡ Some a_zero → if_zero o t ≡ true → t ≡ true
unfolding if_zero
zero_said o t e h = rw e at h

index_said : (o : Option Form) (t : Bool) → o ≡ Some an_index → if_index o t ≡ true → t ≡ true
unfolding if_index
index_said o t e h = rw e at h

index_zero_said : (o : Option Form) (t : Bool) → o ≡ Some an_index_and_zero → if_index_zero o t ≡ true → t ≡ true
unfolding if_index_zero
index_zero_said o t e h = rw e at h

access_said : (o : Option Form) (t : Bool) → o ≡ Some an_access → if_access o t ≡ true → t ≡ true
unfolding if_access
access_said o t e h = rw e at h

labels_said : (o : Option Form) (t : Bool) → o ≡ Some some_labels → if_labels o t ≡ true → t ≡ true
unfolding if_labels
labels_said o t e h = rw e at h

bulk_said : (o : Option Form) (t : Bool) → o ≡ Some a_bulk → if_bulk o t ≡ true → t ≡ true
unfolding if_bulk
bulk_said o t e h = rw e at h

constant_said : (o : Option Form) (bits : ℕ) (t : ℕ → Bool) → o ≡ Some (a_constant bits) → if_constant o t ≡ true → t bits ≡ true
unfolding if_constant
constant_said o bits t e h = rw e at h

float_said : (o : Option Form) (n : ℕ) (t : Bool) → o ≡ Some (a_float n) → if_float o t ≡ true → t ≡ true
unfolding if_float
float_said o n t e h = rw e at h

-- an access of an integer is a load or a store
access_is : (op align offset : ℕ) (l s : Bool) → is_load_op op ≡ l → is_store_op op ≡ s → l || s ≡ true
    → FitsWith (access align offset) (cond l (basic (load op align offset)) (basic (store op align offset)))
    × (op ≡ plain_opcode (cond l (basic (load op align offset)) (basic (store op align offset))))
unfolding FitsWith
access_is op align offset true s e f h = ((refl, e), refl)
access_is op align offset false true e f h = ((refl, f), refl)
access_is op align offset false false e f h = absurd (let g : false ≡ true = h in cc)

-- a constant is of 32 bits or of 64
constant_is : (op bits n : ℕ) (a b c d : Bool) → nat_eq op 0x41 ≡ a → nat_eq bits 32 ≡ b → nat_eq op 0x42 ≡ c → nat_eq bits 64 ≡ d → (a && b) || (c && d) ≡ true
    → FitsWith (constant bits n) (cond a (basic (const (value_32 n))) (basic (const (value_64 n)))) × (op ≡ plain_opcode (cond a (basic (const (value_32 n))) (basic (const (value_64 n)))))
unfolding FitsWith
constant_is op bits n true true c d e f g h k = ((ap (λ z. constant z n) (eqb-true bits 32 f), tt), eqb-true op 0x41 e)
constant_is op bits n true false true d e f g h k = absurd (omega (arith, eqb-true op 0x41 e, eqb-true op 0x42 g))
constant_is op bits n true false false d e f g h k = absurd (let w : false ≡ true = k in cc)
constant_is op bits n false b true true e f g h k = ((ap (λ z. constant z n) (eqb-true bits 64 h), tt), eqb-true op 0x42 g)
constant_is op bits n false b true false e f g h k = absurd (let w : false ≡ true = k in cc)
constant_is op bits n false b false d e f g h k = absurd (let w : false ≡ true = k in cc)

-- a number that zero bytes stand behind is a copy's or a fill's
bulk_is : (op n : ℕ) (a b : Bool) (zs : List ℕ) → nat_eq n 10 ≡ a → nat_eq n 11 ≡ b → cond a (Some (0x00 ∷ 0x00 ∷ [])) (cond b (Some (0x00 ∷ [])) None) ≡ Some zs → op ≡ 0xFC
    → FitsWith (bulk n) (cond a (basic memory_copy) (basic memory_fill)) × (op ≡ plain_opcode (cond a (basic memory_copy) (basic memory_fill)))
unfolding FitsWith
bulk_is op n true b zs e f g h = ((ap bulk (eqb-true n 10 e), tt), h)
bulk_is op n false true zs e f g h = ((ap bulk (eqb-true n 11 f), tt), h)
bulk_is op n false false zs e f g h = absurd (let k : None ≡ Some zs = g in cc)

-- An opcode that is no float's is an instruction with what is spelled behind it.
pub plain_made : (op : Placed) (o : Immediates) (at : ℕ) (a : List ℕ) → ImmediatesOf o at a → follows op.byte ≡ Some (form o) → is_float_op op.byte ≡ false → (p : Plain) × IsPlain op o p
unfolding plain_of FitsWith test_bare test_zero test_index test_index_zero test_access test_labels test_bulk test_constant test_float
plain_made op nothing at a h e f =
    let t = bare_said (follows op.byte) _ e (passes test_bare 0 opcodes op.byte (omega arith) (known_low op.byte no_immediate e) all_bare) in
    let k = bare_fits op.byte in
    (plain_of op.byte nothing, record { opcode = eqb-true op.byte _ (either_of _ _ t f); follows = k.0; kind = k.1 })
plain_made op zero_byte at a h e f =
    let t = zero_said (follows op.byte) _ e (passes test_zero 0 opcodes op.byte (omega arith) (known_low op.byte a_zero e) all_zero) in
    let k = zero_fits op.byte in
    (plain_of op.byte zero_byte, record { opcode = eqb-true op.byte _ t; follows = k.0; kind = k.1 })
plain_made op (index x) at a h e f =
    let t = index_said (follows op.byte) _ e (passes (test_index x) 0 opcodes op.byte (omega arith) (known_low op.byte an_index e) (all_index x)) in
    let k = index_fits op.byte x in
    (plain_of op.byte (index x), record { opcode = eqb-true op.byte _ t; follows = k.0; kind = k.1 })
plain_made op (index_and_zero x) at a h e f =
    let t = index_zero_said (follows op.byte) _ e (passes test_index_zero 0 opcodes op.byte (omega arith) (known_low op.byte an_index_and_zero e) all_index_zero) in
    (call_indirect x, record { opcode = eqb-true op.byte 0x11 t; follows = refl; kind = tt })
plain_made op (access align offset) at a h e f =
    let t = access_said (follows op.byte) _ e (passes test_access 0 opcodes op.byte (omega arith) (known_low op.byte an_access e) all_access) in
    let k = access_is op.byte align offset (is_load_op op.byte) (is_store_op op.byte) refl refl (either_of _ _ t f) in
    (cond (is_load_op op.byte) (basic (load op.byte align offset)) (basic (store op.byte align offset)), record { opcode = k.1; follows = k.0.0; kind = k.0.1 })
plain_made op (labels targets last) at a h e f =
    let t = labels_said (follows op.byte) _ e (passes test_labels 0 opcodes op.byte (omega arith) (known_low op.byte some_labels e) all_labels) in
    (br_table targets last, record { opcode = eqb-true op.byte 0x0E t; follows = refl; kind = tt })
plain_made op (constant bits n) at a h e f =
    let t = constant_said (follows op.byte) bits _ e (passes test_constant 0 opcodes op.byte (omega arith) (known_low op.byte (a_constant bits) e) all_constant) in
    let k = constant_is op.byte bits n (nat_eq op.byte 0x41) (nat_eq bits 32) (nat_eq op.byte 0x42) (nat_eq bits 64) refl refl refl refl t in
    (cond (nat_eq op.byte 0x41) (basic (const (value_32 n))) (basic (const (value_64 n))), record { opcode = k.1; follows = k.0.0; kind = k.0.1 })
plain_made op (float bytes) at a h e f =
    let t = float_said (follows op.byte) (length bytes) _ e (passes test_float 0 opcodes op.byte (omega arith) (known_low op.byte (a_float (length bytes)) e) all_float) in
    absurd (let g : true ≡ false = sym t ∙ f in cc)
plain_made op (bulk n) at a h e f =
    let t = bulk_said (follows op.byte) _ e (passes test_bulk 0 opcodes op.byte (omega arith) (known_low op.byte a_bulk e) all_bulk) in
    let k = bulk_is op.byte n (nat_eq n 10) (nat_eq n 11) h.1 refl refl h.4 (eqb-true op.byte 0xFC t) in
    (cond (nat_eq n 10) (basic memory_copy) (basic memory_fill), record { opcode = k.1; follows = k.0.0; kind = k.0.1 })
