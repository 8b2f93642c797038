-- Goals of code.
use Rattle.std.proofs.Common.{◌≡◌, ℕ, suc, zero, ◌+◌, ◌≤◌, ◌⊎◌, List, [], ◌∷◌, ◌++◌, Option, Some, None, refl, ap, sym, ◌∙◌, subst, arith, append_assoc, length, length-append, Bool}
use Rattle.std.proofs.Common.{true, false, inl, inr, cond, nat_eq, nat_le, eqb-true, IsTrue}
use Rattle.wa_types.specs.Opcodes.{Form, no_immediate, a_zero, an_index, an_index_and_zero, an_access, some_labels, a_bulk, a_constant, a_float, follows, form, is_nest}
use Rattle.wa_types.specs.Binary.{Placed, Immediates, nothing, zero_byte, index, index_and_zero, access, labels, constant, float, bulk, RawCode, ended, otherwise, instr, nested, branched}
use Rattle.wa_types.specs.Begun.{Goal, code, exact, number, count, block_type, entries, some_indices, next, where_true, immediates, immediates_of, behind_opcode, an_unsigned}
use Rattle.wa_types.specs.Spells.{◌▸◌, Exactly, Number, SignedNumber, Vector, Byte, BlockType, ImmediatesOf, CodeOf}
use Rattle.file_laws.proofs.OpcodeTable.{HasBytes, has_bytes}
use Rattle.file_laws.proofs.Runs.{some_same, not_none}
use Rattle.file_laws.proofs.GoalReads.{Any, Reads, reads_none, reads_then, reads_as, Begins, reads_first, Goes, takes_one, gives_one, to_right, on_right}
use Rattle.file_laws.proofs.Leaves.{reads_number, reads_signed, reads_exact, reads_bulk, reads_float, reads_block_type, tested, alone, with_nothing}
use Rattle.file_laws.proofs.Vectors.{reads_count}

pub reads_index : Reads (entries some_indices 1 ∷ []) (Any Number)
unfolding next
reads_index = reads_as _ (Begins an_unsigned (λ v k. Exactly [])) (Any Number) (λ at a h. alone an_unsigned at a h) (λ at a h. with_nothing an_unsigned at h.0 a h.1)
    (reads_first (entries some_indices 1) (λ v k. Exactly []) refl refl (λ v k. reads_none))

-- what follows an opcode, by what the table says
Behind : Form → ℕ → List ℕ → Type 0
Behind no_immediate = Exactly []
Behind a_zero = Exactly (0x00 ∷ [])
Behind an_index = Any Number
Behind an_index_and_zero = Any Number ▸ Exactly (0x00 ∷ [])
Behind an_access = Any Number ▸ Any Number
Behind some_labels = Any (Vector Number) ▸ Any Number
Behind (a_constant bits) = Any (SignedNumber bits)
Behind (a_float n) = λ at bytes. length bytes ≡ n
Behind a_bulk = Any (λ n. ImmediatesOf (bulk n))

reads_behind : (f : Form) → HasBytes f → Reads (immediates f) (Behind f)
unfolding Behind HasBytes
reads_behind no_immediate h = reads_none
reads_behind a_zero h = reads_exact 0x00
reads_behind an_index h = reads_number
reads_behind an_index_and_zero h = reads_then number (exact 0x00 ∷ []) (Any Number) (Exactly (0x00 ∷ [])) reads_number (reads_exact 0x00)
reads_behind an_access h = reads_then number (number ∷ []) (Any Number) (Any Number) reads_number reads_number
reads_behind some_labels h = reads_then (count some_indices) (number ∷ []) (Any (Vector Number)) (Any Number) (reads_count Number some_indices reads_index) reads_number
reads_behind (a_constant bits) h = reads_signed bits
reads_behind (a_float n) h = reads_float n h
reads_behind a_bulk h = reads_bulk

to_behind : (o : Immediates) (at : ℕ) (a : List ℕ) → ImmediatesOf o at a → Behind (form o) at a
unfolding Behind
to_behind nothing at a h = h
to_behind zero_byte at a h = h
to_behind (index x) at a h = (x, h)
to_behind (index_and_zero x) at a h = (h.0, h.1, h.2, (x, h.3), h.4)
to_behind (access align offset) at a h = (h.0, h.1, h.2, (align, h.3), (offset, h.4))
to_behind (labels targets last) at a h = (h.0, h.1, h.2, (targets, h.3), (last, h.4))
to_behind (constant bits n) at a h = (n, h)
to_behind (float bytes) at a h = ap length h
to_behind (bulk n) at a h = (n, h)

from_behind : (f : Form) (at : ℕ) (a : List ℕ) → Behind f at a → (o : Immediates) × (form o ≡ f) × ImmediatesOf o at a
unfolding Behind
from_behind no_immediate at a h = (nothing, refl, h)
from_behind a_zero at a h = (zero_byte, refl, h)
from_behind an_index at a h = (index h.0, refl, h.1)
from_behind an_index_and_zero at a h = (index_and_zero h.3.0, refl, (h.0, h.1, h.2, h.3.1, h.4))
from_behind an_access at a h = (access h.3.0 h.4.0, refl, (h.0, h.1, h.2, h.3.1, h.4.1))
from_behind some_labels at a h = (labels h.3.0 h.4.0, refl, (h.0, h.1, h.2, h.3.1, h.4.1))
from_behind (a_constant bits) at a h = (constant bits h.0, refl, h.1)
from_behind (a_float n) at a h = (float a, ap a_float h, refl)
from_behind a_bulk at a h = (bulk h.0, refl, h.1)

-- what stands behind an opcode
data Opcode (first_arm : Bool) (op : ℕ) (new : List Goal) : Type 0 where
  is_end : op ≡ 0x0B → new ≡ [] → Opcode first_arm op new
  is_else : op ≡ 0x05 → first_arm ≡ true → new ≡ code false ∷ [] → Opcode first_arm op new
  is_nested : IsTrue (is_nest op) → new ≡ block_type ∷ code false ∷ code first_arm ∷ [] → Opcode first_arm op new
  is_if : op ≡ 0x04 → new ≡ block_type ∷ code true ∷ code first_arm ∷ [] → Opcode first_arm op new
  is_instr : (f : Form) → follows op ≡ Some f → new ≡ immediates f ++ code first_arm ∷ [] → Opcode first_arm op new

where_some : (b : Bool) (gs new : List Goal) → where_true b gs ≡ Some new → (b ≡ true) × (new ≡ gs)
where_some true gs new e = (refl, some_same new gs _ e refl)
where_some false gs new e = absurd (not_none new e)

operands_some : (o : Option Form) (more new : List Goal) → immediates_of o more ≡ Some new → (f : Form) × (o ≡ Some f) × (new ≡ immediates f ++ more)
operands_some None more new e = absurd (not_none new e)
operands_some (Some f) more new e = (f, refl, some_same new (immediates f ++ more) _ e refl)

by_test : (b : Bool) → (b ≡ true) ⊎ (b ≡ false)
by_test true = inl refl
by_test false = inr refl

opcode : (first_arm : Bool) (op : ℕ) (new : List Goal) → behind_opcode first_arm op ≡ Some new → Opcode first_arm op new
opcode first_arm op new e =
    elim (by_test (nat_eq op 0x0B)) [
      | inl a ↦ is_end (eqb-true op 0x0B a) (some_same new [] _ (let p : Some [] ≡ Some new = rw a at e in p) refl)
      | inr a ↦
          let e1 : cond (nat_eq op 0x05) (where_true first_arm (code false ∷ [])) (cond (is_nest op) (Some (block_type ∷ code false ∷ code first_arm ∷ []))
          (cond (nat_eq op 0x04) (Some (block_type ∷ code true ∷ code first_arm ∷ [])) (immediates_of (follows op) (code first_arm ∷ [])))) ≡ Some new = rw a at e in
          elim (by_test (nat_eq op 0x05)) [
            | inl b ↦ let w = where_some first_arm (code false ∷ []) new (let p : where_true first_arm (code false ∷ []) ≡ Some new = rw b at e1 in p) in is_else (eqb-true op 0x05 b) w.0 w.1
            | inr b ↦
                let e2 : cond (is_nest op) (Some (block_type ∷ code false ∷ code first_arm ∷ []))
                (cond (nat_eq op 0x04) (Some (block_type ∷ code true ∷ code first_arm ∷ [])) (immediates_of (follows op) (code first_arm ∷ []))) ≡ Some new = rw b at e1 in
                elim (by_test (is_nest op)) [
                  | inl c ↦ is_nested c (some_same new _ _ (let p : Some (block_type ∷ code false ∷ code first_arm ∷ []) ≡ Some new = rw c at e2 in p) refl)
                  | inr c ↦
                      let e3 : cond (nat_eq op 0x04) (Some (block_type ∷ code true ∷ code first_arm ∷ [])) (immediates_of (follows op) (code first_arm ∷ [])) ≡ Some new = rw c at e2 in
                      elim (by_test (nat_eq op 0x04)) [
                        | inl d ↦ is_if (eqb-true op 0x04 d) (some_same new _ _ (let p : Some (block_type ∷ code true ∷ code first_arm ∷ []) ≡ Some new = rw d at e3 in p) refl)
                        | inr d ↦ let o = operands_some (follows op) (code first_arm ∷ []) new (let p : immediates_of (follows op) (code first_arm ∷ []) ≡ Some new = rw d at e3 in p)
                            in is_instr o.0 o.1 o.2
                      ]
                ]
          ]
    ]

code_next : (first_arm : Bool) (op at : ℕ) → next (code first_arm) op at ≡ behind_opcode first_arm op
unfolding next
code_next first_arm op at = refl

-- a byte of code, and what goes on behind it
record Taken (first_arm : Bool) (more : List Goal) (last at : ℕ) (bytes : List ℕ) : Type 0 where
  op : ℕ
  back : List ℕ
  new : List Goal
  whole : bytes ≡ op ∷ back
  stands : Opcode first_arm op new
  goes : Goes (new ++ more) last (at + 1) back

take_op : (first_arm : Bool) (more : List Goal) (last at : ℕ) (bytes : List ℕ) → Goes (code first_arm ∷ more) last at bytes → Taken first_arm more last at bytes
take_op first_arm more last at bytes h =
    let f = takes_one (code first_arm) more last at bytes refl refl h in
    record {
      op = f.value;
      back = f.back;
      new = f.new;
      whole = f.whole ∙ ap (λ z. z ++ f.back) f.is_item;
      stands = opcode first_arm f.value f.new (sym (code_next first_arm f.value (at + length f.front)) ∙ f.pushed);
      goes = subst (λ z. Goes (f.new ++ more) last (at + length z) f.back) f.is_item f.goes;
    }

give_op : (first_arm : Bool) (more : List Goal) (last at : ℕ) (bytes : List ℕ) (op : Placed) (new : List Goal) → behind_opcode first_arm op.byte ≡ Some new
    → (Byte op ▸ Goes (new ++ more) last) at bytes → Goes (code first_arm ∷ more) last at bytes
give_op first_arm more last at bytes op new e h =
    gives_one (code first_arm) more last at bytes refl (record {
      front = h.0;
      back = h.1;
      value = op.byte;
      new = new;
      whole = h.2;
      is_item = h.3.1;
      pushed = code_next first_arm op.byte (at + length h.0) ∙ e;
      goes = h.4;
    })

abbrev Shorter : ℕ → Type 0
Shorter n = (first_arm : Bool) (more : List Goal) (last at : ℕ) (bytes : List ℕ) → length bytes ≤ n → Goes (code first_arm ∷ more) last at bytes → (Any (CodeOf first_arm) ▸ Goes more last) at bytes

by_opcode : (n : ℕ) (first_arm : Bool) (more : List Goal) (last at op : ℕ) (new : List Goal) (b : List ℕ) → Shorter n → length b ≤ n → Opcode first_arm op new
    → Goes (new ++ more) last (at + 1) b → (Any (CodeOf first_arm) ▸ Goes more last) at (op ∷ b)
by_opcode n first_arm more last at op new b less short (is_end e f) g =
    (op ∷ [], b, refl, (ended at, (refl, ap (λ z. z ∷ []) e)), subst (λ z. Goes (z ++ more) last (at + 1) b) f g)
by_opcode n first_arm more last at op new b less short (is_else e t f) g =
    let r = less false more last (at + 1) b short (subst (λ z. Goes (z ++ more) last (at + 1) b) f g) in (
      op ∷ r.0,
      r.1,
      ap (λ z. op ∷ z) r.2,
      (otherwise at r.3.0, (t, (op ∷ [], r.0, refl, (refl, ap (λ z. z ∷ []) e), r.3.1))),
      subst (λ z. Goes more last z r.1) (omega arith) r.4,
    )
by_opcode n first_arm more last at op new b less short (is_nested t f) g =
    let r = reads_block_type.sound (code false ∷ code first_arm ∷ more) last (at + 1) b (subst (λ z. Goes (z ++ more) last (at + 1) b) f g) in
    let s = less false (code first_arm ∷ more) last (at + 1 + length r.0) r.1 (omega (arith, short, ap length r.2, length-append r.0 r.1)) r.4 in
    let u = less first_arm more last (at + 1 + length r.0 + length s.0) s.1 (omega (arith, short, ap length r.2, length-append r.0 r.1, ap length s.2, length-append s.0 s.1)) s.4 in (
      op ∷ (r.0 ++ (s.0 ++ u.0)),
      u.1,
      ap (λ z. op ∷ z) (r.2 ∙ ap (λ z. r.0 ++ z) (s.2 ∙ ap (λ z. s.0 ++ z) u.2 ∙ sym (append_assoc s.0 u.0 u.1)) ∙ sym (append_assoc r.0 (s.0 ++ u.0) u.1)),
      (
        nested (record { place = at; byte = op }) r.3.0 s.3.0 u.3.0,
        (t, (op ∷ [], r.0 ++ (s.0 ++ u.0), refl, (refl, refl), (r.0, s.0 ++ u.0, refl, r.3.1, (s.0, u.0, refl, s.3.1, u.3.1)))),
      ),
      subst (λ z. Goes more last z u.1) (omega (arith, length-append r.0 (s.0 ++ u.0), length-append s.0 u.0)) u.4,
    )
by_opcode n first_arm more last at op new b less short (is_if e f) g =
    let r = reads_block_type.sound (code true ∷ code first_arm ∷ more) last (at + 1) b (subst (λ z. Goes (z ++ more) last (at + 1) b) f g) in
    let s = less true (code first_arm ∷ more) last (at + 1 + length r.0) r.1 (omega (arith, short, ap length r.2, length-append r.0 r.1)) r.4 in
    let u = less first_arm more last (at + 1 + length r.0 + length s.0) s.1 (omega (arith, short, ap length r.2, length-append r.0 r.1, ap length s.2, length-append s.0 s.1)) s.4 in (
      op ∷ (r.0 ++ (s.0 ++ u.0)),
      u.1,
      ap (λ z. op ∷ z) (r.2 ∙ ap (λ z. r.0 ++ z) (s.2 ∙ ap (λ z. s.0 ++ z) u.2 ∙ sym (append_assoc s.0 u.0 u.1)) ∙ sym (append_assoc r.0 (s.0 ++ u.0) u.1)),
      (
        branched (record { place = at; byte = op }) r.3.0 s.3.0 u.3.0,
        (e, (op ∷ [], r.0 ++ (s.0 ++ u.0), refl, (refl, refl), (r.0, s.0 ++ u.0, refl, r.3.1, (s.0, u.0, refl, s.3.1, u.3.1)))),
      ),
      subst (λ z. Goes more last z u.1) (omega (arith, length-append r.0 (s.0 ++ u.0), length-append s.0 u.0)) u.4,
    )
by_opcode n first_arm more last at op new b less short (is_instr f e i) g =
    let r = (reads_behind f (has_bytes op f e)).sound (code first_arm ∷ more) last (at + 1) b
    (subst (λ z. Goes z last (at + 1) b) (append_assoc (immediates f) (code first_arm ∷ []) more) (subst (λ z. Goes (z ++ more) last (at + 1) b) i g)) in
    let o = from_behind f (at + 1) r.0 r.3 in
    let u = less first_arm more last (at + 1 + length r.0) r.1 (omega (arith, short, ap length r.2, length-append r.0 r.1)) r.4 in (
      op ∷ (r.0 ++ u.0),
      u.1,
      ap (λ z. op ∷ z) (r.2 ∙ ap (λ z. r.0 ++ z) u.2 ∙ sym (append_assoc r.0 u.0 u.1)),
      (
        instr (record { place = at; byte = op }) o.0 u.3.0,
        (e ∙ ap (λ z. Some z) (sym o.1), (op ∷ [], r.0 ++ u.0, refl, (refl, refl), (r.0, u.0, refl, o.2, u.3.1))),
      ),
      subst (λ z. Goes more last z u.1) (omega (arith, length-append r.0 u.0)) u.4,
    )

code_sound : (n : ℕ) → Shorter n
code_sound zero first_arm more last at bytes h g =
    let t = take_op first_arm more last at bytes g in
    absurd (omega (arith, h, ap length t.whole))
code_sound (suc n) first_arm more last at bytes h g =
    let t = take_op first_arm more last at bytes g in
    subst (λ z. (Any (CodeOf first_arm) ▸ Goes more last) at z) (sym t.whole)
    (by_opcode n first_arm more last at t.op t.new t.back (code_sound n) (omega (arith, h, ap length t.whole)) t.stands t.goes)

-- an opcode of one kind is of no other
pub nest_range : (op : ℕ) → IsTrue (is_nest op) → (op ≡ 2) ⊎ (op ≡ 3)
nest_range zero h = let e : false ≡ true = h in absurd (cc)
nest_range (suc zero) h = let e : false ≡ true = h in absurd (cc)
nest_range (suc (suc zero)) h = inl refl
nest_range (suc (suc (suc zero))) h = inr refl
nest_range (suc (suc (suc (suc n)))) h = absurd (let e : nat_le (suc (suc (suc (suc n)))) 3 ≡ false = grind (arith) in let f : nat_le 2 (suc (suc (suc (suc n))))
    ≡ true = grind (arith) in let p : false ≡ true = sym (rw (f, e) refl) ∙ h in cc)

nest_next : (first_arm : Bool) (op : ℕ) → IsTrue (is_nest op) → behind_opcode first_arm op ≡ Some (block_type ∷ code false ∷ code first_arm ∷ [])
nest_next first_arm op h = elim (nest_range op h) [
  | inl e ↦ subst (λ z. behind_opcode first_arm z ≡ Some (block_type ∷ code false ∷ code first_arm ∷ [])) (sym e) refl
  | inr e ↦ subst (λ z. behind_opcode first_arm z ≡ Some (block_type ∷ code false ∷ code first_arm ∷ [])) (sym e) refl
]

not_followed : (f : Form) → None ≡ Some f → ⊥
not_followed f e = cc

pub refuted : (op k : ℕ) (f : Form) → follows op ≡ Some f → follows k ≡ None → nat_eq op k ≡ false
refuted op k f e n = elim (tested op k) [
  | inl s ↦ absurd (not_followed f (sym n ∙ ap follows (sym s) ∙ e))
  | inr r ↦ r
]

pub none_nest : (op : ℕ) (f : Form) → follows op ≡ Some f → is_nest op ≡ false
unfolding follows
none_nest op f e = elim (by_test (is_nest op)) [
  | inr r ↦ r
  | inl h ↦ elim (nest_range op h) [
    | inl s ↦ absurd (not_followed f (ap follows (sym s) ∙ e))
    | inr s ↦ absurd (not_followed f (ap follows (sym s) ∙ e))
  ]
]

instr_next : (first_arm : Bool) (op : ℕ) (f : Form) → follows op ≡ Some f → behind_opcode first_arm op ≡ Some (immediates f ++ code first_arm ∷ [])
unfolding follows
instr_next first_arm op f e = rw (refuted op 0x0B f e refl, refuted op 0x05 f e refl, none_nest op f e, refuted op 0x04 f e refl, e) refl

end_at : (first_arm : Bool) (more : List Goal) (last at : ℕ) (bytes : List ℕ) → (Exactly (0x0B ∷ []) ▸ Goes more last) at bytes → Goes (code first_arm ∷ more) last at bytes
end_at first_arm more last at bytes h = give_op first_arm more last at bytes (record { place = at; byte = 0x0B }) [] refl (h.0, h.1, h.2, (refl, h.3), h.4)

code_complete : (c : RawCode) (first_arm : Bool) (more : List Goal) (last at : ℕ) (bytes : List ℕ) → (CodeOf first_arm c ▸ Goes more last) at bytes → Goes (code first_arm ∷ more) last at bytes
code_complete (ended k) first_arm more last at bytes h = end_at first_arm more last at bytes (h.0, h.1, h.2, h.3.1, h.4)
code_complete (otherwise k arm) first_arm more last at bytes h =
    let b : Placed = record { place = k; byte = 0x05 } in
    let r = to_right (Byte b) (CodeOf false arm) (Goes more last) at bytes (h.0, h.1, h.2, h.3.1, h.4) in
    give_op first_arm more last at bytes b (code false ∷ []) (ap (λ t. where_true t (code false ∷ [])) h.3.0)
    (on_right (Byte b) (CodeOf false arm ▸ Goes more last) (Goes (code false ∷ more) last) at bytes (λ k b w. code_complete arm false more last k b w) r)
code_complete (instr op o rest) first_arm more last at bytes h =
    let r = to_right (Byte op) (ImmediatesOf o ▸ CodeOf first_arm rest) (Goes more last) at bytes (h.0, h.1, h.2, h.3.1, h.4) in
    give_op first_arm more last at bytes op (immediates (form o) ++ code first_arm ∷ []) (instr_next first_arm op.byte (form o) h.3.0)
    (on_right (Byte op) ((ImmediatesOf o ▸ CodeOf first_arm rest) ▸ Goes more last) (Goes ((immediates (form o) ++ code first_arm ∷ []) ++ more) last) at bytes
    (λ k b w.
    let s = to_right (ImmediatesOf o) (CodeOf first_arm rest) (Goes more last) k b w in
    subst (λ z. Goes z last k b) (sym (append_assoc (immediates (form o)) (code first_arm ∷ []) more))
    ((reads_behind (form o) (has_bytes op.byte (form o) h.3.0)).complete (code first_arm ∷ more) last k b
    (s.0, s.1, s.2, to_behind o k s.0 s.3, code_complete rest first_arm more last (k + length s.0) s.1 s.4)))
    r)
code_complete (nested op result body rest) first_arm more last at bytes h =
    let r = to_right (Byte op) (BlockType result ▸ CodeOf false body ▸ CodeOf first_arm rest) (Goes more last) at bytes (h.0, h.1, h.2, h.3.1, h.4) in
    give_op first_arm more last at bytes op (block_type ∷ code false ∷ code first_arm ∷ []) (nest_next first_arm op.byte h.3.0)
    (on_right (Byte op) ((BlockType result ▸ CodeOf false body ▸ CodeOf first_arm rest) ▸ Goes more last) (Goes (block_type ∷ code false ∷ code first_arm ∷ more) last) at bytes
    (λ k b w.
    let s = to_right (BlockType result) (CodeOf false body ▸ CodeOf first_arm rest) (Goes more last) k b w in
    let t = to_right (CodeOf false body) (CodeOf first_arm rest) (Goes more last) (k + length s.0) s.1 s.4 in
    reads_block_type.complete (code false ∷ code first_arm ∷ more) last k b (
      s.0,
      s.1,
      s.2,
      (result, s.3),
      code_complete body false (code first_arm ∷ more) last (k + length s.0) s.1
          (t.0, t.1, t.2, t.3, code_complete rest first_arm more last (k + length s.0 + length t.0) t.1 t.4),
    ))
    r)
code_complete (branched op result arms rest) first_arm more last at bytes h =
    let r = to_right (Byte op) (BlockType result ▸ CodeOf true arms ▸ CodeOf first_arm rest) (Goes more last) at bytes (h.0, h.1, h.2, h.3.1, h.4) in
    give_op first_arm more last at bytes op (block_type ∷ code true ∷ code first_arm ∷ []) (ap (behind_opcode first_arm) h.3.0)
    (on_right (Byte op) ((BlockType result ▸ CodeOf true arms ▸ CodeOf first_arm rest) ▸ Goes more last) (Goes (block_type ∷ code true ∷ code first_arm ∷ more) last) at bytes
    (λ k b w.
    let s = to_right (BlockType result) (CodeOf true arms ▸ CodeOf first_arm rest) (Goes more last) k b w in
    let t = to_right (CodeOf true arms) (CodeOf first_arm rest) (Goes more last) (k + length s.0) s.1 s.4 in
    reads_block_type.complete (code true ∷ code first_arm ∷ more) last k b (
      s.0,
      s.1,
      s.2,
      (result, s.3),
      code_complete arms true (code first_arm ∷ more) last (k + length s.0) s.1
          (t.0, t.1, t.2, t.3, code_complete rest first_arm more last (k + length s.0 + length t.0) t.1 t.4),
    ))
    r)

pub reads_code : (first_arm : Bool) → Reads (code first_arm ∷ []) (Any (CodeOf first_arm))
reads_code first_arm = record {
  sound = λ more last at bytes h. code_sound (length bytes) first_arm more last at bytes (omega arith) h;
  complete = λ more last at bytes h. code_complete h.3.0 first_arm more last at bytes (h.0, h.1, h.2, h.3.1, h.4);
}
