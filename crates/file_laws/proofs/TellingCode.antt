-- What code shows.
use Rattle.std.proofs.Common.{◌≡◌, ℕ, ◌+◌, ◌<◌, List, [], ◌∷◌, ◌++◌, Some, refl, ap, sym, ◌∙◌, subst, arith, append_assoc, length, Bool, true, false, inl, inr, nat_le, IsTrue, ◌&&◌, map}
use Rattle.std.specs.Option.{option_map}
use Rattle.wa_types.specs.Opcodes.{Form, a_float, follows, form, zeros_of, is_nest, is_float_op}
use Rattle.wa_types.specs.Binary.{Placed, Immediates, nothing, zero_byte, index, index_and_zero, access, labels, constant, float, bulk, RawCode, ended, otherwise, instr, nested, branched}
use Rattle.wa_types.specs.Begun.{Goal, code, exact, number, block_type, count, some_indices, bulk_number, float_bytes, next, where_true, immediates, behind_opcode}
use Rattle.wa_types.specs.Marks.{place_if, float_type, code_floats, code_opens}
use Rattle.wa_types.specs.ModuleBounds.{ModuleBounds}
use Rattle.wa_types.specs.Spells.{◌▸◌, Exactly, Number, Vector, Byte, BlockType, ImmediatesOf, CodeOf}
use Rattle.file_laws.proofs.CodeReads.{nest_range, refuted, none_nest}
use Rattle.file_laws.proofs.OpcodeTable.{HasBytes, has_bytes}
use Rattle.file_laws.specs.Showing.{Seen, nothing_seen, opens_seen, both, shown, levels, opens_level}
use Rattle.file_laws.proofs.Telling.{Tells, Gives, give, give_byte, gives_none, gives_then, gives_as, gives_same, gives_number, gives_numbers, gives_signed, gives_exact, gives_block_type, seen_placed}

-- an instruction opens no level
pub opens_none : (op : ℕ) (f : Form) → follows op ≡ Some f → opens_level op ≡ false
unfolding follows
opens_none op f e = rw (none_nest op f e, refuted op 0x04 f e refl) refl

instr_next : (first_arm : Bool) (op : ℕ) (f : Form) → follows op ≡ Some f → behind_opcode first_arm op ≡ Some (immediates f ++ code first_arm ∷ [])
unfolding follows
instr_next first_arm op f e = rw (refuted op 0x0B f e refl, refuted op 0x05 f e refl, none_nest op f e, refuted op 0x04 f e refl, e) refl

code_next : (first_arm : Bool) (op at : ℕ) → next (code first_arm) op at ≡ behind_opcode first_arm op
unfolding next
code_next first_arm op at = refl

-- what an opcode shows
abbrev pub op_seen : (op : Placed) (floating opens : Bool) → Seen
op_seen op floating opens = record { floats_at = place_if floating op.place; opens_at = place_if opens op.place; counts = []; params = []; sizes = [] }

abbrev pub seen_code : ModuleBounds → (level : ℕ) → RawCode → Seen
seen_code b level c = record { floats_at = code_floats c; opens_at = code_opens b.nesting level c; counts = []; params = []; sizes = [] }

nest_next : (first_arm : Bool) (op : ℕ) → IsTrue (is_nest op) → behind_opcode first_arm op ≡ Some (block_type ∷ code false ∷ code first_arm ∷ [])
nest_next first_arm op h = elim (nest_range op h) [
  | inl e ↦ subst (λ z. behind_opcode first_arm z ≡ Some (block_type ∷ code false ∷ code first_arm ∷ [])) (sym e) refl
  | inr e ↦ subst (λ z. behind_opcode first_arm z ≡ Some (block_type ∷ code false ∷ code first_arm ∷ [])) (sym e) refl
]

nest_shown : (op : ℕ) → IsTrue (is_nest op) → (is_float_op op ≡ false) × (opens_level op ≡ true)
nest_shown op h = elim (nest_range op h) [
  | inl e ↦ subst (λ z. (is_float_op z ≡ false) × (opens_level z ≡ true)) (sym e) (refl, refl)
  | inr e ↦ subst (λ z. (is_float_op z ≡ false) × (opens_level z ≡ true)) (sym e) (refl, refl)
]

inside_code : (first_arm : Bool) (more : List Goal) → levels (code first_arm ∷ more) ≡ levels more + 1
unfolding levels
inside_code first_arm more = omega arith

level_seen : (b : ModuleBounds) (level inner : ℕ) (op result : Placed) (c body rest : RawCode) → inner ≡ level + 1
    → code_floats c ≡ float_type result ++ code_floats body ++ code_floats rest
    → code_opens b.nesting level c ≡ place_if (nat_le b.nesting level) op.place ++ code_opens b.nesting (level + 1) body ++ code_opens b.nesting level rest
    → both (opens_seen (place_if (nat_le b.nesting level) op.place)) (both (seen_placed result) (both (seen_code b inner body) (seen_code b level rest))) ≡ seen_code b level c
level_seen b level inner op result c body rest i e f =
    let here = place_if (nat_le b.nesting level) op.place in
    let p : float_type result ++ (code_floats body ++ code_floats rest) ≡ code_floats c = sym (append_assoc (float_type result) (code_floats body) (code_floats rest)) ∙ sym e in
    let q : here ++ (code_opens b.nesting inner body ++ code_opens b.nesting level rest) ≡ code_opens b.nesting level c =
    ap (λ n. here ++ (code_opens b.nesting n body ++ code_opens b.nesting level rest)) i ∙ sym (append_assoc here (code_opens b.nesting (level + 1) body) (code_opens b.nesting level rest)) ∙ sym f in
    λ j. record { floats_at = p j; opens_at = q j; counts = []; params = []; sizes = [] }

module _ (b : ModuleBounds) (last : ℕ) where
  gives_op : (first_arm : Bool) (more new : List Goal) (op : Placed) (floating opens : Bool) → behind_opcode first_arm op.byte ≡ Some new → is_float_op op.byte ≡ floating → opens_level op.byte ≡ opens
      → Gives b last (code first_arm ∷ more) (new ++ more) (Byte op) (op_seen op floating (opens && nat_le b.nesting (levels more)))
  gives_op first_arm more new op floating opens e f g at a c t h k =
      let p = give_byte b last (code first_arm) more new at op.byte a c t refl refl h.1 (code_next first_arm op.byte (at + 1) ∙ e) k in
      let q : shown b (code first_arm) more op.byte at ≡ op_seen op floating (opens && nat_le b.nesting (levels more)) =
      λ i. record { floats_at = place_if (f i) (h.0 i); opens_at = place_if (g i && nat_le b.nesting (levels more)) (h.0 i); counts = []; params = []; sizes = [] } in
      subst (λ z. Tells b last (code first_arm ∷ more) at (a ++ c) (both z t)) q p

  gives_float : (more : List Goal) (xs : List ℕ) → 0 < length xs → Gives b last (float_bytes (length xs) ∷ more) more (Exactly xs) nothing_seen
  unfolding next
  gives_float more xs some at a c t h k = give b last (float_bytes (length xs)) more [] at 0 a c t refl (some, ap length h, refl) refl k

  gives_bytes : (more : List Goal) (zs : List ℕ) → Gives b last (map exact zs ++ more) more (Exactly zs) nothing_seen
  gives_bytes more [] = gives_none b last more
  gives_bytes more (z ∷ zs) =
      let rest = map exact zs ++ more in
      gives_as b last (exact z ∷ rest) more (Exactly (z ∷ []) ▸ Exactly zs) (Exactly (z ∷ zs)) nothing_seen (λ at a h. (z ∷ [], zs, h, refl, refl))
      (gives_then b last (exact z ∷ rest) rest more (Exactly (z ∷ [])) (Exactly zs) nothing_seen nothing_seen (gives_exact b last rest z) (gives_bytes more zs))

  -- the number of a copy or a fill
  gives_bulk_number : (more : List Goal) (n : ℕ) (zs : List ℕ) → zeros_of n ≡ Some zs → Gives b last (bulk_number ∷ more) (map exact zs ++ more) (Number n) nothing_seen
  unfolding next
  gives_bulk_number more n zs e at a c t h k = give b last bulk_number more (map exact zs) at n a c t refl h (ap (option_map (map exact)) e) k

  -- its number, and its zero bytes
  gives_bulk : (more : List Goal) (n : ℕ) → Gives b last (bulk_number ∷ more) more (ImmediatesOf (bulk n)) nothing_seen
  gives_bulk more n at a c t h k =
      gives_then b last (bulk_number ∷ more) (map exact h.1 ++ more) more (Number n) (Exactly h.1) nothing_seen nothing_seen (gives_bulk_number more n h.1 h.4) (gives_bytes more h.1)
      at a c t (h.0, h.1, h.2, h.3, refl) k

  gives_operands : (o : Immediates) (op : ℕ) (more : List Goal) → follows op ≡ Some (form o) → Gives b last (immediates (form o) ++ more) more (ImmediatesOf o) nothing_seen
  unfolding HasBytes
  gives_operands nothing op more e = gives_none b last more
  gives_operands zero_byte op more e = gives_exact b last more 0x00
  gives_operands (index x) op more e = gives_number b last more x
  gives_operands (index_and_zero x) op more e =
      gives_then b last (number ∷ exact 0x00 ∷ more) (exact 0x00 ∷ more) more (Number x) (Exactly (0x00 ∷ [])) nothing_seen nothing_seen (gives_number b last (exact 0x00 ∷ more) x)
      (gives_exact b last more 0x00)
  gives_operands (access align offset) op more e =
      gives_then b last (number ∷ number ∷ more) (number ∷ more) more (Number align) (Number offset) nothing_seen nothing_seen (gives_number b last (number ∷ more) align)
      (gives_number b last more offset)
  gives_operands (labels targets other) op more e =
      gives_then b last (count some_indices ∷ number ∷ more) (number ∷ more) more (Vector Number targets) (Number other) nothing_seen nothing_seen
      (gives_numbers b last (number ∷ more) targets) (gives_number b last more other)
  gives_operands (constant bits n) op more e = gives_signed b last bits more n
  gives_operands (float bytes) op more e = gives_float more bytes (has_bytes op (a_float (length bytes)) e)
  gives_operands (bulk n) op more e = gives_bulk more n

  gives_level : (c body rest : RawCode) (first_arm inner : Bool) (more : List Goal) (op result : Placed)
      → behind_opcode first_arm op.byte ≡ Some (block_type ∷ code inner ∷ code first_arm ∷ []) → is_float_op op.byte ≡ false → opens_level op.byte ≡ true
      → code_floats c ≡ float_type result ++ code_floats body ++ code_floats rest
      → code_opens b.nesting (levels more) c ≡ place_if (nat_le b.nesting (levels more)) op.place ++ code_opens b.nesting (levels more + 1) body ++ code_opens b.nesting (levels more) rest
      → Gives b last (code inner ∷ code first_arm ∷ more) (code first_arm ∷ more) (CodeOf inner body) (seen_code b (levels (code first_arm ∷ more)) body)
      → Gives b last (code first_arm ∷ more) more (CodeOf first_arm rest) (seen_code b (levels more) rest)
      → Gives b last (code first_arm ∷ more) more (Byte op ▸ BlockType result ▸ CodeOf inner body ▸ CodeOf first_arm rest) (seen_code b (levels more) c)
  gives_level c body rest first_arm inner more op result n f g p q inside behind =
      let P = Byte op in
      let Q = BlockType result in
      let R = CodeOf inner body in
      let S = CodeOf first_arm rest in
      let outer = code first_arm ∷ more in
      let x = seen_code b (levels outer) body in
      let y = seen_code b (levels more) rest in
      gives_same b last outer more (P ▸ Q ▸ R ▸ S) (both (op_seen op false (true && nat_le b.nesting (levels more))) (both (seen_placed result) (both x y))) (seen_code b (levels more) c)
      (level_seen b (levels more) (levels outer) op result c body rest (inside_code first_arm more) p q)
      (gives_then b last outer (block_type ∷ code inner ∷ outer) more P (Q ▸ R ▸ S) (op_seen op false (true && nat_le b.nesting (levels more))) (both (seen_placed result) (both x y))
      (gives_op first_arm more (block_type ∷ code inner ∷ code first_arm ∷ []) op false true n f g)
      (gives_then b last (block_type ∷ code inner ∷ outer) (code inner ∷ outer) more Q (R ▸ S) (seen_placed result) (both x y) (gives_block_type b last (code inner ∷ outer) result)
      (gives_then b last (code inner ∷ outer) outer more R S x y inside behind)))

  pub gives_code : (c : RawCode) (first_arm : Bool) (more : List Goal) → Gives b last (code first_arm ∷ more) more (CodeOf first_arm c) (seen_code b (levels more) c)
  gives_code (ended k) first_arm more at a c t h w =
      gives_as b last (code first_arm ∷ more) more (Byte (record { place = k; byte = 0x0B })) (CodeOf first_arm (ended k)) nothing_seen (λ at a h. h)
      (gives_op first_arm more [] (record { place = k; byte = 0x0B }) false false refl refl refl) at a c t h w
  gives_code (otherwise k arm) first_arm more at a c t h w =
      let op : Placed = record { place = k; byte = 0x05 } in
      gives_then b last (code first_arm ∷ more) (code false ∷ more) more (Byte op) (CodeOf false arm) nothing_seen (seen_code b (levels more) arm)
      (gives_op first_arm more (code false ∷ []) op false false (ap (λ z. where_true z (code false ∷ [])) h.0) refl refl) (gives_code arm false more) at a c t h.1 w
  gives_code (instr op o rest) first_arm more at a c t h w =
      let goals = immediates (form o) ++ (code first_arm ∷ more) in
      let here = op_seen op (is_float_op op.byte) false in
      let same : (immediates (form o) ++ code first_arm ∷ []) ++ more ≡ goals = append_assoc (immediates (form o)) (code first_arm ∷ []) more in
      let first = gives_op first_arm more (immediates (form o) ++ code first_arm ∷ []) op (is_float_op op.byte) false (instr_next first_arm op.byte (form o) h.0) refl
      (opens_none op.byte (form o) h.0) in
      gives_then b last (code first_arm ∷ more) goals more (Byte op) (ImmediatesOf o ▸ CodeOf first_arm rest) here (seen_code b (levels more) rest)
      (subst (λ z. Gives b last (code first_arm ∷ more) z (Byte op) here) same first)
      (gives_then b last goals (code first_arm ∷ more) more (ImmediatesOf o) (CodeOf first_arm rest) nothing_seen (seen_code b (levels more) rest)
      (gives_operands o op.byte (code first_arm ∷ more) h.0) (gives_code rest first_arm more))
      at a c t h.1 w
  gives_code (nested op result body rest) first_arm more at a c t h w =
      let n = nest_shown op.byte h.0 in
      gives_level (nested op result body rest) body rest first_arm false more op result (nest_next first_arm op.byte h.0) n.0 n.1 refl refl
      (gives_code body false (code first_arm ∷ more)) (gives_code rest first_arm more) at a c t h.1 w
  gives_code (branched op result arms rest) first_arm more at a c t h w =
      gives_level (branched op result arms rest) arms rest first_arm true more op result (ap (behind_opcode first_arm) h.0) (ap is_float_op h.0) (ap opens_level h.0) refl refl
      (gives_code arms true (code first_arm ∷ more)) (gives_code rest first_arm more) at a c t h.1 w
