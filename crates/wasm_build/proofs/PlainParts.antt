-- What follows an opcode is read.
use Rattle.std.proofs.Common.{◌≡◌, ℕ, List, [], ◌∷◌, map, Bool, Option, Some, None, Result, Ok, Err, refl, ap, sym, ◌∙◌, subst, arith, append-nil}
use Rattle.std.proofs.lemmas.Bool.{ne_eqb}
use Rattle.std.specs.declared.vec.Vec.{Vec}
use Rattle.std.specs.declared.alloc.Global.{Global}
use Rattle.wa_types.specs.declared.instrs.Instr.{Instr}
use Rattle.wa_types.specs.declared.instrs.Instr.TheVariants.{Const, BrTable, CallIndirect, MemoryCopy, MemoryFill}
use Rattle.wa_types.specs.declared.values.Value.TheVariants.{I32 as value_32, I64 as value_64}
use Rattle.leb_numbers.specs.Leb.{IsUnsigned, IsSigned}
use Rattle.wa_types.specs.Binary.{Immediates, nothing, zero_byte, index, index_and_zero, access, labels, constant, float, bulk}
use Rattle.wa_types.specs.Opcodes.{Form, follows, form, no_immediate, a_zero, an_index, an_index_and_zero, an_access, some_labels, a_bulk, a_constant, a_float, zeros_of, plain_immediates}
use Rattle.wa_types.specs.Spells.{◌▸◌, Exactly, Number, SignedNumber, Vector, ImmediatesOf}
use Rattle.wa_types.specs.Syntax.{nop, drop, select, const, num, global_get, global_set, load, store, memory_size, memory_grow, memory_copy, memory_fill, Plain, basic, local_get, local_set, local_tee, br, br_if, br_table, return, unreachable, call, call_indirect, Code, done, plain}
use Rattle.wa_types.specs.View.{in_front}
use Rattle.wasm_build.specs.declared.build_types.BuildFault.{BuildFault}
use Rattle.wasm_build.specs.declared.build_types.BuildFault.TheVariants.{Memory}
use Rattle.wasm_grammar.specs.declared.opcodes.ImmediateForm.{ImmediateForm}
use Rattle.wasm_grammar.specs.Forms.{follows_of, form_of}
use Rattle.wasm_grammar.specs.Places.{Place, with_more, ReadsNumber}
use Rattle.wasm_build.specs.Builds.{Between, Builds, Passes}
use Rattle.wasm_build.specs.BuildsPlain.{IsOfOpcode, SpelledPlain, code_of_one, IsNamed, NamesPlain, FoundIn, Puts}
use Rattle.wasm_build.proofs.Betweens.{map_same, nothing_between, number_is}
use Rattle.wasm_build.proofs.Steps.{At, turn, step, step_number, step_passed, last, never}

pub table_says : (op : ℕ) (r : Option ImmediateForm) (k j : ImmediateForm) → follows_of r ≡ follows op → r ≡ Some j → j ≡ k → follows op ≡ Some (form_of k)
table_says op r k j e f g = sym e ∙ ap follows_of (f ∙ ap (λ z. Some z) g)

pub table_is_silent : (op : ℕ) (r : Option ImmediateForm) → follows_of r ≡ follows op → r ≡ None → follows op ≡ None
table_is_silent op r e f = sym e ∙ ap follows_of f

-- what follows the opcode of an instruction that stands first
abbrev pub operands_in : Code → Immediates
operands_in (plain p rest) = plain_immediates p
operands_in _ = nothing

abbrev pub x_in : Immediates → ℕ
x_in (index x) = x
x_in (index_and_zero x) = x
x_in (constant bits n) = n
x_in (labels targets last) = last
x_in (bulk n) = n
x_in _ = 0

abbrev pub align_in : Immediates → ℕ
align_in (access align offset) = align
align_in _ = 0

abbrev pub offset_in : Immediates → ℕ
offset_in (access align offset) = offset
offset_in _ = 0

abbrev pub targets_in : Immediates → List ℕ
targets_in (labels targets last) = targets
targets_in _ = []

-- the code is one instruction of this opcode, followed by what the table says
pub record Followed (op : ℕ) (f : Form) (c : Code) : Type 0 where
  pub instr : Plain
  pub code_is : c ≡ plain instr done
  pub is_of : IsOfOpcode op instr
  pub shape_is : form (operands_in c) ≡ f
  pub operands_are : plain_immediates instr ≡ operands_in c

some_same : (e f : Form) → Some e ≡ Some f → e ≡ f
some_same e f p = cc

followed : (op : ℕ) (f : Form) (c : Code) (at : ℕ) (bytes : List ℕ) → follows op ≡ Some f → SpelledPlain op c at bytes → Followed op f c
followed op f c at bytes e (p, q, is, h) = record {
  instr = p;
  code_is = q;
  is_of = is;
  shape_is = ap (λ z. form (operands_in z)) q ∙ some_same (form (plain_immediates p)) f (sym is.operands ∙ e);
  operands_are = sym (ap operands_in q);
}

pub operands_start : (op : ℕ) (f : Form) (old : Place) → follows op ≡ Some f → At (SpelledPlain op) old (λ c. ImmediatesOf (operands_in c)) (Followed op f) old
operands_start op f old e = record {
  ahead = λ more c end b.
      let h = b.spelled in
      record { front = b.front; spelled = subst (λ z. ImmediatesOf (operands_in z) old.at b.front) (sym h.1) h.3; left = b.left; place = b.place };
  known = λ more c end b. followed op f c old.at b.front e b.spelled;
}

width_same : (v w : ℕ) → a_constant v ≡ a_constant w → v ≡ w
width_same v w e = cc

nothing_so : (o : Immediates) (at : ℕ) (bytes : List ℕ) → form o ≡ no_immediate → ImmediatesOf o at bytes → (Exactly []) at bytes
nothing_so nothing at bytes e h = h
nothing_so zero_byte at bytes e h = absurd (cc)
nothing_so (index x) at bytes e h = absurd (cc)
nothing_so (index_and_zero x) at bytes e h = absurd (cc)
nothing_so (access align offset) at bytes e h = absurd (cc)
nothing_so (labels targets last) at bytes e h = absurd (cc)
nothing_so (constant bits n) at bytes e h = absurd (cc)
nothing_so (float fs) at bytes e h = absurd (cc)
nothing_so (bulk n) at bytes e h = absurd (cc)

nothing_are : (o : Immediates) → form o ≡ no_immediate → o ≡ nothing
nothing_are nothing e = refl
nothing_are zero_byte e = absurd (cc)
nothing_are (index x) e = absurd (cc)
nothing_are (index_and_zero x) e = absurd (cc)
nothing_are (access align offset) e = absurd (cc)
nothing_are (labels targets last) e = absurd (cc)
nothing_are (constant bits n) e = absurd (cc)
nothing_are (float bytes) e = absurd (cc)
nothing_are (bulk n) e = absurd (cc)

zero_so : (o : Immediates) (at : ℕ) (bytes : List ℕ) → form o ≡ a_zero → ImmediatesOf o at bytes → (Exactly (0x00 ∷ []) ▸ Exactly []) at bytes
zero_so nothing at bytes e h = absurd (cc)
zero_so zero_byte at bytes e h = (bytes, [], sym (append-nil bytes), h, refl)
zero_so (index x) at bytes e h = absurd (cc)
zero_so (index_and_zero x) at bytes e h = absurd (cc)
zero_so (access align offset) at bytes e h = absurd (cc)
zero_so (labels targets last) at bytes e h = absurd (cc)
zero_so (constant bits n) at bytes e h = absurd (cc)
zero_so (float fs) at bytes e h = absurd (cc)
zero_so (bulk n) at bytes e h = absurd (cc)

zero_are : (o : Immediates) → form o ≡ a_zero → o ≡ zero_byte
zero_are nothing e = absurd (cc)
zero_are zero_byte e = refl
zero_are (index x) e = absurd (cc)
zero_are (index_and_zero x) e = absurd (cc)
zero_are (access align offset) e = absurd (cc)
zero_are (labels targets last) e = absurd (cc)
zero_are (constant bits n) e = absurd (cc)
zero_are (float bytes) e = absurd (cc)
zero_are (bulk n) e = absurd (cc)

index_so : (o : Immediates) (at : ℕ) (bytes : List ℕ) → form o ≡ an_index → ImmediatesOf o at bytes → (Number (x_in o)) at bytes
index_so nothing at bytes e h = absurd (cc)
index_so zero_byte at bytes e h = absurd (cc)
index_so (index x) at bytes e h = h
index_so (index_and_zero x) at bytes e h = absurd (cc)
index_so (access align offset) at bytes e h = absurd (cc)
index_so (labels targets last) at bytes e h = absurd (cc)
index_so (constant bits n) at bytes e h = absurd (cc)
index_so (float fs) at bytes e h = absurd (cc)
index_so (bulk n) at bytes e h = absurd (cc)

index_are : (o : Immediates) → form o ≡ an_index → o ≡ index (x_in o)
index_are nothing e = absurd (cc)
index_are zero_byte e = absurd (cc)
index_are (index x) e = refl
index_are (index_and_zero x) e = absurd (cc)
index_are (access align offset) e = absurd (cc)
index_are (labels targets last) e = absurd (cc)
index_are (constant bits n) e = absurd (cc)
index_are (float bytes) e = absurd (cc)
index_are (bulk n) e = absurd (cc)

both_so : (o : Immediates) (at : ℕ) (bytes : List ℕ) → form o ≡ an_index_and_zero → ImmediatesOf o at bytes → (Number (x_in o) ▸ (Exactly (0x00 ∷ []) ▸ Exactly [])) at bytes
both_so nothing at bytes e h = absurd (cc)
both_so zero_byte at bytes e h = absurd (cc)
both_so (index x) at bytes e h = absurd (cc)
both_so (index_and_zero x) at bytes e h = (h.0, h.1, h.2, h.3, (h.1, [], sym (append-nil h.1), h.4, refl))
both_so (access align offset) at bytes e h = absurd (cc)
both_so (labels targets last) at bytes e h = absurd (cc)
both_so (constant bits n) at bytes e h = absurd (cc)
both_so (float fs) at bytes e h = absurd (cc)
both_so (bulk n) at bytes e h = absurd (cc)

both_are : (o : Immediates) → form o ≡ an_index_and_zero → o ≡ index_and_zero (x_in o)
both_are nothing e = absurd (cc)
both_are zero_byte e = absurd (cc)
both_are (index x) e = absurd (cc)
both_are (index_and_zero x) e = refl
both_are (access align offset) e = absurd (cc)
both_are (labels targets last) e = absurd (cc)
both_are (constant bits n) e = absurd (cc)
both_are (float bytes) e = absurd (cc)
both_are (bulk n) e = absurd (cc)

access_so : (o : Immediates) (at : ℕ) (bytes : List ℕ) → form o ≡ an_access → ImmediatesOf o at bytes → (Number (align_in o) ▸ Number (offset_in o)) at bytes
access_so nothing at bytes e h = absurd (cc)
access_so zero_byte at bytes e h = absurd (cc)
access_so (index x) at bytes e h = absurd (cc)
access_so (index_and_zero x) at bytes e h = absurd (cc)
access_so (access align offset) at bytes e h = h
access_so (labels targets last) at bytes e h = absurd (cc)
access_so (constant bits n) at bytes e h = absurd (cc)
access_so (float fs) at bytes e h = absurd (cc)
access_so (bulk n) at bytes e h = absurd (cc)

access_are : (o : Immediates) → form o ≡ an_access → o ≡ access (align_in o) (offset_in o)
access_are nothing e = absurd (cc)
access_are zero_byte e = absurd (cc)
access_are (index x) e = absurd (cc)
access_are (index_and_zero x) e = absurd (cc)
access_are (access align offset) e = refl
access_are (labels targets last) e = absurd (cc)
access_are (constant bits n) e = absurd (cc)
access_are (float bytes) e = absurd (cc)
access_are (bulk n) e = absurd (cc)

labels_so : (o : Immediates) (at : ℕ) (bytes : List ℕ) → form o ≡ some_labels → ImmediatesOf o at bytes → (Vector Number (targets_in o) ▸ Number (x_in o)) at bytes
labels_so nothing at bytes e h = absurd (cc)
labels_so zero_byte at bytes e h = absurd (cc)
labels_so (index x) at bytes e h = absurd (cc)
labels_so (index_and_zero x) at bytes e h = absurd (cc)
labels_so (access align offset) at bytes e h = absurd (cc)
labels_so (labels targets last) at bytes e h = h
labels_so (constant bits n) at bytes e h = absurd (cc)
labels_so (float fs) at bytes e h = absurd (cc)
labels_so (bulk n) at bytes e h = absurd (cc)

labels_are : (o : Immediates) → form o ≡ some_labels → o ≡ labels (targets_in o) (x_in o)
labels_are nothing e = absurd (cc)
labels_are zero_byte e = absurd (cc)
labels_are (index x) e = absurd (cc)
labels_are (index_and_zero x) e = absurd (cc)
labels_are (access align offset) e = absurd (cc)
labels_are (labels targets last) e = refl
labels_are (constant bits n) e = absurd (cc)
labels_are (float bytes) e = absurd (cc)
labels_are (bulk n) e = absurd (cc)

constant_so : (o : Immediates) (bits : ℕ) (at : ℕ) (bytes : List ℕ) → form o ≡ a_constant bits → ImmediatesOf o at bytes → (SignedNumber bits (x_in o)) at bytes
constant_so nothing bits at bytes e h = absurd (cc)
constant_so zero_byte bits at bytes e h = absurd (cc)
constant_so (index x) bits at bytes e h = absurd (cc)
constant_so (index_and_zero x) bits at bytes e h = absurd (cc)
constant_so (access align offset) bits at bytes e h = absurd (cc)
constant_so (labels targets last) bits at bytes e h = absurd (cc)
constant_so (constant width n) bits at bytes e h = subst (λ w. SignedNumber w n at bytes) (width_same width bits e) h
constant_so (float fs) bits at bytes e h = absurd (cc)
constant_so (bulk n) bits at bytes e h = absurd (cc)

constant_are : (o : Immediates) (bits : ℕ) → form o ≡ a_constant bits → o ≡ constant bits (x_in o)
constant_are nothing bits e = absurd (cc)
constant_are zero_byte bits e = absurd (cc)
constant_are (index x) bits e = absurd (cc)
constant_are (index_and_zero x) bits e = absurd (cc)
constant_are (access align offset) bits e = absurd (cc)
constant_are (labels targets last) bits e = absurd (cc)
constant_are (constant width n) bits e = ap (λ w. constant w n) (width_same width bits e)
constant_are (float bytes) bits e = absurd (cc)
constant_are (bulk n) bits e = absurd (cc)

pub nothing_start : (op : ℕ) (old : Place) → follows op ≡ Some no_immediate → At (SpelledPlain op) old (λ c. Exactly []) (Followed op no_immediate) old
nothing_start op old e = turn (λ c. Exactly []) (λ c at bytes k h. nothing_so (operands_in c) at bytes k.shape_is h) (operands_start op no_immediate old e)

pub zero_start : (op : ℕ) (old : Place) → follows op ≡ Some a_zero → At (SpelledPlain op) old (λ c. Exactly (0x00 ∷ []) ▸ Exactly []) (Followed op a_zero) old
zero_start op old e = turn (λ c. Exactly (0x00 ∷ []) ▸ Exactly []) (λ c at bytes k h. zero_so (operands_in c) at bytes k.shape_is h) (operands_start op a_zero old e)

pub index_start : (op : ℕ) (old : Place) → follows op ≡ Some an_index → At (SpelledPlain op) old (λ c. Number (x_in (operands_in c))) (Followed op an_index) old
index_start op old e = turn (λ c. Number (x_in (operands_in c))) (λ c at bytes k h. index_so (operands_in c) at bytes k.shape_is h) (operands_start op an_index old e)

pub both_start : (op : ℕ) (old : Place) → follows op ≡ Some an_index_and_zero → At (SpelledPlain op) old (λ c. Number (x_in (operands_in c)) ▸ (Exactly (0x00 ∷ []) ▸ Exactly []))
    (Followed op an_index_and_zero) old
both_start op old e = turn (λ c. Number (x_in (operands_in c)) ▸ (Exactly (0x00 ∷ []) ▸ Exactly [])) (λ c at bytes k h. both_so (operands_in c) at bytes k.shape_is h)
    (operands_start op an_index_and_zero old e)

pub access_start : (op : ℕ) (old : Place) → follows op ≡ Some an_access → At (SpelledPlain op) old (λ c. Number (align_in (operands_in c)) ▸ Number (offset_in (operands_in c)))
    (Followed op an_access) old
access_start op old e = turn (λ c. Number (align_in (operands_in c)) ▸ Number (offset_in (operands_in c))) (λ c at bytes k h. access_so (operands_in c) at bytes k.shape_is h)
    (operands_start op an_access old e)

pub labels_start : (op : ℕ) (old : Place) → follows op ≡ Some some_labels → At (SpelledPlain op) old (λ c. Vector Number (targets_in (operands_in c)) ▸ Number (x_in (operands_in c)))
    (Followed op some_labels) old
labels_start op old e = turn (λ c. Vector Number (targets_in (operands_in c)) ▸ Number (x_in (operands_in c))) (λ c at bytes k h. labels_so (operands_in c) at bytes k.shape_is h)
    (operands_start op some_labels old e)

pub constant_start : (bits : ℕ) (op : ℕ) (old : Place) → follows op ≡ Some (a_constant bits)
    → At (SpelledPlain op) old (λ c. SignedNumber bits (x_in (operands_in c))) (Followed op (a_constant bits)) old
constant_start bits op old e = turn (λ c. SignedNumber bits (x_in (operands_in c))) (λ c at bytes k h. constant_so (operands_in c) bits at bytes k.shape_is h)
    (operands_start op (a_constant bits) old e)

-- The instruction that was found by its opcode.
by_found : (op : ℕ) (o : Option Instr) (r : Result Instr BuildFault) (old new : Place) → FoundIn o r
    → ((more : List ℕ) (c : Code) (end : Place) → Between (SpelledPlain op c) (with_more old more) end → (p : Plain) × (c ≡ plain p done) × IsNamed o p × (with_more new more ≡ end))
    → Builds code_of_one (SpelledPlain op) r old new
by_found op (Some i) r old new f g =
    subst (λ q. Builds code_of_one (SpelledPlain op) q old new) (sym f) (record { built = λ more c end b. let k = g more c end b in (k.2 ∙ sym k.1, k.3) })
by_found op None r old new f g = never f (λ more c end b none. (g more c end b).2)

pub simple_found : (op : ℕ) (o : Option Instr) (r : Result Instr BuildFault) (here : Place) → follows op ≡ Some no_immediate → NamesPlain op nothing o → FoundIn o r
    → Builds code_of_one (SpelledPlain op) r here here
simple_found op o r here e n f = by_found op o r here here f (λ more c end b.
    let s = nothing_start op here e in
    let k = s.known more c end b in
    (k.instr, k.code_is, n.named k.instr k.is_of.kind k.is_of.opcode (k.operands_are ∙ nothing_are (operands_in c) k.shape_is), nothing_between (with_more here more) end (s.ahead more c end b)))

pub memory_built : (op : ℕ) (i : Instr) (u : Unit {0}) (old new : Place) → follows op ≡ Some a_zero → Passes (Exactly (0x00 ∷ [])) (Ok u) old new → NamesPlain op zero_byte (Some i)
    → Builds code_of_one (SpelledPlain op) (Ok i) old new
memory_built op i u old new e r n = by_found op (Some i) (Ok i) old new refl (λ more c end b.
    let s = step_passed (λ c. Exactly []) r (zero_start op old e) in
    let k = s.known more c end b in
    (k.instr, k.code_is, n.named k.instr k.is_of.kind k.is_of.opcode (k.operands_are ∙ zero_are (operands_in c) k.shape_is), nothing_between (with_more new more) end (s.ahead more c end b)))

pub index_found : (op x : ℕ) (o : Option Instr) (r : Result Instr BuildFault) (old new : Place) → follows op ≡ Some an_index → ReadsNumber (IsUnsigned 32) (Ok x) old new
    → NamesPlain op (index x) o → FoundIn o r → Builds code_of_one (SpelledPlain op) r old new
index_found op x o r old new e m n f = by_found op o r old new f (λ more c end b.
    let s = index_start op old e in
    let k = s.known more c end b in
    let g = number_is (IsUnsigned 32) x old new more end (x_in (operands_in c)) m (s.ahead more c end b) in
    (k.instr, k.code_is, n.named k.instr k.is_of.kind k.is_of.opcode (k.operands_are ∙ index_are (operands_in c) k.shape_is ∙ ap index (sym g.0)), g.1))

pub access_found : (op x y : ℕ) (o : Option Instr) (r : Result Instr BuildFault) (old middle new : Place) → follows op ≡ Some an_access → ReadsNumber (IsUnsigned 32) (Ok x) old middle
    → ReadsNumber (IsUnsigned 32) (Ok y) middle new → NamesPlain op (access x y) o → FoundIn o r → Builds code_of_one (SpelledPlain op) r old new
access_found op x y o r old middle new e l m n f = by_found op o r old new f (λ more c end b.
    let s = step_number (λ c. align_in (operands_in c)) (λ c. Number (offset_in (operands_in c))) l (access_start op old e) in
    let w = s.known more c end b in
    let k = w.0 in
    let g = number_is (IsUnsigned 32) y middle new more end (offset_in (operands_in c)) m (s.ahead more c end b) in
    let both : access x y ≡ access (align_in (operands_in c)) (offset_in (operands_in c)) = λ i. access (w.1 i) (g.0 i) in
    (k.instr, k.code_is, n.named k.instr k.is_of.kind k.is_of.opcode (k.operands_are ∙ access_are (operands_in c) k.shape_is ∙ sym both), g.1))

call_is : (p : Plain) (x : ℕ) → plain_immediates p ≡ index_and_zero x → code_of_one (CallIndirect x) ≡ plain p done
unfolding in_front
call_is (basic nop) x e = absurd (cc)
call_is (basic drop) x e = absurd (cc)
call_is (basic select) x e = absurd (cc)
call_is (basic (const (value_32 n))) x e = absurd (cc)
call_is (basic (const (value_64 n))) x e = absurd (cc)
call_is (basic (num m)) x e = absurd (cc)
call_is (basic (global_get y)) x e = absurd (cc)
call_is (basic (global_set y)) x e = absurd (cc)
call_is (basic (load n align offset)) x e = absurd (cc)
call_is (basic (store n align offset)) x e = absurd (cc)
call_is (basic memory_size) x e = absurd (cc)
call_is (basic memory_grow) x e = absurd (cc)
call_is (basic memory_copy) x e = absurd (cc)
call_is (basic memory_fill) x e = absurd (cc)
call_is (local_get y) x e = absurd (cc)
call_is (local_set y) x e = absurd (cc)
call_is (local_tee y) x e = absurd (cc)
call_is (br y) x e = absurd (cc)
call_is (br_if y) x e = absurd (cc)
call_is (br_table targets l) x e = absurd (cc)
call_is return x e = absurd (cc)
call_is unreachable x e = absurd (cc)
call_is (call y) x e = absurd (cc)
call_is (call_indirect y) x e = let f : x ≡ y = cc in ap (λ z. plain (call_indirect z) done) f

pub call_built : (op x : ℕ) (u : Unit {0}) (old middle new : Place) → follows op ≡ Some an_index_and_zero → ReadsNumber (IsUnsigned 32) (Ok x) old middle
    → Passes (Exactly (0x00 ∷ [])) (Ok u) middle new → Builds code_of_one (SpelledPlain op) (Ok (CallIndirect x)) old new
call_built op x u old middle new e m r = by_found op (Some (CallIndirect x)) (Ok (CallIndirect x)) old new refl (λ more c end b.
    let s = step_passed (λ c. Exactly []) r (step_number (λ c. x_in (operands_in c)) (λ c. Exactly (0x00 ∷ []) ▸ Exactly []) m (both_start op old e)) in
    let w = s.known more c end b in
    let k = w.0 in
    (k.instr, k.code_is, call_is k.instr x (k.operands_are ∙ both_are (operands_in c) k.shape_is ∙ ap index_and_zero (sym w.1)), nothing_between (with_more new more) end (s.ahead more c end b)))

labels_same : (ls ms : List ℕ) (l m : ℕ) → labels ls l ≡ labels ms m → (ls ≡ ms) × (l ≡ m)
labels_same ls ms l m e = ((let p : ls ≡ ms = cc in p), (let p : l ≡ m = cc in p))

table_is : (p : Plain) (v : Vec ℕ Global) (l : ℕ) → plain_immediates p ≡ labels v.items l → code_of_one (BrTable v l) ≡ plain p done
unfolding in_front
table_is (basic nop) v x e = absurd (cc)
table_is (basic drop) v x e = absurd (cc)
table_is (basic select) v x e = absurd (cc)
table_is (basic (const (value_32 n))) v x e = absurd (cc)
table_is (basic (const (value_64 n))) v x e = absurd (cc)
table_is (basic (num m)) v x e = absurd (cc)
table_is (basic (global_get y)) v x e = absurd (cc)
table_is (basic (global_set y)) v x e = absurd (cc)
table_is (basic (load n align offset)) v x e = absurd (cc)
table_is (basic (store n align offset)) v x e = absurd (cc)
table_is (basic memory_size) v x e = absurd (cc)
table_is (basic memory_grow) v x e = absurd (cc)
table_is (basic memory_copy) v x e = absurd (cc)
table_is (basic memory_fill) v x e = absurd (cc)
table_is (local_get y) v x e = absurd (cc)
table_is (local_set y) v x e = absurd (cc)
table_is (local_tee y) v x e = absurd (cc)
table_is (br y) v x e = absurd (cc)
table_is (br_if y) v x e = absurd (cc)
table_is (br_table targets l) v x e = let f = labels_same targets v.items l x e in λ i. plain (br_table (sym f.0 i) (sym f.1 i)) done
table_is return v x e = absurd (cc)
table_is unreachable v x e = absurd (cc)
table_is (call y) v x e = absurd (cc)
table_is (call_indirect y) v x e = absurd (cc)

pub table_built : (op l : ℕ) (v : Vec ℕ Global) (old middle new : Place) → follows op ≡ Some some_labels
    → Builds (λ (v : Vec ℕ Global). map (λ x. x) v.items) (λ xs. Vector Number xs) (Ok v) old middle → ReadsNumber (IsUnsigned 32) (Ok l) middle new
    → Builds code_of_one (SpelledPlain op) (Ok (BrTable v l)) old new
table_built op l v old middle new e r m = by_found op (Some (BrTable v l)) (Ok (BrTable v l)) old new refl (λ more c end b.
    let s = step (λ c. targets_in (operands_in c)) (λ c. Number (x_in (operands_in c))) r (labels_start op old e) in
    let w = s.known more c end b in
    let k = w.0 in
    let g = number_is (IsUnsigned 32) l middle new more end (x_in (operands_in c)) m (s.ahead more c end b) in
    let all : v.items ≡ targets_in (operands_in c) = sym (map_same v.items) ∙ w.1 in
    let both : labels v.items l ≡ labels (targets_in (operands_in c)) (x_in (operands_in c)) = λ i. labels (all i) (g.0 i) in
    (k.instr, k.code_is, table_is k.instr v l (k.operands_are ∙ labels_are (operands_in c) k.shape_is ∙ sym both), g.1))

other_width : (v w m n : ℕ) → (v ≡ w → ⊥) → constant v m ≡ constant w n → ⊥
other_width v w m n f e = f (ap width_of e) where
  width_of : Immediates → ℕ
  width_of (constant bits k) = bits
  width_of _ = 0

const_32_is : (p : Plain) (n : ℕ) → plain_immediates p ≡ constant 32 n → code_of_one (Const (value_32 n)) ≡ plain p done
unfolding in_front
const_32_is (basic nop) n e = absurd (cc)
const_32_is (basic drop) n e = absurd (cc)
const_32_is (basic select) n e = absurd (cc)
const_32_is (basic (const (value_32 m))) n e = let f : n ≡ m = cc in ap (λ z. plain (basic (const (value_32 z))) done) f
const_32_is (basic (const (value_64 m))) n e = absurd (other_width 64 32 m n (λ f. omega (arith, f)) e)
const_32_is (basic (num o)) n e = absurd (cc)
const_32_is (basic (global_get y)) n e = absurd (cc)
const_32_is (basic (global_set y)) n e = absurd (cc)
const_32_is (basic (load w align offset)) n e = absurd (cc)
const_32_is (basic (store w align offset)) n e = absurd (cc)
const_32_is (basic memory_size) n e = absurd (cc)
const_32_is (basic memory_grow) n e = absurd (cc)
const_32_is (basic memory_copy) n e = absurd (cc)
const_32_is (basic memory_fill) n e = absurd (cc)
const_32_is (local_get y) n e = absurd (cc)
const_32_is (local_set y) n e = absurd (cc)
const_32_is (local_tee y) n e = absurd (cc)
const_32_is (br y) n e = absurd (cc)
const_32_is (br_if y) n e = absurd (cc)
const_32_is (br_table targets l) n e = absurd (cc)
const_32_is return n e = absurd (cc)
const_32_is unreachable n e = absurd (cc)
const_32_is (call y) n e = absurd (cc)
const_32_is (call_indirect y) n e = absurd (cc)

pub const_32_built : (op n : ℕ) (old new : Place) → follows op ≡ Some (a_constant 32) → ReadsNumber (IsSigned 32) (Ok n) old new → Builds code_of_one (SpelledPlain op) (Ok (Const
    (value_32 n))) old new
const_32_built op n old new e m = by_found op (Some (Const (value_32 n))) (Ok (Const (value_32 n))) old new refl (λ more c end b.
    let s = constant_start 32 op old e in
    let k = s.known more c end b in
    let g = number_is (IsSigned 32) n old new more end (x_in (operands_in c)) m (s.ahead more c end b) in
    (k.instr, k.code_is, const_32_is k.instr n (k.operands_are ∙ constant_are (operands_in c) 32 k.shape_is ∙ ap (constant 32) (sym g.0)), g.1))

const_64_is : (p : Plain) (n : ℕ) → plain_immediates p ≡ constant 64 n → code_of_one (Const (value_64 n)) ≡ plain p done
unfolding in_front
const_64_is (basic nop) n e = absurd (cc)
const_64_is (basic drop) n e = absurd (cc)
const_64_is (basic select) n e = absurd (cc)
const_64_is (basic (const (value_32 m))) n e = absurd (other_width 32 64 m n (λ f. omega (arith, f)) e)
const_64_is (basic (const (value_64 m))) n e = let f : n ≡ m = cc in ap (λ z. plain (basic (const (value_64 z))) done) f
const_64_is (basic (num o)) n e = absurd (cc)
const_64_is (basic (global_get y)) n e = absurd (cc)
const_64_is (basic (global_set y)) n e = absurd (cc)
const_64_is (basic (load w align offset)) n e = absurd (cc)
const_64_is (basic (store w align offset)) n e = absurd (cc)
const_64_is (basic memory_size) n e = absurd (cc)
const_64_is (basic memory_grow) n e = absurd (cc)
const_64_is (basic memory_copy) n e = absurd (cc)
const_64_is (basic memory_fill) n e = absurd (cc)
const_64_is (local_get y) n e = absurd (cc)
const_64_is (local_set y) n e = absurd (cc)
const_64_is (local_tee y) n e = absurd (cc)
const_64_is (br y) n e = absurd (cc)
const_64_is (br_if y) n e = absurd (cc)
const_64_is (br_table targets l) n e = absurd (cc)
const_64_is return n e = absurd (cc)
const_64_is unreachable n e = absurd (cc)
const_64_is (call y) n e = absurd (cc)
const_64_is (call_indirect y) n e = absurd (cc)

pub const_64_built : (op n : ℕ) (old new : Place) → follows op ≡ Some (a_constant 64) → ReadsNumber (IsSigned 64) (Ok n) old new → Builds code_of_one (SpelledPlain op) (Ok (Const
    (value_64 n))) old new
const_64_built op n old new e m = by_found op (Some (Const (value_64 n))) (Ok (Const (value_64 n))) old new refl (λ more c end b.
    let s = constant_start 64 op old e in
    let k = s.known more c end b in
    let g = number_is (IsSigned 64) n old new more end (x_in (operands_in c)) m (s.ahead more c end b) in
    (k.instr, k.code_is, const_64_is k.instr n (k.operands_are ∙ constant_are (operands_in c) 64 k.shape_is ∙ ap (constant 64) (sym g.0)), g.1))

-- ---- a copy or a fill of memory

-- the zero bytes behind this number
abbrev Zeros : ℕ → ℕ → List ℕ → Type 0
Zeros n at bytes = zeros_of n ≡ Some bytes

bulk_so : (o : Immediates) (at : ℕ) (bytes : List ℕ) → form o ≡ a_bulk → ImmediatesOf o at bytes → (Number (x_in o) ▸ Zeros (x_in o)) at bytes
bulk_so nothing at bytes e h = absurd (cc)
bulk_so zero_byte at bytes e h = absurd (cc)
bulk_so (index x) at bytes e h = absurd (cc)
bulk_so (index_and_zero x) at bytes e h = absurd (cc)
bulk_so (access align offset) at bytes e h = absurd (cc)
bulk_so (labels targets last) at bytes e h = absurd (cc)
bulk_so (constant bits n) at bytes e h = absurd (cc)
bulk_so (float fs) at bytes e h = absurd (cc)
bulk_so (bulk n) at bytes e h = h

bulk_are : (o : Immediates) → form o ≡ a_bulk → o ≡ bulk (x_in o)
bulk_are nothing e = absurd (cc)
bulk_are zero_byte e = absurd (cc)
bulk_are (index x) e = absurd (cc)
bulk_are (index_and_zero x) e = absurd (cc)
bulk_are (access align offset) e = absurd (cc)
bulk_are (labels targets last) e = absurd (cc)
bulk_are (constant bits n) e = absurd (cc)
bulk_are (float fs) e = absurd (cc)
bulk_are (bulk n) e = refl

pub bulk_start : (op : ℕ) (old : Place) → follows op ≡ Some a_bulk → At (SpelledPlain op) old (λ c. Number (x_in (operands_in c)) ▸ Zeros (x_in (operands_in c))) (Followed op a_bulk) old
bulk_start op old e = turn (λ c. Number (x_in (operands_in c)) ▸ Zeros (x_in (operands_in c))) (λ c at bytes k h. bulk_so (operands_in c) at bytes k.shape_is h) (operands_start op a_bulk old e)

-- what is known behind the number
abbrev Numbered : (op n : ℕ) → Code → Type 0
Numbered op n c = Followed op a_bulk c × (n ≡ x_in (operands_in c))

bulk_number : (op n : ℕ) (old new : Place) → follows op ≡ Some a_bulk → ReadsNumber (IsUnsigned 32) (Ok n) old new → At (SpelledPlain op) old (λ c. Zeros (x_in (operands_in c))) (Numbered op n) new
bulk_number op n old new e r = step_number (λ c. x_in (operands_in c)) (λ c. Zeros (x_in (operands_in c))) r (bulk_start op old e)

same_zeros : (o p : Option (List ℕ)) (zs ys : List ℕ) → o ≡ p → o ≡ Some zs → p ≡ Some ys → ys ≡ zs
same_zeros o p zs ys e f g = cc

-- so many zero bytes behind it
zeros_are : (n x at : ℕ) (zs bytes : List ℕ) → zeros_of n ≡ Some zs → n ≡ x → Zeros x at bytes → bytes ≡ zs
zeros_are n x at zs bytes e f h = same_zeros (zeros_of n) (zeros_of x) zs bytes (ap zeros_of f) e h

pub copy_start : (op n : ℕ) (old new : Place) → follows op ≡ Some a_bulk → ReadsNumber (IsUnsigned 32) (Ok n) old new → n ≡ 10
    → At (SpelledPlain op) old (λ c. Exactly (0x00 ∷ []) ▸ (Exactly (0x00 ∷ []) ▸ Exactly [])) (Numbered op n) new
copy_start op n old new e r is = turn (λ c. Exactly (0x00 ∷ []) ▸ (Exactly (0x00 ∷ []) ▸ Exactly []))
    (λ c at bytes k h. (0x00 ∷ [], 0x00 ∷ [], zeros_are n (x_in (operands_in c)) at (0x00 ∷ 0x00 ∷ []) bytes (ap zeros_of is) k.1 h, refl, (0x00 ∷ [], [], refl, refl, refl)))
    (bulk_number op n old new e r)

pub fill_start : (op n : ℕ) (old new : Place) → follows op ≡ Some a_bulk → ReadsNumber (IsUnsigned 32) (Ok n) old new → n ≡ 11
    → At (SpelledPlain op) old (λ c. Exactly (0x00 ∷ []) ▸ Exactly []) (Numbered op n) new
fill_start op n old new e r is = turn (λ c. Exactly (0x00 ∷ []) ▸ Exactly [])
    (λ c at bytes k h. (0x00 ∷ [], [], zeros_are n (x_in (operands_in c)) at (0x00 ∷ []) bytes (ap zeros_of is) k.1 h, refl, refl))
    (bulk_number op n old new e r)

ten_no_eleven : bulk 11 ≡ bulk 10 → ⊥
ten_no_eleven e = let f = number_in e in omega (arith, f) where
  number_in : {n m : ℕ} → bulk n ≡ bulk m → n ≡ m
  number_in p = cc

copy_is : (p : Plain) → plain_immediates p ≡ bulk 10 → code_of_one MemoryCopy ≡ plain p done
unfolding in_front
copy_is (basic nop) e = absurd (cc)
copy_is (basic drop) e = absurd (cc)
copy_is (basic select) e = absurd (cc)
copy_is (basic (const (value_32 n))) e = absurd (cc)
copy_is (basic (const (value_64 n))) e = absurd (cc)
copy_is (basic (num m)) e = absurd (cc)
copy_is (basic (global_get y)) e = absurd (cc)
copy_is (basic (global_set y)) e = absurd (cc)
copy_is (basic (load n align offset)) e = absurd (cc)
copy_is (basic (store n align offset)) e = absurd (cc)
copy_is (basic memory_size) e = absurd (cc)
copy_is (basic memory_grow) e = absurd (cc)
copy_is (basic memory_copy) e = refl
copy_is (basic memory_fill) e = absurd (ten_no_eleven e)
copy_is (local_get y) e = absurd (cc)
copy_is (local_set y) e = absurd (cc)
copy_is (local_tee y) e = absurd (cc)
copy_is (br y) e = absurd (cc)
copy_is (br_if y) e = absurd (cc)
copy_is (br_table targets l) e = absurd (cc)
copy_is return e = absurd (cc)
copy_is unreachable e = absurd (cc)
copy_is (call y) e = absurd (cc)
copy_is (call_indirect y) e = absurd (cc)

fill_is : (p : Plain) → plain_immediates p ≡ bulk 11 → code_of_one MemoryFill ≡ plain p done
unfolding in_front
fill_is (basic nop) e = absurd (cc)
fill_is (basic drop) e = absurd (cc)
fill_is (basic select) e = absurd (cc)
fill_is (basic (const (value_32 n))) e = absurd (cc)
fill_is (basic (const (value_64 n))) e = absurd (cc)
fill_is (basic (num m)) e = absurd (cc)
fill_is (basic (global_get y)) e = absurd (cc)
fill_is (basic (global_set y)) e = absurd (cc)
fill_is (basic (load n align offset)) e = absurd (cc)
fill_is (basic (store n align offset)) e = absurd (cc)
fill_is (basic memory_size) e = absurd (cc)
fill_is (basic memory_grow) e = absurd (cc)
fill_is (basic memory_copy) e = absurd (ten_no_eleven (sym e))
fill_is (basic memory_fill) e = refl
fill_is (local_get y) e = absurd (cc)
fill_is (local_set y) e = absurd (cc)
fill_is (local_tee y) e = absurd (cc)
fill_is (br y) e = absurd (cc)
fill_is (br_if y) e = absurd (cc)
fill_is (br_table targets l) e = absurd (cc)
fill_is return e = absurd (cc)
fill_is unreachable e = absurd (cc)
fill_is (call y) e = absurd (cc)
fill_is (call_indirect y) e = absurd (cc)

bulk_named : (op n k : ℕ) (c : Code) → Numbered op n c → n ≡ k → (p : Plain) × (c ≡ plain p done) × (plain_immediates p ≡ bulk k)
bulk_named op n k c w is = (w.0.instr, w.0.code_is, w.0.operands_are ∙ bulk_are (operands_in c) w.0.shape_is ∙ ap bulk (sym w.1 ∙ is))

pub copy_built : (op n : ℕ) (u v : Unit {0}) (old first second new : Place) → follows op ≡ Some a_bulk → ReadsNumber (IsUnsigned 32) (Ok n) old first → n ≡ 10
    → Passes (Exactly (0x00 ∷ [])) (Ok u) first second → Passes (Exactly (0x00 ∷ [])) (Ok v) second new → Builds code_of_one (SpelledPlain op) (Ok MemoryCopy) old new
copy_built op n u v old first second new e r is a b = by_found op (Some MemoryCopy) (Ok MemoryCopy) old new refl (λ more c end w.
    let s = step_passed (λ c. Exactly []) b (step_passed (λ c. Exactly (0x00 ∷ []) ▸ Exactly []) a (copy_start op n old first e r is)) in
    let k = bulk_named op n 10 c (s.known more c end w) is in
    (k.0, k.1, copy_is k.0 k.2, nothing_between (with_more new more) end (s.ahead more c end w)))

pub fill_built : (op n : ℕ) (u : Unit {0}) (old first new : Place) → follows op ≡ Some a_bulk → ReadsNumber (IsUnsigned 32) (Ok n) old first → n ≡ 11
    → Passes (Exactly (0x00 ∷ [])) (Ok u) first new → Builds code_of_one (SpelledPlain op) (Ok MemoryFill) old new
fill_built op n u old first new e r is a = by_found op (Some MemoryFill) (Ok MemoryFill) old new refl (λ more c end w.
    let s = step_passed (λ c. Exactly []) a (fill_start op n old first e r is) in
    let k = bulk_named op n 11 c (s.known more c end w) is in
    (k.0, k.1, fill_is k.0 k.2, nothing_between (with_more new more) end (s.ahead more c end w)))

no_zeros : (n : ℕ) → (n ≡ 10 → ⊥) → (n ≡ 11 → ⊥) → zeros_of n ≡ None
no_zeros n a b = rw (ne_eqb n 10 a, ne_eqb n 11 b) refl

some_no_zeros : (o p : Option (List ℕ)) (zs : List ℕ) → o ≡ p → o ≡ None → p ≡ Some zs → ⊥
some_no_zeros o p zs e f g = cc

-- no other number is one
pub never_bulk : (op n : ℕ) (d : BuildFault) (old new last : Place) → follows op ≡ Some a_bulk → ReadsNumber (IsUnsigned 32) (Ok n) old new → (n ≡ 10 → ⊥) → (n ≡ 11 → ⊥)
    → Builds code_of_one (SpelledPlain op) (Err d) old last
never_bulk op n d old new last e r a b = never refl (λ more c end w none.
    let s = bulk_number op n old new e r in
    let k = s.known more c end w in
    some_no_zeros (zeros_of n) (zeros_of (x_in (operands_in c))) _ (ap zeros_of k.1) (no_zeros n a b) (s.ahead more c end w).spelled)

no_float : (p : Plain) (n : ℕ) → form (plain_immediates p) ≡ a_float n → ⊥
no_float (basic nop) k e = cc
no_float (basic drop) k e = cc
no_float (basic select) k e = cc
no_float (basic (const (value_32 n))) k e = cc
no_float (basic (const (value_64 n))) k e = cc
no_float (basic (num m)) k e = cc
no_float (basic (global_get y)) k e = cc
no_float (basic (global_set y)) k e = cc
no_float (basic (load n align offset)) k e = cc
no_float (basic (store n align offset)) k e = cc
no_float (basic memory_size) k e = cc
no_float (basic memory_grow) k e = cc
no_float (basic memory_copy) k e = cc
no_float (basic memory_fill) k e = cc
no_float (local_get y) k e = cc
no_float (local_set y) k e = cc
no_float (local_tee y) k e = cc
no_float (br y) k e = cc
no_float (br_if y) k e = cc
no_float (br_table targets l) k e = cc
no_float return k e = cc
no_float unreachable k e = cc
no_float (call y) k e = cc
no_float (call_indirect y) k e = cc

pub never_float : (op n : ℕ) (d : BuildFault) (old new : Place) → follows op ≡ Some (a_float n) → Builds code_of_one (SpelledPlain op) (Err d) old new
never_float op n d old new e = never refl (λ more c end b none. let h = b.spelled in no_float h.0 n (some_same _ _ (sym h.2.operands ∙ e)))

none_some : (f : Form) → None ≡ Some f → ⊥
none_some f e = cc

pub never_none : (op : ℕ) (d : BuildFault) (old new : Place) → follows op ≡ None → Builds code_of_one (SpelledPlain op) (Err d) old new
never_none op d old new e = never refl (λ more c end b none. let h = b.spelled in none_some _ (sym e ∙ h.2.operands))

-- the exits of a `?` behind it
pub put_stops : (op : ℕ) (here there : Place) (d y : BuildFault) (q : Result Bool BuildFault) (got new : List Instr) → q ≡ Err y → y ≡ d → Builds code_of_one (SpelledPlain op) (Err d) here there
    → Puts op q got new here there
put_stops op here there d y q got new e f n =
    subst (λ z. Puts op z got new here there) (sym e) (subst (λ z. Builds code_of_one (SpelledPlain op) (Err z) here there) (sym f) n)

pub put_memory : (op : ℕ) (here there : Place) (y : BuildFault) (q : Result Bool BuildFault) (got new : List Instr) → q ≡ Err y → y ≡ Memory → Puts op q got new here there
put_memory op here there y q got new e f = subst (λ z. Puts op z got new here there) (sym e) (record { built = λ tail c end b none. f })
