-- Pieces: what is put of a call, and of a condition.
use Rattle.std.proofs.Common.{◌≡◌, ℕ, suc, ◌≤◌, ◌<◌, ◌^◌, ◌∷◌, ◌++◌, List, [], Option, Some, None, refl, sym, ap, ◌∙◌, arith}
use Rattle.wa_types.specs.declared.operators.NumOp.TheVariants.{I32Ne}
use Rattle.wa_types.specs.declared.values.Value.TheVariants as V
use Rattle.wa_types.specs.declared.instrs.Instr.{Instr}
use Rattle.wa_types.specs.declared.instrs.Instr.TheVariants.{BrIf, Call, CallIndirect}
use Rattle.wa_types.specs.Syntax.{const, num, global_get, local_get, br_if, basic, call, call_indirect, Code, done, plain, nest, branch}
use Rattle.wa_types.specs.Pausing.{Callee}
use Rattle.wa_types.specs.Counts.{depth_of}
use Rattle.wa_types.specs.View.{in_front, onto, code}
use Rattle.wa_types.proofs.ViewLemmas.{is_block, is_loop, is_if, is_plain, instr_kind, in_block, in_loop, in_if, onto_done}
use Rattle.wa_model.specs.declared.flat.Operand.{Operand}
use Rattle.wa_model.specs.declared.flat.Operand.TheVariants.{Local, Const}
use Rattle.run_theory.specs.Flat.{followed_by, got, set_to, slots_got}
use Rattle.guard_form.specs.Pieces.{call_to, got_any}
use Rattle.guard_form.specs.Guarded.{GuardIndices, index_with, raised_plain, raised, index_noted, noted}
use Rattle.guard_form.proofs.CodeLemmas.{then_done}
use Rattle.flow_rewrite.specs.Begun.{led, sought_begun}
use Rattle.flow_rewrite.specs.Putting.{Puts}
use Rattle.flow_rewrite.specs.Raising.{LabelsBelow, Raisable}
use Rattle.flow_rewrite.specs.declared.pieces.Target.{Target}
use Rattle.flow_rewrite.specs.declared.pieces.Target.TheVariants.{Direct, Indirect}
use Rattle.flow_rewrite.specs.UnitView.{callee_of}
use Rattle.flow_rewrite.proofs.PutLemmas.{br_if_is, put_one}

-- ---- labels

pub raisable_out : (d n m : ℕ) (c : Code) → m ≤ 2 → Raisable d n c → Raisable 0 m c
raisable_out d n m c le h = let s = h.shallow in record { few = le; labels = h.labels; shallow = omega arith }

pub raisable_at : (d e n : ℕ) (c : Code) → e ≡ d → Raisable d n c → Raisable e n c
raisable_at d e n c q h = let s = h.shallow in record { few = h.few; labels = h.labels; shallow = omega (arith, q, s) }

pub shallow_of : (d n : ℕ) (c : Code) → Raisable d n c → d < 2 ^ 31
shallow_of d n c h = let s = h.shallow in omega arith

pub raisable_done : (d : ℕ) → d < 2 ^ 31 → Raisable d 2 done
unfolding depth_of
raisable_done d lt = record { few = omega arith; labels = tt; shallow = omega arith }

-- ---- what is put of a call

direct_is : (f : ℕ) (rest : Code) → in_front (Call f) rest ≡ plain (call f) rest
unfolding in_front
direct_is f rest = refl

indirect_is : (t : ℕ) (rest : Code) → in_front (CallIndirect t) rest ≡ plain (call_indirect t) rest
unfolding in_front
indirect_is t rest = refl

pub target_direct : (x : Target) (f : ℕ) → x ≡ Direct f → (rest : Code) → in_front (Call f) rest ≡ plain (call_to (callee_of x)) rest
target_direct x f e rest = direct_is f rest ∙ ap (λ y. plain (call_to (callee_of y)) rest) (sym e)

pub target_indirect : (x : Target) (t : ℕ) → x ≡ Indirect t → (rest : Code) → in_front (CallIndirect t) rest ≡ plain (call_to (callee_of x)) rest
target_indirect x t e rest = indirect_is t rest ∙ ap (λ y. plain (call_to (callee_of y)) rest) (sym e)

-- the test of the index in front of a call, behind a lead
pub test_of : (i : GuardIndices) (lead : Option Code) (k l : ℕ) (l0 l1 l2 : List Instr) → ((c : Code) → onto l0 c ≡ led lead c)
    → Puts l0 l1 (λ c. plain (local_get i.index) (plain (basic (const (V.I32 k))) (plain (basic (num I32Ne)) c))) → l2 ≡ l1 ++ BrIf l ∷ []
    → code l2 ≡ led lead (index_with i (basic (num I32Ne)) k (plain (br_if l) done))
test_of i lead k l l0 l1 l2 e puts f =
    sym (onto_done l2) ∙ put_one l1 l2 (BrIf l) (plain (br_if l)) f (br_if_is l) done ∙ puts (plain (br_if l) done)
    ∙ e (index_with i (basic (num I32Ne)) k (plain (br_if l) done))

pub search_of : (i : GuardIndices) (lead : Option Code) (l m k : ℕ) (first : Code) (old new other inside : List Instr)
    → code other ≡ led lead (index_with i (basic (num I32Ne)) k (plain (br_if l) done))
    → code inside ≡ raised 0 m first → Puts old new (λ c. plain (basic (global_get i.state)) (branch None (code other) (code inside) c)) → Puts old new (sought_begun i lead l m k first)
search_of i lead l m k first old new other inside eo ei puts = λ rest.
    puts rest ∙ (λ j. onto old (plain (basic (global_get i.state)) (branch None (eo j) (ei j) rest)))

pub called_of : (i : GuardIndices) (label k : ℕ) (tail : Code) (x : Callee) (slots : List ℕ) (to : Option ℕ) (l1 l2 l3 l4 l5 l6 : List Instr)
    → Puts l1 l2 (slots_got slots) → Puts l2 l3 (plain (call_to x))
    → Puts l3 l4 (λ c. index_noted i.first_unnoted i.index k (plain (basic (global_get i.state)) (plain (br_if label) c)))
    → Puts l4 l5 (set_to to) → Puts l5 l6 (followed_by tail) → Puts l1 l6 (λ c. slots_got slots (plain (call_to x) (noted i label k (set_to to (followed_by tail c)))))
called_of i label k tail x slots to l1 l2 l3 l4 l5 l6 p2 p3 p4 p5 p6 = λ rest.
    let c = followed_by tail rest in
    p6 rest ∙ p5 c ∙ p4 (set_to to c) ∙ p3 (noted i label k (set_to to c)) ∙ p2 (plain (call_to x) (noted i label k (set_to to c)))

-- ---- a condition

followed_front : (x : Instr) (r c : Code) → followed_by (in_front x r) c ≡ in_front x (followed_by r c)
unfolding followed_by
followed_front x r c = elim (instr_kind x) [
  | is_block y v e ↦ ap (λ z. followed_by z c) (ap (λ z. in_front z r) e ∙ in_block y v r) ∙ sym (ap (λ z. in_front z (followed_by r c)) e ∙ in_block y v (followed_by r c))
  | is_loop y v e ↦ ap (λ z. followed_by z c) (ap (λ z. in_front z r) e ∙ in_loop y v r) ∙ sym (ap (λ z. in_front z (followed_by r c)) e ∙ in_loop y v (followed_by r c))
  | is_if y v w e ↦ ap (λ z. followed_by z c) (ap (λ z. in_front z r) e ∙ in_if y v w r) ∙ sym (ap (λ z. in_front z (followed_by r c)) e ∙ in_if y v w (followed_by r c))
  | is_plain p e ↦ ap (λ z. followed_by z c) (e r) ∙ sym (e (followed_by r c))
]

pub onto_then : (xs : List Instr) (c : Code) → onto xs c ≡ followed_by (code xs) c
unfolding code onto followed_by
onto_then [] c = refl
onto_then (x ∷ xs) c = ap (in_front x) (onto_then xs c) ∙ sym (followed_front x (onto xs done) c)

pub lead_some : (lead : Option Code) (xs : List Instr) (rest : Code) → lead ≡ Some (code xs) → onto xs rest ≡ led lead rest
lead_some lead xs rest is = onto_then xs rest ∙ ap (λ o. led o rest) (sym is)

followed_onto : (xs : List Instr) (a c : Code) → followed_by (onto xs a) c ≡ onto xs (followed_by a c)
unfolding onto
followed_onto [] a c = refl
followed_onto (x ∷ xs) a c = followed_front x (onto xs a) c ∙ ap (in_front x) (followed_onto xs a c)

-- code that was put as the last thing, with whatever behind it
pub put_whole : (old new : List Instr) (a : Code) → code new ≡ onto old a → Puts old new (followed_by a)
put_whole old new a is rest = onto_then new rest ∙ ap (λ z. followed_by z rest) is ∙ followed_onto old a rest

raised_got : (d n : ℕ) (o : Operand) → raised d n (got o done) ≡ got o done
raised_got d n (Local x) = refl
raised_got d n (Const v) = refl

raised_behind : (d n : ℕ) (a c : Code) → raised d n (followed_by a c) ≡ followed_by (raised d n a) (raised d n c)
unfolding followed_by
raised_behind d n done c = refl
raised_behind d n (plain p a) c = ap (plain (raised_plain d n p)) (raised_behind d n a c)
raised_behind d n (nest s r b a) c = ap (nest s r (raised (suc d) n b)) (raised_behind d n a c)
raised_behind d n (branch r x y a) c = ap (branch r (raised (suc d) n x) (raised (suc d) n y)) (raised_behind d n a c)

-- the condition behind the raised piece
pub condition_is : (o : Option Operand) (first : Code) (mid new : List Instr) → code mid ≡ raised 0 1 first → Puts mid new (got_any o) → code new ≡ raised 0 1 (followed_by first (got_any o done))
condition_is None first mid new e puts = sym (onto_done new) ∙ puts done ∙ onto_done mid ∙ e ∙ ap (raised 0 1) (sym (then_done first))
condition_is (Some o) first mid new e puts =
    sym (onto_done new) ∙ puts done ∙ onto_then mid (got o done) ∙ (λ j. followed_by (e j) (sym (raised_got 0 1 o) j)) ∙ sym (raised_behind 0 1 first (got o done))

-- ---- labels of what is written whole

labels_then : (m : ℕ) (a c : Code) → LabelsBelow m (followed_by a c) → LabelsBelow m a × LabelsBelow m c
unfolding followed_by
labels_then m done c h = (tt, h)
labels_then m (plain p a) c h = let q = labels_then m a c h.1 in ((h.0, q.0), q.1)
labels_then m (nest s r b a) c h = let q = labels_then m a c h.1 in ((h.0, q.0), q.1)
labels_then m (branch r x y a) c h = let q = labels_then m a c h.2 in ((h.0, h.1, q.0), q.1)

depth_then : (a c : Code) → (depth_of a ≤ depth_of (followed_by a c)) × (depth_of c ≤ depth_of (followed_by a c))
unfolding depth_of followed_by
depth_then done c = (omega arith, omega arith)
depth_then (plain p a) c = depth_then a c
depth_then (nest s r b a) c = let e = depth_then a c in let e0 = e.0 in let e1 = e.1 in (omega arith, omega arith)
depth_then (branch r x y a) c = let e = depth_then a c in let e0 = e.0 in let e1 = e.1 in (omega arith, omega arith)

pub raisable_then : (d n : ℕ) (a c : Code) → Raisable d n (followed_by a c) → Raisable d n a × Raisable d n c
raisable_then d n a c h =
    let q = labels_then (2 ^ 31) a c h.labels in let z = depth_then a c in let z0 = z.0 in let z1 = z.1 in let s = h.shallow in
    (record { few = h.few; labels = q.0; shallow = omega arith }, record { few = h.few; labels = q.1; shallow = omega arith })

pub raisable_slots : (d n : ℕ) (xs : List ℕ) (c : Code) → Raisable d n (slots_got xs c) → Raisable d n c
unfolding depth_of
raisable_slots d n [] c h = h
raisable_slots d n (x ∷ xs) c h = raisable_slots d n xs c (record { few = h.few; labels = h.labels.1; shallow = h.shallow })

pub raisable_to : (d n : ℕ) (to : Option ℕ) (c : Code) → Raisable d n (set_to to c) → Raisable d n c
unfolding depth_of
raisable_to d n None c h = h
raisable_to d n (Some x) c h = record { few = h.few; labels = h.labels.1; shallow = h.shallow }

pub raisable_got : (d n : ℕ) (o : Operand) (c : Code) → Raisable d n (got o c) → Raisable d n c
unfolding depth_of
raisable_got d n (Local x) c h = record { few = h.few; labels = h.labels.1; shallow = h.shallow }
raisable_got d n (Const v) c h = record { few = h.few; labels = h.labels.1; shallow = h.shallow }
