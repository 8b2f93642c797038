-- Labels raised, instruction by instruction.
use Rattle.std.proofs.Common.{Option, ◌≡◌, ℕ, zero, suc, ◌+◌, ◌<◌, ◌≤◌, ◌^◌, ◌∷◌, ◌++◌, List, [], length, get_or, drop, map, true, refl, sym, ap, ◌∙◌, subst, arith}
use Rattle.std.specs.Prelude.{All}
use Rattle.std.specs.declared.vec.Vec.{Vec}
use Rattle.std.specs.declared.alloc.Global.{Global}
use Rattle.wa_types.specs.declared.values.ValType.{ValType}
use Rattle.wa_types.specs.declared.instrs.Instr.{Instr}
use Rattle.wa_types.specs.declared.instrs.Instr.TheVariants.{Unreachable, Nop, Drop, Select, Return, MemorySize, MemoryGrow, MemoryCopy, MemoryFill, Const, Num, Br, BrIf, BrTable, Call, CallIndirect, LocalGet, LocalSet, LocalTee, GlobalGet, GlobalSet, Load, Store, Block, Loop, If, Block', Loop', If'}
use Rattle.wa_types.specs.Syntax.{br_table, a_block, a_loop, Code, done, plain, nest, branch}
use Rattle.wa_types.specs.View.{in_front, onto, code}
use Rattle.wa_types.specs.Counts.{depth_of}
use Rattle.wa_types.proofs.ViewLemmas.{is_block, is_loop, is_if, is_plain, instr_kind, in_block, in_loop, in_if, in_br_table, code_step, code_empty, onto_append, onto_done, onto_none}
use Rattle.wa_types.specs.Leaves.{is_leaf}
use Rattle.guard_form.specs.Guarded.{raise, raised}
use Rattle.flow_rewrite.specs.Putting.{Puts}
use Rattle.flow_rewrite.specs.Raising.{LabelsBelow, PutsRaised, Raisable}

-- ---- one instruction of a list

labels_front : (m : ℕ) (x : Instr) (rest : Code) → LabelsBelow m (in_front x rest) → LabelsBelow m (in_front x done) × LabelsBelow m rest
labels_front m x rest h = elim (instr_kind x) [
  | is_block r v e ↦ let q = subst (LabelsBelow m) (ap (λ y. in_front y rest) e ∙ in_block r v rest) h in (subst (LabelsBelow m) (sym (ap (λ y. in_front y done) e ∙ in_block r v done)) (q.0, tt), q.1)
  | is_loop r v e ↦ let q = subst (LabelsBelow m) (ap (λ y. in_front y rest) e ∙ in_loop r v rest) h in (subst (LabelsBelow m) (sym (ap (λ y. in_front y done) e ∙ in_loop r v done)) (q.0, tt), q.1)
  | is_if r v w e ↦ let q = subst (LabelsBelow m) (ap (λ y. in_front y rest) e ∙ in_if r v w rest) h in
      (subst (LabelsBelow m) (sym (ap (λ y. in_front y done) e ∙ in_if r v w done)) (q.0, q.1, tt), q.2)
  | is_plain p e ↦ let q = subst (LabelsBelow m) (e rest) h in (subst (LabelsBelow m) (sym (e done)) (q.0, tt), q.1)
]

depth_front : (x : Instr) (rest : Code) → (depth_of (in_front x done) ≤ depth_of (in_front x rest)) × (depth_of rest ≤ depth_of (in_front x rest))
unfolding depth_of
depth_front x rest = elim (instr_kind x) [
  | is_block r v e ↦ let a = ap (λ y. depth_of (in_front y rest)) e ∙ ap depth_of (in_block r v rest) in let b = ap (λ y. depth_of (in_front y done)) e
      ∙ ap depth_of (in_block r v done) in (omega arith, omega arith)
  | is_loop r v e ↦ let a = ap (λ y. depth_of (in_front y rest)) e ∙ ap depth_of (in_loop r v rest) in let b = ap (λ y. depth_of (in_front y done)) e
      ∙ ap depth_of (in_loop r v done) in (omega arith, omega arith)
  | is_if r v w e ↦ let a = ap (λ y. depth_of (in_front y rest)) e ∙ ap depth_of (in_if r v w rest) in let b = ap (λ y. depth_of (in_front y done)) e
      ∙ ap depth_of (in_if r v w done) in (omega arith, omega arith)
  | is_plain p e ↦ let a = ap depth_of (e rest) in let b = ap depth_of (e done) in (omega arith, omega arith)
]

one_of : (d n : ℕ) (xs : List Instr) (i : ℕ) (x z : Instr) → i < length xs → Raisable d n (code xs) → Raisable d n (in_front (get_or xs i z) done)
unfolding code onto
one_of d n [] i x z lt h = absurd (omega arith)
one_of d n (y ∷ ys) zero x z lt h = record { few = h.few; labels = (labels_front (2 ^ 31) y (code ys) h.labels).0; shallow = let q = (depth_front y (code ys)).0 in let s = h.shallow in omega arith }
one_of d n (y ∷ ys) (suc i) x z lt h =
    one_of d n ys i x z (omega arith) (record {
      few = h.few;
      labels = (labels_front (2 ^ 31) y (code ys) h.labels).1;
      shallow = let q = (depth_front y (code ys)).1 in let s = h.shallow in omega arith;
    })

pub raisable_at : (d n : ℕ) (xs : List Instr) (i : ℕ) (x : Instr) → i < length xs → x ≡ get_or xs i x → Raisable d n (code xs) → Raisable d n (in_front x done)
raisable_at d n xs i x lt at h = subst (λ y. Raisable d n (in_front y done)) (sym at) (one_of d n xs i x x lt h)

-- ---- inside constructs

pub in_block_raisable : (d n : ℕ) (x : Instr) (r : Option ValType) (v : Vec Instr Global) → x ≡ Block r v → Raisable d n (in_front x done) → Raisable (d + 1) n (code v.items)
unfolding depth_of
in_block_raisable d n x r v e h =
    let q = subst (Raisable d n) (ap (λ y. in_front y done) e ∙ in_block r v done) h in
    let s = q.shallow in
    record { few = q.few; labels = q.labels.0; shallow = omega arith }

pub in_loop_raisable : (d n : ℕ) (x : Instr) (r : Option ValType) (v : Vec Instr Global) → x ≡ Loop r v → Raisable d n (in_front x done) → Raisable (d + 1) n (code v.items)
unfolding depth_of
in_loop_raisable d n x r v e h =
    let q = subst (Raisable d n) (ap (λ y. in_front y done) e ∙ in_loop r v done) h in
    let s = q.shallow in
    record { few = q.few; labels = q.labels.0; shallow = omega arith }

pub in_if_raisable : (d n : ℕ) (x : Instr) (r : Option ValType) (v w : Vec Instr Global) → x ≡ If r v w → Raisable d n (in_front x done)
    → Raisable (d + 1) n (code v.items) × Raisable (d + 1) n (code w.items)
unfolding depth_of
in_if_raisable d n x r v w e h =
    let q = subst (Raisable d n) (ap (λ y. in_front y done) e ∙ in_if r v w done) h in
    let s = q.shallow in
    (record { few = q.few; labels = q.labels.0; shallow = omega arith }, record { few = q.few; labels = q.labels.1; shallow = omega arith })

-- ---- what is raised

pub raised_onto_end : (d n : ℕ) (xs body : List Instr) (i : ℕ) (k : Code) → length body ≤ i → onto xs (raised d n (code (drop i body))) ≡ k → code xs ≡ k
raised_onto_end d n xs body i k le before = sym (onto_done xs) ∙ ap (λ c. onto xs (raised d n c)) (sym (code_empty body i le)) ∙ before

pub raised_br : (d n l k : ℕ) (x : Instr) → x ≡ Br l → k ≡ raise d n l → (rest : Code) → in_front (Br k) (raised d n rest) ≡ raised d n (in_front x rest)
unfolding in_front
raised_br d n l k x e q rest = ap (λ z. in_front (Br z) (raised d n rest)) q ∙ ap (λ y. raised d n (in_front y rest)) (sym e)

pub raised_br_if : (d n l k : ℕ) (x : Instr) → x ≡ BrIf l → k ≡ raise d n l → (rest : Code) → in_front (BrIf k) (raised d n rest) ≡ raised d n (in_front x rest)
unfolding in_front
raised_br_if d n l k x e q rest = ap (λ z. in_front (BrIf z) (raised d n rest)) q ∙ ap (λ y. raised d n (in_front y rest)) (sym e)

pub raised_table : (d n : ℕ) (v w : Vec ℕ Global) (l k : ℕ) (x : Instr) → x ≡ BrTable v l → w.items ≡ map (raise d n) v.items → k ≡ raise d n l → (rest : Code)
    → in_front (BrTable w k) (raised d n rest) ≡ raised d n (in_front x rest)
raised_table d n v w l k x e q q2 rest =
    in_br_table w k (raised d n rest) ∙ ap (λ z. plain (br_table z k) (raised d n rest)) q ∙ ap (λ z. plain (br_table (map (raise d n) v.items) z) (raised d n rest)) q2
    ∙ sym (ap (λ y. raised d n (in_front y rest)) e ∙ ap (raised d n) (in_br_table v l rest))

pub raised_block : (d n : ℕ) (r : Option ValType) (v w : Vec Instr Global) (x : Instr) → x ≡ Block r v → code w.items ≡ raised (d + 1) n (code v.items) → (rest : Code)
    → in_front (Block r w) (raised d n rest) ≡ raised d n (in_front x rest)
raised_block d n r v w x e q rest =
    let z : d + 1 ≡ suc d = omega arith in
    in_block r w (raised d n rest) ∙ ap (λ b. nest a_block r b (raised d n rest)) (q ∙ ap (λ j. raised j n (code v.items)) z)
    ∙ sym (ap (λ y. raised d n (in_front y rest)) e ∙ ap (raised d n) (in_block r v rest))

pub raised_loop : (d n : ℕ) (r : Option ValType) (v w : Vec Instr Global) (x : Instr) → x ≡ Loop r v → code w.items ≡ raised (d + 1) n (code v.items) → (rest : Code)
    → in_front (Loop r w) (raised d n rest) ≡ raised d n (in_front x rest)
raised_loop d n r v w x e q rest =
    let z : d + 1 ≡ suc d = omega arith in
    in_loop r w (raised d n rest) ∙ ap (λ b. nest a_loop r b (raised d n rest)) (q ∙ ap (λ j. raised j n (code v.items)) z)
    ∙ sym (ap (λ y. raised d n (in_front y rest)) e ∙ ap (raised d n) (in_loop r v rest))

pub raised_if : (d n : ℕ) (r : Option ValType) (v w v2 w2 : Vec Instr Global) (x : Instr) → x ≡ If r v w → code v2.items ≡ raised (d + 1) n (code v.items)
    → code w2.items ≡ raised (d + 1) n (code w.items) → (rest : Code) → in_front (If r v2 w2) (raised d n rest) ≡ raised d n (in_front x rest)
raised_if d n r v w v2 w2 x e q q2 rest =
    let z : d + 1 ≡ suc d = omega arith in
    in_if r v2 w2 (raised d n rest) ∙ ap (λ b. branch r b (code w2.items) (raised d n rest)) (q ∙ ap (λ j. raised j n (code v.items)) z)
    ∙ ap (λ b. branch r (raised (suc d) n (code v.items)) b (raised d n rest)) (q2 ∙ ap (λ j. raised j n (code w.items)) z)
    ∙ sym (ap (λ y. raised d n (in_front y rest)) e ∙ ap (raised d n) (in_if r v w rest))

same_raised : (d n : ℕ) (x : Instr) → is_leaf x ≡ true → ((l : ℕ) → x ≡ Br l → ⊥) → ((l : ℕ) → x ≡ BrIf l → ⊥) → ((v : Vec ℕ Global) (l : ℕ) → x ≡ BrTable v l → ⊥) → (rest : Code)
    → raised d n (in_front x rest) ≡ in_front x (raised d n rest)
unfolding in_front is_leaf
same_raised d n Unreachable h b bi bt rest = refl
same_raised d n Nop h b bi bt rest = refl
same_raised d n Drop h b bi bt rest = refl
same_raised d n Select h b bi bt rest = refl
same_raised d n Return h b bi bt rest = refl
same_raised d n MemorySize h b bi bt rest = refl
same_raised d n MemoryGrow h b bi bt rest = refl
same_raised d n MemoryCopy h b bi bt rest = refl
same_raised d n MemoryFill h b bi bt rest = refl
same_raised d n (Const v) h b bi bt rest = refl
same_raised d n (Num op) h b bi bt rest = refl
same_raised d n (Br l) h b bi bt rest = absurd (b l refl)
same_raised d n (BrIf l) h b bi bt rest = absurd (bi l refl)
same_raised d n (BrTable v l) h b bi bt rest = absurd (bt v l refl)
same_raised d n (Call x) h b bi bt rest = refl
same_raised d n (CallIndirect x) h b bi bt rest = refl
same_raised d n (LocalGet x) h b bi bt rest = refl
same_raised d n (LocalSet x) h b bi bt rest = refl
same_raised d n (LocalTee x) h b bi bt rest = refl
same_raised d n (GlobalGet x) h b bi bt rest = refl
same_raised d n (GlobalSet x) h b bi bt rest = refl
same_raised d n (Load op a o) h b bi bt rest = refl
same_raised d n (Store op a o) h b bi bt rest = refl
same_raised d n (Block' r s k) h b bi bt rest = cc
same_raised d n (Loop' r s k) h b bi bt rest = cc
same_raised d n (If' r s k t l) h b bi bt rest = cc

pub raised_other : (d n : ℕ) (x y : Instr) → is_leaf x ≡ true → ((l : ℕ) → x ≡ Br l → ⊥) → ((l : ℕ) → x ≡ BrIf l → ⊥) → ((v : Vec ℕ Global) (l : ℕ) → x ≡ BrTable v l → ⊥)
    → ((rest : Code) → in_front y rest ≡ in_front x rest) → (rest : Code) → in_front y (raised d n rest) ≡ raised d n (in_front x rest)
raised_other d n x y h b bi bt same rest = same (raised d n rest) ∙ sym (same_raised d n x h b bi bt rest)

-- an instruction was put that stands for another one, raised
pub put_as_raised : (old new : List Instr) (f : Code → Code) (d n : ℕ) (x y : Instr) → Puts old new f → ((c : Code) → in_front y c ≡ f c)
    → ((rest : Code) → in_front y (raised d n rest) ≡ raised d n (in_front x rest)) → PutsRaised d n x old new
put_as_raised old new f d n x y puts is same rest = puts (raised d n rest) ∙ ap (onto old) (sym (is (raised d n rest)) ∙ same rest)

pub pushed_as_raised : (old new : List Instr) (d n : ℕ) (x y : Instr) → new ≡ old ++ y ∷ [] → ((rest : Code) → in_front y (raised d n rest) ≡ raised d n (in_front x rest)) → PutsRaised d n x old new
pushed_as_raised old new d n x y e same rest = ap (λ s. onto s (raised d n rest)) e ∙ onto_append old y (raised d n rest) ∙ ap (onto old) (same rest)

pub raised_on : (d n : ℕ) (old xs new body : List Instr) (i : ℕ) (x : Instr) → PutsRaised d n x xs new → i < length body → x ≡ get_or body i x
    → onto xs (raised d n (code (drop i body))) ≡ onto old (raised d n (code body)) → onto new (raised d n (code (drop (i + 1) body))) ≡ onto old (raised d n (code body))
raised_on d n old xs new body i x put lt at before =
    put (code (drop (i + 1) body)) ∙ ap (λ c. onto xs (raised d n c)) (sym (code_step body i x lt at)) ∙ before

pub raised_none : (d n : ℕ) (xs new : List Instr) (c : Code) → xs ≡ [] → code new ≡ onto xs (raised d n c) → code new ≡ raised d n c
raised_none d n xs new c e q = q ∙ ap (λ s. onto s (raised d n c)) e ∙ onto_none (raised d n c)

-- ---- the labels that are there

pub small_br : (d n l : ℕ) (x : Instr) → x ≡ Br l → Raisable d n (in_front x done) → l < 2 ^ 31
unfolding in_front
small_br d n l x e h = (subst (λ y. Raisable d n (in_front y done)) e h).labels.0

pub small_br_if : (d n l : ℕ) (x : Instr) → x ≡ BrIf l → Raisable d n (in_front x done) → l < 2 ^ 31
unfolding in_front
small_br_if d n l x e h = (subst (λ y. Raisable d n (in_front y done)) e h).labels.0

pub small_table : (d n : ℕ) (v : Vec ℕ Global) (l : ℕ) (x : Instr) → x ≡ BrTable v l → Raisable d n (in_front x done) → All (λ k. k < 2 ^ 31) v.items × (l < 2 ^ 31)
small_table d n v l x e h = (subst (Raisable d n) (ap (λ y. in_front y done) e ∙ in_br_table v l done) h).labels.0
