-- Labels of statements that fit can be raised.
use Rattle.std.proofs.Common.{◌≡◌, ℕ, suc, ◌+◌, ◌<◌, ◌≤◌, ◌^◌, List, [], ◌∷◌, Option, Some, None, refl, ◌∙◌, arith}
use Rattle.std.specs.Prelude.{All}
use Rattle.std.proofs.lemmas.List.Elements.{All-get_or, All-from_get_or}
use Rattle.wa_types.specs.Syntax.{basic, local_get, local_set, local_tee, br_if, br_table, call, call_indirect, Code, done, plain, branch}
use Rattle.wa_types.specs.Counts.{depth_of}
use Rattle.wa_model.specs.declared.flat.Operand.{Operand}
use Rattle.wa_model.specs.declared.flat.Operand.TheVariants.{Local, Const}
use Rattle.run_theory.specs.Flat.{Stmts, no_more, computes, copies, calls, leaps, leaps_if, leaps_by, nests, decides, halts, followed_by, got, all_got, set_to, slots_got, last_of, code_of}
use Rattle.run_theory.specs.FlatFits.{StmtsFit}
use Rattle.flow_rewrite.specs.Raising.{LabelsBelow, Raisable}

-- ---- operands and locals have no label and no depth

labels_got : (m : ℕ) (o : Operand) (c : Code) → LabelsBelow m c → LabelsBelow m (got o c)
labels_got m (Local x) c h = (tt, h)
labels_got m (Const v) c h = (tt, h)

labels_all : (m : ℕ) (os : List Operand) (c : Code) → LabelsBelow m c → LabelsBelow m (all_got os c)
labels_all m [] c h = h
labels_all m (o ∷ os) c h = labels_got m o (all_got os c) (labels_all m os c h)

labels_slots : (m : ℕ) (xs : List ℕ) (c : Code) → LabelsBelow m c → LabelsBelow m (slots_got xs c)
labels_slots m [] c h = h
labels_slots m (x ∷ xs) c h = (tt, labels_slots m xs c h)

labels_to : (m : ℕ) (to : Option ℕ) (c : Code) → LabelsBelow m c → LabelsBelow m (set_to to c)
labels_to m None c h = h
labels_to m (Some x) c h = (tt, h)

depth_got : (o : Operand) (c : Code) → depth_of (got o c) ≡ depth_of c
unfolding depth_of
depth_got (Local x) c = refl
depth_got (Const v) c = refl

depth_all : (os : List Operand) (c : Code) → depth_of (all_got os c) ≡ depth_of c
depth_all [] c = refl
depth_all (o ∷ os) c = depth_got o (all_got os c) ∙ depth_all os c

depth_slots : (xs : List ℕ) (c : Code) → depth_of (slots_got xs c) ≡ depth_of c
unfolding depth_of
depth_slots [] c = refl
depth_slots (x ∷ xs) c = depth_slots xs c

depth_to : (to : Option ℕ) (c : Code) → depth_of (set_to to c) ≡ depth_of c
unfolding depth_of
depth_to None c = refl
depth_to (Some x) c = refl

all_below : (l m : ℕ) (xs : List ℕ) → l ≤ m → All (λ x. x < l) xs → All (λ x. x < m) xs
all_below l m xs le h = All-from_get_or (λ x. x < m) xs 0 (λ i lt. let q = All-get_or (λ x. x < l) xs i 0 lt h in omega arith)

-- ---- statements

code_labels : (locals l m : ℕ) (s : Stmts) → StmtsFit locals l s → l + depth_of (code_of s) < m → LabelsBelow m (code_of s)
unfolding depth_of followed_by code_of
code_labels locals l m no_more h lt = tt
code_labels locals l m (computes (plain (basic b) done) args to rest) h lt = let e = depth_all args (plain (basic b) (set_to to (code_of rest))) in let e2 = depth_to to
    (code_of rest) in labels_all m args _ (tt, labels_to m to _ (code_labels locals l m rest h.4 (omega arith)))
code_labels locals l m (computes (plain (local_get x) done) args to rest) h lt = let e = depth_all args (plain (local_get x) (set_to to (code_of rest))) in let e2 = depth_to to
    (code_of rest) in labels_all m args _ (tt, labels_to m to _ (code_labels locals l m rest h.4 (omega arith)))
code_labels locals l m (computes (plain (local_set x) done) args to rest) h lt = let e = depth_all args (plain (local_set x) (set_to to (code_of rest))) in let e2 = depth_to to
    (code_of rest) in labels_all m args _ (tt, labels_to m to _ (code_labels locals l m rest h.4 (omega arith)))
code_labels locals l m (computes (plain (local_tee x) done) args to rest) h lt = let e = depth_all args (plain (local_tee x) (set_to to (code_of rest))) in let e2 = depth_to to
    (code_of rest) in labels_all m args _ (tt, labels_to m to _ (code_labels locals l m rest h.4 (omega arith)))
code_labels locals l m (computes _ args to rest) h lt = absurd h.0
code_labels locals l m (copies to from rest) h lt = let e = depth_got from (plain (local_set to) (code_of rest)) in labels_got m from _ (tt, code_labels locals l m rest h.2 (omega arith))
code_labels locals l m (calls (plain (call x) done) stack args to rest) h lt = let e = depth_slots (last_of args stack)
    (plain (call x) (set_to to (code_of rest))) in let e2 = depth_to to (code_of rest) in labels_slots m (last_of args stack) _ (tt, labels_to m to _ (code_labels locals l m rest h.5 (omega arith)))
code_labels locals l m (calls (plain (call_indirect x) done) stack args to rest) h lt = let e = depth_slots (last_of args stack)
    (plain (call_indirect x) (set_to to (code_of rest))) in let e2 = depth_to to (code_of rest) in labels_slots m (last_of args stack) _
    (tt, labels_to m to _ (code_labels locals l m rest h.5 (omega arith)))
code_labels locals l m (calls _ stack args to rest) h lt = absurd h.0
code_labels locals l m (leaps x rest) h lt = let q = h.0 in (omega arith, code_labels locals l m rest h.1 (omega arith))
code_labels locals l m (leaps_if o x rest) h lt = let q = h.1 in let e = depth_got o (plain (br_if x) (code_of rest)) in labels_got m o _ (omega arith, code_labels locals l m rest h.2 (omega arith))
code_labels locals l m (leaps_by o xs x rest) h lt = let q = h.2 in let e = depth_got o (plain (br_table xs x) (code_of rest)) in labels_got m o _
    ((all_below l m xs (omega arith) h.1, omega arith), code_labels locals l m rest h.3 (omega arith))
code_labels locals l m (nests y body rest) h lt = (code_labels locals (suc l) m body h.0 (omega arith), code_labels locals l m rest h.1 (omega arith))
code_labels locals l m (decides o a b rest) h lt =
    let e = depth_got o (branch None (code_of a) (code_of b) (code_of rest)) in
    labels_got m o _ (code_labels locals (suc l) m a h.1 (omega arith), code_labels locals (suc l) m b h.2 (omega arith), code_labels locals l m rest h.3 (omega arith))
code_labels locals l m (halts rest) h lt = (tt, code_labels locals l m rest h (omega arith))

pub whole_raisable : (locals l : ℕ) (s : Stmts) → StmtsFit locals l s → l + depth_of (code_of s) < 2 ^ 31 → Raisable 0 2 (code_of s)
whole_raisable locals l s h lt = record { few = omega arith; labels = code_labels locals l (2 ^ 31) s h lt; shallow = omega (arith, lt) }
