-- The code of statements, one in front of others.
use Rattle.std.proofs.Common.{◌≡◌, ◌∙◌, ℕ, zero, suc, ◌-◌, ◌+◌, ◌<◌, ◌≤◌, List, [], ◌∷◌, length, get_or, drop, Option, Some, None, Bool, ◌||◌, refl, sym, ap, arith, subst}
use Rattle.std.specs.Prelude.{nat_eq}
use Rattle.std.specs.List.{list_any}
use Rattle.std.proofs.lemmas.List.{drop_more}
use Rattle.wa_types.specs.Syntax.{local_get, local_set, Code, done, plain, nest, branch}
use Rattle.wa_types.specs.Liveness.{live}
use Rattle.wa_model.specs.declared.flat.Operand.{Operand}
use Rattle.wa_model.specs.declared.flat.Operand.TheVariants.{Local, Const}
use Rattle.wa_model.specs.declared.flat.Stmt.{Stmt}
use Rattle.run_theory.specs.Flat.{Stmts, no_more, computes, copies, calls, leaps, leaps_if, leaps_by, nests, decides, halts, followed_by, got, all_got, set_to, slots_got, last_of, code_of}
use Rattle.run_theory.specs.FlatView.{stmt_in_front, stmts}
use Rattle.flow_rewrite.specs.Statements.{with_rest}
use Rattle.flow_rewrite.proofs.StmtLemmas.{in_front_is, stmts_step, stmts_end}
use Rattle.live_locals.specs.Ops.{OpsFit}
use Rattle.live_locals.proofs.SetLemmas.{or_turn}

pub followed_assoc : (a b c : Code) → followed_by (followed_by a b) c ≡ followed_by a (followed_by b c)
unfolding followed_by
followed_assoc done b c = refl
followed_assoc (plain p rest) b c = ap (plain p) (followed_assoc rest b c)
followed_assoc (nest s r body rest) b c = ap (nest s r body) (followed_assoc rest b c)
followed_assoc (branch r x y rest) b c = ap (branch r x y) (followed_assoc rest b c)

pub got_then : (o : Operand) (k : Code) → got o k ≡ followed_by (got o done) k
unfolding followed_by
got_then (Local x) k = refl
got_then (Const v) k = refl

-- what is got, in front of code
got_followed : (o : Operand) (k c : Code) → followed_by (got o k) c ≡ got o (followed_by k c)
unfolding followed_by
got_followed (Local x) k c = refl
got_followed (Const v) k c = refl

all_followed : (xs : List Operand) (k c : Code) → followed_by (all_got xs k) c ≡ all_got xs (followed_by k c)
all_followed [] k c = refl
all_followed (x ∷ xs) k c = got_followed x (all_got xs k) c ∙ ap (got x) (all_followed xs k c)

pub all_then : (xs : List Operand) (k : Code) → all_got xs k ≡ followed_by (all_got xs done) k
unfolding followed_by
all_then xs k = sym (all_followed xs done k)

slots_followed : (xs : List ℕ) (k c : Code) → followed_by (slots_got xs k) c ≡ slots_got xs (followed_by k c)
unfolding followed_by
slots_followed [] k c = refl
slots_followed (x ∷ xs) k c = ap (plain (local_get x)) (slots_followed xs k c)

pub slots_then : (xs : List ℕ) (k : Code) → slots_got xs k ≡ followed_by (slots_got xs done) k
unfolding followed_by
slots_then xs k = sym (slots_followed xs done k)

set_followed : (to : Option ℕ) (c : Code) → followed_by (set_to to done) c ≡ set_to to c
unfolding followed_by
set_followed None c = refl
set_followed (Some x) c = refl

-- a stack that is got, and then what is set
pub slots_set : (xs : List ℕ) (to : Option ℕ) (c : Code) → slots_got xs (set_to to c) ≡ followed_by (slots_got xs (set_to to done)) c
slots_set xs to c = sym (slots_followed xs (set_to to done) c ∙ ap (slots_got xs) (set_followed to c))

-- the last of them first
pub operand_before : (xs : List Operand) (left : ℕ) (x : Operand) → 0 < left → left ≤ length xs → x ≡ get_or xs (left - 1) x
    → followed_by (got x done) (all_got (drop left xs) done) ≡ all_got (drop (left - 1) xs) done
operand_before xs left x some within at =
    let next : left - 1 + 1 ≡ left = omega arith in
    let e : drop (left - 1) xs ≡ x ∷ drop left xs = drop_more xs (left - 1) x (omega arith) ∙ (λ i. sym at i ∷ drop (next i) xs) in
    sym (got_then x (all_got (drop left xs) done)) ∙ ap (λ ys. all_got ys done) (sym e)

pub slot_before : (xs : List ℕ) (left x : ℕ) → 0 < left → left ≤ length xs → x ≡ get_or xs (left - 1) x
    → followed_by (plain (local_get x) done) (slots_got (drop left xs) done) ≡ slots_got (drop (left - 1) xs) done
unfolding followed_by
slot_before xs left x some within at =
    let next : left - 1 + 1 ≡ left = omega arith in
    let e : drop (left - 1) xs ≡ x ∷ drop left xs = drop_more xs (left - 1) x (omega arith) ∙ (λ i. sym at i ∷ drop (next i) xs) in
    ap (λ ys. slots_got ys done) (sym e)

-- ---- one statement in front of others

code_with : (u s : Stmts) → code_of (with_rest u s) ≡ followed_by (code_of (with_rest u no_more)) (code_of s)
unfolding code_of followed_by
code_with no_more s = refl
code_with (computes op args to rest) s =
    sym (all_followed args (followed_by op (set_to to done)) (code_of s) ∙ ap (all_got args) (followed_assoc op (set_to to done) (code_of s) ∙ ap (followed_by op) (set_followed to (code_of s))))
code_with (copies to from rest) s = sym (got_followed from (plain (local_set to) done) (code_of s))
code_with (calls op stack args to rest) s =
    sym (slots_followed (last_of args stack) (followed_by op (set_to to done)) (code_of s)
    ∙ ap (slots_got (last_of args stack)) (followed_assoc op (set_to to done) (code_of s) ∙ ap (followed_by op) (set_followed to (code_of s))))
code_with (leaps l rest) s = refl
code_with (leaps_if o l rest) s = sym (got_followed o _ (code_of s))
code_with (leaps_by o ls l rest) s = sym (got_followed o _ (code_of s))
code_with (nests y body rest) s = refl
code_with (decides o a b rest) s = sym (got_followed o _ (code_of s))
code_with (halts rest) s = refl

pub code_front : (x : Stmt) (s : Stmts) → code_of (stmt_in_front x s) ≡ followed_by (code_of (stmt_in_front x no_more)) (code_of s)
code_front x s = ap code_of (in_front_is x s) ∙ code_with (stmt_in_front x no_more) s ∙ ap (λ u. followed_by (code_of u) (code_of s)) (sym (in_front_is x no_more))

-- the statement before those that are passed
pub code_before : (xs : List Stmt) (left : ℕ) (x : Stmt) → 0 < left → left ≤ length xs → x ≡ get_or xs (left - 1) x
    → followed_by (code_of (stmt_in_front x no_more)) (code_of (stmts (drop left xs))) ≡ code_of (stmts (drop (left - 1) xs))
code_before xs left x some within at =
    let next : left - 1 + 1 ≡ left = omega arith in
    sym (ap code_of (stmts_step xs (left - 1) x (omega arith) at) ∙ ap (λ n. code_of (stmt_in_front x (stmts (drop n xs)))) next ∙ code_front x (stmts (drop left xs)))

pub code_end : (xs : List Stmt) → code_of (stmts (drop (length xs) xs)) ≡ done
unfolding code_of
code_end xs = ap code_of (stmts_end xs (length xs) (omega arith))

-- ---- what is asked

ops_with : (u s : Stmts) → OpsFit (with_rest u s) → OpsFit (with_rest u no_more) × OpsFit s
ops_with no_more s h = (tt, h)
ops_with (computes op args to rest) s h = ((h.0, tt), h.1)
ops_with (copies to from rest) s h = (tt, h)
ops_with (calls op stack args to rest) s h = ((h.0, tt), h.1)
ops_with (leaps l rest) s h = (tt, h)
ops_with (leaps_if o l rest) s h = (tt, h)
ops_with (leaps_by o ls l rest) s h = (tt, h)
ops_with (nests y body rest) s h = ((h.0, tt), h.1)
ops_with (decides o a b rest) s h = ((h.0, h.1, tt), h.2)
ops_with (halts rest) s h = (tt, h)

pub ops_front : (x : Stmt) (s : Stmts) → OpsFit (stmt_in_front x s) → OpsFit (stmt_in_front x no_more) × OpsFit s
ops_front x s h =
    let q = ops_with (stmt_in_front x no_more) s (subst OpsFit (in_front_is x s) h) in
    (subst OpsFit (sym (in_front_is x no_more)) q.0, q.1)

-- of any tail of a body
ops_drop : (i : ℕ) (xs : List Stmt) → OpsFit (stmts xs) → OpsFit (stmts (drop i xs))
unfolding stmts
ops_drop zero xs h = h
ops_drop (suc i) [] h = h
ops_drop (suc i) (x ∷ xs) h = ops_drop i xs (ops_front x (stmts xs) h).1

pub ops_at : (xs : List Stmt) (i : ℕ) (x : Stmt) → i < length xs → x ≡ get_or xs i x → OpsFit (stmts xs) → OpsFit (stmt_in_front x no_more)
ops_at xs i x lt at h = (ops_front x (stmts (drop (i + 1) xs)) (subst OpsFit (stmts_step xs i x lt at) (ops_drop i xs h))).0

-- ---- a stack

pub live_slots : (x : ℕ) (tos : List Bool) (out : Bool) (xs : List ℕ) (k : Code) → live x tos out (slots_got xs k) ≡ (list_any (nat_eq x) xs || live x tos out k)
unfolding live
live_slots x tos out [] k = refl
live_slots x tos out (y ∷ xs) k = ap (λ b. nat_eq x y || b) (live_slots x tos out xs k) ∙ sym (or_turn (nat_eq x y) (list_any (nat_eq x) xs) (live x tos out k))
