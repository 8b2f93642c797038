-- Statements, one by one.
use Rattle.std.proofs.Common.{◌≡◌, ℕ, zero, suc, ◌+◌, ◌<◌, ◌≤◌, ◌∷◌, List, [], length, get_or, drop, Option, Some, None, Bool, true, false, refl, sym, ap, ◌∙◌, arith, add-one, drop-cons}
use Rattle.std.specs.Prelude.{◌||◌, if◌then◌else◌}
use Rattle.std.specs.Option.{is_some}
use Rattle.std.specs.declared.vec.Vec.{Vec}
use Rattle.std.specs.declared.alloc.Global.{Global}
use Rattle.wa_types.specs.declared.instrs.Instr.{Instr}
use Rattle.wa_types.specs.declared.instrs.Instr.TheVariants.{Block' as BlockInstr', Loop' as LoopInstr', If' as IfInstr'}
use Rattle.wa_types.specs.Syntax.{Plain, basic, local_get, local_set, local_tee, a_block, a_loop, Code, done, plain, nest, branch}
use Rattle.wa_types.specs.View.{in_front}
use Rattle.wa_types.specs.Leaves.{is_leaf}
use Rattle.wa_model.specs.declared.flat.Operand.{Operand}
use Rattle.wa_model.specs.declared.flat.Stmt.{Stmt, Row_of-Stmt, end_of-Stmt, more_of-Stmt, items-the_row-Stmt, items_hidden-the_row-Stmt-0}
use Rattle.wa_model.specs.declared.flat.Stmt.TheBlock.{hidden-the_row-Stmt-0}
use Rattle.wa_model.specs.declared.flat.Stmt.TheVariants.{Plain as PlainStmt, Move, Call, Br as BrStmt, BrIf as BrIfStmt, BrTable as BrTableStmt, Block, Loop, If, Unreachable as UnreachableStmt, Block', Loop', If'}
use Rattle.run_theory.specs.Flat.{Stmts, no_more, computes, copies, calls, leaps, leaps_if, leaps_by, nests, decides, halts, followed_by, got, set_to, slots_got, last_of, code_of}
use Rattle.run_theory.specs.FlatView.{stmt_in_front, row_stmts, stmts}
use Rattle.run_theory.specs.FlatFits.{StmtsFit, ComputesFit}
use Rattle.guard_form.specs.Pieces.{call_total, numbered, holds_call, piece_call, first_piece, unit_call, units}
use Rattle.flow_rewrite.specs.Statements.{with_rest, one_code, one_place, one_holds}

-- ---- the view

row_is : {m : _} → (k : Row_of-Stmt m) → row_stmts k ≡ stmts (items-the_row-Stmt m k)
unfolding stmts row_stmts stmt_in_front
row_is end_of-Stmt = refl
row_is (more_of-Stmt i k) = ap (stmt_in_front i) (row_is k)

vec_is : (v : Vec Stmt Global) → row_stmts (hidden-the_row-Stmt-0 v) ≡ stmts v.items
vec_is v = row_is (hidden-the_row-Stmt-0 v) ∙ ap stmts (items_hidden-the_row-Stmt-0 v)

pub block_is : (x : Stmt) (v : Vec Stmt Global) → x ≡ Block v → (k : Stmts) → stmt_in_front x k ≡ nests a_block (stmts v.items) k
unfolding stmt_in_front row_stmts
block_is x v e k = ap (λ y. stmt_in_front y k) e ∙ ap (λ b. nests a_block b k) (vec_is v)

pub loop_is : (x : Stmt) (v : Vec Stmt Global) → x ≡ Loop v → (k : Stmts) → stmt_in_front x k ≡ nests a_loop (stmts v.items) k
unfolding stmt_in_front row_stmts
loop_is x v e k = ap (λ y. stmt_in_front y k) e ∙ ap (λ b. nests a_loop b k) (vec_is v)

pub if_is : (x : Stmt) (o : Operand) (v w : Vec Stmt Global) → x ≡ If o v w → (k : Stmts) → stmt_in_front x k ≡ decides o (stmts v.items) (stmts w.items) k
unfolding stmt_in_front row_stmts
if_is x o v w e k = ap (λ y. stmt_in_front y k) e ∙ ap (λ b. decides o b (row_stmts (hidden-the_row-Stmt-0 w)) k) (vec_is v) ∙ ap (λ b. decides o (stmts v.items) b k) (vec_is w)

pub call_is : (x : Stmt) (op : Instr) (stack : Vec ℕ Global) (args : ℕ) (to : Option ℕ) → x ≡ Call op stack args to → (k : Stmts)
    → stmt_in_front x k ≡ calls (in_front op done) stack.items args to k
unfolding stmt_in_front
call_is x op stack args to e k = ap (λ y. stmt_in_front y k) e

pub in_front_is : (x : Stmt) (s : Stmts) → stmt_in_front x s ≡ with_rest (stmt_in_front x no_more) s
unfolding stmt_in_front
in_front_is (PlainStmt op args to) s = refl
in_front_is (Move to from) s = refl
in_front_is (Call op stack args to) s = refl
in_front_is (BrStmt l) s = refl
in_front_is (BrIfStmt c l) s = refl
in_front_is (BrTableStmt o ls l) s = refl
in_front_is (Block' a b) s = refl
in_front_is (Loop' a b) s = refl
in_front_is (If' c a b d e) s = refl
in_front_is UnreachableStmt s = refl

pub stmts_step : (xs : List Stmt) (i : ℕ) (x : Stmt) → i < length xs → x ≡ get_or xs i x → stmts (drop i xs) ≡ stmt_in_front x (stmts (drop (i + 1) xs))
unfolding stmts
stmts_step xs i x lt at = rw (add-one, drop-cons xs i x) (ap (λ y. stmt_in_front y (stmts (drop (suc i) xs))) (sym at))

pub stmts_end : (xs : List Stmt) (i : ℕ) → length xs ≤ i → stmts (drop i xs) ≡ no_more
unfolding stmts
stmts_end [] zero le = refl
stmts_end [] (suc i) le = refl
stmts_end (y ∷ ys) zero le = absurd (omega arith)
stmts_end (y ∷ ys) (suc i) le = stmts_end ys i (omega arith)

-- ---- one statement in front of others

pub total_with : (n : ℕ) (u s : Stmts) → n + call_total (with_rest u s) ≡ one_place n u + call_total s
total_with n no_more s = refl
total_with n (computes op args to rest) s = refl
total_with n (copies to from rest) s = refl
total_with n (calls op stack args to rest) s = omega arith
total_with n (leaps l rest) s = refl
total_with n (leaps_if c l rest) s = refl
total_with n (leaps_by o ls l rest) s = refl
total_with n (nests y body rest) s = omega arith
total_with n (decides c a b rest) s = omega arith
total_with n (halts rest) s = refl

none_is : {X : Type 0} (o : Option X) → is_some o ≡ false → o ≡ None
none_is None e = refl
none_is (Some x) e = cc

pub first_with : (ps : List ℕ) (n : ℕ) (u s : Stmts) → one_holds ps n u ≡ false → first_piece ps n (with_rest u s) ≡ one_code u (first_piece ps (one_place n u) s)
first_with ps n no_more s h = refl
first_with ps n (computes op args to rest) s h = refl
first_with ps n (copies to from rest) s h = refl
first_with ps n (calls op stack args to rest) s h = ap (λ o. piece_call o (slots_got (last_of args stack) (followed_by op (set_to to (first_piece ps (suc n) s))))) (none_is (numbered ps n op) h)
first_with ps n (leaps l rest) s h = refl
first_with ps n (leaps_if c l rest) s h = refl
first_with ps n (leaps_by o ls l rest) s h = refl
first_with ps n (nests y body rest) s h = ap (λ b. if b then done else nest y None (code_of body) (first_piece ps (n + call_total body) s)) h
first_with ps n (decides c a b rest) s h = ap (λ z. if z then done else got c (branch None (code_of a) (code_of b) (first_piece ps (n + call_total a + call_total b) s))) h
first_with ps n (halts rest) s h = refl

pub if_false : {X : Type 0} (b : Bool) (x y : X) → b ≡ false → (if b then x else y) ≡ y
if_false true x y e = cc
if_false false x y e = refl

pub if_true : {X : Type 0} (b : Bool) (x y : X) → b ≡ true → (if b then x else y) ≡ x
if_true true x y e = refl
if_true false x y e = cc

pub units_with : (ps : List ℕ) (n : ℕ) (u s : Stmts) → one_holds ps n u ≡ false → units ps n (with_rest u s) ≡ units ps (one_place n u) s
units_with ps n no_more s h = refl
units_with ps n (computes op args to rest) s h = refl
units_with ps n (copies to from rest) s h = refl
units_with ps n (calls op stack args to rest) s h = ap (λ o. unit_call o (last_of args stack) to (first_piece ps (suc n) s) (units ps (suc n) s)) (none_is (numbered ps n op) h)
units_with ps n (leaps l rest) s h = refl
units_with ps n (leaps_if c l rest) s h = refl
units_with ps n (leaps_by o ls l rest) s h = refl
units_with ps n (nests y body rest) s h = if_false (holds_call ps n body) _ (units ps (n + call_total body) s) h
units_with ps n (decides c a b rest) s h = if_false (holds_call ps n a || holds_call ps (n + call_total a) b) _ (units ps (n + call_total a + call_total b) s) h
units_with ps n (halts rest) s h = refl

-- ---- what is asked

pub fits_one : (locals l : ℕ) (u s : Stmts) → StmtsFit locals l (with_rest u s) → StmtsFit locals l (with_rest u no_more) × StmtsFit locals l s
fits_one locals l no_more s h = (tt, h)
fits_one locals l (computes op args to rest) s h = ((h.0, h.1, h.2, h.3, tt), h.4)
fits_one locals l (copies to from rest) s h = ((h.0, h.1, tt), h.2)
fits_one locals l (calls op stack args to rest) s h = ((h.0, h.1, h.2, h.3, h.4, tt), h.5)
fits_one locals l (leaps x rest) s h = ((h.0, tt), h.1)
fits_one locals l (leaps_if c x rest) s h = ((h.0, h.1, tt), h.2)
fits_one locals l (leaps_by o ls x rest) s h = ((h.0, h.1, h.2, tt), h.3)
fits_one locals l (nests y body rest) s h = ((h.0, tt), h.1)
fits_one locals l (decides c a b rest) s h = ((h.0, h.1, h.2, tt), h.3)
fits_one locals l (halts rest) s h = (tt, h)

pub one_plain : (locals : ℕ) (op : Code) (to : Option ℕ) → ComputesFit locals op to → (p : Plain) × (op ≡ plain p done)
one_plain locals (plain (basic b) done) to h = (basic b, refl)
one_plain locals (plain (local_get x) done) to h = (local_get x, refl)
one_plain locals (plain (local_set x) done) to h = (local_set x, refl)
one_plain locals (plain (local_tee x) done) to h = (local_tee x, refl)
one_plain locals _ to h = absurd h

pub leaf_of : (x : Instr) (p : Plain) → in_front x done ≡ plain p done → is_leaf x ≡ true
unfolding is_leaf in_front
leaf_of (BlockInstr' r s k) p e = cc
leaf_of (LoopInstr' r s k) p e = cc
leaf_of (IfInstr' r s k t l) p e = cc
leaf_of _ p e = refl
