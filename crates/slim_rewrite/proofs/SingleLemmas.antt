-- Statements that are neither calls nor constructs.
use Rattle.std.proofs.Common.{◌≡◌, ℕ, List, Option, true, false, refl, sym, ap, subst}
use Rattle.std.specs.declared.vec.Vec.{Vec}
use Rattle.std.specs.declared.alloc.Global.{Global}
use Rattle.wa_types.specs.declared.instrs.Instr.{Instr}
use Rattle.wa_types.specs.Syntax.{done}
use Rattle.wa_types.specs.View.{in_front}
use Rattle.wa_model.specs.declared.flat.Operand.{Operand}
use Rattle.wa_model.specs.declared.flat.Stmt.{Stmt}
use Rattle.wa_model.specs.declared.flat.Stmt.TheVariants.{Plain, Move, Br, BrIf, BrTable, Unreachable}
use Rattle.run_theory.specs.Flat.{Stmts, no_more, computes, copies, leaps, leaps_if, leaps_by, halts}
use Rattle.run_theory.specs.FlatFits.{ComputesFit, StmtsFit}
use Rattle.run_theory.specs.FlatView.{stmt_in_front}
use Rattle.wa_types.specs.Leaves.{is_leaf}
use Rattle.flow_rewrite.specs.Statements.{one_code}
use Rattle.flow_rewrite.proofs.StmtLemmas.{leaf_of, one_plain}
use Rattle.slim_rewrite.specs.declared.stack.Walk.{Walk}
use Rattle.slim_rewrite.specs.Walking.{Ended, Stepped}
use Rattle.slim_rewrite.specs.declared.sequence.Sequence.{Sequence}
use Rattle.slim_rewrite.specs.Coming.{Ready}
use Rattle.slim_rewrite.specs.Steps.{Put}
use Rattle.slim_rewrite.proofs.ComingLemmas.{ended_put, stepped_put}
use Rattle.slim_rewrite.proofs.PieceLemmas.{goes_computes, goes_copies, goes_got}

-- the same for what is the same
pub put_as : (ps : List ℕ) (a b : Walk) (p q : Sequence) (x y : Stmts → Stmts) → ((s : Stmts) → y s ≡ x s) → Put ps a p b q x → Put ps a p b q y
put_as ps a b p q x y e h = subst (Put ps a p b q) (λ j s. sym (e s) j) h

pub plain_is : (x : Stmt) (op : Instr) (args : Vec Operand Global) (to : Option ℕ) → x ≡ Plain op args to → (s : Stmts) → stmt_in_front x s ≡ computes (in_front op done) args.items to s
unfolding stmt_in_front
plain_is x op args to e s = ap (λ y. stmt_in_front y s) e

pub move_is : (x : Stmt) (to : ℕ) (from : Operand) → x ≡ Move to from → (s : Stmts) → stmt_in_front x s ≡ copies to from s
unfolding stmt_in_front
move_is x to from e s = ap (λ y. stmt_in_front y s) e

pub br_is : (x : Stmt) (l : ℕ) → x ≡ Br l → (s : Stmts) → stmt_in_front x s ≡ leaps l s
unfolding stmt_in_front
br_is x l e s = ap (λ y. stmt_in_front y s) e

pub br_if_is : (x : Stmt) (o : Operand) (l : ℕ) → x ≡ BrIf o l → (s : Stmts) → stmt_in_front x s ≡ leaps_if o l s
unfolding stmt_in_front
br_if_is x o l e s = ap (λ y. stmt_in_front y s) e

pub table_is : (x : Stmt) (o : Operand) (ls : Vec ℕ Global) (l : ℕ) → x ≡ BrTable o ls l → (s : Stmts) → stmt_in_front x s ≡ leaps_by o ls.items l s
unfolding stmt_in_front
table_is x o ls l e s = ap (λ y. stmt_in_front y s) e

pub halt_is : (x : Stmt) → x ≡ Unreachable → (s : Stmts) → stmt_in_front x s ≡ halts s
unfolding stmt_in_front
halt_is x e s = ap (λ y. stmt_in_front y s) e

-- ---- what is asked

pub plain_fits : (x : Stmt) (op : Instr) (args : Vec Operand Global) (to : Option ℕ) (n : ℕ) → x ≡ Plain op args to → Ready n (stmt_in_front x no_more) → (k : ℕ) × ComputesFit k (in_front op done) to
plain_fits x op args to n e h = (h.locals, (subst (StmtsFit h.locals h.labels) (plain_is x op args to e no_more) h.fit).0)

pub plain_leaf : (x : Stmt) (op : Instr) (args : Vec Operand Global) (to : Option ℕ) (n : ℕ) → x ≡ Plain op args to → Ready n (stmt_in_front x no_more) → is_leaf op ≡ true
plain_leaf x op args to n e h =
    let f = plain_fits x op args to n e h in
    let q = one_plain f.0 (in_front op done) to f.1 in
    leaf_of op q.0 q.1

-- ---- statements

module _ (ps : List ℕ) (a b : Walk) (p : Sequence) (x : Stmt) (goes : p.ended ≡ false) where
  pub plain_put : (op : Instr) (args : Vec Operand Global) (to : Option ℕ) → x ≡ Plain op args to → (k : ℕ) × ComputesFit k (in_front op done) to
      → Stepped a b false (one_code (computes (in_front op done) args.items to no_more)) → Put ps a p b p (stmt_in_front x)
  plain_put op args to e fit st =
      put_as ps a b p p (computes (in_front op done) args.items to) (stmt_in_front x) (plain_is x op args to e)
      (stepped_put ps a b p (computes (in_front op done) args.items to no_more) p.place goes refl refl (λ c. goes_computes fit.0 (in_front op done) args.items to c fit.1) st)

  pub move_put : (to : ℕ) (from : Operand) → x ≡ Move to from → Stepped a b false (one_code (copies to from no_more)) → Put ps a p b p (stmt_in_front x)
  move_put to from e st =
      put_as ps a b p p (copies to from) (stmt_in_front x) (move_is x to from e) (stepped_put ps a b p (copies to from no_more) p.place goes refl refl (goes_copies to from) st)

  pub br_if_put : (o : Operand) (l : ℕ) → x ≡ BrIf o l → Stepped a b false (one_code (leaps_if o l no_more)) → Put ps a p b p (stmt_in_front x)
  br_if_put o l e st =
      put_as ps a b p p (leaps_if o l) (stmt_in_front x) (br_if_is x o l e) (stepped_put ps a b p (leaps_if o l no_more) p.place goes refl refl (λ c. goes_got o _) st)

  pub br_put : (l : ℕ) → x ≡ Br l → Ended a b (one_code (leaps l no_more) done) → Put ps a p b (record p { ended = true }) (stmt_in_front x)
  br_put l e st = put_as ps a b p (record p { ended = true }) (leaps l) (stmt_in_front x) (br_is x l e) (ended_put ps a b p (leaps l no_more) goes refl refl st)

  pub table_put : (o : Operand) (ls : Vec ℕ Global) (l : ℕ) → x ≡ BrTable o ls l → Ended a b (one_code (leaps_by o ls.items l no_more) done)
      → Put ps a p b (record p { ended = true }) (stmt_in_front x)
  table_put o ls l e st =
      put_as ps a b p (record p { ended = true }) (leaps_by o ls.items l) (stmt_in_front x) (table_is x o ls l e) (ended_put ps a b p (leaps_by o ls.items l no_more) goes refl refl st)

  pub halt_put : x ≡ Unreachable → Ended a b (one_code (halts no_more) done) → Put ps a p b (record p { ended = true }) (stmt_in_front x)
  halt_put e st = put_as ps a b p (record p { ended = true }) halts (stmt_in_front x) (halt_is x e) (ended_put ps a b p (halts no_more) goes refl refl st)
