-- Statements as the view has them, kind by kind.
use Rattle.std.proofs.Common.{◌≡◌, ℕ, Option, ap}
use Rattle.std.specs.declared.vec.Vec.{Vec}
use Rattle.std.specs.declared.alloc.Global.{Global}
use Rattle.wa_types.specs.declared.instrs.Instr.{Instr}
use Rattle.wa_types.specs.Syntax.{done}
use Rattle.wa_types.specs.View.{in_front}
use Rattle.wa_model.specs.declared.flat.Operand.{Operand}
use Rattle.wa_model.specs.declared.flat.Stmt.{Stmt}
use Rattle.wa_model.specs.declared.flat.Stmt.TheVariants.{Plain as PlainStmt, Move, Br as BrStmt, BrIf as BrIfStmt, BrTable as BrTableStmt, Unreachable as UnreachableStmt}
use Rattle.run_theory.specs.Flat.{Stmts, computes, copies, leaps, leaps_if, leaps_by, halts}
use Rattle.run_theory.specs.FlatView.{stmt_in_front}

pub as_plain : (x : Stmt) (op : Instr) (args : Vec Operand Global) (to : Option ℕ) → x ≡ PlainStmt op args to → (s : Stmts)
    → stmt_in_front x s ≡ computes (in_front op done) args.items to s
unfolding stmt_in_front
as_plain x op args to e s = ap (λ y. stmt_in_front y s) e

pub as_move : (x : Stmt) (to : ℕ) (from : Operand) → x ≡ Move to from → (s : Stmts) → stmt_in_front x s ≡ copies to from s
unfolding stmt_in_front
as_move x to from e s = ap (λ y. stmt_in_front y s) e

pub as_br : (x : Stmt) (l : ℕ) → x ≡ BrStmt l → (s : Stmts) → stmt_in_front x s ≡ leaps l s
unfolding stmt_in_front
as_br x l e s = ap (λ y. stmt_in_front y s) e

pub as_br_if : (x : Stmt) (o : Operand) (l : ℕ) → x ≡ BrIfStmt o l → (s : Stmts) → stmt_in_front x s ≡ leaps_if o l s
unfolding stmt_in_front
as_br_if x o l e s = ap (λ y. stmt_in_front y s) e

pub as_table : (x : Stmt) (o : Operand) (v : Vec ℕ Global) (l : ℕ) → x ≡ BrTableStmt o v l → (s : Stmts) → stmt_in_front x s ≡ leaps_by o v.items l s
unfolding stmt_in_front
as_table x o v l e s = ap (λ y. stmt_in_front y s) e

pub as_halt : (x : Stmt) → x ≡ UnreachableStmt → (s : Stmts) → stmt_in_front x s ≡ halts s
unfolding stmt_in_front
as_halt x e s = ap (λ y. stmt_in_front y s) e
