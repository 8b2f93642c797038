-- What the values of flat statements are, as plain data: the vectors' memory is left out.
use Rattle.std.specs.Prelude.{List, [], ◌∷◌, map}
use Rattle.wa_types.specs.Syntax.{a_block, a_loop, done}
use Rattle.wa_types.specs.View.{in_front}
use Rattle.wa_model.specs.declared.flat.Stmt.{Stmt, Row_of-Stmt, end_of-Stmt, more_of-Stmt}
use Rattle.wa_model.specs.declared.flat.Stmt.TheVariants.{Plain, Move, Call, Br, BrIf, BrTable, Block', Loop', If', Unreachable}
use Rattle.wa_model.specs.declared.flat.FlatFunc.{FlatFunc as FlatFuncValue}
use Rattle.wa_model.specs.declared.flat.FlatModule.{FlatModule as FlatModuleValue}
use Rattle.run_theory.specs.Flat.{Stmts, no_more, computes, copies, calls, leaps, leaps_if, leaps_by, nests, decides, halts, FlatFunc, FlatModule}

unfoldable mutual
  -- a statement in front of the rest of its list
  pub stmt_in_front : Stmt → Stmts → Stmts
  stmt_in_front (Plain op args to) rest = computes (in_front op done) args.items to rest
  stmt_in_front (Move to from) rest = copies to from rest
  stmt_in_front (Call op stack args to) rest = calls (in_front op done) stack.items args to rest
  stmt_in_front (Br l) rest = leaps l rest
  stmt_in_front (BrIf condition l) rest = leaps_if condition l rest
  stmt_in_front (BrTable index labels last) rest = leaps_by index labels.items last rest
  stmt_in_front (Block' s body) rest = nests a_block (row_stmts body) rest
  stmt_in_front (Loop' s body) rest = nests a_loop (row_stmts body) rest
  stmt_in_front (If' condition s a t b) rest = decides condition (row_stmts a) (row_stmts b) rest
  stmt_in_front Unreachable rest = halts rest

  -- the statements of a construct's body
  pub row_stmts : {m : _} → Row_of-Stmt m → Stmts
  row_stmts end_of-Stmt = no_more
  row_stmts (more_of-Stmt i rest) = stmt_in_front i (row_stmts rest)

-- a list of statements
unfoldable pub stmts : List Stmt → Stmts
stmts [] = no_more
stmts (i ∷ is) = stmt_in_front i (stmts is)

-- a flat function
abbrev pub flat_func_of : FlatFuncValue → FlatFunc
flat_func_of f = record { func = f.func; sort = f.sort; locals = f.locals.items; result = f.result; body = stmts f.body.items }

-- flat functions in index order
abbrev pub flat_module_of : FlatModuleValue → FlatModule
flat_module_of m = record { funcs = map flat_func_of m.funcs.items }
