-- Lists of statements before others.
use Rattle.std.proofs.Common.{◌≡◌, ◌++◌, List, [], ◌∷◌, refl, ap}
use Rattle.wa_model.specs.declared.flat.Stmt.{Stmt}
use Rattle.run_theory.specs.Flat.{Stmts}
use Rattle.run_theory.specs.FlatView.{stmt_in_front}
use Rattle.flatten.specs.Emitting.{onto_stmts}

pub onto_more : (xs : List Stmt) (s : Stmt) (k : Stmts) → onto_stmts (xs ++ s ∷ []) k ≡ onto_stmts xs (stmt_in_front s k)
unfolding onto_stmts
onto_more [] s k = refl
onto_more (x ∷ xs) s k = ap (stmt_in_front x) (onto_more xs s k)
