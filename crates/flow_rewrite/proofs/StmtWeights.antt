-- How much is left to go over in statements.
use Rattle.std.proofs.Common.{◌≡◌, ℕ, zero, suc, ◌+◌, ◌<◌, ◌≤◌, ◌∷◌, List, [], length, get_or, drop, ap, ◌∙◌, arith}
use Rattle.wa_model.specs.declared.flat.Stmt.{Stmt}
use Rattle.run_theory.specs.Flat.{Stmts, no_more, computes, copies, calls, leaps, leaps_if, leaps_by, nests, decides, halts}
use Rattle.run_theory.specs.FlatView.{stmt_in_front, stmts}
use Rattle.flow_rewrite.specs.Statements.{with_rest}
use Rattle.flow_rewrite.proofs.StmtLemmas.{in_front_is, stmts_step}

-- how many statements they are, those in constructs too
abbrev pub weight : Stmts → ℕ
weight no_more = 0
weight (computes op args to rest) = 1 + weight rest
weight (copies to from rest) = 1 + weight rest
weight (calls op stack args to rest) = 1 + weight rest
weight (leaps l rest) = 1 + weight rest
weight (leaps_if c l rest) = 1 + weight rest
weight (leaps_by c ls l rest) = 1 + weight rest
weight (nests y body rest) = 1 + weight body + weight rest
weight (decides c a b rest) = 1 + weight a + weight b + weight rest
weight (halts rest) = 1 + weight rest

weight_with : (u s : Stmts) → weight (with_rest u s) ≡ weight (with_rest u no_more) + weight s
weight_with no_more s = omega arith
weight_with (computes op args to rest) s = omega arith
weight_with (copies to from rest) s = omega arith
weight_with (calls op stack args to rest) s = omega arith
weight_with (leaps l rest) s = omega arith
weight_with (leaps_if c l rest) s = omega arith
weight_with (leaps_by c ls l rest) s = omega arith
weight_with (nests y body rest) s = omega arith
weight_with (decides c a b rest) s = omega arith
weight_with (halts rest) s = omega arith

weight_drop : (xs : List Stmt) (i : ℕ) → weight (stmts (drop i xs)) ≤ weight (stmts xs)
unfolding stmts
weight_drop [] zero = omega arith
weight_drop [] (suc i) = omega arith
weight_drop (x ∷ xs) zero = omega arith
weight_drop (x ∷ xs) (suc i) =
    let h = weight_drop xs i in let e = ap weight (in_front_is x (stmts xs)) ∙ weight_with (stmt_in_front x no_more) (stmts xs) in omega arith

pub one_lighter : (xs : List Stmt) (i : ℕ) (x : Stmt) → i < length xs → x ≡ get_or xs i x → weight (stmt_in_front x no_more) ≤ weight (stmts xs)
one_lighter xs i x lt is =
    let a = ap weight (stmts_step xs i x lt is ∙ in_front_is x (stmts (drop (i + 1) xs))) ∙ weight_with (stmt_in_front x no_more) (stmts (drop (i + 1) xs)) in
    let b = ap weight (in_front_is x no_more) in
    let h = weight_drop xs i in omega arith
