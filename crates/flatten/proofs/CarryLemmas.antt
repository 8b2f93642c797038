-- Moves of results to the locals of labels.
use Rattle.std.proofs.Common.{◌≡◌, ℕ, zero, suc, ◌+◌, ◌-◌, ◌<◌, ◌≤◌, ◌++◌, List, [], ◌∷◌, length, reverse, get_or, drop, slice_get, add-one, drop-cons, Option, Some, None, refl, arith, ap, sym, ◌∙◌}
use Rattle.std.proofs.lemmas.List.{length-reverse, get_or-reverse, drop_all}
use Rattle.std.proofs.lemmas.Option.{slice_get-get_or}
use Rattle.wa_types.specs.declared.values.ValType.{ValType}
use Rattle.wa_model.specs.declared.flat.Stmt.{Stmt}
use Rattle.wa_model.specs.declared.flat.Stmt.TheVariants.{Move}
use Rattle.wa_model.specs.declared.flat.Operand.TheVariants.{Local}
use Rattle.run_theory.specs.Flat.{Stmts}
use Rattle.run_theory.specs.FlatView.{stmt_in_front}
use Rattle.flat_laws.specs.Flatten.{Names, top, carry, carry_all, carry_to}
use Rattle.flatten.specs.Emitting.{onto_stmts, carried_to, all_carried, label_locals}
use Rattle.flatten.proofs.OntoLemmas.{onto_more}

-- counted from the end
pub from_end : (xs : List (Option ℕ)) (l : ℕ) (d : Option ℕ) → l < length xs → slice_get (reverse xs) l ≡ Some (get_or xs (length xs - 1 - l) d)
from_end xs l d lt = (let m : l < length (reverse xs) = omega (arith, length-reverse xs) in slice_get-get_or (reverse xs) l d m) ∙ ap Some (get_or-reverse xs l d lt)

pub carry_none : (old : List Stmt) (xs : List (Option ℕ)) (l from : ℕ) (d : Option ℕ) (rest : Stmts) → l < length xs → get_or xs (length xs - 1 - l) d ≡ None
    → onto_stmts old rest ≡ onto_stmts old (carried_to (slice_get (reverse xs) l) from rest)
carry_none old xs l from d rest lt e = ap (λ o. onto_stmts old (carried_to o from rest)) (sym (from_end xs l d lt ∙ ap (λ o. Some o) e))

pub carry_some : (old new : List Stmt) (xs : List (Option ℕ)) (l from to : ℕ) (d : Option ℕ) (rest : Stmts) → l < length xs → get_or xs (length xs - 1 - l) d ≡ Some to
    → new ≡ old ++ Move to (Local from) ∷ [] → onto_stmts new rest ≡ onto_stmts old (carried_to (slice_get (reverse xs) l) from rest)
unfolding stmt_in_front
carry_some old new xs l from to d rest lt e f =
    ap (λ z. onto_stmts z rest) f ∙ onto_more old (Move to (Local from)) rest ∙ ap (λ o. onto_stmts old (carried_to o from rest)) (sym (from_end xs l d lt ∙ ap (λ o. Some o) e))

pub ruleset carrying = (carry_none, carry_some)

-- ---- the definition's moves

pub carry_is : (n : Names) (ls : List (Option ValType)) (ops : List ValType) (l : ℕ) (rest : Stmts) → carried_to (slice_get (label_locals n ls) l) (top n ops) rest ≡ carry n ls ops l rest
carry_is n [] ops l rest = refl
carry_is n (None ∷ ls) ops zero rest = refl
carry_is n (Some t ∷ ls) ops zero rest = let z : length ls ≡ suc (length ls) - 1 = omega arith in ap (λ d. carry_to n d (Some (Some t)) ops rest) z
carry_is n (r ∷ ls) ops (suc l) rest = let z : length ls - suc l ≡ suc (length ls) - suc (suc l) = omega arith in carry_is n ls ops l rest ∙ ap (λ d. carry_to n d (slice_get ls l) ops rest) z

pub carry_all_is : (n : Names) (ls : List (Option ValType)) (ops : List ValType) (js : List ℕ) (rest : Stmts) → all_carried (label_locals n ls) js (top n ops) rest ≡ carry_all n ls ops js rest
carry_all_is n ls ops [] rest = refl
carry_all_is n ls ops (j ∷ js) rest =
    carry_is n ls ops j (all_carried (label_locals n ls) js (top n ops) rest) ∙ ap (carry n ls ops j) (carry_all_is n ls ops js rest)

pub locals_long : (n : Names) (ls : List (Option ValType)) → length (label_locals n ls) ≡ length ls
locals_long n [] = refl
locals_long n (r ∷ ls) = ap suc (locals_long n ls)

-- ---- one label after the other

module _ (locals : List (Option ℕ)) (from : ℕ) (old : List Stmt) (all : List ℕ) where
  pub carries_step : (now new : List Stmt) (i j : ℕ) (k : Stmts) → i < length all → j ≡ get_or all i j → ((k : Stmts) → onto_stmts new k ≡ onto_stmts now (carried_to (slice_get locals j) from k))
      → ((k : Stmts) → onto_stmts now (all_carried locals (drop i all) from k) ≡ onto_stmts old (all_carried locals all from k))
      → onto_stmts new (all_carried locals (drop (i + 1) all) from k) ≡ onto_stmts old (all_carried locals all from k)
  carries_step now new i j k lt e h before =
      h (all_carried locals (drop (i + 1) all) from k)
      ∙ ap (λ z. onto_stmts now (carried_to (slice_get locals z) from (all_carried locals (drop (i + 1) all) from k))) e
      ∙ ap (λ n. onto_stmts now (carried_to (slice_get locals (get_or all i j)) from (all_carried locals (drop n all) from k))) (add-one i)
      ∙ ap (λ z. onto_stmts now (all_carried locals z from k)) (sym (drop-cons all i j lt))
      ∙ before k

  pub carries_end : (now : List Stmt) (i : ℕ) (k : Stmts) → length all ≤ i → ((k : Stmts)
      → onto_stmts now (all_carried locals (drop i all) from k) ≡ onto_stmts old (all_carried locals all from k)) → onto_stmts now k ≡ onto_stmts old (all_carried locals all from k)
  carries_end now i k le before = sym (ap (λ z. onto_stmts now (all_carried locals z from k)) (drop_all i all le)) ∙ before k
