-- The entries for the loops of statements.
use Rattle.std.proofs.Common.{◌≡◌, ◌∙◌, ℕ, zero, suc, ◌+◌, List, [], ◌∷◌, ◌++◌, length, drop, set, Option, Some, None, Bool, false, refl, sym, ap, arith, subst, length-append}
use Rattle.std.specs.Prelude.{Vec, nat_eq}
use Rattle.std.specs.declared.alloc.Global.{Global}
use Rattle.std.proofs.lemmas.List.{append-nil, append_assoc}
use Rattle.wa_types.specs.Syntax.{a_block, a_loop}
use Rattle.wa_types.specs.Liveness.{live}
use Rattle.wa_model.specs.declared.flat.Stmt.{Stmt}
use Rattle.run_theory.specs.Flat.{Stmts, no_more, computes, copies, calls, leaps, leaps_if, leaps_by, nests, decides, halts, code_of}
use Rattle.run_theory.specs.FlatView.{stmt_in_front, stmts}
use Rattle.flow_rewrite.specs.Statements.{with_rest}
use Rattle.flow_rewrite.proofs.StmtLemmas.{in_front_is}
use Rattle.live_locals.specs.Heads.{deeper, loop_total, heads, Knows}

-- ---- entries

module _ (i x : ℕ) where
  pub knows_on : (es fs : List (Option (Vec ℕ Global))) (hs gs : List Bool) → length es ≡ length hs → Knows i x es hs → Knows i x fs gs → Knows i x (es ++ fs) (hs ++ gs)
  knows_on [] fs [] gs n k l = l
  knows_on [] fs (h ∷ hs) gs n k l = absurd (omega (arith, n))
  knows_on (e ∷ es) fs [] gs n k l = absurd (omega (arith, n))
  knows_on (None ∷ es) fs (h ∷ hs) gs n k l = knows_on es fs hs gs (omega (arith, n)) k l
  knows_on (Some w ∷ es) fs (h ∷ hs) gs n k l = (k.0, knows_on es fs hs gs (omega (arith, n)) k.1 l)

  pub knows_left : (es : List (Option (Vec ℕ Global))) (hs gs : List Bool) → Knows i x es (hs ++ gs) → Knows i x es hs
  knows_left [] hs gs k = tt
  knows_left (e ∷ es) [] gs k = tt
  knows_left (None ∷ es) (h ∷ hs) gs k = knows_left es hs gs k
  knows_left (Some w ∷ es) (h ∷ hs) gs k = (k.0, knows_left es hs gs k.1)

  pub knows_right : (es : List (Option (Vec ℕ Global))) (hs gs : List Bool) → Knows i x es (hs ++ gs) → Knows i x (drop (length hs) es) gs
  knows_right es [] gs k = k
  knows_right [] (h ∷ hs) gs k = tt
  knows_right (None ∷ es) (h ∷ hs) gs k = knows_right es hs gs k
  knows_right (Some w ∷ es) (h ∷ hs) gs k = knows_right es hs gs k.1

  pub knows_as : (es : List (Option (Vec ℕ Global))) (hs gs : List Bool) → hs ≡ gs → Knows i x es hs → Knows i x es gs
  knows_as es hs gs e k = subst (Knows i x es) e k

-- an entry that is put in its place
pub set_there : {X : Type 0} (old : List X) (d e : X) (more : List X) → set ((old ++ d ∷ []) ++ more) (length old) e ≡ old ++ (e ∷ more)
set_there [] d e more = refl
set_there (o ∷ old) d e more = ap (λ z. o ∷ z) (set_there old d e more)

-- ---- loops, statement by statement

loops_with : (u s : Stmts) → loop_total (with_rest u s) ≡ loop_total s + loop_total (with_rest u no_more)
loops_with no_more s = omega arith
loops_with (computes op args to rest) s = omega arith
loops_with (copies to from rest) s = omega arith
loops_with (calls op stack args to rest) s = omega arith
loops_with (leaps l rest) s = omega arith
loops_with (leaps_if o l rest) s = omega arith
loops_with (leaps_by o ls l rest) s = omega arith
loops_with (nests a_block body rest) s = omega arith
loops_with (nests a_loop body rest) s = omega arith
loops_with (decides o a b rest) s = omega arith
loops_with (halts rest) s = omega arith

pub loops_front : (x : Stmt) (s : Stmts) → loop_total (stmt_in_front x s) ≡ loop_total s + loop_total (stmt_in_front x no_more)
loops_front x s = ap loop_total (in_front_is x s) ∙ loops_with (stmt_in_front x no_more) s ∙ ap (λ u. loop_total s + loop_total u) (sym (in_front_is x no_more))

module _ (x i : ℕ) where
  heads_with : (r : ℕ) (tos : List Bool) (out : Bool) (u s : Stmts) → heads x i r tos out (with_rest u s)
      ≡ heads x i r tos out s ++ heads x i r tos (live x tos out (code_of s)) (with_rest u no_more)
  unfolding heads code_of live
  heads_with r tos out no_more s = sym (append-nil (heads x i r tos out s))
  heads_with r tos out (computes op args to rest) s = sym (append-nil (heads x i r tos out s))
  heads_with r tos out (copies to from rest) s = sym (append-nil (heads x i r tos out s))
  heads_with r tos out (calls op stack args to rest) s = sym (append-nil (heads x i r tos out s))
  heads_with r tos out (leaps l rest) s = sym (append-nil (heads x i r tos out s))
  heads_with r tos out (leaps_if o l rest) s = sym (append-nil (heads x i r tos out s))
  heads_with r tos out (leaps_by o ls l rest) s = sym (append-nil (heads x i r tos out s))
  heads_with r tos out (nests a_block body rest) s = refl
  heads_with r tos out (nests a_loop body rest) s = refl
  heads_with r tos out (decides o a b rest) s = refl
  heads_with r tos out (halts rest) s = sym (append-nil (heads x i r tos out s))

  pub heads_front : (r : ℕ) (tos : List Bool) (out : Bool) (st : Stmt) (s : Stmts) → heads x i r tos out (stmt_in_front st s)
      ≡ heads x i r tos out s ++ heads x i r tos (live x tos out (code_of s)) (stmt_in_front st no_more)
  heads_front r tos out st s =
      ap (heads x i r tos out) (in_front_is st s) ∙ heads_with r tos out (stmt_in_front st no_more) s
      ∙ ap (λ u. heads x i r tos out s ++ heads x i r tos (live x tos out (code_of s)) u) (sym (in_front_is st no_more))

  pub heads_count : (r : ℕ) (tos : List Bool) (out : Bool) (s : Stmts) → length (heads x i r tos out s) ≡ loop_total s
  unfolding heads
  heads_count r tos out no_more = refl
  heads_count r tos out (computes op args to rest) = heads_count r tos out rest
  heads_count r tos out (copies to from rest) = heads_count r tos out rest
  heads_count r tos out (calls op stack args to rest) = heads_count r tos out rest
  heads_count r tos out (leaps l rest) = heads_count r tos out rest
  heads_count r tos out (leaps_if o l rest) = heads_count r tos out rest
  heads_count r tos out (leaps_by o ls l rest) = heads_count r tos out rest
  heads_count r tos out (nests a_block body rest) =
      let k : Bool = live x tos out (code_of rest) in
      let hs : List Bool = heads x i r (k ∷ tos) k body in
      let a = heads_count r tos out rest in let b = heads_count r (k ∷ tos) k body in let e = length-append (heads x i r tos out rest) hs in omega (arith, a, b, e)
  heads_count r tos out (nests a_loop body rest) =
      let k : Bool = live x tos out (code_of rest) in
      let ts : List Bool = nat_eq i (suc r) ∷ tos in
      let hs : List Bool = live x (false ∷ tos) k (code_of body) ∷ heads x i (deeper r) ts k body in
      let a = heads_count r tos out rest in let b = heads_count (deeper r) ts k body in let e = length-append (heads x i r tos out rest) hs in omega (arith, a, b, e)
  heads_count r tos out (decides o s t rest) =
      let k : Bool = live x tos out (code_of rest) in
      let hs : List Bool = heads x i r (k ∷ tos) k t in
      let gs : List Bool = heads x i r (k ∷ tos) k s in
      let a = heads_count r tos out rest in let b = heads_count r (k ∷ tos) k t in let d = heads_count r (k ∷ tos) k s in
      let e = length-append (heads x i r tos out rest) (hs ++ gs) in let f = length-append hs gs in omega (arith, a, b, d, e, f)
  heads_count r tos out (halts rest) = heads_count r tos out rest

-- those of any tail of a body come first
pub heads_tail : (x i r : ℕ) (tos : List Bool) (out : Bool) (j : ℕ) (xs : List Stmt) → (more : List Bool) × (heads x i r tos out (stmts xs) ≡ heads x i r tos out (stmts (drop j xs)) ++ more)
unfolding stmts
heads_tail x i r tos out zero xs = ([], sym (append-nil (heads x i r tos out (stmts xs))))
heads_tail x i r tos out (suc j) [] = ([], sym (append-nil (heads x i r tos out (stmts []))))
heads_tail x i r tos out (suc j) (y ∷ xs) =
    let w = heads_tail x i r tos out j xs in
    let hs : List Bool = heads x i r tos (live x tos out (code_of (stmts xs))) (stmt_in_front y no_more) in
    (w.0 ++ hs, heads_front x i r tos out y (stmts xs) ∙ ap (λ z. z ++ hs) w.1 ∙ append_assoc (heads x i r tos out (stmts (drop j xs))) w.0 hs)
