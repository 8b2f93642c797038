-- Bodies and constructs, passed over backwards.
use Rattle.std.proofs.Common.{◌≡◌, ◌∙◌, ℕ, ◌-◌, ◌<◌, ◌≤◌, List, [], ◌∷◌, ◌++◌, length, take, drop, get_or, None, Bool, false, ◌||◌, refl, sym, ap, arith, subst, length-append}
use Rattle.std.specs.Prelude.{Vec}
use Rattle.std.specs.declared.alloc.Global.{Global}
use Rattle.std.proofs.lemmas.List.{take_at}
use Rattle.wa_types.specs.Syntax.{a_block, a_loop, Code, done, nest, branch}
use Rattle.wa_types.specs.Liveness.{live}
use Rattle.wa_model.specs.declared.flat.Operand.{Operand}
use Rattle.wa_model.specs.declared.flat.Stmt.{Stmt, roll-Stmt, roll-out-Stmt}
use Rattle.wa_model.specs.declared.flat.Stmt.TheVariants.{Plain as PlainStmt, Move, Call as CallStmt, Br as BrStmt, BrIf as BrIfStmt, BrTable as BrTableStmt, Block, Loop, If, Unreachable as UnreachableStmt, Block', Loop', If', rolls-Block, rolls-Loop, rolls-If, outs-Block', outs-Loop', outs-If'}
use Rattle.run_theory.specs.Flat.{Stmts, no_more, nests, decides, followed_by, got, code_of}
use Rattle.run_theory.specs.FlatView.{stmt_in_front, stmts}
use Rattle.live_locals.specs.Ops.{OpsFit, HoldsNone}
use Rattle.live_locals.specs.Sets.{has, told_of, told_by, TellsBefore, TellsAnywhere, Passed}
use Rattle.live_locals.proofs.SetLemmas.{tells_then, tells_as, tells_none, told_more}
use Rattle.live_locals.proofs.CodeLemmas.{got_then, code_before, code_end}

-- ---- bodies

pub passed_first : (tos : List (Vec Bool Global)) (set : List Bool) (xs : List Stmt) → Passed tos tos set set (code_of (stmts (drop (length xs) xs)))
passed_first tos set xs = record { labels = refl; tells = tells_as (told_by tos) set set done (code_of (stmts (drop (length xs) xs))) (sym (code_end xs)) (tells_none (told_by tos) set) }

pub tells_before : (told : ℕ → List Bool) (a b c : List Bool) (xs : List Stmt) (left : ℕ) (x : Stmt) → 0 < left → left ≤ length xs → x ≡ get_or xs (left - 1) x
    → TellsBefore told a b (code_of (stmts (drop left xs))) → TellsBefore told b c (code_of (stmt_in_front x no_more)) → TellsBefore told a c (code_of (stmts (drop (left - 1) xs)))
tells_before told a b c xs left x some within at f g =
    tells_as told a c (followed_by (code_of (stmt_in_front x no_more)) (code_of (stmts (drop left xs)))) (code_of (stmts (drop (left - 1) xs))) (code_before xs left x some within at)
    (tells_then told a b c (code_of (stmt_in_front x no_more)) (code_of (stmts (drop left xs))) f g)

pub passed_before : (tos mid new : List (Vec Bool Global)) (a b c : List Bool) (xs : List Stmt) (left : ℕ) (x : Stmt) → 0 < left → left ≤ length xs → x ≡ get_or xs (left - 1) x
    → Passed tos mid a b (code_of (stmts (drop left xs))) → Passed mid new b c (code_of (stmt_in_front x no_more)) → Passed tos new a c (code_of (stmts (drop (left - 1) xs)))
passed_before tos mid new a b c xs left x some within at f g = record {
  labels = g.labels ∙ f.labels;
  tells = tells_before (told_by tos) a b c xs left x some within at f.tells (subst (λ ts. TellsBefore (told_by ts) b c (code_of (stmt_in_front x no_more))) f.labels g.tells);
}

pub passed_end : (tos new : List (Vec Bool Global)) (a b : List Bool) (xs : List Stmt) (left : ℕ) → left ≡ 0 → Passed tos new a b (code_of (stmts (drop left xs)))
    → Passed tos new a b (code_of (stmts xs))
passed_end tos new a b xs left e h = subst (λ n. Passed tos new a b (code_of (stmts (drop n xs)))) e h

-- ---- labels put and taken away

pub popped : (tos : List (Vec Bool Global)) (v : Vec Bool Global) (old : Vec (Vec Bool Global) Global) (new : List (Vec Bool Global)) → old.items ≡ tos ++ v ∷ []
    → new ≡ take (old.len - 1) old.items → new ≡ tos
popped tos v old new e r =
    let n = old.ok.0 in let m = ap length e in let k = length-append tos (v ∷ []) in
    let z : old.len - 1 ≡ length tos = omega (arith, n, m, k) in
    r ∙ ap (λ j. take j old.items) z ∙ ap (take (length tos)) e ∙ take_at tos (v ∷ []) (length tos) refl

-- ---- constructs

module _ (told inner : ℕ → List Bool) (behind : List Bool) where
  under_label : (x : ℕ) (b : Bool) (k : Code) → inner x ≡ b ∷ told x → live x (inner x) (has behind x) k ≡ live x (b ∷ told x) (has behind x) k
  under_label x b k e = ap (λ ts. live x ts (has behind x) k) e

  pub block_tells : (before : List Bool) (body : Code) → ((x : ℕ) → inner x ≡ has behind x ∷ told x) → TellsBefore inner behind before body
      → TellsBefore told behind before (nest a_block None body done)
  unfolding live
  block_tells before body e h = record { size = h.size; each = λ x lt. h.each x lt ∙ under_label x (has behind x) body (e x) }

  pub loop_tells : (before : List Bool) (body : Code) → ((x : ℕ) → inner x ≡ false ∷ told x) → TellsBefore inner behind before body
      → TellsBefore told behind before (nest a_loop None body done)
  unfolding live
  loop_tells before body e h = record { size = h.size; each = λ x lt. h.each x lt ∙ under_label x false body (e x) }

  pub arms_tell : (first second joined : List Bool) (a b : Code) → ((x : ℕ) → inner x ≡ has behind x ∷ told x) → TellsBefore inner behind second b → TellsBefore inner behind first a
      → length joined ≡ length second → ((x : ℕ) → x < length second → has joined x ≡ (has first x || has second x)) → TellsBefore told behind joined (branch None a b done)
  unfolding live
  arms_tell first second joined a b e f g n h = record {
    size = n ∙ f.size;
    each = λ x lt. let m = f.size in
        h x (omega (arith, m, lt)) ∙ (λ i. (g.each x lt ∙ under_label x (has behind x) a (e x)) i || (f.each x lt ∙ under_label x (has behind x) b (e x)) i);
  }

  -- a conditional, its condition read first
  pub if_tells : (x : Stmt) (o : Operand) (s t : Stmts) (first second joined before : List Bool) → stmt_in_front x no_more ≡ decides o s t no_more → ((y : ℕ) → inner y ≡ has behind y ∷ told y)
      → TellsBefore inner behind second (code_of t) → TellsBefore inner behind first (code_of s) → length joined ≡ length second
      → ((y : ℕ) → y < length second → has joined y ≡ (has first y || has second y)) → TellsAnywhere joined before (got o done)
      → TellsBefore told behind before (code_of (stmt_in_front x no_more))
  unfolding code_of
  if_tells x o s t first second joined before is e f g n h op =
      tells_as told behind before (followed_by (got o done) (branch None (code_of s) (code_of t) done)) (code_of (stmt_in_front x no_more))
      (sym (got_then o (branch None (code_of s) (code_of t) done)) ∙ sym (ap code_of is))
      (tells_then told behind joined before (got o done) (branch None (code_of s) (code_of t) done) (arms_tell first second joined (code_of s) (code_of t) e f g n h) (op told))

-- what is told under one label more
more_told : (tos : List (Vec Bool Global)) (v : Vec Bool Global) (set : List Bool) → v.items ≡ set → (x : ℕ) → told_by (tos ++ v ∷ []) x ≡ has set x ∷ told_by tos x
more_told tos v set e x = told_more x tos v ∙ ap (λ s. has s x ∷ told_of x tos) e

module _ (x : Stmt) (tos : List (Vec Bool Global)) where
  abbrev one : Code
  one = code_of (stmt_in_front x no_more)

  pub block_passed : (body : Stmts) (v : Vec Bool Global) (mid : Vec (Vec Bool Global) Global) (inside new : List (Vec Bool Global)) (a b : List Bool)
      → stmt_in_front x no_more ≡ nests a_block body no_more
      → v.items ≡ a → inside ≡ tos ++ v ∷ [] → Passed inside mid.items a b (code_of body) → new ≡ take (mid.len - 1) mid.items → Passed tos new a b one
  unfolding code_of
  block_passed body v mid inside new a b is e ei h r = record {
    labels = popped tos v mid new (h.labels ∙ ei) r;
    tells = tells_as (told_by tos) a b (nest a_block None (code_of body) done) one (sym (ap code_of is))
        (block_tells (told_by tos) (told_by (tos ++ v ∷ [])) a b (code_of body) (more_told tos v a e) (subst (λ ts. TellsBefore (told_by ts) a b (code_of body)) ei h.tells));
  }

  pub loop_passed : (body : Stmts) (v : Vec Bool Global) (mid : Vec (Vec Bool Global) Global) (inside new : List (Vec Bool Global)) (a b : List Bool)
      → stmt_in_front x no_more ≡ nests a_loop body no_more
      → v.items ≡ [] → inside ≡ tos ++ v ∷ [] → Passed inside mid.items a b (code_of body) → new ≡ take (mid.len - 1) mid.items → Passed tos new a b one
  unfolding code_of
  loop_passed body v mid inside new a b is e ei h r = record {
    labels = popped tos v mid new (h.labels ∙ ei) r;
    tells = tells_as (told_by tos) a b (nest a_loop None (code_of body) done) one (sym (ap code_of is))
        (loop_tells (told_by tos) (told_by (tos ++ v ∷ [])) a b (code_of body) (more_told tos v [] e) (subst (λ ts. TellsBefore (told_by ts) a b (code_of body)) ei h.tells));
  }

  -- `lent` is the set of the then arm as it is read again
  pub if_passed : (o : Operand) (s t : Stmts) (v : Vec Bool Global) (mid : List (Vec Bool Global)) (last : Vec (Vec Bool Global) Global) (inside new : List (Vec Bool Global))
      (a own first lent second joined b : List Bool)
      → stmt_in_front x no_more ≡ decides o s t no_more → v.items ≡ a → own ≡ a → lent ≡ first → inside ≡ tos ++ v ∷ [] → Passed inside mid a second (code_of t)
      → Passed mid last.items own first (code_of s)
      → new ≡ take (last.len - 1) last.items → length joined ≡ length second → ((y : ℕ) → y < length second → has joined y ≡ (has lent y || has second y))
      → TellsAnywhere joined b (got o done) → Passed tos new a b one
  unfolding code_of
  if_passed o s t v mid last inside new a own first lent second joined b is e eo el ei h g r n j op =
      let then_arm : Passed mid last.items a first (code_of s) = subst (λ u. Passed mid last.items u first (code_of s)) eo g in record {
        labels = popped tos v last new (g.labels ∙ h.labels ∙ ei) r;
        tells = if_tells (told_by tos) (told_by (tos ++ v ∷ [])) a x o s t first second joined b is (more_told tos v a e)
            (subst (λ ts. TellsBefore (told_by ts) a second (code_of t)) ei h.tells)
            (subst (λ ts. TellsBefore (told_by ts) a first (code_of s)) (h.labels ∙ ei) then_arm.tells) n (λ y l. j y l ∙ ap (λ u. has u y || has second y) el) op;
      }

  -- what is asked of what stands inside
  pub nest_ops : (y : _) (body : Stmts) → stmt_in_front x no_more ≡ nests y body no_more → OpsFit (stmt_in_front x no_more) → OpsFit body
  nest_ops y body is h = (subst OpsFit is h).0

  pub then_ops : (o : Operand) (s t : Stmts) → stmt_in_front x no_more ≡ decides o s t no_more → OpsFit (stmt_in_front x no_more) → OpsFit s
  then_ops o s t is h = (subst OpsFit is h).0

  pub else_ops : (o : Operand) (s t : Stmts) → stmt_in_front x no_more ≡ decides o s t no_more → OpsFit (stmt_in_front x no_more) → OpsFit t
  else_ops o s t is h = (subst OpsFit is h).1

pub holds_none : (x : Stmt) → ((v : Vec Stmt Global) → x ≡ Block v → ⊥) → ((v : Vec Stmt Global) → x ≡ Loop v → ⊥) → ((o : Operand) (v w : Vec Stmt Global) → x ≡ If o v w → ⊥)
    → HoldsNone (stmt_in_front x no_more)
unfolding stmt_in_front
holds_none (PlainStmt op args to) nb nl ni = tt
holds_none (Move to from) nb nl ni = tt
holds_none (CallStmt op stack args to) nb nl ni = tt
holds_none (BrStmt l) nb nl ni = tt
holds_none (BrIfStmt o l) nb nl ni = tt
holds_none (BrTableStmt o v l) nb nl ni = tt
holds_none (Block' a z) nb nl ni = absurd (nb _ (sym (roll-out-Stmt (Block' a z)) ∙ ap roll-Stmt (outs-Block' a z) ∙ rolls-Block _))
holds_none (Loop' a z) nb nl ni = absurd (nl _ (sym (roll-out-Stmt (Loop' a z)) ∙ ap roll-Stmt (outs-Loop' a z) ∙ rolls-Loop _))
holds_none (If' c a z e f) nb nl ni = absurd (ni c _ _ (sym (roll-out-Stmt (If' c a z e f)) ∙ ap roll-Stmt (outs-If' c a z e f) ∙ rolls-If c _ _))
holds_none UnreachableStmt nb nl ni = tt
