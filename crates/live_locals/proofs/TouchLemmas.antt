-- A statement leaves whether a local is read first as it was where it doesn't touch the local.
use Rattle.std.proofs.Common.{◌≡◌, ◌∙◌, ℕ, ◌<◌, List, [], ◌∷◌, length, Option, Some, None, Bool, true, false, ◌&&◌, ◌||◌, not, nat_eq, refl, sym, ap}
use Rattle.std.specs.Prelude.{Vec}
use Rattle.std.specs.List.{list_any}
use Rattle.std.specs.declared.alloc.Global.{Global}
use Rattle.wa_types.specs.declared.instrs.Instr.{Instr}
use Rattle.wa_types.specs.declared.instrs.Instr.TheVariants.{LocalGet, LocalSet, LocalTee}
use Rattle.wa_types.specs.Syntax.{basic, local_get, local_set, local_tee, Code, done, plain}
use Rattle.wa_types.specs.View.{in_front}
use Rattle.wa_types.specs.Liveness.{live}
use Rattle.wa_model.specs.declared.flat.Operand.{Operand}
use Rattle.wa_model.specs.declared.flat.Operand.TheVariants.{Local, Const}
use Rattle.wa_model.specs.declared.flat.Stmt.{Stmt, roll-Stmt, roll-out-Stmt}
use Rattle.wa_model.specs.declared.flat.Stmt.TheVariants.{Plain as PlainStmt, Move, Call as CallStmt, Br as BrStmt, BrIf as BrIfStmt, BrTable as BrTableStmt, Block, Loop, If, Unreachable as UnreachableStmt, Block', Loop', If', rolls-Block, rolls-Loop, rolls-If, outs-Block', outs-Loop', outs-If'}
use Rattle.run_theory.specs.Flat.{no_more, followed_by, got, all_got, set_to, code_of}
use Rattle.run_theory.specs.FlatView.{stmt_in_front}
use Rattle.live_locals.specs.Ops.{IsComputation, OpsFit}
use Rattle.live_locals.specs.Keeping.{Settles, calls_kept, is_it, is_local, op_touches, touches}
use Rattle.live_locals.specs.Sets.{has, TellsBefore}
use Rattle.live_locals.specs.declared.keeping.Keeping.{Keeping}
use Rattle.live_locals.proofs.KeepingLemmas.{kept_any, kept_same, settles_weaker}

neither : (b c : Bool) → (b || c) ≡ false → (b ≡ false) × (c ≡ false)
neither true c e = cc
neither false c e = (refl, e)

-- ---- pieces of code

module _ (x : ℕ) (tos : List Bool) (out : Bool) where
  got_past : (o : Operand) (k : Code) → is_local x o ≡ false → live x tos out (got o k) ≡ live x tos out k
  unfolding live
  got_past (Local y) k e = ap (λ b. b || live x tos out k) e
  got_past (Const v) k e = refl

  all_past : (os : List Operand) (k : Code) → list_any (is_local x) os ≡ false → live x tos out (all_got os k) ≡ live x tos out k
  all_past [] k e = refl
  all_past (o ∷ os) k e =
      let both = neither (is_local x o) (list_any (is_local x) os) e in got_past o (all_got os k) both.0 ∙ all_past os k both.1

  set_past : (to : Option ℕ) (k : Code) → is_it x to ≡ false → live x tos out (set_to to k) ≡ live x tos out k
  unfolding live
  set_past None k e = refl
  set_past (Some y) k e = ap (λ b. not b && live x tos out k) e

  op_past : (op k : Code) → IsComputation op → op_touches x op ≡ false → live x tos out (followed_by op k) ≡ live x tos out k
  unfolding live followed_by
  op_past (plain (basic b) done) k h e = refl
  op_past (plain (local_get y) done) k h e = ap (λ b. b || live x tos out k) e
  op_past (plain (local_set y) done) k h e = ap (λ b. not b && live x tos out k) e
  op_past (plain (local_tee y) done) k h e = ap (λ b. not b && live x tos out k) e
  op_past _ k h e = absurd h

  pub done_past : live x tos out done ≡ out
  unfolding live
  done_past = refl

  -- a local is written that isn't x
  pub unwritten : (to : Option ℕ) → is_it x to ≡ false → live x tos out (set_to to done) ≡ out
  unwritten to e = set_past to done e ∙ done_past

  -- ---- statements

  stmt_past : (st : Stmt) → ((op : Instr) (stack : Vec ℕ Global) (args : ℕ) (to : Option ℕ) → st ≡ CallStmt op stack args to → ⊥) → ((v : Vec Stmt Global) → st ≡ Block v → ⊥)
      → ((v : Vec Stmt Global) → st ≡ Loop v → ⊥) → ((o : Operand) (v w : Vec Stmt Global) → st ≡ If o v w → ⊥)
      → OpsFit (stmt_in_front st no_more) → touches x (stmt_in_front st no_more) ≡ false → live x tos out (code_of (stmt_in_front st no_more)) ≡ out
  unfolding stmt_in_front code_of
  stmt_past (PlainStmt op args to) nc nb nl ni h e =
      let both = neither (is_it x to || op_touches x (in_front op done)) (list_any (is_local x) args.items) e in
      let own = neither (is_it x to) (op_touches x (in_front op done)) both.0 in
      all_past args.items (followed_by (in_front op done) (set_to to done)) both.1 ∙ op_past (in_front op done) (set_to to done) h.0 own.1 ∙ set_past to done own.0 ∙ done_past
  stmt_past (Move to from) nc nb nl ni h e =
      let both = neither (nat_eq x to) (is_local x from) e in got_past from (plain (local_set to) done) both.1 ∙ set_past (Some to) done both.0 ∙ done_past
  stmt_past (CallStmt op stack args to) nc nb nl ni h e = absurd (nc op stack args to refl)
  stmt_past (BrStmt l) nc nb nl ni h e = cc
  stmt_past (BrIfStmt o l) nc nb nl ni h e = cc
  stmt_past (BrTableStmt o v l) nc nb nl ni h e = cc
  stmt_past (Block' a z) nc nb nl ni h e = absurd (nb _ (sym (roll-out-Stmt (Block' a z)) ∙ ap roll-Stmt (outs-Block' a z) ∙ rolls-Block _))
  stmt_past (Loop' a z) nc nb nl ni h e = absurd (nl _ (sym (roll-out-Stmt (Loop' a z)) ∙ ap roll-Stmt (outs-Loop' a z) ∙ rolls-Loop _))
  stmt_past (If' c a z e f) nc nb nl ni h g = absurd (ni c _ _ (sym (roll-out-Stmt (If' c a z e f)) ∙ ap roll-Stmt (outs-If' c a z e f) ∙ rolls-If c _ _))
  stmt_past UnreachableStmt nc nb nl ni h e = cc

-- The calls that keep a local are the same behind the statement as before it.
pub simple_kept : (st : Stmt) (told : ℕ → List Bool) (a b : List Bool) (old new : Keeping) → ((op : Instr) (stack : Vec ℕ Global) (args : ℕ) (to : Option ℕ) → st ≡ CallStmt op stack args to → ⊥)
    → ((v : Vec Stmt Global) → st ≡ Block v → ⊥) → ((v : Vec Stmt Global) → st ≡ Loop v → ⊥) → ((o : Operand) (v w : Vec Stmt Global) → st ≡ If o v w → ⊥)
    → OpsFit (stmt_in_front st no_more) → TellsBefore told a b (code_of (stmt_in_front st no_more)) → Settles a (λ x. touches x (stmt_in_front st no_more)) old new
    → (x : ℕ) → x < length a → calls_kept new b x ≡ calls_kept old a x
simple_kept st told a b old new nc nb nl ni fit tells h x lt = by (touches x (stmt_in_front st no_more)) refl ∙ h.same x lt
  where
    by : (c : Bool) → touches x (stmt_in_front st no_more) ≡ c → calls_kept new b x ≡ calls_kept new a x
    by true e = kept_any new b a x (h.told x lt e)
    by false e = kept_same new b a x (tells.each x lt ∙ stmt_past x (told x) (has a x) st nc nb nl ni fit e)

-- ---- a computation, and a statement that isn't one

pub quiet_op : (x : ℕ) (op : Instr) → ((y : ℕ) → op ≡ LocalGet y → ⊥) → ((y : ℕ) → op ≡ LocalSet y → ⊥) → ((y : ℕ) → op ≡ LocalTee y → ⊥) → op_touches x (in_front op done) ≡ false
unfolding in_front
quiet_op x (LocalGet y) g s t = absurd (g y refl)
quiet_op x (LocalSet y) g s t = absurd (s y refl)
quiet_op x (LocalTee y) g s t = absurd (t y refl)
quiet_op x _ g s t = refl

pub get_touches : (x y : ℕ) (op : Instr) → op ≡ LocalGet y → op_touches x (in_front op done) ≡ nat_eq x y
unfolding in_front
get_touches x y op e = ap (λ i. op_touches x (in_front i done)) e

pub set_touches : (x y : ℕ) (op : Instr) → op ≡ LocalSet y → op_touches x (in_front op done) ≡ nat_eq x y
unfolding in_front
set_touches x y op e = ap (λ i. op_touches x (in_front i done)) e

pub tee_touches : (x y : ℕ) (op : Instr) → op ≡ LocalTee y → op_touches x (in_front op done) ≡ nat_eq x y
unfolding in_front
tee_touches x y op e = ap (λ i. op_touches x (in_front i done)) e

-- a test in place of an equal one
pub settles_as : (set : List Bool) (f g : ℕ → Bool) (old new : Keeping) → ((x : ℕ) → g x ≡ f x) → Settles set f old new → Settles set g old new
settles_as set f g old new e h = settles_weaker set f g old new (λ x lt t. sym (e x) ∙ t) h

pub plain_touches : (x : ℕ) (st : Stmt) (op : Instr) (args : Vec Operand Global) (to : Option ℕ) → st ≡ PlainStmt op args to
    → touches x (stmt_in_front st no_more) ≡ ((is_it x to || op_touches x (in_front op done)) || list_any (is_local x) args.items)
unfolding stmt_in_front
plain_touches x st op args to e = ap (λ s. touches x (stmt_in_front s no_more)) e

pub move_touches : (x : ℕ) (st : Stmt) (to : ℕ) (from : Operand) → st ≡ Move to from → touches x (stmt_in_front st no_more) ≡ (nat_eq x to || is_local x from)
unfolding stmt_in_front
move_touches x st to from e = ap (λ s. touches x (stmt_in_front s no_more)) e
