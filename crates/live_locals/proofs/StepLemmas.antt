-- Statements that hold no others.
use Rattle.std.proofs.Common.{◌≡◌, ◌∙◌, ℕ, ◌-◌, ◌<◌, ◌≤◌, List, length, take, drop, get_or, Option, Some, None, Bool, refl, sym, ap, arith, subst}
use Rattle.std.specs.Prelude.{Vec}
use Rattle.std.specs.declared.alloc.Global.{Global}
use Rattle.std.proofs.lemmas.List.{drop_all, get_or_default, take_rest}
use Rattle.wa_types.specs.declared.instrs.Instr.{Instr}
use Rattle.wa_types.specs.declared.instrs.Instr.TheVariants.{Unreachable as UnreachableInstr, Nop, Drop, Select, Return, MemorySize, MemoryGrow, MemoryCopy, MemoryFill, Const as ConstInstr, Num, Br as BrInstr, BrIf as BrIfInstr, BrTable as BrTableInstr, Call as CallInstr, CallIndirect, LocalGet, LocalSet, LocalTee, GlobalGet, GlobalSet, Load, Store, Block' as BlockInstr', Loop' as LoopInstr', If' as IfInstr'}
use Rattle.wa_types.specs.Syntax.{basic, local_get, local_set, local_tee, br, br_if, br_table, unreachable, call, call_indirect, Code, done, plain}
use Rattle.wa_types.specs.View.{in_front}
use Rattle.wa_types.specs.Liveness.{live}
use Rattle.wa_model.specs.declared.flat.Operand.{Operand}
use Rattle.wa_model.specs.declared.flat.Operand.TheVariants.{Local, Const}
use Rattle.wa_model.specs.declared.flat.Stmt.{Stmt}
use Rattle.wa_model.specs.declared.flat.Stmt.TheVariants.{Plain as PlainStmt, Move, Call as CallStmt, Br as BrStmt, BrIf as BrIfStmt, BrTable as BrTableStmt, Block', Loop', If', Unreachable as UnreachableStmt}
use Rattle.run_theory.specs.Flat.{Stmts, no_more, followed_by, got, all_got, set_to, slots_got, last_of, code_of, result_got}
use Rattle.run_theory.specs.FlatView.{stmt_in_front}
use Rattle.run_theory.specs.FlatFits.{IsCallCode}
use Rattle.flow_rewrite.proofs.StmtLemmas.{call_is}
use Rattle.live_locals.proofs.StmtViews.{as_plain, as_move, as_br, as_br_if, as_table, as_halt}
use Rattle.live_locals.specs.Ops.{IsComputation, OpsFit, HoldsNone}
use Rattle.live_locals.specs.Sets.{TellsBefore, TellsAnywhere}
use Rattle.live_locals.proofs.SetLemmas.{tells_then, tells_as, tells_none}
use Rattle.live_locals.proofs.CodeLemmas.{got_then, all_then, operand_before, slot_before, slots_then}

-- ---- the instruction of a computation

pub op_get : (op : Instr) (y : ℕ) (old new : List Bool) → op ≡ LocalGet y → TellsAnywhere old new (plain (local_get y) done) → TellsAnywhere old new (in_front op done)
unfolding in_front
op_get op y old new e h tos = tells_as tos old new (plain (local_get y) done) (in_front op done) (ap (λ i. in_front i done) (sym e)) (h tos)

pub op_set : (op : Instr) (y : ℕ) (old new : List Bool) → op ≡ LocalSet y → TellsAnywhere old new (plain (local_set y) done) → TellsAnywhere old new (in_front op done)
unfolding in_front
op_set op y old new e h tos = tells_as tos old new (plain (local_set y) done) (in_front op done) (ap (λ i. in_front i done) (sym e)) (h tos)

tee_too : (tos : ℕ → List Bool) (y : ℕ) (old new : List Bool) → TellsBefore tos old new (plain (local_set y) done) → TellsBefore tos old new (plain (local_tee y) done)
unfolding live
tee_too tos y old new h = record { size = h.size; each = h.each }

pub op_tee : (op : Instr) (y : ℕ) (old new : List Bool) → op ≡ LocalTee y → TellsAnywhere old new (plain (local_set y) done) → TellsAnywhere old new (in_front op done)
unfolding in_front
op_tee op y old new e h tos = tells_as tos old new (plain (local_tee y) done) (in_front op done) (ap (λ i. in_front i done) (sym e)) (tee_too tos y old new (h tos))

quiet : (b : _) (old : List Bool) → TellsAnywhere old old (plain (basic b) done)
unfolding live
quiet b old tos = record { size = refl; each = λ x lt. refl }

pub op_other : (op : Instr) (old : List Bool) → IsComputation (in_front op done) → ((y : ℕ) → op ≡ LocalGet y → ⊥) → ((y : ℕ) → op ≡ LocalSet y → ⊥) → ((y : ℕ) → op ≡ LocalTee y → ⊥)
    → TellsAnywhere old old (in_front op done)
unfolding in_front
op_other (LocalGet y) old h g s t = absurd (g y refl)
op_other (LocalSet y) old h g s t = absurd (s y refl)
op_other (LocalTee y) old h g s t = absurd (t y refl)
op_other UnreachableInstr old h g s t = absurd h
op_other Return old h g s t = absurd h
op_other (BrInstr l) old h g s t = absurd h
op_other (BrIfInstr l) old h g s t = absurd h
op_other (BrTableInstr ls l) old h g s t = absurd h
op_other (CallInstr f) old h g s t = absurd h
op_other (CallIndirect f) old h g s t = absurd h
op_other (BlockInstr' r v w) old h g s t = absurd h
op_other (LoopInstr' r v w) old h g s t = absurd h
op_other (IfInstr' r v w u o) old h g s t = absurd h
op_other Nop old h g s t = quiet _ old
op_other Drop old h g s t = quiet _ old
op_other Select old h g s t = quiet _ old
op_other MemorySize old h g s t = quiet _ old
op_other MemoryGrow old h g s t = quiet _ old
op_other MemoryCopy old h g s t = quiet _ old
op_other MemoryFill old h g s t = quiet _ old
op_other (ConstInstr v) old h g s t = quiet _ old
op_other (Num o) old h g s t = quiet _ old
op_other (GlobalGet y) old h g s t = quiet _ old
op_other (GlobalSet y) old h g s t = quiet _ old
op_other (Load o al f) old h g s t = quiet _ old
op_other (Store o al f) old h g s t = quiet _ old

-- ---- operands

pub operand_local : (o : Operand) (y : ℕ) (old new : List Bool) → o ≡ Local y → TellsAnywhere old new (plain (local_get y) done) → TellsAnywhere old new (got o done)
operand_local o y old new e h tos = tells_as tos old new (plain (local_get y) done) (got o done) (ap (λ p. got p done) (sym e)) (h tos)

pub operand_const : (o : Operand) (v : _) (old : List Bool) → o ≡ Const v → TellsAnywhere old old (got o done)
operand_const o v old e tos = tells_as tos old old (got (Const v) done) (got o done) (ap (λ p. got p done) (sym e)) (quiet _ old tos)

pub none_got : (old : List Bool) (xs : List Operand) → TellsAnywhere old old (all_got (drop (length xs) xs) done)
none_got old xs tos = tells_as tos old old done (all_got (drop (length xs) xs) done) (ap (λ ys. all_got ys done) (sym (drop_all (length xs) xs (omega arith)))) (tells_none tos old)

pub operand_step : (old mid new : List Bool) (xs : List Operand) (left : ℕ) (d : Operand) → 0 < left → left ≤ length xs → TellsAnywhere old mid (all_got (drop left xs) done)
    → TellsAnywhere mid new (got (get_or xs (left - 1) d) done) → TellsAnywhere old new (all_got (drop (left - 1) xs) done)
operand_step old mid new xs left d some within f g tos =
    let x : Operand = get_or xs (left - 1) d in
    let at : x ≡ get_or xs (left - 1) x = get_or_default xs (left - 1) d x (omega (arith, some, within)) in
    tells_as tos old new (followed_by (got x done) (all_got (drop left xs) done)) (all_got (drop (left - 1) xs) done) (operand_before xs left x some within at)
    (tells_then tos old mid new (got x done) (all_got (drop left xs) done) (f tos) (g tos))

pub operands_end : (old new : List Bool) (xs : List Operand) (left : ℕ) → left ≡ 0 → TellsAnywhere old new (all_got (drop left xs) done) → TellsAnywhere old new (all_got xs done)
operands_end old new xs left e h = subst (λ n. TellsAnywhere old new (all_got (drop n xs) done)) e h

-- ---- a local that is told

pub told_written : (old new : List Bool) (to : Option ℕ) (y : ℕ) → to ≡ Some y → TellsAnywhere old new (plain (local_set y) done) → TellsAnywhere old new (set_to to done)
told_written old new to y e h tos = tells_as tos old new (set_to (Some y) done) (set_to to done) (ap (λ o. set_to o done) (sym e)) (h tos)

pub untold_written : (old : List Bool) (to : Option ℕ) → to ≡ None → TellsAnywhere old old (set_to to done)
untold_written old to e tos = tells_as tos old old (set_to None done) (set_to to done) (ap (λ o. set_to o done) (sym e)) (tells_none tos old)

pub told_read : (old new : List Bool) (from : Option ℕ) (y : ℕ) → from ≡ Some y → TellsAnywhere old new (plain (local_get y) done) → TellsAnywhere old new (result_got from)
told_read old new from y e h tos = tells_as tos old new (result_got (Some y)) (result_got from) (ap result_got (sym e)) (h tos)

pub untold_read : (old : List Bool) (from : Option ℕ) → from ≡ None → TellsAnywhere old old (result_got from)
untold_read old from e tos = tells_as tos old old (result_got None) (result_got from) (ap result_got (sym e)) (tells_none tos old)

-- ---- a stack

pub no_slots : (old : List Bool) (xs : List ℕ) → TellsAnywhere old old (slots_got (drop (length xs) xs) done)
no_slots old xs tos = tells_as tos old old done (slots_got (drop (length xs) xs) done) (ap (λ ys. slots_got ys done) (sym (drop_all (length xs) xs (omega arith)))) (tells_none tos old)

pub slot_step : (old mid new : List Bool) (xs : List ℕ) (left d : ℕ) → 0 < left → left ≤ length xs → TellsAnywhere old mid (slots_got (drop left xs) done)
    → TellsAnywhere mid new (plain (local_get (get_or xs (left - 1) d)) done) → TellsAnywhere old new (slots_got (drop (left - 1) xs) done)
slot_step old mid new xs left d some within f g tos =
    let x : ℕ = get_or xs (left - 1) d in
    let at : x ≡ get_or xs (left - 1) x = get_or_default xs (left - 1) d x (omega (arith, some, within)) in
    tells_as tos old new (followed_by (plain (local_get x) done) (slots_got (drop left xs) done)) (slots_got (drop (left - 1) xs) done) (slot_before xs left x some within at)
    (tells_then tos old mid new (plain (local_get x) done) (slots_got (drop left xs) done) (f tos) (g tos))

pub slots_end : (old new : List Bool) (xs : List ℕ) (left : ℕ) → left ≡ 0 → TellsAnywhere old new (slots_got (drop left xs) done) → TellsAnywhere old new (slots_got xs done)
slots_end old new xs left e h = subst (λ n. TellsAnywhere old new (slots_got (drop n xs) done)) e h

pub taken_read : (stack : List ℕ) (left n : ℕ) (old new : List Bool) → left ≡ length stack - n → TellsAnywhere old new (slots_got (take (length stack - left) (drop left stack)) done)
    → TellsAnywhere old new (slots_got (last_of n stack) done)
taken_read stack left n old new e h tos =
    tells_as tos old new (slots_got (take (length stack - left) (drop left stack)) done) (slots_got (last_of n stack) done)
    (ap (λ xs. slots_got xs done) (take_rest stack left ∙ ap (λ k. drop k stack) e)) (h tos)

call_quiet : (op : Code) (old : List Bool) → IsCallCode op → TellsAnywhere old old op
unfolding live
call_quiet (plain (call x) done) old h tos = record { size = refl; each = λ x lt. refl }
call_quiet (plain (call_indirect s) done) old h tos = record { size = refl; each = λ x lt. refl }
call_quiet _ old h tos = absurd h

-- ---- statements

module _ (tos : ℕ → List Bool) (x : Stmt) where
  abbrev one : Stmts
  one = stmt_in_front x no_more

  pub plain_arm : (op : Instr) (args : Vec Operand Global) (to : Option ℕ) (xs : List Operand) (a b c d : List Bool) → x ≡ PlainStmt op args to → xs ≡ args.items
      → TellsAnywhere a b (set_to to done) → TellsAnywhere b c (in_front op done) → TellsAnywhere c d (all_got xs done) → TellsBefore tos a d (code_of one)
  unfolding code_of
  plain_arm op args to xs a b c d e ex f g h =
      let op_to = tells_then tos a b c (in_front op done) (set_to to done) (f tos) (g tos) in
      tells_as tos a d (followed_by (all_got xs done) (followed_by (in_front op done) (set_to to done))) (code_of one)
      (sym (all_then xs (followed_by (in_front op done) (set_to to done))) ∙ ap (λ ys. all_got ys (followed_by (in_front op done) (set_to to done))) ex
      ∙ sym (ap code_of (as_plain x op args to e no_more)))
      (tells_then tos a c d (all_got xs done) (followed_by (in_front op done) (set_to to done)) op_to (h tos))

  pub move_arm : (to : ℕ) (from : Operand) (a b c : List Bool) → x ≡ Move to from → TellsAnywhere a b (plain (local_set to) done) → TellsAnywhere b c (got from done)
      → TellsBefore tos a c (code_of one)
  unfolding code_of
  move_arm to from a b c e f g =
      tells_as tos a c (followed_by (got from done) (plain (local_set to) done)) (code_of one)
      (sym (got_then from (plain (local_set to) done)) ∙ sym (ap code_of (as_move x to from e no_more)))
      (tells_then tos a b c (got from done) (plain (local_set to) done) (f tos) (g tos))

  pub call_arm : (op : Instr) (stack : Vec ℕ Global) (args : ℕ) (to : Option ℕ) (xs : List ℕ) (a b c : List Bool) → x ≡ CallStmt op stack args to → xs ≡ stack.items → OpsFit one
      → TellsAnywhere a b (set_to to done) → TellsAnywhere b c (slots_got (last_of args xs) done) → TellsBefore tos a c (code_of one)
  unfolding code_of
  call_arm op stack args to xs a b c e ex fit f g =
      let is = call_is x op stack args to e no_more in
      let it_calls : IsCallCode (in_front op done) = (subst OpsFit is fit).0 in
      let op_to = tells_then tos a b b (in_front op done) (set_to to done) (f tos) (call_quiet (in_front op done) b it_calls tos) in
      tells_as tos a c (followed_by (slots_got (last_of args xs) done) (followed_by (in_front op done) (set_to to done))) (code_of one)
      (sym (slots_then (last_of args xs) (followed_by (in_front op done) (set_to to done)))
      ∙ ap (λ ys. slots_got (last_of args ys) (followed_by (in_front op done) (set_to to done))) ex ∙ sym (ap code_of is))
      (tells_then tos a b c (slots_got (last_of args xs) done) (followed_by (in_front op done) (set_to to done)) op_to (g tos))

  pub br_arm : (l : ℕ) (a b : List Bool) → x ≡ BrStmt l → TellsBefore tos a b (plain (br l) done) → TellsBefore tos a b (code_of one)
  unfolding code_of
  br_arm l a b e f = tells_as tos a b (plain (br l) done) (code_of one) (sym (ap code_of (as_br x l e no_more))) f

  pub br_if_arm : (o : Operand) (l : ℕ) (a b : List Bool) → x ≡ BrIfStmt o l → TellsBefore tos a b (got o (plain (br_if l) done)) → TellsBefore tos a b (code_of one)
  unfolding code_of
  br_if_arm o l a b e f = tells_as tos a b (got o (plain (br_if l) done)) (code_of one) (sym (ap code_of (as_br_if x o l e no_more))) f

  pub table_arm : (o : Operand) (v : Vec ℕ Global) (l : ℕ) (xs : List ℕ) (a b : List Bool) → x ≡ BrTableStmt o v l → xs ≡ v.items → TellsBefore tos a b (got o (plain (br_table xs l) done))
      → TellsBefore tos a b (code_of one)
  unfolding code_of
  table_arm o v l xs a b e ex f =
      tells_as tos a b (got o (plain (br_table xs l) done)) (code_of one) (ap (λ ys. got o (plain (br_table ys l) done)) ex ∙ sym (ap code_of (as_table x o v l e no_more))) f

  pub halt_arm : (a b : List Bool) → x ≡ UnreachableStmt → TellsAnywhere a b (plain unreachable done) → TellsBefore tos a b (code_of one)
  unfolding code_of
  halt_arm a b e f = tells_as tos a b (plain unreachable done) (code_of one) (sym (ap code_of (as_halt x e no_more))) (f tos)

-- an operand in front of a branch
pub operand_then : (tos : ℕ → List Bool) (o : Operand) (k : Code) (a b c : List Bool) → TellsBefore tos a b k → TellsAnywhere b c (got o done) → TellsBefore tos a c (got o k)
operand_then tos o k a b c f g = tells_as tos a c (followed_by (got o done) k) (got o k) (sym (got_then o k)) (tells_then tos a b c (got o done) k f (g tos))

pub plain_op : (x : Stmt) (op : Instr) (args : Vec Operand Global) (to : Option ℕ) → x ≡ PlainStmt op args to → OpsFit (stmt_in_front x no_more) → IsComputation (in_front op done)
plain_op x op args to e fit = (subst OpsFit (as_plain x op args to e no_more) fit).0

pub no_other : (x : Stmt) → HoldsNone (stmt_in_front x no_more) → ((op : Instr) (args : Vec Operand Global) (to : Option ℕ) → x ≡ PlainStmt op args to → ⊥)
    → ((to : ℕ) (from : Operand) → x ≡ Move to from → ⊥) → ((op : Instr) (stack : Vec ℕ Global) (args : ℕ) (to : Option ℕ) → x ≡ CallStmt op stack args to → ⊥) → ((l : ℕ) → x ≡ BrStmt l → ⊥)
    → ((o : Operand) (l : ℕ) → x ≡ BrIfStmt o l → ⊥) → ((o : Operand) (v : Vec ℕ Global) (l : ℕ) → x ≡ BrTableStmt o v l → ⊥) → (x ≡ UnreachableStmt → ⊥) → ⊥
unfolding stmt_in_front
no_other (PlainStmt op args to) h p m c b bi bt u = p op args to refl
no_other (Move to from) h p m c b bi bt u = m to from refl
no_other (CallStmt op stack args to) h p m c b bi bt u = c op stack args to refl
no_other (BrStmt l) h p m c b bi bt u = b l refl
no_other (BrIfStmt o l) h p m c b bi bt u = bi o l refl
no_other (BrTableStmt o v l) h p m c b bi bt u = bt o v l refl
no_other (Block' a z) h p m c b bi bt u = h
no_other (Loop' a z) h p m c b bi bt u = h
no_other (If' o a z d e) h p m c b bi bt u = h
no_other UnreachableStmt h p m c b bi bt u = u refl
