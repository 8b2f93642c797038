-- Statements of constructs.
use Rattle.std.proofs.Common.{◌≡◌, ℕ, ◌++◌, List, [], ◌∷◌, length, Option, Some, None, refl, arith, ap, sym, ◌∙◌, Result, Ok, Err, OnOk}
use Rattle.std.specs.Vec.{vec_len}
use Rattle.std.specs.declared.vec.Vec.{Vec}
use Rattle.std.specs.declared.alloc.Global.{Global}
use Rattle.wa_types.specs.declared.values.ValType.{ValType}
use Rattle.wa_types.specs.Syntax.{a_block, a_loop}
use Rattle.wa_model.specs.declared.flat.Stmt.{Stmt, Row_of-Stmt, end_of-Stmt, more_of-Stmt, items-the_row-Stmt, items_hidden-the_row-Stmt-0}
use Rattle.wa_model.specs.declared.flat.Stmt.TheBlock.{hidden-the_row-Stmt-0}
use Rattle.wa_model.specs.declared.flat.Stmt.TheVariants.{Move, Block, Loop, If}
use Rattle.wa_model.specs.declared.flat.Operand.TheVariants.{Local}
use Rattle.run_theory.specs.Flat.{Stmts, copies, nests, decides}
use Rattle.run_theory.specs.FlatView.{stmt_in_front, row_stmts, stmts}
use Rattle.flat_laws.specs.Flatten.{Names, slot, slots, top, result_local, arrive}
use Rattle.flatten.specs.declared.position.Position.{Position}
use Rattle.flatten.specs.Emitting.{onto_stmts, all_of, HoldsBelow, ArrivesAt, Closed, PutBlock, PutLoop, PutIf}
use Rattle.flatten.proofs.OntoLemmas.{onto_more}
use Rattle.flatten.proofs.PositionLemmas.{slot_more}

row_is : {m : _} → (k : Row_of-Stmt m) → row_stmts k ≡ stmts (items-the_row-Stmt m k)
unfolding stmts row_stmts stmt_in_front
row_is end_of-Stmt = refl
row_is (more_of-Stmt i k) = ap (stmt_in_front i) (row_is k)

vec_is : (v : Vec Stmt Global) → row_stmts (hidden-the_row-Stmt-0 v) ≡ stmts v.items
vec_is v = row_is (hidden-the_row-Stmt-0 v) ∙ ap stmts (items_hidden-the_row-Stmt-0 v)

block_is : (v : Vec Stmt Global) (k : Stmts) → stmt_in_front (Block v) k ≡ nests a_block (stmts v.items) k
unfolding stmt_in_front row_stmts
block_is v k = ap (λ b. nests a_block b k) (vec_is v)

loop_is : (v : Vec Stmt Global) (k : Stmts) → stmt_in_front (Loop v) k ≡ nests a_loop (stmts v.items) k
unfolding stmt_in_front row_stmts
loop_is v k = ap (λ b. nests a_loop b k) (vec_is v)

if_is : (x : ℕ) (v w : Vec Stmt Global) (k : Stmts) → stmt_in_front (If (Local x) v w) k ≡ decides (Local x) (stmts v.items) (stmts w.items) k
unfolding stmt_in_front row_stmts
if_is x v w k = ap (λ b. decides (Local x) b (row_stmts (hidden-the_row-Stmt-0 w)) k) (vec_is v) ∙ ap (λ b. decides (Local x) (stmts v.items) b k) (vec_is w)

-- ---- what goes behind

pub arrives_below : (n : Names) (t : ValType) (p : Position) → ArrivesAt n (Some t) p → HoldsBelow n p
arrives_below n t p a = (t, a.0, a.1, a.2)

pub nothing_arrives : (n : Names) (p : Position) (old : List Stmt) → ArrivesAt n None p → Closed n None p p old old
nothing_arrives n p old a = record { now = record { typing = refl; labels = refl; held = a.2 ∙ ap (slots n) (sym a.1) }; puts = λ rest k e. refl }

pub one_arrives : (n : Names) (t : ValType) (p q : Position) (old new : List Stmt) (to from : ℕ) → ArrivesAt n (Some t) p → q.typing ≡ p.typing → q.labels.items ≡ p.labels.items
    → q.slots.items ≡ p.slots.items ++ top n (all_of p.typing) ∷ [] → to ≡ top n (all_of p.typing)
    → from ≡ result_local n (length p.labels.items) t → new ≡ old ++ Move to (Local from) ∷ [] → Closed n (Some t) p q old new
unfolding stmt_in_front
one_arrives n t p q old new to from a et el es eto ef e = record {
  now = record { typing = et; labels = el; held = slot_more n p.slots.items q.slots.items t a.0 (all_of p.typing) a.2 a.1 es };
  puts = λ rest k er.
      ap (λ z. onto_stmts z k) e ∙ onto_more old (Move to (Local from)) k ∙ ap (λ z. onto_stmts old (copies z (Local from) k)) (eto ∙ ap (top n) er)
      ∙ ap (λ z. onto_stmts old (copies (slot n (length rest) t) (Local z) k)) ef;
}

pub block_put : (n : Names) (given : Option ValType) (v : Vec Stmt Global) (p q : Position) (old mid new : List Stmt) → mid ≡ old ++ Block v ∷ [] → Closed n given p q mid new
    → PutBlock n given v.items p q old new
block_put n given v p q old mid new e c = record {
  now = c.now;
  puts = λ rest k er. let behind : Stmts = arrive n (length p.labels.items) given rest k in c.puts rest k er ∙ ap (λ z. onto_stmts z behind) e ∙ onto_more old (Block v) behind
      ∙ ap (onto_stmts old) (block_is v behind);
}

pub if_put : (n : Names) (given : Option ValType) (x : ℕ) (v w : Vec Stmt Global) (p q : Position) (old mid new : List Stmt) → mid ≡ old ++ If (Local x) v w ∷ []
    → Closed n given p q mid new → PutIf n given x v.items w.items p q old new
if_put n given x v w p q old mid new e c = record {
  now = c.now;
  puts = λ rest k er. let behind : Stmts = arrive n (length p.labels.items) given rest k in c.puts rest k er ∙ ap (λ z. onto_stmts z behind) e ∙ onto_more old (If (Local x) v w) behind
      ∙ ap (onto_stmts old) (if_is x v w behind);
}

looped : (v : Vec Stmt Global) (old new : List Stmt) (k : Stmts) → new ≡ old ++ Loop v ∷ [] → onto_stmts new k ≡ onto_stmts old (nests a_loop (stmts v.items) k)
looped v old new k e = ap (λ z. onto_stmts z k) e ∙ onto_more old (Loop v) k ∙ ap (onto_stmts old) (loop_is v k)

pub loop_none : (n : Names) (v : Vec Stmt Global) (p : Position) (old new : List Stmt) → ArrivesAt n None p → new ≡ old ++ Loop v ∷ [] → PutLoop n v.items p p old new
loop_none n v p old new a e = record { now = record { typing = refl; labels = refl; held = a.2 ∙ ap (slots n) (sym a.1) }; puts = λ k. looped v old new k e }

pub loop_one : (n : Names) (t : ValType) (v : Vec Stmt Global) (p q : Position) (old new : List Stmt) → ArrivesAt n (Some t) p → q.typing ≡ p.typing → q.labels.items ≡ p.labels.items
    → q.slots.items ≡ p.slots.items ++ top n (all_of p.typing) ∷ [] → new ≡ old ++ Loop v ∷ [] → PutLoop n v.items p q old new
loop_one n t v p q old new a et el es e = record {
  now = record { typing = et; labels = el; held = slot_more n p.slots.items q.slots.items t a.0 (all_of p.typing) a.2 a.1 es };
  puts = λ k. looped v old new k e;
}

pub on_ok : {A E : Type 0} (res : Result A E) (P Q : Type 0) → (P → Q) → OnOk res P → OnOk res Q
on_ok (Ok u) P Q f h = f h
on_ok (Err e) P Q f h = tt

pub len_labels : (q p : Position) (k : ℕ) → k ≡ vec_len q.labels → q.labels.items ≡ p.labels.items → k ≡ length p.labels.items
len_labels q p k e f = omega (arith, e, ap length f)
