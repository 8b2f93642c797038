-- Statements of instructions that hold no other.
use Rattle.std.proofs.Common.{◌≡◌, ℕ, ◌<◌, ◌++◌, List, [], ◌∷◌, length, reverse, take, drop, map, slice_get, Option, Some, None, false, refl, subst, arith, ap, sym, ◌∙◌}
use Rattle.std.proofs.lemmas.List.{length-reverse}
use Rattle.std.proofs.lemmas.Option.{slice_get_within}
use Rattle.wa_types.specs.declared.values.ValType.{ValType}
use Rattle.wa_types.specs.declared.instrs.Instr.{Instr}
use Rattle.wa_types.specs.declared.instrs.Instr.TheVariants.{BrIf, LocalGet, LocalSet, LocalTee}
use Rattle.wa_types.specs.Syntax.{Basic, basic, Plain, br_if, local_get, local_set, local_tee, Code, done, plain}
use Rattle.wa_types.specs.View.{in_front}
use Rattle.wa_types.specs.Pruned.{is_last}
use Rattle.wa_types.specs.Typing.{sig, may_jump, Takes, Types, gets, sets, tees}
use Rattle.wa_types.specs.Points.{after}
use Rattle.wasm_validate.specs.Walk.{Walk, Stays, TypedAt}
use Rattle.wa_model.specs.declared.flat.Stmt.{Stmt}
use Rattle.wa_model.specs.declared.flat.Stmt.TheVariants.{Move, Plain as Computes, BrIf as JumpIf}
use Rattle.std.specs.declared.vec.Vec.{Vec}
use Rattle.std.specs.declared.alloc.Global.{Global}
use Rattle.wa_model.specs.Store.{takes, gives}
use Rattle.wa_model.specs.declared.flat.Operand.{Operand}
use Rattle.wa_model.specs.declared.flat.Operand.TheVariants.{Local}
use Rattle.run_theory.specs.Flat.{Stmts, computes, copies, leaps_if}
use Rattle.run_theory.specs.FlatView.{stmt_in_front}
use Rattle.flat_laws.specs.Flatten.{Names, slots, top, top_of, carry, flat, flat_plain}
use Rattle.flat_laws.proofs.OperandTypes.{after_all}
use Rattle.flatten.proofs.OntoLemmas.{onto_more}
use Rattle.flatten.specs.Emitting.{onto_stmts, all_of, flat_at, carried_to, first_or, label_locals, Ready, Put}
use Rattle.flatten.proofs.CarryLemmas.{carry_is, locals_long}
use Rattle.flatten.proofs.PositionLemmas.{slots_long, slots_drop, top_is}
use Rattle.flatten.specs.declared.position.Position.{Position}

module _ (n : Names) (v w : Walk) (i : Instr) (p : Plain) (is : (rest : Code) → in_front i rest ≡ plain p rest) (st : Stays v w) (ty : Types v.around v.labels (in_front i done) w.own v.own) where
  pub moved : Takes (sig v.around v.labels p) v.own w.own
  unfolding Types
  moved = let t : Types v.around v.labels (plain p done) w.own v.own = subst (λ (k : Code). Types v.around v.labels k w.own v.own) (is done) ty in subst (Takes (sig v.around v.labels p) v.own) t.2 t.1

  behind : is_last p ≡ false → after (sig v.around v.labels p) (all_of v) ≡ all_of w
  behind e = after_all v.around v.labels p v.own w.own v.under (all_of v) e moved refl ∙ ap (λ z. w.own ++ z) (sym st.under)

  -- what is put for one instruction, before the rest
  pub emits : is_last p ≡ false → (old new : List Stmt) → ((k : Stmts) → onto_stmts new k ≡ onto_stmts old (flat_plain n v.around v.labels (all_of v) (all_of w) p k)) → (rest : Code)
      → onto_stmts new (flat_at n w rest) ≡ onto_stmts old (flat_at n v (in_front i rest))
  unfolding flat
  emits e old new h rest =
      ap (λ c. onto_stmts new (flat n c w.labels rest (all_of w))) st.around ∙ ap (λ ls. onto_stmts new (flat n v.around ls rest (all_of w))) st.labels
      ∙ h (flat n v.around v.labels rest (all_of w))
      ∙ sym (ap (λ k. onto_stmts old (flat n v.around v.labels k (all_of v))) (is rest)
      ∙ ap (λ b. onto_stmts old (flat_plain n v.around v.labels (all_of v) b p (flat n v.around v.labels rest b))) (behind e))

pub is_get : (i : Instr) (x : ℕ) → i ≡ LocalGet x → (rest : Code) → in_front i rest ≡ plain (local_get x) rest
unfolding in_front
is_get i x e rest = ap (λ j. in_front j rest) e

pub is_set : (i : Instr) (x : ℕ) → i ≡ LocalSet x → (rest : Code) → in_front i rest ≡ plain (local_set x) rest
unfolding in_front
is_set i x e rest = ap (λ j. in_front j rest) e

pub is_tee : (i : Instr) (x : ℕ) → i ≡ LocalTee x → (rest : Code) → in_front i rest ≡ plain (local_tee x) rest
unfolding in_front
is_tee i x e rest = ap (λ j. in_front j rest) e

-- ---- variables

-- all operands but the topmost have their slots
abbrev pub Below : Names → Walk → List ℕ → Type 0
Below n w ss = (t : ValType) × (rest : List ValType) × (all_of w ≡ t ∷ rest) × (reverse ss ≡ slots n rest)

pub get_below : (n : Names) (v w : Walk) (ss : List ℕ) (o : Option ValType) → Takes (gets o) v.own w.own → w.under ≡ v.under → reverse ss ≡ slots n (all_of v) → Below n w ss
get_below n v w ss None t u h = absurd t
get_below n v w ss (Some k) t u h =
    (k, t.0 ++ v.under, ap (λ z. z ++ w.under) t.2 ∙ ap (λ z. k ∷ (t.0 ++ z)) u, h ∙ ap (λ z. slots n (z ++ v.under)) t.1)

pub copied : (n : Names) (old new : List Stmt) (to x : ℕ) (ops : List ValType) (k : Stmts) → new ≡ old ++ Move to (Local x) ∷ [] → to ≡ top n ops
    → onto_stmts new k ≡ onto_stmts old (copies (top n ops) (Local x) k)
unfolding stmt_in_front
copied n old new to x ops k e f = ap (λ z. onto_stmts z k) e ∙ onto_more old (Move to (Local x)) k ∙ ap (λ y. onto_stmts old (copies y (Local x) k)) f

-- what is known behind an instruction
pub put_is : (n : Names) (a b : Position) (i : Instr) (old new : List Stmt) (w : Walk) → Ready n a → Stays a.typing w → Types a.typing.around a.typing.labels (in_front i done) w.own a.typing.own
    → ((rest : Code) → onto_stmts new (flat_at n w rest) ≡ onto_stmts old (flat_at n a.typing (in_front i rest))) → b.typing ≡ w → b.labels.items ≡ a.labels.items
    → reverse b.slots.items ≡ slots n (all_of w) → Put n a b i old new
put_is n a b i old new w r st ty em e l h = record {
  ready = record {
    held = h ∙ ap (λ (v : Walk). slots n (all_of v)) (sym e);
    labels = ap reverse l ∙ r.labels ∙ ap (label_locals n) (sym st.labels)
        ∙ ap (λ (v : Walk). label_locals n v.labels) (sym e);
  };
  stays = subst (Stays a.typing) (sym e) st;
  typed = subst (λ (v : Walk). Types a.typing.around a.typing.labels (in_front i done) v.own a.typing.own) (sym e) ty;
  emits = λ rest. subst (λ (v : Walk). onto_stmts new (flat_at n v rest) ≡ onto_stmts old (flat_at n a.typing (in_front i rest))) (sym e) (em rest);
}

-- ---- operands that are taken

pub copied_from : (n : Names) (old new : List Stmt) (x from : ℕ) (ops : List ValType) (k : Stmts) → new ≡ old ++ Move x (Local from) ∷ [] → from ≡ top n ops
    → onto_stmts new k ≡ onto_stmts old (copies x (Local (top n ops)) k)
unfolding stmt_in_front
copied_from n old new x from ops k e f = ap (λ z. onto_stmts z k) e ∙ onto_more old (Move x (Local from)) k ∙ ap (λ y. onto_stmts old (copies x (Local y) k)) f

-- an instruction that is typed can take its operands
pub taken : (v : Walk) (i : Instr) (p : Plain) → ((rest : Code) → in_front i rest ≡ plain p rest) → TypedAt v (in_front i done) → (mids : List ValType) × Takes (sig v.around v.labels p) v.own mids
unfolding Types
taken v i p is t = let u : Types v.around v.labels (plain p done) t.0 v.own = subst (λ (k : Code). Types v.around v.labels k t.0 v.own) (is done) t.1 in (u.0, u.1)

pub set_one : (o : Option ValType) (own mids under : List ValType) → Takes (sets o) own mids → (0 < length (own ++ under)) × (mids ++ under ≡ drop 1 (own ++ under))
set_one None own mids under t = absurd t
set_one (Some k) own mids under t = (subst (λ z. 0 < length (z ++ under)) (sym t.1) (omega arith), ap (λ z. z ++ under) t.2 ∙ sym (ap (λ z. drop 1 (z ++ under)) t.1))

pub tee_same : (o : Option ValType) (own mids under : List ValType) → Takes (tees o) own mids → mids ++ under ≡ own ++ under
tee_same None own mids under t = absurd t
tee_same (Some k) own mids under t = ap (λ z. z ++ under) (t.2 ∙ sym t.1)

pub br_if_one : (o : Option (Option ValType)) (own mids under : List ValType) → Takes (may_jump o) own mids → (0 < length (own ++ under)) × (mids ++ under ≡ drop 1 (own ++ under))
br_if_one None own mids under t = absurd t
br_if_one (Some r) own mids under t = (subst (λ z. 0 < length (z ++ under)) (sym t.1) (omega arith), ap (λ z. z ++ under) t.2 ∙ sym (ap (λ z. drop 1 (z ++ under)) t.1))

-- a label that a typed branch goes to is there
pub may_jump_there : (ls : List (Option ValType)) (l : ℕ) (own mids : List ValType) → (o : Option (Option ValType)) → slice_get ls l ≡ o → Takes (may_jump o) own mids → l < length ls
may_jump_there ls l own mids None e t = absurd t
may_jump_there ls l own mids (Some r) e t = slice_get_within ls l r e

module _ (n : Names) (p : Position) (r : Ready n p) where
  pub labels_long : length p.labels.items ≡ length p.typing.labels
  labels_long = sym (length-reverse p.labels.items) ∙ ap length r.labels ∙ locals_long n p.typing.labels

  pub slots_are_long : length p.slots.items ≡ length (all_of p.typing)
  slots_are_long = sym (length-reverse p.slots.items) ∙ ap length r.held ∙ slots_long n (all_of p.typing)

  pub top_slot_is : (x : ℕ) → x ≡ first_or (reverse p.slots.items) → x ≡ top n (all_of p.typing)
  top_slot_is x e = e ∙ top_is n (all_of p.typing) (reverse p.slots.items) r.held

  pub one_less : (ss : List ℕ) → reverse ss ≡ drop 1 (reverse p.slots.items) → reverse ss ≡ slots n (drop 1 (all_of p.typing))
  one_less ss e = e ∙ ap (drop 1) r.held ∙ slots_drop n 1 (all_of p.typing)

pub is_br_if : (i : Instr) (l : ℕ) → i ≡ BrIf l → (rest : Code) → in_front i rest ≡ plain (br_if l) rest
unfolding in_front
is_br_if i l e rest = ap (λ j. in_front j rest) e

pub branched_if : (n : Names) (ls : List (Option ValType)) (locals : List (Option ℕ)) (old mid new : List Stmt) (condition l from : ℕ) (ops : List ValType) (k : Stmts) → locals ≡ label_locals n ls
    → ((rest : Stmts) → onto_stmts mid rest ≡ onto_stmts old (carried_to (slice_get locals l) from rest)) → new ≡ mid ++ JumpIf (Local condition) l ∷ [] → condition ≡ top n ops
    → from ≡ top n (drop 1 ops)
    → onto_stmts new k ≡ onto_stmts old (carry n ls (drop 1 ops) l (leaps_if (Local (top n ops)) l k))
unfolding stmt_in_front
branched_if n ls locals old mid new condition l from ops k el h e ec ef =
    ap (λ z. onto_stmts z k) e ∙ onto_more mid (JumpIf (Local condition) l) k ∙ h (leaps_if (Local condition) l k)
    ∙ ap (λ y. onto_stmts old (carried_to (slice_get locals l) from (leaps_if (Local y) l k))) ec
    ∙ ap (λ y. onto_stmts old (carried_to (slice_get locals l) y (leaps_if (Local (top n ops)) l k))) ef
    ∙ ap (λ xs. onto_stmts old (carried_to (slice_get xs l) (top n (drop 1 ops)) (leaps_if (Local (top n ops)) l k))) el
    ∙ ap (onto_stmts old) (carry_is n ls (drop 1 ops) l (leaps_if (Local (top n ops)) l k))

pub computed_is : (n : Names) (b : Basic) (old new : List Stmt) (op : Instr) (args : Vec Operand Global) (to : Option ℕ) (ops behind : List ValType) (k : Stmts)
    → ((rest : Code) → in_front op rest ≡ plain (basic b) rest) → new ≡ old ++ Computes op args to ∷ []
    → args.items ≡ map Local (reverse (take (takes b) (slots n ops))) → to ≡ top_of n (gives b) behind
    → onto_stmts new k ≡ onto_stmts old (computes (plain (basic b) done) (map Local (reverse (take (takes b) (slots n ops)))) (top_of n (gives b) behind) k)
unfolding stmt_in_front
computed_is n b old new op args to ops behind k eo e ea et =
    ap (λ z. onto_stmts z k) e ∙ onto_more old (Computes op args to) k ∙ ap (λ z. onto_stmts old (computes z args.items to k)) (eo done)
    ∙ ap (λ z. onto_stmts old (computes (plain (basic b) done) z to k)) ea ∙ ap (λ z. onto_stmts old (computes (plain (basic b) done) (map Local (reverse (take (takes b) (slots n ops)))) z k)) et
