-- Bodies, instruction by instruction.
use Rattle.std.proofs.Common.{◌≡◌, ℕ, ◌+◌, ◌<◌, ◌≤◌, ◌++◌, List, [], ◌∷◌, length, reverse, take, drop, get_or, slice_get, Option, Bool, true, false, refl, subst, arith, ap, sym, ◌∙◌, length-append}
use Rattle.std.proofs.lemmas.List.{length-reverse}
use Rattle.std.proofs.Math.Seq.{drop-append_seam}
use Rattle.wa_types.specs.declared.instrs.Instr.{Instr}
use Rattle.wa_types.specs.Syntax.{Code, done}
use Rattle.wa_types.specs.View.{code, in_front}
use Rattle.wa_types.specs.Pruned.{is_last_instr}
use Rattle.wa_types.specs.Sizes.{code_items}
use Rattle.wa_types.proofs.ViewLemmas.{is_block, is_loop, is_if, is_plain, instr_kind, in_block, in_loop, in_if, code_step, code_empty}
use Rattle.wasm_validate.specs.Walk.{Walk, Stays, TypedAt}
use Rattle.wasm_validate.proofs.WalkUses.{typed_alone, onward}
use Rattle.wa_model.specs.declared.flat.Stmt.{Stmt}
use Rattle.run_theory.specs.Flat.{Stmts, no_more}
use Rattle.run_theory.specs.FlatView.{stmt_in_front, stmts}
use Rattle.flat_laws.specs.Flatten.{Names, slots, flat, top}
use Rattle.flatten.specs.declared.position.Position.{Position}
use Rattle.flatten.specs.Emitting.{onto_stmts, all_of, flat_at, carried_to, label_locals, Ready, Put, PutLast, SmallTypes}
use Rattle.flatten.proofs.CarryLemmas.{carry_is}
use Rattle.flatten.proofs.PositionLemmas.{slots_drop, slots_long}
use Rattle.flatten.proofs.TakenLemmas.{kept_reversed}
use Rattle.flatten.proofs.LeafLemmas.{labels_long}

-- Where the walk stands after a part of a body, with the statements put so far.
pub record Walked (n : Names) (a p : Position) (all left : Code) (out : List Stmt) : Type 0 where
  pub ready : Ready n p
  pub stays : Stays a.typing p.typing
  pub typed : TypedAt p.typing left
  pub same : onto_stmts out (flat_at n p.typing left) ≡ flat_at n a.typing all
  pub fewer : code_items left ≤ code_items all

pub onto_all : (xs : List Stmt) → onto_stmts xs no_more ≡ stmts xs
unfolding onto_stmts stmts
onto_all [] = refl
onto_all (x ∷ xs) = ap (stmt_in_front x) (onto_all xs)

pub items_front : (x : Instr) (rest : Code) → code_items (in_front x rest) ≡ code_items (in_front x done) + code_items rest
unfolding code_items
items_front x rest = elim (instr_kind x) [
  | is_block r v e ↦ ap (λ y. code_items (in_front y rest)) e ∙ ap code_items (in_block r v rest) ∙ omega (arith, ap (λ y. code_items (in_front y done)) e ∙ ap code_items (in_block r v done))
  | is_loop r v e ↦ ap (λ y. code_items (in_front y rest)) e ∙ ap code_items (in_loop r v rest) ∙ omega (arith, ap (λ y. code_items (in_front y done)) e ∙ ap code_items (in_loop r v done))
  | is_if r v w e ↦ ap (λ y. code_items (in_front y rest)) e ∙ ap code_items (in_if r v w rest) ∙ omega (arith, ap (λ y. code_items (in_front y done)) e ∙ ap code_items (in_if r v w done))
  | is_plain p e ↦ ap code_items (e rest) ∙ omega (arith, ap code_items (e done))
]

pub walked_first : (n : Names) (a : Position) (all : Code) (out : List Stmt) → Ready n a → TypedAt a.typing all → out ≡ [] → Walked n a a all all out
unfolding onto_stmts
walked_first n a all out r t e = record {
  ready = r;
  stays = record { around = refl; labels = refl; under = refl };
  typed = t;
  same = ap (λ z. onto_stmts z (flat_at n a.typing all)) e;
  fewer = omega arith;
}

module _ (n : Names) (a p : Position) (body : List Instr) (j : ℕ) (x : Instr) (out : List Stmt) (w : Walked n a p (code body) (code (drop j body)) out) (lt : j < length body)
    (at : x ≡ get_or body j x) where
  front : code (drop j body) ≡ in_front x (code (drop (j + 1) body))
  front = code_step body j x lt at

  front_typed : TypedAt p.typing (in_front x (code (drop (j + 1) body)))
  front_typed = subst (TypedAt p.typing) front w.typed

  pub one_typed : TypedAt p.typing (in_front x done)
  one_typed = typed_alone p.typing.around p.typing.labels x (code (drop (j + 1) body)) p.typing.own front_typed

  labels_same : Ready n a → length p.labels.items ≡ length a.labels.items
  labels_same r = labels_long n p w.ready ∙ ap length w.stays.labels ∙ sym (labels_long n a r)

  pub one_room : (size : ℕ) → Ready n a → length a.labels.items + code_items (code body) < size → length p.labels.items + code_items (in_front x done) < size
  one_room size r h = omega (arith, h, labels_same r, w.fewer, ap code_items front ∙ items_front x (code (drop (j + 1) body)))

  pub one_fewer : code_items (in_front x done) ≤ code_items (code body)
  one_fewer = omega (arith, w.fewer, ap code_items front ∙ items_front x (code (drop (j + 1) body)))

  pub one_inside : Ready n a → 0 < length a.labels.items → 0 < length p.labels.items
  one_inside r h = omega (arith, h, labels_same r)

  pub few_labels : (size : ℕ) → Ready n a → length a.labels.items + code_items (code body) < size → length p.labels.items < size
  few_labels size r h = omega (arith, h, labels_same r)

  pub last_stmts : (new : List Stmt) → PutLast n p x out new → stmts new ≡ flat_at n a.typing (code body)
  last_stmts new h = sym (onto_all new) ∙ h (code (drop (j + 1) body)) ∙ ap (λ k. onto_stmts out (flat_at n p.typing k)) (sym front) ∙ w.same

  pub walked_next : (q : Position) (new : List Stmt) → is_last_instr x ≡ false → Put n p q x out new → Walked n a q (code body) (code (drop (j + 1) body)) new
  walked_next q new e h =
      let stays : Stays a.typing q.typing = record { around = h.stays.around ∙ w.stays.around; labels = h.stays.labels ∙ w.stays.labels; under = h.stays.under ∙ w.stays.under } in
      let on = onward p.typing.around p.typing.labels x (code (drop (j + 1) body)) p.typing.own front_typed q.typing.own h.typed e in
      record {
        ready = h.ready;
        stays = stays;
        typed = moved_typed q h.stays on;
        same = h.emits (code (drop (j + 1) body)) ∙ ap (λ k. onto_stmts out (flat_at n p.typing k)) (sym front) ∙ w.same;
        fewer = omega (arith, w.fewer, ap code_items front ∙ items_front x (code (drop (j + 1) body)));
      }
    where
      moved_typed : (q : Position) → Stays p.typing q.typing → TypedAt (record { around = p.typing.around; labels = p.typing.labels; own = q.typing.own; under = p.typing.under })
          (code (drop (j + 1) body)) → TypedAt q.typing (code (drop (j + 1) body))
      moved_typed q s h =
          subst (λ c. TypedAt (record { around = c; labels = q.typing.labels; own = q.typing.own; under = q.typing.under }) (code (drop (j + 1) body))) (sym s.around)
          (subst (λ ls. TypedAt (record { around = p.typing.around; labels = ls; own = q.typing.own; under = q.typing.under }) (code (drop (j + 1) body))) (sym s.labels) h)

-- the end
pub end_stmts : (n : Names) (a p : Position) (body : List Instr) (j from : ℕ) (locals : List (Option ℕ)) (out new : List Stmt) → Walked n a p (code body) (code (drop j body)) out
    → length body ≤ j → locals ≡ label_locals n p.typing.labels → from ≡ top n (all_of p.typing)
    → ((rest : Stmts) → onto_stmts new rest ≡ onto_stmts out (carried_to (slice_get locals 0) from rest)) → stmts new ≡ flat_at n a.typing (code body)
unfolding flat
end_stmts n a p body j from locals out new w le el ef h =
    sym (onto_all new) ∙ h no_more ∙ ap (λ f. onto_stmts out (carried_to (slice_get locals 0) f no_more)) ef
    ∙ ap (λ ls. onto_stmts out (carried_to (slice_get ls 0) (top n (all_of p.typing)) no_more)) el
    ∙ ap (onto_stmts out) (carry_is n p.typing.labels (all_of p.typing) 0 no_more) ∙ ap (λ k. onto_stmts out (flat_at n p.typing k)) (sym (code_empty body j le)) ∙ w.same

-- ---- arms

pub arm_ready : (n : Names) (a q r : Position) (height : ℕ) → Ready n a → Ready n q → Stays a.typing q.typing → a.typing.own ≡ [] → height ≡ length a.slots.items → r.typing ≡ a.typing
    → r.labels.items ≡ q.labels.items → r.slots.items ≡ take height q.slots.items → Ready n r
arm_ready n a q r height ra rq st none eh et el es =
    let k : ℕ = length q.typing.own in
    let under : q.typing.under ≡ a.typing.under = st.under in
    let count : length a.slots.items ≡ length a.typing.under = sym (length-reverse a.slots.items) ∙ ap length ra.held ∙ slots_long n (all_of a.typing) ∙ ap (λ z. length (z ++ a.typing.under)) none in
    let long : height + k ≡ length q.slots.items = omega (
      arith,
      eh,
      count,
      length-reverse q.slots.items,
      ap length rq.held,
      slots_long n (all_of q.typing),
      length-append q.typing.own q.typing.under,
      ap length under,
    ) in
    record {
      held = ap reverse es ∙ kept_reversed height k q.slots.items long ∙ ap (drop k) rq.held ∙ slots_drop n k (all_of q.typing) ∙ ap (slots n) (drop-append_seam q.typing.own q.typing.under)
          ∙ ap (slots n) under ∙ ap (λ z. slots n (z ++ a.typing.under)) (sym none) ∙ ap (λ (w : Walk). slots n (all_of w)) (sym et);
      labels = ap reverse el ∙ rq.labels ∙ ap (label_locals n) st.labels ∙ ap (λ (w : Walk). label_locals n w.labels) (sym et);
    }

pub restarted : (a q : Walk) → Stays a q → a.own ≡ [] → record { around = q.around; labels = q.labels; own = []; under = q.under } ≡ a
restarted a q st none = λ j. record { around = st.around j; labels = st.labels j; own = (sym none) j; under = st.under j }

pub goes_on : (b c : Bool) → b ≡ c → b ≡ false → c ≡ false
goes_on b c e f = sym e ∙ f

pub small_still : (a p : Walk) → Stays a p → SmallTypes a.around → SmallTypes p.around
small_still a p st h = subst SmallTypes (sym st.around) h

pub same_labels : (n : Names) (p s : Position) → Ready n p → Ready n s → s.typing ≡ p.typing → length s.labels.items ≡ length p.labels.items
same_labels n p s rp rs e = labels_long n s rs ∙ ap (λ (w : Walk). length w.labels) e ∙ sym (labels_long n p rp)

pub told : (b c : Bool) → b ≡ c → b ≡ true → c ≡ true
told b c e f = sym e ∙ f
