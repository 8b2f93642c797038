-- Plain pieces, statement by statement.
use Rattle.std.proofs.Common.{◌≡◌, ℕ, suc, ◌+◌, ◌<◌, ◌≤◌, List, [], length, get_or, take, drop, Option, Some, None, true, false, refl, sym, ap, ◌∙◌, subst, arith}
use Rattle.std.specs.Prelude.{◌||◌}
use Rattle.std.specs.Option.{is_some}
use Rattle.std.proofs.lemmas.List.{take_all}
use Rattle.std.specs.declared.vec.Vec.{Vec}
use Rattle.std.specs.declared.alloc.Global.{Global}
use Rattle.wa_types.specs.declared.instrs.Instr.{Instr}
use Rattle.wa_types.specs.Leaves.{is_leaf}
use Rattle.wa_types.specs.Syntax.{Shape as Nesting, Code, done, nest, branch}
use Rattle.wa_types.specs.View.{in_front, code, onto}
use Rattle.wa_types.proofs.ViewLemmas.{onto_done, onto_none}
use Rattle.wa_model.specs.declared.flat.Operand.{Operand}
use Rattle.wa_model.specs.declared.flat.Stmt.{Stmt, roll-Stmt, roll-out-Stmt}
use Rattle.wa_model.specs.declared.flat.Stmt.TheVariants.{Plain as PlainStmt, Move, Call as CallStmt, Br, BrIf, BrTable, Block, Loop, If, Unreachable, Block', Loop', If', rolls-Block, rolls-Loop, rolls-If, outs-Block', outs-Loop', outs-If'}
use Rattle.run_theory.specs.Flat.{Stmts, no_more, computes, copies, calls, leaps, leaps_if, leaps_by, nests, decides, halts, followed_by, got, set_to, slots_got, last_of, code_of}
use Rattle.run_theory.specs.FlatFits.{StmtsFit}
use Rattle.run_theory.specs.FlatView.{stmt_in_front, stmts}
use Rattle.guard_form.specs.Bounds.{unit_count}
use Rattle.guard_form.specs.Pieces.{no_unit, call_unit, nest_unit, if_unit, call_total, first_piece, flat_units, holds_call, numbered, piece_call, unit_call, units}
use Rattle.guard_form.proofs.CodeLemmas.{then_done}
use Rattle.guard_form.proofs.Grouped.{joins}
use Rattle.flow_rewrite.specs.Putting.{Puts}
use Rattle.flow_rewrite.specs.Statements.{with_rest, one_code, one_place, one_holds}
use Rattle.flow_rewrite.specs.UnitView.{callee_of}
use Rattle.flow_rewrite.specs.declared.pieces.Target.{Target}
use Rattle.flow_rewrite.proofs.StmtLemmas.{first_with as first_one, units_with as units_one, if_true, in_front_is, leaf_of, one_plain, stmts_end, stmts_step}
use Rattle.slim_rewrite.specs.declared.stack.Walk.{Walk}
use Rattle.slim_rewrite.specs.declared.constructs.Outside.{Outside}
use Rattle.slim_rewrite.specs.declared.sequence.Head.{Head}
use Rattle.slim_rewrite.specs.declared.sequence.Head.TheVariants.{Call}
use Rattle.slim_rewrite.specs.declared.sequence.Sequence.{Sequence}
use Rattle.slim_rewrite.specs.declared.sequence.Written.{Written}
use Rattle.slim_rewrite.specs.Walking.{Good}
use Rattle.slim_rewrite.specs.Coming.{Ready}
use Rattle.slim_rewrite.specs.Inside.{in_piece, as_kept, as_unit, Begun, Completed, Decided, Entered, Finished, Left, Nested, Same}
use Rattle.slim_rewrite.specs.SequenceView.{first_where, first_with, head_in_front, open_where, units_onto, units_with}
use Rattle.slim_rewrite.specs.Steps.{Opened}
use Rattle.slim_rewrite.specs.Gathering.{first_at, units_at, Bare, Gathered, GatheredTo, IsGathered, IsSimple}
use Rattle.slim_rewrite.proofs.PieceLemmas.{free_by_count, held_by, or_none, place_with, some_held}
use Rattle.slim_rewrite.proofs.SingleLemmas.{plain_is}
use Rattle.slim_rewrite.proofs.WalkLemmas.{ready_one, ready_rest, total_front}

pub bare_good : (a : Walk) → Bare a → Good a
bare_good a h =
    let n = ap length h.stack in let s = h.set in let f = h.floor in
    record { slots = λ i lt. absurd (omega (arith, n, lt)); places = λ i lt. absurd (omega (arith, n, lt)); set = omega (arith, s); floor = omega (arith, s, f) }

same_bare : (a b : Walk) → Bare a → Same a b → Bare b
same_bare a b h s = record { stack = s.stack ∙ h.stack; set = s.set ∙ h.set; floor = s.alike.floor ∙ h.floor }

pub gathered_as : (ps : List ℕ) (a b : Walk) (p q : Sequence) (x y : Stmts → Stmts) → ((s : Stmts) → y s ≡ x s) → Gathered ps a p b q x → Gathered ps a p b q y
gathered_as ps a b p q x y e h = subst (Gathered ps a p b q) (λ j s. sym (e s) j) h

-- ---- in the piece, and as a unit

gathered_piece : (ps : List ℕ) (a b : Walk) (p : Sequence) (k : ℕ) (u : Stmts) → Bare b → k ≡ one_place p.place u → one_holds ps p.place u ≡ false → Puts a.piece.items b.piece.items (one_code u)
    → Gathered ps a p b (record p { place = k }) (with_rest u)
gathered_piece ps a b p k u bare next free puts = record {
  bare = bare;
  place = next ∙ sym (place_with p.place u);
  first = λ s. ap (λ c. first_with p (onto a.piece.items c)) (first_is s) ∙ ap (first_with p) (sym (puts (first_piece ps k s)));
  units = λ s. (λ j. units_with p (onto a.piece.items (first_is s j)) (units_are s j)) ∙ ap (λ c. units_with p c (units ps k s)) (sym (puts (first_piece ps k s)));
}
  where
    first_is : (s : Stmts) → first_piece ps p.place (with_rest u s) ≡ one_code u (first_piece ps k s)
    first_is s = first_one ps p.place u s free ∙ ap (λ i. one_code u (first_piece ps i s)) (sym next)

    units_are : (s : Stmts) → units ps p.place (with_rest u s) ≡ units ps k s
    units_are s = units_one ps p.place u s free ∙ ap (λ i. units ps i s) (sym next)

gathered_unit : (ps : List ℕ) (a r b : Walk) (p q : Sequence) (k : ℕ) (head : Head) (x : Stmts → Stmts) → Bare r → code r.piece.items ≡ code a.piece.items → Opened r (record p { place = k }) b q head
    → k ≡ one_place p.place (x no_more) → ((s : Stmts) → first_piece ps p.place (x s) ≡ done)
    → ((s : Stmts) → units ps p.place (x s) ≡ head_in_front head (first_piece ps k s) (units ps k s)) → Gathered ps a p b q x
gathered_unit ps a r b p q k head x bare same opened next nothing made = record {
  bare = record { stack = opened.stack ∙ bare.stack; set = opened.set ∙ bare.set; floor = opened.alike.floor ∙ bare.floor };
  place = opened.place ∙ next;
  first = λ s. ap (first_with p) (there s) ∙ sym (opened.first (onto b.piece.items (first_piece ps q.place s)));
  units = λ s.
      (λ j. units_with p (there s j) (made s j)) ∙ sym (opened.units (first_piece ps k s) (units ps k s)) ∙ (λ j. units_with q (behind s j) (units ps (sym opened.place j) s));
}
  where
    there : (s : Stmts) → onto a.piece.items (first_piece ps p.place (x s)) ≡ code r.piece.items
    there s = ap (onto a.piece.items) (nothing s) ∙ onto_done a.piece.items ∙ sym same

    behind : (s : Stmts) → first_piece ps k s ≡ onto b.piece.items (first_piece ps q.place s)
    behind s = ap (λ i. first_piece ps i s) (sym opened.place) ∙ sym (ap (λ ys. onto ys (first_piece ps q.place s)) opened.piece ∙ onto_none (first_piece ps q.place s))

-- ---- single instructions

pub simple_leaf : (x : Stmt) (op : Instr) (args : Vec Operand Global) (to : Option ℕ) → x ≡ PlainStmt op args to → IsSimple (stmt_in_front x no_more) → is_leaf op ≡ true
simple_leaf x op args to e h = let q = subst IsSimple (plain_is x op args to e no_more) h in leaf_of op q.0 q.1

pub only_simple : (x : Stmt) → IsSimple (stmt_in_front x no_more) → ((op : Instr) (args : Vec Operand Global) (to : Option ℕ) → x ≡ PlainStmt op args to → ⊥)
    → ((to : ℕ) (from : Operand) → x ≡ Move to from → ⊥) → ((l : ℕ) → x ≡ Br l → ⊥) → ((o : Operand) (l : ℕ) → x ≡ BrIf o l → ⊥)
    → ((o : Operand) (v : Vec ℕ Global) (l : ℕ) → x ≡ BrTable o v l → ⊥) → (x ≡ Unreachable → ⊥) → ⊥
unfolding stmt_in_front
only_simple (PlainStmt op args to) h p m b bi bt u = p op args to refl
only_simple (Move to from) h p m b bi bt u = m to from refl
only_simple (CallStmt op stack args to) h p m b bi bt u = h
only_simple (Br l) h p m b bi bt u = b l refl
only_simple (BrIf o l) h p m b bi bt u = bi o l refl
only_simple (BrTable o v l) h p m b bi bt u = bt o v l refl
only_simple (Block' a z) h p m b bi bt u = h
only_simple (Loop' a z) h p m b bi bt u = h
only_simple (If' c a z d e) h p m b bi bt u = h
only_simple Unreachable h p m b bi bt u = u refl

pub simple_of : (locals labels : ℕ) (x : Stmt) → StmtsFit locals labels (stmt_in_front x no_more)
    → ((op : Instr) (stack : Vec ℕ Global) (args : ℕ) (to : Option ℕ) → x ≡ CallStmt op stack args to → ⊥) → ((v : Vec Stmt Global) → x ≡ Block v → ⊥)
    → ((v : Vec Stmt Global) → x ≡ Loop v → ⊥) → ((o : Operand) (v w : Vec Stmt Global) → x ≡ If o v w → ⊥) → IsSimple (stmt_in_front x no_more)
unfolding stmt_in_front
simple_of locals labels (PlainStmt op args to) h nc nb nl ni = one_plain locals (in_front op done) to h.0
simple_of locals labels (Move to from) h nc nb nl ni = tt
simple_of locals labels (CallStmt op stack args to) h nc nb nl ni = absurd (nc op stack args to refl)
simple_of locals labels (Br l) h nc nb nl ni = tt
simple_of locals labels (BrIf o l) h nc nb nl ni = tt
simple_of locals labels (BrTable o v l) h nc nb nl ni = tt
simple_of locals labels (Block' a z) h nc nb nl ni = absurd (nb _ (sym (roll-out-Stmt (Block' a z)) ∙ ap roll-Stmt (outs-Block' a z) ∙ rolls-Block _))
simple_of locals labels (Loop' a z) h nc nb nl ni = absurd (nl _ (sym (roll-out-Stmt (Loop' a z)) ∙ ap roll-Stmt (outs-Loop' a z) ∙ rolls-Loop _))
simple_of locals labels (If' c a z e f) h nc nb nl ni = absurd (ni c _ _ (sym (roll-out-Stmt (If' c a z e f)) ∙ ap roll-Stmt (outs-If' c a z e f) ∙ rolls-If c _ _))
simple_of locals labels Unreachable h nc nb nl ni = tt

simple_free : (ps : List ℕ) (n : ℕ) (u : Stmts) → IsSimple u → (one_holds ps n u ≡ false) × (one_place n u ≡ n)
simple_free ps n (computes op args to rest) h = (refl, refl)
simple_free ps n (copies to from rest) h = (refl, refl)
simple_free ps n (leaps l rest) h = (refl, refl)
simple_free ps n (leaps_if o l rest) h = (refl, refl)
simple_free ps n (leaps_by o ls l rest) h = (refl, refl)
simple_free ps n (halts rest) h = (refl, refl)
simple_free ps n no_more h = absurd h
simple_free ps n (calls op stack args to rest) h = absurd h
simple_free ps n (nests y body rest) h = absurd h
simple_free ps n (decides o a b rest) h = absurd h

pub simple_gathered : (ps : List ℕ) (a b : Walk) (p : Sequence) (x : Stmt) → Bare b → IsSimple (stmt_in_front x no_more) → Puts a.piece.items b.piece.items (one_code (stmt_in_front x no_more))
    → Gathered ps a p b p (stmt_in_front x)
simple_gathered ps a b p x bare simple puts =
    let u = stmt_in_front x no_more in let q = simple_free ps p.place u simple in
    gathered_as ps a b p p (with_rest u) (stmt_in_front x) (in_front_is x) (gathered_piece ps a b p p.place u bare (sym q.1) q.0 puts)

-- ---- calls

pub free_gathered : (ps : List ℕ) (a b : Walk) (p : Sequence) (k : ℕ) (op : Code) (stack : List ℕ) (args : ℕ) (to : Option ℕ) → Bare b → k ≡ suc p.place → None ≡ numbered ps p.place op
    → Puts a.piece.items b.piece.items (λ c. slots_got (last_of args stack) (followed_by op (set_to to c))) → Gathered ps a p b (record p { place = k }) (calls op stack args to)
free_gathered ps a b p k op stack args to bare next none puts = gathered_piece ps a b p k (calls op stack args to no_more) bare next (ap (λ o. is_some o) (sym none)) puts

pub call_gathered : (ps : List ℕ) (a b : Walk) (p q : Sequence) (k : ℕ) (slots : Vec ℕ Global) (x : Target) (op : Code) (stack : List ℕ) (args : ℕ) (to : Option ℕ) → Bare a
    → Opened a (record p { place = k }) b q (Call slots x to) → k ≡ suc p.place → Some (callee_of x) ≡ numbered ps p.place op → slots.items ≡ last_of args stack
    → Gathered ps a p b q (calls op stack args to)
call_gathered ps a b p q k slots x op stack args to bare opened next is slots_are =
    gathered_unit ps a a b p q k (Call slots x to) (calls op stack args to) bare refl opened next
    (λ s. ap (λ o. piece_call o (slots_got (last_of args stack) (followed_by op (set_to to (first_piece ps (suc p.place) s))))) (sym is))
    (λ s. ap (λ o. unit_call o (last_of args stack) to (first_piece ps (suc p.place) s) (units ps (suc p.place) s)) (sym is)
    ∙ (λ j. call_unit (sym slots_are j) (callee_of x) to (first_piece ps (sym next j) s) (units ps (sym next j) s)))

-- ---- constructs

code_alone : (ps : List ℕ) (n : ℕ) (s : Stmts) → units ps n s ≡ no_unit → first_piece ps n s ≡ code_of s
code_alone ps n s e = sym (then_done (first_piece ps n s)) ∙ ap (λ us. followed_by (first_piece ps n s) (flat_units us)) (sym e) ∙ joins ps n s

pub nest_gathered : (ps : List ℕ) (a d b : Walk) (p q : Sequence) (y : Nesting) (body : Stmts) (w : Written) → IsGathered ps a p.place body d w → Nested y d p b q w
    → Gathered ps a p b q (nests y body)
nest_gathered ps a d b p q y body w g (in_piece none same q_is puts) =
    let bare_units : units ps p.place body ≡ no_unit = sym g.units ∙ none in
    subst (λ z. Gathered ps a p b z (nests y body)) (sym q_is)
    (gathered_piece ps a b p w.place (nests y body no_more) (same_bare d b g.bare same) g.place (free_by_count ps p.place body (ap unit_count bare_units))
    (λ c. puts c ∙ (λ j. onto (g.piece j) (nest y None ((g.first ∙ code_alone ps p.place body bare_units) j) c))))
nest_gathered ps a d b p q y body w g (as_unit head some is opened) =
    let held : holds_call ps p.place body ≡ true = held_by ps p.place body (subst (λ us. 0 < unit_count us) g.units some) in
    gathered_unit ps a d b p q w.place head (nests y body) g.bare (ap code g.piece) opened g.place
    (λ s. if_true (holds_call ps p.place body) _ _ held)
    (λ s. if_true (holds_call ps p.place body) _ _ held ∙ (λ j. nest_unit y (sym g.first j) (sym g.units j) (first_piece ps (sym g.place j) s) (units ps (sym g.place j) s))
    ∙ sym (is (first_piece ps w.place s) (units ps w.place s)))

module _ (ps : List ℕ) (a d1 d2 b : Walk) (p q : Sequence) (o : Operand) (sa sb : Stmts) (v w : Written) (g1 : IsGathered ps a p.place sa d1 v) (g2 : IsGathered ps d1 v.place sb d2 w) where
  abbrev n1 : ℕ
  n1 = p.place + call_total sa

  second : IsGathered ps d1 n1 sb d2 w
  second = subst (λ k. IsGathered ps d1 k sb d2 w) g1.place g2

  pieces_same : d2.piece.items ≡ a.piece.items
  pieces_same = g2.piece ∙ g1.piece

  pub if_gathered : Decided o false d2 p b q v w → Gathered ps a p b q (decides o sa sb)
  if_gathered (in_piece none1 none2 same q_is puts) =
      let u1 : units ps p.place sa ≡ no_unit = sym g1.units ∙ none1 in
      let u2 : units ps n1 sb ≡ no_unit = sym second.units ∙ none2 in
      subst (λ z. Gathered ps a p b z (decides o sa sb)) (sym q_is)
      (gathered_piece ps a b p w.place (decides o sa sb no_more) (same_bare d2 b g2.bare same) second.place
      (or_none (holds_call ps p.place sa) (holds_call ps n1 sb) (free_by_count ps p.place sa (ap unit_count u1)) (free_by_count ps n1 sb (ap unit_count u2)))
      (λ c. puts c ∙ (λ j. onto (pieces_same j) (got o (branch None ((g1.first ∙ code_alone ps p.place sa u1) j) ((second.first ∙ code_alone ps n1 sb u2) j) c)))))
  if_gathered (as_unit head piece some puts is opened) =
      let held : (holds_call ps p.place sa || holds_call ps n1 sb) ≡ true =
      some_held ps p.place n1 sa sb (let z = ap unit_count g1.units in let y = ap unit_count second.units in omega (arith, z, y, some)) in
      gathered_unit ps a (record d2 { piece = piece }) b p q w.place head (decides o sa sb) (record { stack = g2.bare.stack; set = g2.bare.set; floor = g2.bare.floor })
      (sym (onto_done piece.items) ∙ puts done ∙ onto_done d2.piece.items ∙ ap code pieces_same) opened second.place
      (λ s. if_true (holds_call ps p.place sa || holds_call ps n1 sb) _ _ held)
      (λ s. if_true (holds_call ps p.place sa || holds_call ps n1 sb) _ _ held
      ∙ (λ j. if_unit (Some o) (sym g1.first j) (sym g1.units j) (sym second.first j) (sym second.units j) (first_piece ps (sym second.place j) s) (units ps (sym second.place j) s))
      ∙ sym (is (first_piece ps w.place s) (units ps w.place s)))
  if_gathered (as_kept head alone free some is opened) = cc

-- ---- along a sequence

pub gathered_start : (ps : List ℕ) (a m : Walk) (o : Outside) (n : ℕ) (s : Stmts) (q : Sequence) → Bare a → Entered a m o → Begun n q → Ready n s → GatheredTo ps n s m q s
gathered_start ps a m o n s q bare e h ready =
    let c = onto m.piece.items (first_piece ps q.place s) in
    let us = units ps q.place s in
    record {
      bare = record { stack = e.stack ∙ bare.stack; set = e.set ∙ bare.set; floor = e.floor ∙ ap length bare.stack };
      ready = subst (λ k. Ready k s) (sym h.place) ready;
      places = ap (λ k. k + call_total s) (sym h.place);
      first = ap (λ k. first_piece ps k s) (sym h.place)
          ∙ sym (ap (λ z. first_where z (code q.first.items) c) h.closed ∙ ap (λ ys. onto ys (first_piece ps q.place s)) e.piece ∙ onto_none (first_piece ps q.place s));
      units = ap (λ k. units ps k s) (sym h.place) ∙ sym (ap (λ xs. units_onto xs (open_where q.open c us)) h.units ∙ ap (λ z. open_where z c us) h.closed);
    }

module _ (ps : List ℕ) (n : ℕ) (s : Stmts) (xs : List Stmt) (i : ℕ) (w : Walk) (q : Sequence) (h : GatheredTo ps n s w q (stmts (drop i xs))) where
  pub gathered_ready : (x : Stmt) → i < length xs → x ≡ get_or xs i x → Ready q.place (stmt_in_front x no_more)
  gathered_ready x lt is = ready_one q.place x (stmts (drop (i + 1) xs)) (subst (Ready q.place) (stmts_step xs i x lt is) h.ready)

  pub gathered_next : (w2 : Walk) (q2 : Sequence) (x : Stmt) → i < length xs → x ≡ get_or xs i x → Gathered ps w q w2 q2 (stmt_in_front x) → GatheredTo ps n s w2 q2 (stmts (drop (i + 1) xs))
  gathered_next w2 q2 x lt is put =
      let rest = stmts (drop (i + 1) xs) in
      let st = stmts_step xs i x lt is in
      record {
        bare = put.bare;
        ready = ready_rest q.place q2.place x rest put.place (subst (Ready q.place) st h.ready);
        places = h.places ∙ ap (λ z. q.place + call_total z) st ∙ total_front q.place x rest ∙ ap (λ k. k + call_total rest) (sym put.place);
        first = h.first ∙ ap (first_at ps w q) st ∙ put.first rest;
        units = h.units ∙ ap (units_at ps w q) st ∙ put.units rest;
      }

  pub gathered_end : (a m f b : Walk) (o : Outside) (v : Written) → length xs ≤ i → Bare a → Entered a m o → Finished w q f v → Left f b o false → IsGathered ps a n s b v
  gathered_end a m f b o v le bare ent fin lf =
      let e = stmts_end xs i le in
      let c : Completed w q f v = fin.plain (h.bare.set ∙ sym (ap length h.bare.stack)) in
      let z : n + call_total s ≡ q.place + 0 = h.places ∙ ap (λ y. q.place + call_total y) e in
      let none : f.stack.items ≡ [] = c.same.stack ∙ h.bare.stack in
      record {
        bare = record {
          stack = (lf.cut refl).0 ∙ ap (take o.height) none ∙ take_all o.height [] (omega arith);
          set = (lf.cut refl).1 ∙ ent.height ∙ ap length bare.stack;
          floor = lf.floor ∙ ent.below ∙ bare.floor;
        };
        piece = lf.piece ∙ ent.outer;
        place = c.place ∙ omega (arith, z);
        first = c.first ∙ sym (h.first ∙ ap (first_at ps w q) e ∙ ap (first_with q) (onto_done w.piece.items));
        units = c.units ∙ sym (h.units ∙ ap (units_at ps w q) e ∙ ap (λ y. units_with q y no_unit) (onto_done w.piece.items));
      }
