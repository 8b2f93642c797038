-- Along the statements of a sequence, and into them: what is asked of each (`Ready`).
use Rattle.std.proofs.Common.{◌≡◌, ℕ, suc, ◌+◌, ◌<◌, ◌≤◌, List, [], length, get_or, drop, None, false, sym, ap, ◌∙◌, subst, arith}
use Rattle.wa_types.specs.Syntax.{Shape as Nesting, Code}
use Rattle.wa_types.specs.View.{code, onto}
use Rattle.wa_types.proofs.ViewLemmas.{onto_none}
use Rattle.wa_model.specs.declared.flat.Operand.{Operand}
use Rattle.wa_model.specs.declared.flat.Stmt.{Stmt}
use Rattle.run_theory.specs.Flat.{Stmts, no_more, nests, decides}
use Rattle.run_theory.specs.FlatFits.{StmtsFit}
use Rattle.run_theory.specs.FlatView.{stmt_in_front, stmts}
use Rattle.guard_form.specs.Pieces.{Units, call_total, first_piece, units}
use Rattle.flow_rewrite.specs.Statements.{one_place}
use Rattle.flow_rewrite.proofs.StmtLemmas.{fits_one, in_front_is, stmts_end, stmts_step, total_with}
use Rattle.slim_laws.specs.Slim.{Free, Terms}
use Rattle.slim_rewrite.specs.declared.stack.Walk.{Walk}
use Rattle.slim_rewrite.specs.Walking.{Alike, Among, Good}
use Rattle.slim_rewrite.proofs.StepLemmas.{alike_same, alike_then, among_next}
use Rattle.slim_rewrite.specs.declared.sequence.Sequence.{Sequence}
use Rattle.slim_rewrite.specs.declared.sequence.Written.{Written}
use Rattle.slim_rewrite.specs.Coming.{Around, CallsFixed, Comes, From, Ready}
use Rattle.slim_rewrite.specs.Inside.{first_code, units_in, Finished, IsWritten}
use Rattle.slim_rewrite.specs.SequenceView.{first_where, open_where, units_onto}
use Rattle.slim_rewrite.specs.Steps.{Put}
use Rattle.slim_rewrite.proofs.ComingLemmas.{from_rest, from_slim}
use Rattle.slim_rewrite.proofs.ConstructLemmas.{around_next}
use Rattle.slim_rewrite.proofs.PieceLemmas.{fixed_rest}
use Rattle.std.specs.Prelude.{Bool, true, Result, Ok, IfOk}
use Rattle.std.specs.declared.alloc.AllocError.{AllocError}

-- ---- what is asked

pub total_front : (n : ℕ) (x : Stmt) (s : Stmts) → n + call_total (stmt_in_front x s) ≡ one_place n (stmt_in_front x no_more) + call_total s
total_front n x s = ap (λ z. n + call_total z) (in_front_is x s) ∙ total_with n (stmt_in_front x no_more) s

pub ready_one : (n : ℕ) (x : Stmt) (s : Stmts) → Ready n (stmt_in_front x s) → Ready n (stmt_in_front x no_more)
ready_one n x s h =
    let q = fits_one h.locals h.labels (stmt_in_front x no_more) s (subst (StmtsFit h.locals h.labels) (in_front_is x s) h.fit) in
    let r = h.room in let e = total_front n x s in let f = total_front n x no_more in
    record { locals = h.locals; labels = h.labels; fit = subst (StmtsFit h.locals h.labels) (sym (in_front_is x no_more)) q.0; room = omega arith }

pub ready_rest : (n k : ℕ) (x : Stmt) (s : Stmts) → k ≡ one_place n (stmt_in_front x no_more) → Ready n (stmt_in_front x s) → Ready k s
ready_rest n k x s is h =
    let q = fits_one h.locals h.labels (stmt_in_front x no_more) s (subst (StmtsFit h.locals h.labels) (in_front_is x s) h.fit) in
    let r = h.room in let e = total_front n x s in
    record { locals = h.locals; labels = h.labels; fit = q.1; room = omega arith }

-- ---- along a sequence

-- Where the walk is in a sequence: what comes to the rest comes to the whole.
pub record Walked (ps : List ℕ) (a : Walk) (n : ℕ) (s : Stmts) (w : Walk) (q : Sequence) (rest : Stmts) : Type 0 where
  pub good : Good w
  pub alike : Alike a w
  pub ready : Ready q.place rest
  pub places : n + call_total s ≡ q.place + call_total rest
  pub step : (t : Terms) → Among t a → (k : ℕ) (ts : List Free) (out : Free) → Around t a ts → CallsFixed t ps n k s
      → CallsFixed t ps q.place k rest × ((first : Code) (us : Units) → Comes t k ts out ps w q rest first us → From t k ts out a (first_piece ps n s) (units ps n s) first us)

pub walked_start : (ps : List ℕ) (a : Walk) (n : ℕ) (s : Stmts) (q : Sequence) → Good a → a.piece.items ≡ [] → Ready n s → q.units.items ≡ [] → q.open ≡ None → q.place ≡ n → q.ended ≡ false
    → Walked ps a n s a q s
walked_start ps a n s q good none ready no_units closed place goes = record {
  good = good;
  alike = alike_same a;
  ready = subst (λ k. Ready k s) (sym place) ready;
  places = ap (λ k. k + call_total s) (sym place);
  step = λ t among k ts out around fixed. (
    subst (λ j. CallsFixed t ps j k s) (sym place) fixed,
    λ first us h.
        let f = subst (λ j. From t k ts out a (first_piece ps j s) (units ps j s) h.piece h.units) place (from_rest t k ts out ps q.ended q.place a s h.piece h.units goes h.rest) in
        let e : onto a.piece.items h.piece ≡ h.piece = ap (λ xs. onto xs h.piece) none ∙ onto_none h.piece in
        let x : h.piece ≡ first = sym e ∙ ap (λ o. first_where o (code q.first.items) (onto a.piece.items h.piece)) (sym closed) ∙ h.first_is in
        let y : h.units ≡ us = ap (λ xs. units_onto xs h.units) (sym no_units) ∙ ap (λ o. units_onto q.units.items (open_where o (onto a.piece.items h.piece) h.units)) (sym closed) ∙ h.units_is in
        subst (λ z. From t k ts out a (first_piece ps n s) (units ps n s) first z) y (subst (λ z. From t k ts out a (first_piece ps n s) (units ps n s) z h.units) x f),
  );
}

module _ (ps : List ℕ) (a : Walk) (n : ℕ) (s : Stmts) (xs : List Stmt) (i : ℕ) where
  pub walked_ready : (w : Walk) (q : Sequence) (x : Stmt) → i < length xs → x ≡ get_or xs i x → Walked ps a n s w q (stmts (drop i xs)) → Ready q.place (stmt_in_front x no_more)
  walked_ready w q x lt is h = ready_one q.place x (stmts (drop (i + 1) xs)) (subst (Ready q.place) (stmts_step xs i x lt is) h.ready)

  pub walked_next : (w : Walk) (q : Sequence) (w2 : Walk) (q2 : Sequence) (x : Stmt) → i < length xs → x ≡ get_or xs i x → Walked ps a n s w q (stmts (drop i xs))
      → Put ps w q w2 q2 (stmt_in_front x) → Walked ps a n s w2 q2 (stmts (drop (i + 1) xs))
  walked_next w q w2 q2 x lt is h put =
      let rest = stmts (drop (i + 1) xs) in
      let st = stmts_step xs i x lt is in
      let place : q2.place ≡ one_place q.place (stmt_in_front x no_more) = put.place in
      record {
        good = put.good;
        alike = alike_then a w w2 h.alike put.alike;
        ready = ready_rest q.place q2.place x rest place (subst (Ready q.place) st h.ready);
        places = h.places ∙ ap (λ z. q.place + call_total z) st ∙ total_front q.place x rest ∙ ap (λ k. k + call_total rest) (sym place);
        step = λ t among k ts out around fixed.
            let p = h.step t among k ts out around fixed in
            let f : CallsFixed t ps q.place k (stmt_in_front x rest) = subst (λ z. CallsFixed t ps q.place k z) st p.0 in (
              subst (λ j. CallsFixed t ps j k rest) (sym place) (fixed_rest t ps q.place k (stmt_in_front x no_more) rest (subst (λ z. CallsFixed t ps q.place k z) (in_front_is x rest) f)),
              λ first us c.
                  p.1 first us (subst (λ z. Comes t k ts out ps w q z first us) (sym st)
                  (put.step t (among_next t a w h.alike among) k ts out (around_next t a w ts h.alike around) rest f first us c)),
            );
      }

  pub walked_end : (w : Walk) (q : Sequence) (b : Walk) (o : Written) → length xs ≤ i → Walked ps a n s w q (stmts (drop i xs)) → Finished w q b o → IsWritten ps a n s b o
  walked_end w q b o le h fin =
      let e = stmts_end xs i le in
      let z : n + call_total s ≡ q.place + 0 = h.places ∙ ap (λ y. q.place + call_total y) e in
      record {
        good = fin.good;
        alike = alike_then a w b h.alike fin.alike;
        bare = fin.bare;
        place = fin.place ∙ omega (arith, z);
        slim = λ t among k ts out around fixed cov.
            let p = h.step t among k ts out around fixed in
            let c = fin.comes t (among_next t a w h.alike among) k ts out ps cov in
            from_slim t k ts out a (first_piece ps n s) (units ps n s) (first_code o.pieces) (units_in o.pieces)
            (p.1 (first_code o.pieces) (units_in o.pieces) (subst (λ y. Comes t k ts out ps w q y (first_code o.pieces) (units_in o.pieces)) (sym e) c));
      }

-- ---- inside statements

pub nest_ready : (n : ℕ) (y : Nesting) (body : Stmts) (x : Stmts) → x ≡ nests y body no_more → Ready n x → Ready n body
nest_ready n y body x e h =
    let q = subst (StmtsFit h.locals h.labels) e h.fit in
    let r = h.room in let z = ap call_total e in
    record { locals = h.locals; labels = suc h.labels; fit = q.0; room = omega arith }

pub arms_ready : (n : ℕ) (o : Operand) (a b : Stmts) → Ready n (decides o a b no_more) → Ready n a × ((k : ℕ) → k ≡ n + call_total a → Ready k b)
arms_ready n o a b h =
    let q = h.fit in
    let r = h.room in (
      record { locals = h.locals; labels = suc h.labels; fit = q.1; room = omega arith },
      λ k e. record { locals = h.locals; labels = suc h.labels; fit = q.2; room = omega arith },
    )

-- what holds of a statement that was put
pub was_put : (r : Result Bool AllocError) (P : Bool → Type 0) → r ≡ Ok true → IfOk r P → P true
was_put r P e told = subst (λ q. IfOk q P) e told
