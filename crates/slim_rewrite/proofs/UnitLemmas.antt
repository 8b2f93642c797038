-- Statements that are units.
use Rattle.std.proofs.Common.{◌≡◌, ℕ, ◌+◌, List, [], length, Some, None, true, false, sym, ap, ◌∙◌, subst}
use Rattle.wa_types.specs.Pausing.{calls_of}
use Rattle.wa_types.specs.Syntax.{Code, done}
use Rattle.wa_types.specs.View.{code, onto}
use Rattle.wa_types.proofs.ViewLemmas.{onto_done, onto_none}
use Rattle.run_theory.specs.Flat.{Stmts}
use Rattle.guard_form.specs.Pieces.{Units, first_piece, units, flat_units, StartsGot}
use Rattle.slim_laws.specs.Slim.{Free, ends, plainly, Slims, Terms}
use Rattle.slim_rewrite.specs.declared.stack.Walk.{Walk}
use Rattle.slim_rewrite.specs.Walking.{free_at, shape_at}
use Rattle.slim_rewrite.specs.declared.sequence.Head.{Head}
use Rattle.slim_rewrite.specs.declared.sequence.Sequence.{Sequence}
use Rattle.slim_rewrite.specs.Coming.{left_by, with_left, Behind, Comes, From}
use Rattle.slim_rewrite.specs.SequenceView.{call_open, first_with, head_in_front, units_with}
use Rattle.slim_rewrite.specs.Steps.{Opened}
use Rattle.slim_rewrite.proofs.ComingLemmas.{from_rest, rest_from}
use Rattle.slim_rewrite.proofs.PieceLemmas.{goes_done}

-- A unit was opened and the walk goes on behind it: what comes there comes to it. Nothing is put in front, where this stands for what
-- the other side gets there.
pub unit_comes_by : (t : Terms) (n : ℕ) (ts : List Free) (out : Free) (ps : List ℕ) (m r b d : Walk) (p q : Sequence) (j k : ℕ) (head : Head) (xs s : Stmts) (make : Code → Units → Units) (last : Free)
    → p.ended ≡ false → r.piece.items ≡ m.piece.items → Opened r (record p { place = j }) b q head → d.piece.items ≡ [] → first_piece ps p.place xs ≡ done
    → units ps p.place xs ≡ make (first_piece ps k s) (units ps k s)
    → ((c : Code) (us : Units) → Slims t (length (calls_of (flat_units (make (first_piece ps k s) (units ps k s)))) + n) ts last (free_at t m) (shape_at m)
    (with_left (left_by (make (first_piece ps k s) (units ps k s)) (head_in_front head c us)) done) done)
    → ((c : Code) (us : Units) → call_open p.open ≡ true → StartsGot (head_in_front head c us))
    → ((c : Code) (us : Units) → (call_open (Some head) ≡ true → StartsGot us) → From t n ts out d (first_piece ps k s) (units ps k s) c us
    → Behind t n ts out last (make (first_piece ps k s) (units ps k s)) (head_in_front head c us))
    → (first : Code) (us : Units) → Comes t n ts out ps d (record q { place = k }) s first us → Comes t n ts out ps m p xs first us
unit_comes_by t n ts out ps m r b d p q j k head xs s make last goes pieces opened none first_is units_are slim starts behind first us h =
    let made = make (first_piece ps k s) (units ps k s) in
    let f = from_rest t n ts out ps q.ended k d s h.piece h.units (opened.ended ∙ goes) h.rest in
    let clear : call_open (Some head) ≡ true → StartsGot h.units = λ e. h.clear (ap call_open opened.is ∙ e) in
    let g : From t n ts out m done made done (head_in_front head h.piece h.units) =
    record { end = last; goes = goes_done made; slim = slim h.piece h.units; behind = behind h.piece h.units clear f } in
    let g1 = subst (λ c. From t n ts out m c made done (head_in_front head h.piece h.units)) (sym first_is) g in
    let g2 = subst (λ z. From t n ts out m (first_piece ps p.place xs) z done (head_in_front head h.piece h.units)) (sym units_are) g1 in
    let e : onto d.piece.items h.piece ≡ h.piece = ap (λ ys. onto ys h.piece) none ∙ onto_none h.piece in
    let there : onto m.piece.items done ≡ code r.piece.items = onto_done m.piece.items ∙ ap code (sym pieces) in
    record {
      piece = done;
      units = head_in_front head h.piece h.units;
      rest = rest_from t n ts out ps p.ended p.place m xs done (head_in_front head h.piece h.units) goes g2;
      clear = starts h.piece h.units;
      first_is = ap (first_with p) there ∙ sym (opened.first (onto d.piece.items h.piece)) ∙ h.first_is;
      units_is = ap (λ z. units_with p z (head_in_front head h.piece h.units)) there ∙ sym (opened.units h.piece h.units)
          ∙ ap (λ z. units_with q z h.units) (sym e) ∙ h.units_is;
    }

-- So it is where all slots are set, and nothing is left for the unit.
pub unit_comes : (t : Terms) (n : ℕ) (ts : List Free) (out : Free) (ps : List ℕ) (m r b d : Walk) (p q : Sequence) (j k : ℕ) (head : Head) (xs s : Stmts) (make : Code → Units → Units)
    → p.ended ≡ false → shape_at m ≡ [] → r.piece.items ≡ m.piece.items → Opened r (record p { place = j }) b q head → d.piece.items ≡ [] → first_piece ps p.place xs ≡ done
    → units ps p.place xs ≡ make (first_piece ps k s) (units ps k s)
    → ((c : Code) (us : Units) → left_by (make (first_piece ps k s) (units ps k s)) (head_in_front head c us) ≡ None)
    → ((c : Code) (us : Units) → StartsGot (head_in_front head c us))
    → ((c : Code) (us : Units) → (call_open (Some head) ≡ true → StartsGot us) → From t n ts out d (first_piece ps k s) (units ps k s) c us
    → Behind t n ts out (free_at t m) (make (first_piece ps k s) (units ps k s)) (head_in_front head c us))
    → (first : Code) (us : Units) → Comes t n ts out ps d (record q { place = k }) s first us → Comes t n ts out ps m p xs first us
unit_comes t n ts out ps m r b d p q j k head xs s make goes bare pieces opened none first_is units_are nothing starts behind first us h =
    let made = make (first_piece ps k s) (units ps k s) in
    let i = length (calls_of (flat_units made)) + n in
    let sl : Slims t i ts (free_at t m) (free_at t m) (shape_at m) done done =
    subst (λ sh. Slims t i ts (free_at t m) (free_at t m) sh done done) (sym bare) (ends (λ y e. e) plainly) in
    unit_comes_by t n ts out ps m r b d p q j k head xs s make (free_at t m) goes pieces opened none first_is units_are
    (λ c vs. subst (λ o. Slims t i ts (free_at t m) (free_at t m) (shape_at m) (with_left o done) done) (sym (nothing c vs)) sl) (λ c vs e. starts c vs) behind first us h
