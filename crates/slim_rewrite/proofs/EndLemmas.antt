-- Sequences at their ends.
use Rattle.std.proofs.Common.{◌≡◌, ℕ, ◌+◌, List, length, take, Bool, true, false, refl, sym, ap, ◌∙◌, subst, arith}
use Rattle.std.proofs.lemmas.List.{drop_all}
use Rattle.wa_types.specs.Pausing.{calls_of}
use Rattle.wa_types.specs.Syntax.{done}
use Rattle.wa_types.specs.View.{code, onto}
use Rattle.wa_types.proofs.ViewLemmas.{onto_done}
use Rattle.run_theory.specs.Flat.{no_more}
use Rattle.guard_form.specs.Pieces.{no_unit, flat_units}
use Rattle.slim_laws.specs.Emit.{free_by}
use Rattle.slim_laws.specs.Slim.{Free, Covers, ends, plainly, Slims, Terms}
use Rattle.slim_laws.specs.SlimUnits.{alone}
use Rattle.slim_rewrite.specs.declared.stack.Walk.{Walk}
use Rattle.slim_rewrite.specs.Walking.{free_at, unstacked, Flushed, Good}
use Rattle.slim_rewrite.proofs.BranchLemmas.{bare_shape}
use Rattle.slim_rewrite.proofs.StepLemmas.{alike_then}
use Rattle.slim_rewrite.specs.declared.sequence.Sequence.{Sequence}
use Rattle.slim_rewrite.specs.declared.sequence.Written.{Written}
use Rattle.slim_rewrite.specs.Coming.{From, Rest}
use Rattle.slim_rewrite.specs.Inside.{first_code, units_in, Completed, Finished}
use Rattle.slim_rewrite.specs.SequenceView.{first_with, units_with}
use Rattle.slim_rewrite.proofs.ComingLemmas.{flush_comes, rest_from}
use Rattle.slim_rewrite.proofs.PieceLemmas.{none_left}

rest_ended : (t : Terms) (n : ℕ) (ts : List Free) (out : Free) (ps : List ℕ) (e : Bool) (k : ℕ) (w : Walk) → e ≡ true → Rest t n ts out ps e k w no_more done no_unit
rest_ended t n ts out ps true k w e = (refl, refl, refl)
rest_ended t n ts out ps false k w e = cc

not_both : {P : Type 0} (b : Bool) → b ≡ true → b ≡ false → P
not_both true e f = cc
not_both false e f = cc

pub finished_ended : (a b : Walk) (p : Sequence) (w : Written) → p.ended ≡ true → Completed a p b w → Finished a p b w
finished_ended a b p w is c = record {
  good = c.same.good;
  alike = c.same.alike;
  place = c.place;
  bare = λ e. not_both w.ended (c.ended ∙ is) e;
  comes = λ t among n ts out ps h. record {
    piece = done;
    units = no_unit;
    rest = rest_ended t n ts out ps p.ended p.place a is;
    clear = λ z. tt;
    first_is = ap (first_with p) (onto_done a.piece.items) ∙ sym c.first;
    units_is = ap (λ z. units_with p z no_unit) (onto_done a.piece.items) ∙ sym c.units;
  };
  plain = λ e. c;
}

-- where all slots are set nothing is put
flushed_same : (a m : Walk) → a.set ≡ length a.stack.items → Flushed a m → code m.piece.items ≡ code a.piece.items
flushed_same a m e fl =
    sym (onto_done m.piece.items) ∙ fl.puts done ∙ ap (λ xs. onto a.piece.items (unstacked xs done)) (drop_all a.set a.stack.items (omega (arith, e))) ∙ onto_done a.piece.items

pub finished_flushed : (a m b : Walk) (p : Sequence) (w : Written) → Good a → p.ended ≡ false → Flushed a m → Completed m p b w → Finished a p b w
finished_flushed a m b p w good goes fl c = record {
  good = c.same.good;
  alike = alike_then a m b fl.alike c.same.alike;
  place = c.place;
  bare = λ e. c.same.set ∙ fl.set ∙ ap length (sym c.same.stack);
  comes = λ t among n ts out ps h.
      let co : Covers (free_at t m) out = subst (λ xs. Covers (free_by t.slot xs) out) (λ j. take (c.same.set j) (c.same.stack j)) (h (c.ended ∙ goes)) in
      let f : From t n ts out m done no_unit done no_unit = record {
        end = out;
        goes = tt;
        slim = subst (λ sh. Slims t (length (calls_of (flat_units no_unit)) + n) ts out (free_at t m) sh done done) (sym (bare_shape m fl.set)) (ends co plainly);
        behind = λ f sh d d' go sl. alone (subst (λ k. Slims t k ts out f sh d d') (none_left n) sl);
      } in
      flush_comes t n ts out ps a m p no_more (first_code w.pieces) (units_in w.pieces) goes among good fl (record {
        piece = done;
        units = no_unit;
        rest = rest_from t n ts out ps p.ended p.place m no_more done no_unit goes f;
        clear = λ z. tt;
        first_is = ap (first_with p) (onto_done m.piece.items) ∙ sym c.first;
        units_is = ap (λ z. units_with p z no_unit) (onto_done m.piece.items) ∙ sym c.units;
      });
  plain = λ e. record {
    same = record {
      good = c.same.good;
      alike = alike_then a m b fl.alike c.same.alike;
      stack = c.same.stack ∙ fl.stack;
      set = c.same.set ∙ fl.set ∙ ap length fl.stack ∙ sym e;
    };
    place = c.place;
    ended = c.ended;
    first = c.first ∙ ap (first_with p) (flushed_same a m e fl);
    units = c.units ∙ ap (λ z. units_with p z no_unit) (flushed_same a m e fl);
  };
}
