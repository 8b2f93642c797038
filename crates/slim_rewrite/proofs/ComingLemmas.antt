-- Single statements in slim pieces.
use Rattle.std.proofs.Common.{◌≡◌, ℕ, ◌+◌, List, [], length, drop, Bool, true, false, sym, ap, ◌∙◌, subst}
use Rattle.wa_types.specs.Pausing.{calls_of}
use Rattle.wa_types.specs.Syntax.{Code, done}
use Rattle.wa_types.specs.View.{onto}
use Rattle.run_theory.specs.Flat.{Stmts, no_more}
use Rattle.guard_form.specs.Pieces.{Units, no_unit, first_piece, units, flat_units}
use Rattle.flow_rewrite.specs.Putting.{Puts}
use Rattle.flow_rewrite.specs.Statements.{with_rest, one_code, one_holds, one_place}
use Rattle.flow_rewrite.proofs.StmtLemmas.{first_with as first_of, units_with as units_of_one}
use Rattle.slim_laws.specs.Parts.{goes_on}
use Rattle.slim_laws.specs.Slim.{Free, Slims, Terms}
use Rattle.slim_laws.specs.SlimUnits.{SlimUnits, alone}
use Rattle.slim_rewrite.specs.declared.stack.Walk.{Walk}
use Rattle.slim_rewrite.specs.Walking.{free_at, shape_at, unstacked, Alike, Among, Ended, Flushed, Good, Stepped}
use Rattle.slim_rewrite.proofs.BranchLemmas.{bare_shape, flushed_full}
use Rattle.slim_rewrite.proofs.StepLemmas.{flushed_slim, slots_of, small_of}
use Rattle.slim_rewrite.specs.declared.sequence.Sequence.{Sequence}
use Rattle.slim_rewrite.specs.Coming.{left_by, with_left, Around, CallsFixed, Comes, From, Rest}
use Rattle.slim_rewrite.specs.SequenceView.{first_with, units_with}
use Rattle.slim_rewrite.specs.Steps.{Put}
use Rattle.slim_rewrite.proofs.PieceLemmas.{goes_by, left_calls, left_one, none_left, place_with}

-- ---- what is left

pub from_rest : (t : Terms) (n : ℕ) (ts : List Free) (out : Free) (ps : List ℕ) (e : Bool) (k : ℕ) (w : Walk) (s : Stmts) (c : Code) (us : Units) → e ≡ false → Rest t n ts out ps e k w s c us
    → From t n ts out w (first_piece ps k s) (units ps k s) c us
from_rest t n ts out ps true k w s c us e h = cc
from_rest t n ts out ps false k w s c us e h = h

pub rest_from : (t : Terms) (n : ℕ) (ts : List Free) (out : Free) (ps : List ℕ) (e : Bool) (k : ℕ) (w : Walk) (s : Stmts) (c : Code) (us : Units) → e ≡ false
    → From t n ts out w (first_piece ps k s) (units ps k s) c us → Rest t n ts out ps e k w s c us
rest_from t n ts out ps true k w s c us e h = cc
rest_from t n ts out ps false k w s c us e h = h

pub from_slim : (t : Terms) (n : ℕ) (ts : List Free) (out : Free) (w : Walk) (c : Code) (us : Units) (c' : Code) (us' : Units) → From t n ts out w c us c' us'
    → SlimUnits t n ts out (free_at t w) (shape_at w) c us c' us'
from_slim t n ts out w c us c' us' h = h.behind (free_at t w) (shape_at w) c c' h.goes h.slim

-- ---- statements of a piece

module _ (ps : List ℕ) (a b : Walk) (p : Sequence) (u : Stmts) (k : ℕ) (goes : p.ended ≡ false) (is : k ≡ one_place p.place u) (free : one_holds ps p.place u ≡ false)
    (steady : (c : Code) → goes_on (one_code u c) ≡ goes_on c) where
  abbrev fp : Stmts → Code
  fp s = first_piece ps (one_place p.place u) s

  abbrev us0 : Stmts → Units
  us0 s = units ps (one_place p.place u) s

  pub piece_put : (slim : Code → Code) → Good b → Alike a b → Puts a.piece.items b.piece.items slim
      → ((t : Terms) → Among t a → (n : ℕ) (ts : List Free) (out : Free) → Around t a ts → (s : Stmts) → CallsFixed t ps p.place n (with_rest u s) → (g : Free) (c c' : Code)
      → length (calls_of c) ≡ length (calls_of (fp s)) → Slims t (length (calls_of (flat_units (us0 s))) + n) ts g (free_at t b) (shape_at b) c c'
      → Slims t (length (calls_of (flat_units (us0 s))) + n) ts g (free_at t a) (shape_at a) (one_code u c) (slim c')) → Put ps a p b (record p { place = k }) (with_rest u)
  piece_put slim good alike puts step = record {
    good = good;
    alike = alike;
    place = is ∙ sym (place_with p.place u);
    step = λ t among n ts out around s fixed first us h.
        let f0 = from_rest t n ts out ps p.ended k b s h.piece h.units goes h.rest in
        let f : From t n ts out b (fp s) (us0 s) h.piece h.units = subst (λ j. From t n ts out b (first_piece ps j s) (units ps j s) h.piece h.units) is f0 in
        let o = left_by (us0 s) h.units in
        let g : From t n ts out a (one_code u (fp s)) (us0 s) (slim h.piece) h.units = record {
          end = f.end;
          goes = goes_by (us0 s) (fp s) (one_code u (fp s)) (steady (fp s)) f.goes;
          slim = subst (λ z. Slims t (length (calls_of (flat_units (us0 s))) + n) ts f.end (free_at t a) (shape_at a) z (slim h.piece)) (sym (left_one o u (fp s)))
              (step t among n ts out around s fixed f.end (with_left o (fp s)) h.piece (left_calls o (fp s)) f.slim);
          behind = f.behind;
        } in
        let g1 = subst (λ c. From t n ts out a c (us0 s) (slim h.piece) h.units) (sym (first_of ps p.place u s free)) g in
        let g2 = subst (λ z. From t n ts out a (first_piece ps p.place (with_rest u s)) z (slim h.piece) h.units) (sym (units_of_one ps p.place u s free)) g1 in
        record {
          piece = slim h.piece;
          units = h.units;
          rest = rest_from t n ts out ps p.ended p.place a (with_rest u s) (slim h.piece) h.units goes g2;
          clear = h.clear;
          first_is = ap (first_with p) (sym (puts h.piece)) ∙ h.first_is;
          units_is = ap (λ z. units_with p z h.units) (sym (puts h.piece)) ∙ h.units_is;
        };
  }

  pub stepped_put : Stepped a b false (one_code u) → Put ps a p b (record p { place = k }) (with_rest u)
  stepped_put st = piece_put st.slim st.good st.alike st.puts (λ t among n ts out around s fixed g c c' same sl. st.step t among _ ts g c c' around tt sl)

-- ---- jumps

pub ended_put : (ps : List ℕ) (a b : Walk) (p : Sequence) (u : Stmts) → p.ended ≡ false → p.place ≡ one_place p.place u → one_holds ps p.place u ≡ false → Ended a b (one_code u done)
    → Put ps a p b (record p { ended = true }) (with_rest u)
ended_put ps a b p u goes is free e = record {
  good = e.good;
  alike = e.alike;
  place = is ∙ sym (place_with p.place u);
  step = λ t among n ts out around s fixed first us h.
      let g : From t n ts out a (one_code u done) no_unit e.slim no_unit = record {
        end = out;
        goes = tt;
        slim = e.step t among (length (calls_of (flat_units no_unit)) + n) ts out around;
        behind = λ f sh c c' go sl. alone (subst (λ k. Slims t k ts out f sh c c') (none_left n) sl);
      } in
      let g1 = subst (λ c. From t n ts out a c no_unit e.slim no_unit) (sym (first_of ps p.place u no_more free)) g in
      let g2 = subst (λ z. From t n ts out a (first_piece ps p.place (with_rest u no_more)) z e.slim no_unit) (sym (units_of_one ps p.place u no_more free)) g1 in
      record {
        piece = e.slim;
        units = no_unit;
        rest = subst (λ z. Rest t n ts out ps p.ended p.place a (with_rest u z) e.slim no_unit) (sym h.rest.0)
            (rest_from t n ts out ps p.ended p.place a (with_rest u no_more) e.slim no_unit goes g2);
        clear = λ z. tt;
        first_is = ap (first_with p) (sym e.puts ∙ ap (onto b.piece.items) (sym h.rest.1)) ∙ h.first_is;
        units_is = (λ j. units_with p ((sym e.puts ∙ ap (onto b.piece.items) (sym h.rest.1)) j) (sym h.rest.2 j)) ∙ h.units_is;
      };
}

-- ---- slots set

pub flush_from : (t : Terms) (n : ℕ) (ts : List Free) (out : Free) (a m : Walk) (c : Code) (us : Units) (c' : Code) (us' : Units) → Among t a → Good a → Flushed a m
    → From t n ts out m c us c' us' → From t n ts out a c us (unstacked (drop a.set a.stack.items) c') us'
flush_from t n ts out a m c us c' us' among good fl h = record {
  end = h.end;
  goes = h.goes;
  slim =
      let k = length (calls_of (flat_units us)) + n in
      let d = with_left (left_by us us') c in
      let s1 : Slims t k ts h.end (free_at t m) [] d c' = subst (λ sh. Slims t k ts h.end (free_at t m) sh d c') (bare_shape m fl.set) h.slim in
      flushed_slim t (small_of t a among) k ts h.end a d c' (slots_of t a good among.slots) (subst (λ f. Slims t k ts h.end f [] d c') (flushed_full t a m fl) s1);
  behind = h.behind;
}

pub flush_comes : (t : Terms) (n : ℕ) (ts : List Free) (out : Free) (ps : List ℕ) (a m : Walk) (p : Sequence) (s : Stmts) (first : Code) (us : Units) → p.ended ≡ false → Among t a → Good a
    → Flushed a m → Comes t n ts out ps m p s first us → Comes t n ts out ps a p s first us
flush_comes t n ts out ps a m p s first us goes among good fl h =
    let f = from_rest t n ts out ps p.ended p.place m s h.piece h.units goes h.rest in
    let put = unstacked (drop a.set a.stack.items) in
    record {
      piece = put h.piece;
      units = h.units;
      rest = rest_from t n ts out ps p.ended p.place a s (put h.piece) h.units goes
          (flush_from t n ts out a m (first_piece ps p.place s) (units ps p.place s) h.piece h.units among good fl f);
      clear = h.clear;
      first_is = ap (first_with p) (sym (fl.puts h.piece)) ∙ h.first_is;
      units_is = ap (λ z. units_with p z h.units) (sym (fl.puts h.piece)) ∙ h.units_is;
    }
