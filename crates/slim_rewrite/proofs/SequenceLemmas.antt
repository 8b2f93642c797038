-- Sequences so far.
use Rattle.std.proofs.Common.{◌≡◌, List, [], ◌∷◌, ◌++◌, Option, Some, None, refl, sym, ap, ◌∙◌}
use Rattle.std.specs.declared.vec.Vec.{Vec}
use Rattle.std.specs.declared.alloc.Global.{Global}
use Rattle.wa_types.specs.declared.instrs.Instr.{Instr}
use Rattle.wa_types.specs.Syntax.{Code}
use Rattle.wa_types.specs.View.{code}
use Rattle.guard_form.specs.Pieces.{Units, no_unit}
use Rattle.slim_rewrite.specs.declared.stack.Walk.{Walk}
use Rattle.slim_rewrite.specs.Walking.{Good}
use Rattle.slim_rewrite.proofs.StepLemmas.{alike_piece, alike_same, with_piece}
use Rattle.flow_rewrite.specs.declared.pieces.Unit.{Unit}
use Rattle.flow_rewrite.specs.UnitView.{unit_in_front, units_of}
use Rattle.slim_rewrite.specs.declared.sequence.Head.{Head}
use Rattle.slim_rewrite.specs.declared.sequence.Sequence.{Sequence}
use Rattle.slim_rewrite.specs.SequenceView.{first_where, head_in_front, open_where, units_onto}
use Rattle.slim_rewrite.specs.Steps.{Opened}

units_are : (xs : List Unit) → units_of xs ≡ units_onto xs no_unit
unfolding units_of
units_are [] = refl
units_are (x ∷ xs) = ap (unit_in_front x) (units_are xs)

one_more : (xs : List Unit) (x : Unit) (rest : Units) → units_onto (xs ++ x ∷ []) rest ≡ units_onto xs (unit_in_front x rest)
one_more [] x rest = refl
one_more (y ∷ xs) x rest = ap (unit_in_front y) (one_more xs x rest)

pub joined_none : (xs : List Unit) (o : Option Head) (c : Code) → o ≡ None → units_of xs ≡ units_onto xs (open_where o c no_unit)
joined_none xs o c e = units_are xs ∙ ap (λ z. units_onto xs (open_where z c no_unit)) (sym e)

pub joined_some : (xs ys : List Unit) (o : Option Head) (h : Head) (u : Unit) (c : Code) → o ≡ Some h → ((rest : Units) → unit_in_front u rest ≡ head_in_front h c rest) → ys ≡ xs ++ u ∷ []
    → units_of ys ≡ units_onto xs (open_where o c no_unit)
joined_some xs ys o h u c e is f =
    ap units_of f ∙ units_are (xs ++ u ∷ []) ∙ one_more xs u no_unit ∙ ap (units_onto xs) (is no_unit) ∙ ap (λ z. units_onto xs (open_where z c no_unit)) (sym e)

pub opened_some : (a : Walk) (v : Vec Instr Global) (p : Sequence) (us : Vec Unit Global) (o : Option Head) (head old : Head) (u : Unit) (piece : Vec Instr Global) → Good a → v.items ≡ []
    → o ≡ Some head → p.open ≡ Some old → piece ≡ a.piece → ((rest : Units) → unit_in_front u rest ≡ head_in_front old (code piece.items) rest) → us.items ≡ p.units.items ++ u ∷ []
    → Opened a p (record a { piece = v }) (record p { units = us; «open» = o }) head
opened_some a v p us o head old u piece good none e f g is more = record {
  good = with_piece a v good;
  alike = alike_piece a a v (alike_same a);
  stack = refl;
  set = refl;
  piece = none;
  place = refl;
  ended = refl;
  is = e;
  first = λ c. ap (λ z. first_where z (code p.first.items) c) e ∙ sym (ap (λ z. first_where z (code p.first.items) (code a.piece.items)) f);
  units = λ c rest.
      ap (λ z. units_onto us.items (open_where z c rest)) e ∙ ap (λ xs. units_onto xs (head_in_front head c rest)) more ∙ one_more p.units.items u (head_in_front head c rest)
      ∙ ap (units_onto p.units.items) (is (head_in_front head c rest) ∙ ap (λ (w : Vec Instr Global). head_in_front old (code w.items) (head_in_front head c rest)) g)
      ∙ ap (λ z. units_onto p.units.items (open_where z (code a.piece.items) (head_in_front head c rest))) (sym f);
}
