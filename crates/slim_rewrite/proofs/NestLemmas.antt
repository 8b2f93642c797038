-- What constructs put.
use Rattle.std.proofs.Common.{◌≡◌, ℕ, ◌+◌, ◌-◌, ◌<◌, ◌≤◌, List, [], ◌∷◌, length, take, Bool, true, false, Result, Ok, Err, OnOk, refl, sym, ap, ◌∙◌, subst, arith}
use Rattle.std.specs.Prelude.{nat_eq, not, ◌&&◌}
use Rattle.std.specs.declared.vec.Vec.{Vec}
use Rattle.std.specs.declared.alloc.Global.{Global}
use Rattle.std.proofs.lemmas.List.{length-take-le}
use Rattle.wa_types.specs.declared.instrs.Instr.{Instr}
use Rattle.wa_types.specs.Syntax.{local_set, plain}
use Rattle.wa_types.specs.declared.values.Value.{Value}
use Rattle.wa_model.specs.declared.flat.Operand.{Operand}
use Rattle.wa_model.specs.declared.flat.Operand.TheVariants.{Local, Const}
use Rattle.flow_rewrite.specs.Putting.{Puts}
use Rattle.guard_form.specs.Bounds.{unit_count}
use Rattle.guard_form.specs.Pieces.{no_unit}
use Rattle.slim_rewrite.specs.declared.stack.Walk.{Walk}
use Rattle.slim_rewrite.specs.Walking.{Alike, Flushed, Good, IsTop}
use Rattle.slim_rewrite.proofs.StackLemmas.{cut_below, good_by}
use Rattle.slim_rewrite.proofs.StepLemmas.{alike_piece, alike_same, alike_then, with_piece}
use Rattle.flow_rewrite.specs.declared.pieces.Unit.{Unit}
use Rattle.flow_rewrite.specs.UnitView.{units_of}
use Rattle.flow_rewrite.proofs.UnitLemmas.{units_empty, units_some}
use Rattle.slim_rewrite.specs.declared.sequence.Written.{Written}
use Rattle.slim_rewrite.specs.Inside.{units_in, AreFree, Conditioned, Same, SetAgain}
use Rattle.slim_rewrite.proofs.PieceLemmas.{counted}

pub on_ok : {X E : Type 0} (r : Result X E) (P Q : Type 0) → (P → Q) → OnOk r P → OnOk r Q
on_ok (Ok x) P Q f h = f h
on_ok (Err e) P Q f h = tt

pub same_piece : (a : Walk) (v : Vec Instr Global) → Good a → Same a (record a { piece = v })
same_piece a v good = record { good = with_piece a v good; alike = alike_piece a a v (alike_same a); stack = refl; set = refl }

empty : (n : ℕ) (b : Bool) → b ≡ nat_eq n 0 → b ≡ true → n ≤ 0
empty n b e t = grind arith

some : (n : ℕ) (b : Bool) → b ≡ nat_eq n 0 → b ≡ false → 0 < n
some n b e t = grind arith

pub none_in : (us : List Unit) (n : ℕ) (b : Bool) → n ≡ length us → b ≡ nat_eq n 0 → b ≡ true → units_of us ≡ no_unit
none_in us n b l e t = units_empty us (let q = empty n b e t in omega arith)

pub some_in : (us : List Unit) (n : ℕ) (b : Bool) → n ≡ length us → b ≡ nat_eq n 0 → b ≡ false → 0 < unit_count (units_of us)
some_in us n b l e t = counted (units_of us) (units_some us (let q = some n b e t in omega arith))

-- the second arm, where the first is free
pub free_told : (v w : Written) (n : ℕ) (b : Bool) → n ≡ length w.pieces.units.items → b ≡ nat_eq n 0 → units_in v.pieces ≡ no_unit → AreFree v w b
free_told v w n true l e none = (none, none_in w.pieces.units.items n true l e refl)
free_told v w n false l e none = let q = some_in w.pieces.units.items n false l e refl in omega arith

pub not_free : (v w : Written) (n : ℕ) (b : Bool) → n ≡ length v.pieces.units.items → b ≡ nat_eq n 0 → b ≡ false → AreFree v w false
not_free v w n b l e t = let q = some_in v.pieces.units.items n b l e t in omega arith

pub free_if : (v w : Written) (b : Bool) → b ≡ true → AreFree v w b → (units_in v.pieces ≡ no_unit) × (units_in w.pieces ≡ no_unit)
free_if v w true e h = h
free_if v w false e h = cc

pub held_if : (v w : Written) (b : Bool) → b ≡ false → AreFree v w b → 0 < unit_count (units_in v.pieces) + unit_count (units_in w.pieces)
held_if v w true e h = cc
held_if v w false e h = h

pub both_told : (a b : Bool) → (a && not b) ≡ true → (a ≡ true) × (b ≡ false)
both_told true true e = cc
both_told true false e = (refl, refl)
both_told false b e = cc

pub set_const : (a : Walk) (o : Operand) (v : Value) (direct : Bool) → o ≡ Const v → SetAgain a a o direct
set_const a (Const w) v true e = record { is = refl; puts = λ c. refl }
set_const a (Const w) v false e = record { is = refl; puts = λ c. refl }
set_const a (Local x) v direct e = cc

pub set_one : (a : Walk) (v : Vec Instr Global) (o : Operand) (x : ℕ) (direct : Bool) → o ≡ Local x → direct ≡ true → Puts a.piece.items v.items (plain (local_set x))
    → SetAgain a (record a { piece = v }) o direct
set_one a v o x direct is e h = subst (λ (z : Operand). SetAgain a (record a { piece = v }) z direct) (sym is) (by direct e)
  where
    by : (b : Bool) → b ≡ true → SetAgain a (record a { piece = v }) (Local x) b
    by true q = record { is = refl; puts = h }
    by false q = cc

module _ (a : Walk) (v : Vec ℕ Global) (x left : ℕ) (good : Good a) (top : IsTop a.stack.items (Local x ∷ [])) (is : left ≡ length a.stack.items - 1) (above : a.floor ≤ left) where
  fits : left + 1 ≡ length a.stack.items
  fits = let f = top.fits in omega arith

  pub conditioned_direct : left ≡ a.set → v.items ≡ take left a.stack.items → Conditioned a (record a { stack = v }) x true
  conditioned_direct set cut =
      let b = record a { stack = v } in
      let le : left ≤ length a.stack.items = omega (arith, fits) in
      let count = ap length cut ∙ length-take-le left a.stack.items le in
      record {
        good = good_by a b left good refl refl cut le (omega arith) (let f = good.floor in omega arith);
        alike = record { alloc = refl; low = refl; places = refl; floor = refl; below = ap (take a.floor) cut ∙ cut_below a.stack.items a.floor left above };
        top = top;
        stack = cut ∙ ap (λ k. take k a.stack.items) is;
        bare = omega arith;
        alone = λ z. (omega (arith, fits), refl);
        flushed = λ z. cc;
      }

  pub conditioned_flushed : (f : Walk) → Flushed a f → v.items ≡ take left f.stack.items → Conditioned a (record f { stack = v; set = left }) x false
  conditioned_flushed f fl cut =
      let b = record f { stack = v; set = left } in
      let n = ap length fl.stack in
      let le : left ≤ length f.stack.items = omega (arith, fits) in
      let count = ap length cut ∙ length-take-le left f.stack.items le in
      let fit : f.floor ≤ left = let e = fl.alike.floor in omega arith in
      let one : Alike f b = record { alloc = refl; low = refl; places = refl; floor = refl; below = ap (take f.floor) cut ∙ cut_below f.stack.items f.floor left fit } in
      record {
        good = good_by f b left fl.good refl refl cut le (omega arith) fit;
        alike = alike_then a f b fl.alike one;
        top = top;
        stack = cut ∙ (λ j. take (is j) (fl.stack j));
        bare = sym count;
        alone = λ z. cc;
        flushed = λ z. fl.puts;
      }
