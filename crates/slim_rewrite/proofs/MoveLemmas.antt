-- Moves in slim code.
use Rattle.std.proofs.Common.{◌≡◌, ℕ, suc, ◌-◌, List, ◌∷◌, [], ◌++◌, length, take, drop, Some, Bool, true, false, refl, sym, ap, ◌∙◌, subst, arith}
use Rattle.std.proofs.Math.Seq.{drop-cons}
use Rattle.std.specs.Prelude.{not, ◌&&◌}
use Rattle.std.proofs.lemmas.List.{drop_all}
use Rattle.std.specs.declared.vec.Vec.{Vec}
use Rattle.std.specs.declared.alloc.Global.{Global}
use Rattle.wa_types.specs.declared.instrs.Instr.{Instr}
use Rattle.wa_types.specs.Syntax.{local_get, local_set, local_tee, Code, plain}
use Rattle.wa_types.specs.declared.instrs.Instr.TheVariants.{LocalTee}
use Rattle.wa_types.specs.View.{in_front, onto}
use Rattle.wa_model.specs.declared.flat.Operand.{Operand}
use Rattle.wa_model.specs.declared.flat.Operand.TheVariants.{Local}
use Rattle.run_theory.specs.Flat.{all_got, got}
use Rattle.flow_rewrite.specs.Putting.{Puts}
use Rattle.slim_laws.specs.Emit.{elem, free_by}
use Rattle.slim_laws.specs.Slim.{copies, gets, Lacks, more, sets, takes_one, takes_none, Terms, Slims}
use Rattle.slim_rewrite.specs.declared.stack.Walk.{Walk}
use Rattle.slim_rewrite.specs.Walking.{slot_in, kept_onto, unstacked, free_at, shape_at, Assigned, Flushed, Good, IsKeptTop, Kept, Stepped, Taken, TakenBy, from_stack, from_slots}
use Rattle.slim_rewrite.proofs.BranchLemmas.{flushed_full}
use Rattle.slim_rewrite.proofs.StepLemmas.{Way, in_place, put_back, alike_piece, alike_same, alike_then, among_next, drop_split, flushed_slim, kept_join, kept_slim, no_slot_at, slots_of, small_of, taken_slim, with_piece}

-- ---- a local is set

pub kept_assigned : (a b : Walk) (x : ℕ) → Good a → Kept a b x → Assigned a b x
kept_assigned a b x good kept = record {
  good = kept.good;
  alike = kept.alike;
  slim = λ c. c;
  puts = λ c. ap (λ ys. onto ys c) kept.piece;
  step = λ t among n ts out c c' sl. kept_slim t (small_of t a among) n ts out a b x c c' good kept (among.slots x ∙ kept.slot) sl;
}

pub set_assigned : (a : Walk) (v : Vec Instr Global) (x : ℕ) → Good a → slot_in a x ≡ false → Puts a.piece.items v.items (plain (local_set x)) → Assigned a (record a { piece = v }) x
set_assigned a v x good own puts = record {
  good = with_piece a v good;
  alike = alike_piece a a v (alike_same a);
  slim = plain (local_set x);
  puts = puts;
  step = λ t among n ts out c c' sl. sets x (free_at t a) (λ z q ne. q) (takes_one takes_none) (no_slot_at t a good among.slots x (among.slots x ∙ own)).1 sl;
}

-- ---- moves

pub local_stepped : (a b : Walk) (v : Vec Instr Global) (to x : ℕ) → Good a → slot_in a x ≡ false → Puts a.piece.items v.items (plain (local_get x)) → Assigned (record a { piece = v }) b to
    → Stepped a b false (λ c. plain (local_get x) (plain (local_set to) c))
local_stepped a b v to x good own puts given = record {
  good = given.good;
  alike = alike_then a (record a { piece = v }) b (alike_piece a a v (alike_same a)) given.alike;
  slim = λ c'. plain (local_get x) (given.slim c');
  puts = λ c'. given.puts c' ∙ puts (given.slim c');
  step = λ t among n ts out c c' reach told sl.
      gets x (no_slot_at t a good among.slots x (among.slots x ∙ own)).0
      (given.step t (among_next t a (record a { piece = v }) (alike_piece a a v (alike_same a)) among) n ts out c c' sl);
}

pub held_by : (t : Terms) (x : ℕ) (xs : List ℕ) → elem x xs ≡ true → free_by t.slot xs x ≡ false
held_by t x xs e = by (t.slot x) (elem x xs) e
  where
    by : (s e : Bool) → e ≡ true → (s && not e) ≡ false
    by true true q = refl
    by false true q = refl
    by s false q = cc

pub again_stepped : (a m b : Walk) (v : Vec Instr Global) (to x : ℕ) → Good a → elem x a.stack.items ≡ true → Flushed a m → Puts m.piece.items v.items (plain (local_get x))
    → Assigned (record m { piece = v }) b to → Stepped a b false (λ c. plain (local_get x) (plain (local_set to) c))
again_stepped a m b v to x good on fl puts given =
    let k = alike_piece a m v fl.alike in
    record {
      good = given.good;
      alike = alike_then a (record m { piece = v }) b k given.alike;
      slim = λ c'. unstacked (drop a.set a.stack.items) (plain (local_get x) (given.slim c'));
      puts = λ c'. given.puts c' ∙ puts (given.slim c') ∙ fl.puts (plain (local_get x) (given.slim c'));
      step = λ t among n ts out c c' reach told sl.
          let s2 = given.step t (among_next t a (record m { piece = v }) k among) n ts out c c' sl in
          let bare : shape_at m ≡ [] = ap (λ ys. kept_onto ys []) (drop_all m.set m.stack.items (let q = fl.set in omega arith)) in
          let s3 : Slims t n ts out (free_by t.slot a.stack.items) (more 1 []) (plain (local_set to) c) (given.slim c') =
          subst (λ f. Slims t n ts out f (more 1 []) (plain (local_set to) c) (given.slim c')) (flushed_full t a m fl)
          (subst (λ sh. Slims t n ts out (free_at t m) (more 1 sh) (plain (local_set to) c) (given.slim c')) bare s2) in
          flushed_slim t (small_of t a among) n ts out a (plain (local_get x) (plain (local_set to) c)) (plain (local_get x) (given.slim c')) (slots_of t a good among.slots)
          (gets x (held_by t x a.stack.items on) s3);
    }

pub tee_is : (x : ℕ) (rest : Code) → in_front (LocalTee x) rest ≡ plain (local_tee x) rest
unfolding in_front
tee_is x rest = refl

-- the topmost operand apart
kept_top : (w : Walk) (x : ℕ) → IsKeptTop w x → shape_at w ≡ Some x ∷ kept_onto (drop w.set (take (length w.stack.items - 1) w.stack.items)) []
kept_top w x top =
    let xs = w.stack.items in
    let lt = top.0 in
    let m = length xs - 1 in
    let one : drop m xs ≡ x ∷ [] =
    drop-cons xs m 0 (omega arith) ∙ ap (λ y. y ∷ drop (suc m) xs) top.1 ∙ ap (λ ys. x ∷ ys) (drop_all (suc m) xs (omega arith)) in
    ap (λ ys. kept_onto ys []) (drop_split w.set m xs (omega arith) (omega arith) ∙ ap (λ ys. drop w.set (take m xs) ++ ys) one) ∙ kept_join (drop w.set (take m xs)) (x ∷ []) []

pub tee_stepped : (a : Walk) (v : Vec Instr Global) (to x : ℕ) → Good a → slot_in a x ≡ true → slot_in a to ≡ false → IsKeptTop a x → Puts a.piece.items v.items (plain (local_tee to))
    → Stepped a (record a { piece = v }) false (λ c. plain (local_get x) (plain (local_set to) c))
tee_stepped a v to x good is own top puts =
    let e = kept_top a x top in
    record {
      good = with_piece a v good;
      alike = alike_piece a a v (alike_same a);
      slim = plain (local_tee to);
      puts = puts;
      step = λ t among n ts out c c' reach told sl.
          subst (λ sh. Slims t n ts out (free_at t a) sh (plain (local_get x) (plain (local_set to) c)) (plain (local_tee to) c')) (sym e)
          (copies x to (free_at t a) (among.slots x ∙ is) (λ z q ne. q) (subst (Lacks to) e (no_slot_at t a good among.slots to (among.slots to ∙ own)).1)
          (subst (λ sh. Slims t n ts out (free_at t a) sh c c') e sl));
    }

module _ (a m b : Walk) (o : Operand) (to : ℕ) (good : Good a) (taken : Taken a m (o ∷ []) false) (given : Assigned m b to) where
  with_way : (put : Code → Code) → Way a m (o ∷ []) put → Puts a.piece.items m.piece.items put → Stepped a b false (λ c. got o (plain (local_set to) c))
  with_way put way puts = record {
    good = given.good;
    alike = alike_then a m b taken.alike given.alike;
    slim = λ c'. put (given.slim c');
    puts = λ c'. given.puts c' ∙ puts (given.slim c');
    step = λ t among n ts out c c' reach told sl.
        taken_slim t (small_of t a among) n ts out a m (o ∷ []) false put (plain (local_set to) c) (given.slim c') good taken (slots_of t a good among.slots) way
        (given.step t (among_next t a m taken.alike among) n ts out c c' sl);
  }

  pub top_stepped : Stepped a b false (λ c. got o (plain (local_set to) c))
  top_stepped = by taken.way
    where
      by : TakenBy a m (o ∷ []) → Stepped a b false (λ c. got o (plain (local_set to) c))
      by (from_stack above same piece) = with_way (λ c. c) (in_place above same (λ c. refl)) (λ c. ap (λ ys. onto ys c) piece)
      by (from_slots full puts) = with_way (λ c. unstacked (drop a.set a.stack.items) (all_got (o ∷ []) c)) (put_back full (λ c. refl)) puts

pub stepped_from : (a b : Walk) (o : Operand) (x to : ℕ) → o ≡ Local x → Stepped a b false (λ c. plain (local_get x) (plain (local_set to) c))
    → Stepped a b false (λ c. got o (plain (local_set to) c))
stepped_from a b o x to e st = subst (λ z. Stepped a b false (λ c. got z (plain (local_set to) c))) (sym e) st
