-- Statements in pieces and units: no branch leads out of the block around them.
use Rattle.std.proofs.Common.{◌≡◌, ℕ, suc, ◌+◌, ◌<◌, List, [], ◌∷◌, Option, Some, None, Bool, true, false, All}
use Rattle.std.specs.Prelude.{if◌then◌else◌, ◌||◌}
use Rattle.std.proofs.lemmas.List.Elements.{All-head, All-tail}
use Rattle.wa_types.specs.Pausing.{Callee}
use Rattle.wa_types.specs.Syntax.{basic, local_get, local_set, local_tee, call, call_indirect, Code, done, plain, nest, branch}
use Rattle.wa_model.specs.declared.flat.Operand.{Operand}
use Rattle.run_theory.specs.Flat.{Stmts, no_more, computes, copies, calls, leaps, leaps_if, leaps_by, nests, decides, halts, followed_by, got, all_got, set_to, slots_got, last_of, code_of}
use Rattle.run_theory.specs.FlatFits.{ComputesFit, IsCallCode, StmtsFit}
use Rattle.guard_form.specs.Functions.{Calls, CallsIn, LabelsIn, PiecesCall, PiecesIn, Room, deeper}
use Rattle.guard_form.specs.Grouping.{PiecesStay}
use Rattle.guard_form.specs.Pieces.{Units, no_unit, call_unit, nest_unit, if_unit, call_total, first_piece, holds_call, numbered, piece_call, unit_call, units}
use Rattle.guard_form.proofs.Grouped.{free_law}
use Rattle.guard_form.proofs.Insides.{in_any, ins_then}

-- whatever is called
abbrev pub Any : Callee → Type 0
Any c = Unit {0}

-- ---- statements

-- each label that statements name is one of so many
abbrev pub LeapsIn : (labels : ℕ) → Stmts → Type 0
LeapsIn k no_more = Unit {0}
LeapsIn k (computes op args to rest) = CallsIn Any (Some k) op × LeapsIn k rest
LeapsIn k (copies to from rest) = LeapsIn k rest
LeapsIn k (calls op stack args to rest) = CallsIn Any (Some k) op × LeapsIn k rest
LeapsIn k (leaps l rest) = (l < k) × LeapsIn k rest
LeapsIn k (leaps_if c l rest) = (l < k) × LeapsIn k rest
LeapsIn k (leaps_by index labels last rest) = (LabelsIn (Some k) labels × (last < k)) × LeapsIn k rest
LeapsIn k (nests s body rest) = LeapsIn (suc k) body × LeapsIn k rest
LeapsIn k (decides c a b rest) = LeapsIn (suc k) a × LeapsIn (suc k) b × LeapsIn k rest
LeapsIn k (halts rest) = LeapsIn k rest

-- ---- their pieces

abbrev In : (labels : ℕ) → Code → Type 0
In k c = CallsIn Any (Some k) c

in_all : (k : ℕ) (args : List Operand) (c : Code) → In k c → In k (all_got args c)
in_all k [] c h = h
in_all k (a ∷ args) c h = in_any Any (Some k) (Some a) (all_got args c) (in_all k args c h)

in_slots : (k : ℕ) (xs : List ℕ) (c : Code) → In k c → In k (slots_got xs c)
in_slots k [] c h = h
in_slots k (x ∷ xs) c h = ((tt, tt), in_slots k xs c h)

in_set : (k : ℕ) (to : Option ℕ) (c : Code) → In k c → In k (set_to to c)
in_set k None c h = h
in_set k (Some x) c h = ((tt, tt), h)

in_op : (k : ℕ) (op : Code) (to : Option ℕ) (c : Code) → In k op → In k c → In k (followed_by op (set_to to c))
in_op k op to c h g = ins_then Any (Some k) op (set_to to c) h (in_set k to c g)

code_inside : (k : ℕ) (s : Stmts) → LeapsIn k s → In k (code_of s)
unfolding code_of
code_inside k no_more h = tt
code_inside k (computes op args to rest) h = in_all k args _ (in_op k op to (code_of rest) h.0 (code_inside k rest h.1))
code_inside k (copies to from rest) h = in_any Any (Some k) (Some from) _ ((tt, tt), code_inside k rest h)
code_inside k (calls op stack args to rest) h = in_slots k (last_of args stack) _ (in_op k op to (code_of rest) h.0 (code_inside k rest h.1))
code_inside k (leaps l rest) h = ((tt, h.0), code_inside k rest h.1)
code_inside k (leaps_if c l rest) h = in_any Any (Some k) (Some c) _ ((tt, h.0), code_inside k rest h.1)
code_inside k (leaps_by index labels last rest) h = in_any Any (Some k) (Some index) _ ((tt, h.0), code_inside k rest h.1)
code_inside k (nests s body rest) h = (code_inside (suc k) body h.0, code_inside k rest h.1)
code_inside k (decides c a b rest) h = in_any Any (Some k) (Some c) _ (code_inside (suc k) a h.0, code_inside (suc k) b h.1, code_inside k rest h.2)
code_inside k (halts rest) h = ((tt, tt), code_inside k rest h)

module _ (ps : List ℕ) where
  abbrev Inside : (labels place : ℕ) → Stmts → Type 0
  Inside k n s = In k (first_piece ps n s) × PiecesIn Any (Some k) (units ps n s)

  pub pieces_inside : (k n : ℕ) (s : Stmts) → LeapsIn k s → Inside k n s
  pieces_inside k n no_more h = (tt, tt)
  pieces_inside k n (computes op args to rest) h = let r = pieces_inside k n rest h.1 in (in_all k args _ (in_op k op to (first_piece ps n rest) h.0 r.0), r.1)
  pieces_inside k n (copies to from rest) h = let r = pieces_inside k n rest h in (in_any Any (Some k) (Some from) _ ((tt, tt), r.0), r.1)
  pieces_inside k n (calls op stack args to rest) h = by (numbered ps n op) (pieces_inside k (suc n) rest h.1)
    where
      by : (o : Option Callee) → Inside k (suc n) rest
          → In k (piece_call o (slots_got (last_of args stack) (followed_by op (set_to to (first_piece ps (suc n) rest))))) × PiecesIn Any (Some k)
          (unit_call o (last_of args stack) to (first_piece ps (suc n) rest) (units ps (suc n) rest))
      by None r = (in_slots k (last_of args stack) _ (in_op k op to (first_piece ps (suc n) rest) h.0 r.0), r.1)
      by (Some x) r = (tt, r)
  pieces_inside k n (leaps l rest) h = let r = pieces_inside k n rest h.1 in (((tt, h.0), r.0), r.1)
  pieces_inside k n (leaps_if c l rest) h = let r = pieces_inside k n rest h.1 in (in_any Any (Some k) (Some c) _ ((tt, h.0), r.0), r.1)
  pieces_inside k n (leaps_by index labels last rest) h = let r = pieces_inside k n rest h.1 in (in_any Any (Some k) (Some index) _ ((tt, h.0), r.0), r.1)
  pieces_inside k n (nests s body rest) h = by (holds_call ps n body) (pieces_inside (suc k) n body h.0) (pieces_inside k (n + call_total body) rest h.1)
    where
      by : (b : Bool) → Inside (suc k) n body → Inside k (n + call_total body) rest
          → In k (if b then done else nest s None (code_of body) (first_piece ps (n + call_total body) rest))
          × PiecesIn Any (Some k) (if b then nest_unit s (first_piece ps n body) (units ps n body) (first_piece ps (n + call_total body) rest) (units ps (n + call_total body) rest) else units ps
          (n + call_total body) rest)
      by true ib r = (tt, (ib.0, ib.1, r.0, r.1))
      by false ib r = ((code_inside (suc k) body h.0, r.0), r.1)
  pieces_inside k n (decides c a b rest) h = by (holds_call ps n a || holds_call ps (n + call_total a) b) (pieces_inside (suc k) n a h.0) (pieces_inside (suc k) (n + call_total a) b h.1)
      (pieces_inside k (n + call_total a + call_total b) rest h.2)
    where
      by : (t : Bool) → Inside (suc k) n a → Inside (suc k) (n + call_total a) b → Inside k (n + call_total a + call_total b) rest
          → In k (if t then done else got c (branch None (code_of a) (code_of b) (first_piece ps (n + call_total a + call_total b) rest)))
          × PiecesIn Any (Some k) (if t then if_unit (Some c) (first_piece ps n a) (units ps n a) (first_piece ps (n + call_total a) b) (units ps (n + call_total a) b)
          (first_piece ps (n + call_total a + call_total b) rest) (units ps (n + call_total a + call_total b) rest) else units ps (n + call_total a + call_total b) rest)
      by true ia ib r = (tt, (ia.0, ia.1, ib.0, ib.1, r.0, r.1))
      by false ia ib r = (in_any Any (Some k) (Some c) _ (code_inside (suc k) a h.0, code_inside (suc k) b h.1, r.0), r.1)
  pieces_inside k n (halts rest) h = let r = pieces_inside k n rest h in (((tt, tt), r.0), r.1)

-- ---- with what they call

module _ (P : Callee → Type 0) where
  pub both : (r : Room) (c : Code) → Calls P c → CallsIn Any r c → CallsIn P r c
  both r done h g = tt
  both r (plain p rest) h g = ((h.0, g.0.1), both r rest h.1 g.1)
  both r (nest s t body rest) h g = (both (deeper r) body h.0 g.0, both r rest h.1 g.1)
  both r (branch t a b rest) h g = (both (deeper r) a h.0 g.0, both (deeper r) b h.1 g.1, both r rest h.2 g.2)

  pub both_pieces : (r : Room) (us : Units) → PiecesCall P us → PiecesIn Any r us → PiecesIn P r us
  both_pieces r no_unit h g = tt
  both_pieces r (call_unit slots x to behind rest) h g = (both r behind h.0 g.0, both_pieces r rest h.1 g.1)
  both_pieces r (nest_unit s first body behind rest) h g =
      (both (deeper r) first h.0 g.0, both_pieces (deeper r) body h.1 g.1, both r behind h.2 g.2, both_pieces r rest h.3 g.3)
  both_pieces r (if_unit c fa a fb b behind rest) h g = (
    both (deeper r) fa h.0 g.0,
    both_pieces (deeper r) a h.1 g.1,
    both (deeper r) fb h.2 g.2,
    both_pieces (deeper r) b h.3 g.3,
    both r behind h.4 g.4,
    both_pieces r rest h.5 g.5,
  )

-- ---- statements that fit

each_in : (k : ℕ) (ls : List ℕ) → All (λ l. l < k) ls → LabelsIn (Some k) ls
each_in k [] h = tt
each_in k (l ∷ ls) h = (All-head (λ j. j < k) l ls h, each_in k ls (All-tail (λ j. j < k) l ls h))

computes_in : (locals k : ℕ) (op : Code) (to : Option ℕ) → ComputesFit locals op to → CallsIn Any (Some k) op
computes_in locals k (plain (basic b) done) to h = ((tt, tt), tt)
computes_in locals k (plain (local_get x) done) to h = ((tt, tt), tt)
computes_in locals k (plain (local_set x) done) to h = ((tt, tt), tt)
computes_in locals k (plain (local_tee x) done) to h = ((tt, tt), tt)
computes_in locals k _ to h = absurd h

call_in : (k : ℕ) (op : Code) → IsCallCode op → CallsIn Any (Some k) op
call_in k (plain (call x) done) h = ((tt, tt), tt)
call_in k (plain (call_indirect t) done) h = ((tt, tt), tt)
call_in k _ h = absurd h

leaps_fit : (locals k : ℕ) (s : Stmts) → StmtsFit locals k s → LeapsIn k s
leaps_fit locals k no_more h = tt
leaps_fit locals k (computes op args to rest) h = (computes_in locals k op to h.0, leaps_fit locals k rest h.4)
leaps_fit locals k (copies to from rest) h = leaps_fit locals k rest h.2
leaps_fit locals k (calls op stack args to rest) h = (call_in k op h.0, leaps_fit locals k rest h.5)
leaps_fit locals k (leaps l rest) h = (h.0, leaps_fit locals k rest h.1)
leaps_fit locals k (leaps_if c l rest) h = (h.1, leaps_fit locals k rest h.2)
leaps_fit locals k (leaps_by index labels last rest) h = ((each_in k labels h.1, h.2), leaps_fit locals k rest h.3)
leaps_fit locals k (nests s body rest) h = (leaps_fit locals (suc k) body h.0, leaps_fit locals k rest h.1)
leaps_fit locals k (decides c a b rest) h = (leaps_fit locals (suc k) a h.1, leaps_fit locals (suc k) b h.2, leaps_fit locals k rest h.3)
leaps_fit locals k (halts rest) h = leaps_fit locals k rest h

pub stay_law : PiecesStay
stay_law test ps locals n s numbered_ fits =
    let free = free_law test ps n s numbered_ in
    let stay = pieces_inside ps 1 n s (leaps_fit locals 1 s fits) in
    (both (λ c. test c ≡ false) (Some 1) (first_piece ps n s) free.0 stay.0, both_pieces (λ c. test c ≡ false) (Some 1) (units ps n s) free.1 stay.1)
