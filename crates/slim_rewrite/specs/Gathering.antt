-- What the walk gathers that keeps each operand in its local.
use Rattle.std.specs.Prelude.{◌≡◌, ◌+◌, ℕ, List, []}
use Rattle.wa_types.specs.Syntax.{Plain, Code, done, plain}
use Rattle.wa_types.specs.View.{onto}
use Rattle.run_theory.specs.Flat.{Stmts, no_more, computes, copies, leaps, leaps_if, leaps_by, halts}
use Rattle.guard_form.specs.Pieces.{Units, call_total, first_piece, units}
use Rattle.flow_rewrite.specs.Statements.{one_place}
use Rattle.slim_rewrite.specs.declared.stack.Walk.{Walk}
use Rattle.slim_rewrite.specs.declared.sequence.Sequence.{Sequence}
use Rattle.slim_rewrite.specs.declared.sequence.Written.{Written}
use Rattle.slim_rewrite.specs.Coming.{Ready}
use Rattle.slim_rewrite.specs.Inside.{first_code, units_in}
use Rattle.slim_rewrite.specs.SequenceView.{first_with, units_with}

-- it is one instruction, and neither a call nor a construct
abbrev pub IsSimple : Stmts → Type 0
IsSimple (computes op args to rest) = (p : Plain) × (op ≡ plain p done)
IsSimple (copies to from rest) = Prim.Unit {0}
IsSimple (leaps l rest) = Prim.Unit {0}
IsSimple (leaps_if o l rest) = Prim.Unit {0}
IsSimple (leaps_by o labels last rest) = Prim.Unit {0}
IsSimple (halts rest) = Prim.Unit {0}
IsSimple _ = ⊥

-- No operand stands on the stack of the walk.
pub record Bare (w : Walk) : Type 0 where
  pub stack : w.stack.items ≡ []
  pub set : w.set ≡ 0
  pub floor : w.floor ≡ 0

-- with these statements to come, the first piece of a sequence
abbrev pub first_at : (places : List ℕ) → Walk → Sequence → Stmts → Code
first_at ps w q s = first_with q (onto w.piece.items (first_piece ps q.place s))

-- and its units
abbrev pub units_at : (places : List ℕ) → Walk → Sequence → Stmts → Units
units_at ps w q s = units_with q (onto w.piece.items (first_piece ps q.place s)) (units ps q.place s)

-- A statement was put: with whatever statements behind it, the sequence comes to the same.
pub record Gathered (ps : List ℕ) (a : Walk) (p : Sequence) (b : Walk) (q : Sequence) (x : Stmts → Stmts) : Type 0 where
  pub bare : Bare b
  pub place : q.place ≡ one_place p.place (x no_more)
  pub first : (s : Stmts) → first_at ps a p (x s) ≡ first_at ps b q s
  pub units : (s : Stmts) → units_at ps a p (x s) ≡ units_at ps b q s

-- Statements were put, the first call of which has this place: their pieces and units, beside the piece that stands around them.
pub record IsGathered (ps : List ℕ) (a : Walk) (n : ℕ) (s : Stmts) (b : Walk) (w : Written) : Type 0 where
  pub bare : Bare b
  pub piece : b.piece.items ≡ a.piece.items
  pub place : w.place ≡ n + call_total s
  pub first : first_code w.pieces ≡ first_piece ps n s
  pub units : units_in w.pieces ≡ units ps n s

-- Where the walk is in a sequence: with the statements to come it comes to the whole.
pub record GatheredTo (ps : List ℕ) (n : ℕ) (s : Stmts) (w : Walk) (q : Sequence) (rest : Stmts) : Type 0 where
  pub bare : Bare w
  pub ready : Ready q.place rest
  pub places : n + call_total s ≡ q.place + call_total rest
  pub first : first_piece ps n s ≡ first_at ps w q rest
  pub units : units ps n s ≡ units_at ps w q rest
