-- Sequences as they are written, and the constructs around them.
use Rattle.std.specs.Prelude.{◌≡◌, ◌<◌, ◌+◌, ◌-◌, ℕ, List, [], ◌∷◌, length, take, drop, Option, Some, None, Bool, true, false, Box}
use Rattle.std.specs.declared.vec.Vec.{Vec}
use Rattle.std.specs.declared.alloc.Global.{Global}
use Rattle.wa_types.specs.declared.instrs.Instr.{Instr}
use Rattle.wa_types.specs.Syntax.{local_set, Shape as Nesting, Code, plain, nest, branch}
use Rattle.wa_types.specs.View.{code}
use Rattle.wa_model.specs.declared.flat.Operand.{Operand}
use Rattle.wa_model.specs.declared.flat.Operand.TheVariants.{Local, Const}
use Rattle.run_theory.specs.Flat.{Stmts, no_more, got}
use Rattle.guard_form.specs.Bounds.{unit_count}
use Rattle.guard_form.specs.Pieces.{Units, no_unit, nest_unit, if_unit, call_total, first_piece, units}
use Rattle.flow_rewrite.specs.Putting.{Puts}
use Rattle.slim_laws.specs.Slim.{Free, Covers, Terms}
use Rattle.slim_laws.specs.SlimUnits.{SlimUnits}
use Rattle.slim_rewrite.specs.declared.stack.Walk.{Walk}
use Rattle.slim_rewrite.specs.Walking.{free_at, shape_at, unstacked, Alike, Among, Good, IsTop}
use Rattle.flow_rewrite.specs.declared.pieces.Pieces.{Pieces}
use Rattle.flow_rewrite.specs.UnitView.{units_of}
use Rattle.slim_rewrite.specs.declared.constructs.Outside.{Outside}
use Rattle.slim_rewrite.specs.declared.sequence.Head.{Head}
use Rattle.slim_rewrite.specs.declared.sequence.Sequence.{Sequence}
use Rattle.slim_rewrite.specs.declared.sequence.Written.{Written}
use Rattle.slim_rewrite.specs.Coming.{Around, CallsFixed, Comes}
use Rattle.slim_rewrite.specs.SequenceView.{call_open, first_with, head_in_front, units_with}
use Rattle.slim_rewrite.specs.Steps.{Opened}

-- the first piece, and the units
abbrev pub first_code : Pieces → Code
first_code p = code p.first.items

abbrev pub units_in : Pieces → Units
units_in p = units_of p.units.items

-- Nothing of a sequence is written, whose first call has this place.
pub record Begun (n : ℕ) (q : Sequence) : Type 0 where
  pub units : q.units.items ≡ []
  pub closed : q.open ≡ None
  pub place : q.place ≡ n
  pub ended : q.ended ≡ false

-- what is kept apart, where there is something
abbrev pub unboxed : Option (Box Written Global) → Option Written
unboxed None = None
unboxed (Some b) = Some b.value

-- A sequence was written from its first call's place on: its units are slim, whatever is free behind its end where that isn't reached.
pub record IsWritten (ps : List ℕ) (a : Walk) (n : ℕ) (s : Stmts) (b : Walk) (w : Written) : Type 0 where
  pub good : Good b
  pub alike : Alike a b
  pub bare : w.ended ≡ false → b.set ≡ length b.stack.items
  pub place : w.place ≡ n + call_total s
  pub slim : (t : Terms) → Among t a → (k : ℕ) (ts : List Free) (out : Free) → Around t a ts → CallsFixed t ps n k s → (w.ended ≡ false → Covers (free_at t b) out)
      → SlimUnits t k ts out (free_at t a) (shape_at a) (first_piece ps n s) (units ps n s) (first_code w.pieces) (units_in w.pieces)

abbrev pub WrittenTold : (ps : List ℕ) → Walk → ℕ → Stmts → Walk → Option Written → Type 0
WrittenTold ps a n s b None = Prim.Unit {0}
WrittenTold ps a n s b (Some w) = IsWritten ps a n s b w

-- only the piece differs
pub record Same (a b : Walk) : Type 0 where
  pub good : Good b
  pub alike : Alike a b
  pub stack : b.stack.items ≡ a.stack.items
  pub set : b.set ≡ a.set

-- A sequence has its last piece.
pub record Completed (a : Walk) (p : Sequence) (b : Walk) (w : Written) : Type 0 where
  pub same : Same a b
  pub place : w.place ≡ p.place
  pub ended : w.ended ≡ p.ended
  pub first : first_code w.pieces ≡ first_with p (code a.piece.items)
  pub units : units_in w.pieces ≡ units_with p (code a.piece.items) no_unit

-- A sequence has come to its end; it only gets its last piece where all slots are set.
pub record Finished (a : Walk) (p : Sequence) (b : Walk) (w : Written) : Type 0 where
  pub good : Good b
  pub alike : Alike a b
  pub place : w.place ≡ p.place
  pub bare : w.ended ≡ false → b.set ≡ length b.stack.items
  pub comes : (t : Terms) → Among t a → (n : ℕ) (ts : List Free) (out : Free) (ps : List ℕ) → (w.ended ≡ false → Covers (free_at t b) out)
      → Comes t n ts out ps a p no_more (first_code w.pieces) (units_in w.pieces)
  pub plain : a.set ≡ length a.stack.items → Completed a p b w

-- ---- constructs

-- Another piece, and all slots below a construct.
pub record Entered (a b : Walk) (o : Outside) : Type 0 where
  pub alloc : b.alloc ≡ a.alloc
  pub low : b.low ≡ a.low
  pub places : b.places.items ≡ a.places.items
  pub stack : b.stack.items ≡ a.stack.items
  pub set : b.set ≡ a.set
  pub floor : b.floor ≡ length a.stack.items
  pub piece : b.piece.items ≡ []
  pub outer : o.piece.items ≡ a.piece.items
  pub below : o.floor ≡ a.floor
  pub height : o.height ≡ length a.stack.items

-- The piece outside, and the slots below the construct, or all where so told.
pub record Left (a b : Walk) (o : Outside) (kept : Bool) : Type 0 where
  pub alloc : b.alloc ≡ a.alloc
  pub low : b.low ≡ a.low
  pub places : b.places.items ≡ a.places.items
  pub floor : b.floor ≡ o.floor
  pub piece : b.piece.items ≡ o.piece.items
  pub all : kept ≡ true → (b.stack.items ≡ a.stack.items) × (b.set ≡ a.set)
  pub cut : kept ≡ false → (b.stack.items ≡ take o.height a.stack.items) × (b.set ≡ o.height)

-- The body of a construct was written, in front of which all slots are set; behind it they are, and those in front stand, unless so
-- told. Where its end isn't reached, anything may be free behind it.
pub record IsInside (ps : List ℕ) (a : Walk) (n : ℕ) (s : Stmts) (kept : Bool) (b : Walk) (w : Written) : Type 0 where
  pub good : Good b
  pub alike : Alike a b
  pub piece : b.piece.items ≡ a.piece.items
  pub bare : b.set ≡ length b.stack.items
  pub same : kept ≡ false → b.stack.items ≡ a.stack.items
  pub place : w.place ≡ n + call_total s
  pub slim : (t : Terms) → Among t a → (k : ℕ) (ts : List Free) → Around t a ts → (g : Free) → Covers (free_at t a) g → CallsFixed t ps n k s → (out : Free)
      → (w.ended ≡ false → Covers (free_at t b) out) → SlimUnits t k (g ∷ ts) out (free_at t a) [] (first_piece ps n s) (units ps n s) (first_code w.pieces) (units_in w.pieces)

-- A slot counts as set, behind what is never left.
pub record Claimed (a b : Walk) : Type 0 where
  pub good : Good b
  pub alike : Alike a b
  pub piece : b.piece.items ≡ a.piece.items
  pub bare : b.set ≡ length b.stack.items

abbrev pub InsideTold : (ps : List ℕ) → Walk → ℕ → Stmts → Bool → Walk → Option Written → Type 0
InsideTold ps a n s kept b None = Prim.Unit {0}
InsideTold ps a n s kept b (Some w) = IsInside ps a n s kept b w

-- A block or loop was put: in the piece, where it has no units, or as a unit.
pub data Nested (y : Nesting) (a : Walk) (p : Sequence) (b : Walk) (q : Sequence) (w : Written) : Type 0 where
  in_piece : units_in w.pieces ≡ no_unit → Same a b → q ≡ record p { place = w.place } → Puts a.piece.items b.piece.items (nest y None (first_code w.pieces)) → Nested y a p b q w
  as_unit : (head : Head) → 0 < unit_count (units_in w.pieces)
      → ((c : Code) (us : Units) → head_in_front head c us ≡ nest_unit y (first_code w.pieces) (units_in w.pieces) c us)
      → Opened a (record p { place = w.place }) b q head → Nested y a p b q w

-- A condition was taken: it stands alone on the operand stack, or all slots are set.
pub record Conditioned (a b : Walk) (x : ℕ) (direct : Bool) : Type 0 where
  pub good : Good b
  pub alike : Alike a b
  pub top : IsTop a.stack.items (Local x ∷ [])
  pub stack : b.stack.items ≡ take (length a.stack.items - 1) a.stack.items
  pub bare : b.set ≡ length b.stack.items
  pub alone : direct ≡ true → (a.set + 1 ≡ length a.stack.items) × (b.piece.items ≡ a.piece.items)
  pub flushed : direct ≡ false → Puts a.piece.items b.piece.items (unstacked (drop a.set a.stack.items))

abbrev pub ConditionTold : Walk → Walk → ℕ → Option Bool → Type 0
ConditionTold a b x None = Prim.Unit {0}
ConditionTold a b x (Some direct) = Conditioned a b x direct

-- what gets a condition
abbrev pub condition_got : (direct : Bool) → Operand → Code → Code
condition_got true o c = c
condition_got false o c = got o c

-- what sets its slot
abbrev pub condition_set : (direct : Bool) → Operand → Code → Code
condition_set true (Local x) c = plain (local_set x) c
condition_set true (Const v) c = c
condition_set false o c = c

-- It was set where it stood on the operand stack.
pub record SetAgain (a b : Walk) (o : Operand) (direct : Bool) : Type 0 where
  pub is : b ≡ record a { piece = b.piece }
  pub puts : Puts a.piece.items b.piece.items (condition_set direct o)

-- whether neither of two sequences has units
abbrev pub AreFree : (v w : Written) → Bool → Type 0
AreFree v w true = (units_in v.pieces ≡ no_unit) × (units_in w.pieces ≡ no_unit)
AreFree v w false = 0 < unit_count (units_in v.pieces) + unit_count (units_in w.pieces)

-- An `if` was put: in the piece, where its arms have no units, or as a unit, for which its condition is set, or left where it stands
-- alone and not behind a call.
pub data Decided (o : Operand) (direct : Bool) (a : Walk) (p : Sequence) (b : Walk) (q : Sequence) (v w : Written) : Type 0 where
  in_piece : units_in v.pieces ≡ no_unit → units_in w.pieces ≡ no_unit → Same a b → q ≡ record p { place = w.place }
      → Puts a.piece.items b.piece.items (λ c. condition_got direct o (branch None (first_code v.pieces) (first_code w.pieces) c)) → Decided o direct a p b q v w
  as_unit : (head : Head) → (piece : Vec Instr Global) → 0 < unit_count (units_in v.pieces) + unit_count (units_in w.pieces) → Puts a.piece.items piece.items (condition_set direct o)
      → ((c : Code) (us : Units) → head_in_front head c us ≡ if_unit (Some o) (first_code v.pieces) (units_in v.pieces) (first_code w.pieces) (units_in w.pieces) c us)
      → Opened (record a { piece = piece }) (record p { place = w.place }) b q head → Decided o direct a p b q v w
  as_kept : (head : Head) → direct ≡ true → call_open p.open ≡ false → 0 < unit_count (units_in v.pieces) + unit_count (units_in w.pieces)
      → ((c : Code) (us : Units) → head_in_front head c us ≡ if_unit None (first_code v.pieces) (units_in v.pieces) (first_code w.pieces) (units_in w.pieces) c us)
      → Opened a (record p { place = w.place }) b q head → Decided o direct a p b q v w
