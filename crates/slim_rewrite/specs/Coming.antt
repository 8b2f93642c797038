-- What statements to come have to come to, for the whole to be slim.
use Rattle.std.specs.Prelude.{◌≡◌, ◌<◌, ◌^◌, ◌+◌, ℕ, suc, List, [], length, take, Option, Some, None, Bool, true, false}
use Rattle.wa_types.specs.Pausing.{calls_of}
use Rattle.wa_types.specs.Syntax.{Code, done}
use Rattle.wa_types.specs.View.{onto}
use Rattle.wa_model.specs.declared.flat.Operand.{Operand}
use Rattle.run_theory.specs.Flat.{Stmts, no_more, computes, copies, calls, leaps, leaps_if, leaps_by, nests, decides, halts, followed_by, got, code_of}
use Rattle.run_theory.specs.FlatFits.{StmtsFit}
use Rattle.guard_form.specs.Grouping.{is_place}
use Rattle.guard_form.specs.Pieces.{Units, no_unit, if_unit, call_total, first_piece, flat_units, units, StartsGot}
use Rattle.slim_laws.specs.Emit.{free_by}
use Rattle.slim_laws.specs.Parts.{goes_on}
use Rattle.slim_laws.specs.Slim.{Free, Held, Reaches, StackShape, Slims, Terms}
use Rattle.slim_laws.specs.SlimUnits.{SlimUnits}
use Rattle.slim_rewrite.specs.declared.stack.Walk.{Walk}
use Rattle.slim_rewrite.specs.Walking.{free_at, shape_at}
use Rattle.slim_rewrite.specs.declared.sequence.Sequence.{Sequence}
use Rattle.slim_rewrite.specs.SequenceView.{call_open, first_with, units_with}

-- At a call with so many behind it no local is fixed; at a numbered one none but those that aren't slots, and its stack.
abbrev pub FixedFor : Terms → (numbered : Bool) → (stack : List ℕ) → (behind : ℕ) → Type 0
FixedFor t false stack k = t.fixed k ≡ []
FixedFor t true stack k = (f : Free) → ((y : ℕ) → t.slot y ≡ false → f y ≡ false) → Held f stack → Held f (t.fixed k)

-- how many calls statements hold
abbrev pub calls_in : Stmts → ℕ
calls_in s = length (calls_of (code_of s))

-- So it is at each call of statements, the first of which has this place, with so many calls behind them.
abbrev pub CallsFixed : Terms → (places : List ℕ) → (place behind : ℕ) → Stmts → Type 0
CallsFixed t ps n k no_more = Prim.Unit {0}
CallsFixed t ps n k (computes op args to rest) = CallsFixed t ps n k rest
CallsFixed t ps n k (copies to from rest) = CallsFixed t ps n k rest
CallsFixed t ps n k (calls op stack args to rest) = FixedFor t (is_place ps n) stack (calls_in rest + k) × CallsFixed t ps (suc n) k rest
CallsFixed t ps n k (leaps l rest) = CallsFixed t ps n k rest
CallsFixed t ps n k (leaps_if c l rest) = CallsFixed t ps n k rest
CallsFixed t ps n k (leaps_by c ls l rest) = CallsFixed t ps n k rest
CallsFixed t ps n k (nests s body rest) = CallsFixed t ps n (calls_in rest + k) body × CallsFixed t ps (n + call_total body) k rest
CallsFixed t ps n k (decides c a b rest) =
    CallsFixed t ps n (calls_in b + (calls_in rest + k)) a × CallsFixed t ps (n + call_total a) (calls_in rest + k) b × CallsFixed t ps (n + call_total a + call_total b) k rest
CallsFixed t ps n k (halts rest) = CallsFixed t ps n k rest

-- a piece in front of units comes to its end
abbrev pub Goes : Units → Code → Type 0
Goes no_unit c = Prim.Unit {0}
Goes _ c = goes_on c ≡ true

-- the condition that the slim piece in front of units leaves, where it is got on the other side
abbrev pub left_by : (us us' : Units) → Option Operand
left_by (if_unit o fa a fb b behind rest) (if_unit None fa' a' fb' b' behind' rest') = o
left_by _ _ = None

-- a piece with it
abbrev pub with_left : Option Operand → Code → Code
with_left None c = c
with_left (Some o) c = followed_by c (got o done)

module _ (t : Terms) (n : ℕ) (ts : List Free) (out : Free) where
  -- Slim units beside these: whatever piece comes to them, with these locals free at its end.
  abbrev pub Behind : Free → (us us' : Units) → Type 0
  Behind g us us' =
      (f : Free) (sh : StackShape) (c c' : Code) → Goes us c → Slims t (length (calls_of (flat_units us)) + n) ts g f sh (with_left (left_by us us') c) c' → SlimUnits t n ts out f sh c us c' us'

  -- A piece and units, from where the walk is, and the slim ones beside them.
  pub record From (w : Walk) (c : Code) (us : Units) (c' : Code) (us' : Units) : Type 0 where
    pub end : Free
    pub goes : Goes us c
    pub slim : Slims t (length (calls_of (flat_units us)) + n) ts end (free_at t w) (shape_at w) (with_left (left_by us us') c) c'
    pub behind : Behind end us us'

  -- what statements have to come to; nothing stands behind a jump
  abbrev pub Rest : (places : List ℕ) → (ended : Bool) → (place : ℕ) → Walk → Stmts → Code → Units → Type 0
  Rest ps false p w s c' us' = From w (first_piece ps p s) (units ps p s) c' us'
  Rest ps true p w s c' us' = (s ≡ no_more) × (c' ≡ done) × (us' ≡ no_unit)

  -- From here, with statements to come, a sequence can come to this first piece and these units. A piece that stands with a call leaves
  -- no condition.
  pub record Comes (ps : List ℕ) (w : Walk) (q : Sequence) (s : Stmts) (first : Code) (us : Units) : Type 0 where
    pub piece : Code
    pub units : Units
    pub rest : Rest ps q.ended q.place w s piece units
    pub clear : call_open q.open ≡ true → StartsGot units
    pub first_is : first_with q (onto w.piece.items piece) ≡ first
    pub units_is : units_with q (onto w.piece.items piece) units ≡ us

-- Labels lead to where no more is set than below the construct.
abbrev pub Around : Terms → Walk → List Free → Type 0
Around t w ts = (l : ℕ) → Reaches (free_by t.slot (take w.floor w.stack.items)) ts l

-- Statements fit, and places behind them are numbers.
pub record Ready (n : ℕ) (s : Stmts) : Type 0 where
  pub locals : ℕ
  pub labels : ℕ
  pub fit : StmtsFit locals labels s
  pub room : n + call_total s < 2 ^ 32
