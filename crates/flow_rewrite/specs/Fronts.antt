-- What is written of units.
use Rattle.std.specs.Prelude.{◌≡◌, ◌<◌, ◌≤◌, ◌+◌, ◌^◌, ℕ, suc, List, [], Option}
use Rattle.wa_types.specs.declared.instrs.Instr.{Instr}
use Rattle.wa_types.specs.Syntax.{Code}
use Rattle.wa_types.specs.View.{onto, code}
use Rattle.guard_form.specs.Pieces.{Units, no_unit, call_unit, nest_unit, if_unit, any_unit, numbers_in}
use Rattle.guard_form.specs.Bounds.{unit_count}
use Rattle.guard_form.specs.Guarded.{arm, Exit, front}
use Rattle.flow_rewrite.specs.Raising.{Raisable}
use Rattle.flow_rewrite.specs.declared.guards.Guards.{Guards}
use Rattle.flow_rewrite.specs.Begun.{begun}
use Rattle.flow_rewrite.specs.Emitting.{indices}
use Rattle.flow_rewrite.specs.declared.pieces.Unit.{Unit}
use Rattle.flow_rewrite.specs.declared.pieces.Unit.TheVariants.{Call, Block', Loop', If'}
use Rattle.flow_rewrite.specs.UnitView.{unit_in_front}
use Rattle.flow_rewrite.specs.Exits.{exit_at, LabelBelow}

-- the labels of each piece can be raised, inside so many constructs
abbrev pub UnitsRaisable : ℕ → Units → Type 0
UnitsRaisable d no_unit = Prim.Unit {0}
UnitsRaisable d (call_unit slots x to behind rest) = Raisable d 2 behind × UnitsRaisable d rest
UnitsRaisable d (nest_unit s first body behind rest) = Raisable (suc d) 2 first × UnitsRaisable (suc d) body × Raisable d 2 behind × UnitsRaisable d rest
UnitsRaisable d (if_unit c fa a fb b behind rest) =
    Raisable (suc d) 2 fa × UnitsRaisable (suc d) a × Raisable (suc d) 2 fb × UnitsRaisable (suc d) b × Raisable d 2 behind × UnitsRaisable d rest

-- A piece and units with this exit inside so many constructs can be written.
pub record Ready (e : Exit) (d k : ℕ) (first : Code) (us : Units) : Type 0 where
  pub label : LabelBelow d e
  pub piece : Raisable d 2 first
  pub units : UnitsRaisable d us
  pub numbers : k + numbers_in us < 2 ^ 32

-- a sequence as it is written, and the number of the next numbered call
pub record IsFront (g : Guards) (lead : Option Code) (e : Exit) (d k : ℕ) (first : Code) (us : Units) (f : List Instr) (n : ℕ) : Type 0 where
  pub written : code f ≡ begun (indices g) lead e d k first us
  pub number : n ≡ k + numbers_in us

-- so is an arm
pub record IsArm (g : Guards) (e : Exit) (d k : ℕ) (first : Code) (us : Units) (f : List Instr) (n : ℕ) : Type 0 where
  pub written : code f ≡ arm us first (front (indices g) e d k first us)
  pub number : n ≡ k + numbers_in us

-- the piece in front of what comes behind a unit: behind a call it is put with the call
abbrev pub piece_behind : Unit → List Instr
piece_behind (Call slots target to behind) = []
piece_behind (Block' first s body behind) = behind.items
piece_behind (Loop' first s body behind) = behind.items
piece_behind (If' condition first_then s a first_else t b behind) = behind.items

-- A unit with this exit was written behind a piece, whatever comes: of a sequence with an exit that is this one at the unit.
pub record Stepped (g : Guards) (lead : Option Code) (v : Exit) (d k : ℕ) (old new piece : List Instr) (u : Unit) (j : ℕ) : Type 0 where
  pub written : (e : Exit) (rest : Units) → v ≡ exit_at e (any_unit rest)
      → onto old (begun (indices g) lead e d k (code piece) (unit_in_front u rest)) ≡ onto new (front (indices g) e d j (code (piece_behind u)) rest)
  pub number : j ≡ k + numbers_in (unit_in_front u no_unit)

-- Where a sequence is, with units to come: they come to what the whole comes to.
pub record Walked (g : Guards) (lead : Option Code) (e : Exit) (d k : ℕ) (first : Code) (us : Units) (out : List Instr) (left : Option Code) (piece : List Instr) (next : ℕ) (rest : Units) : Type 0 where
  pub written : begun (indices g) lead e d k first us ≡ onto out (begun (indices g) left e d next (code piece) rest)
  pub number : k + numbers_in us ≡ next + numbers_in rest
  pub count : unit_count rest ≤ unit_count us
  pub ready : Ready e d next (code piece) rest
