-- What a sequence that is gone over comes to, with more behind it.
use Rattle.std.specs.Prelude.{List, [], ◌∷◌, Option, Some, None, Bool, true, false}
use Rattle.wa_types.specs.Syntax.{a_block, a_loop, Code}
use Rattle.wa_types.specs.View.{code}
use Rattle.guard_form.specs.Pieces.{Units, call_unit, nest_unit, if_unit}
use Rattle.flow_rewrite.specs.declared.pieces.Unit.{Unit}
use Rattle.flow_rewrite.specs.UnitView.{callee_of, unit_in_front, units_of}
use Rattle.slim_rewrite.specs.declared.sequence.Head.{Head}
use Rattle.slim_rewrite.specs.declared.sequence.Head.TheVariants.{Call, Block, Loop, If}
use Rattle.slim_rewrite.specs.declared.sequence.Sequence.{Sequence}

-- a unit with the piece behind it, in front of others
abbrev pub head_in_front : Head → (behind : Code) → Units → Units
head_in_front (Call slots target to) c rest = call_unit slots.items (callee_of target) to c rest
head_in_front (Block p) c rest = nest_unit a_block (code p.first.items) (units_of p.units.items) c rest
head_in_front (Loop p) c rest = nest_unit a_loop (code p.first.items) (units_of p.units.items) c rest
head_in_front (If condition p q) c rest = if_unit condition (code p.first.items) (units_of p.units.items) (code q.first.items) (units_of q.units.items) c rest

-- a call is open: the piece so far stands with it
abbrev pub call_open : Option Head → Bool
call_open (Some (Call slots target to)) = true
call_open _ = false

-- units in front of others
abbrev pub units_onto : List Unit → Units → Units
units_onto [] rest = rest
units_onto (u ∷ us) rest = unit_in_front u (units_onto us rest)

-- the first piece, where a unit's piece is open, and else
abbrev pub first_where : Option Head → (first piece : Code) → Code
first_where None first piece = piece
first_where (Some h) first piece = first

-- the open unit with its piece
abbrev pub open_where : Option Head → (piece : Code) → Units → Units
open_where None piece rest = rest
open_where (Some h) piece rest = head_in_front h piece rest

-- With this piece and these units behind, a sequence comes to this first piece
abbrev pub first_with : Sequence → (piece : Code) → Code
first_with q piece = first_where q.open (code q.first.items) piece

-- and these units.
abbrev pub units_with : Sequence → (piece : Code) → Units → Units
units_with q piece rest = units_onto q.units.items (open_where q.open piece rest)
