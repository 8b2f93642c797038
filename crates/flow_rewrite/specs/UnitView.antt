-- The units of `guard_form` that lists of units stand for.
use Rattle.std.specs.Prelude.{List, [], ◌∷◌}
use Rattle.wa_types.specs.Pausing.{Callee, direct, indirect}
use Rattle.wa_types.specs.Syntax.{a_block, a_loop}
use Rattle.wa_types.specs.View.{code}
use Rattle.guard_form.specs.Pieces.{Units, no_unit, call_unit, nest_unit, if_unit}
use Rattle.flow_rewrite.specs.declared.pieces.Target.{Target}
use Rattle.flow_rewrite.specs.declared.pieces.Target.TheVariants.{Direct, Indirect}
use Rattle.flow_rewrite.specs.declared.pieces.Unit.{Unit, Row_of-Unit, end_of-Unit, more_of-Unit}
use Rattle.flow_rewrite.specs.declared.pieces.Unit.TheVariants.{Call, Block', Loop', If'}

-- what a numbered call goes to
abbrev pub callee_of : Target → Callee
callee_of (Direct f) = direct f
callee_of (Indirect sort) = indirect sort

unfoldable mutual
  -- a unit in front of others
  pub unit_in_front : Unit → Units → Units
  unit_in_front (Call slots target to behind) rest = call_unit slots.items (callee_of target) to (code behind.items) rest
  unit_in_front (Block' first s body behind) rest = nest_unit a_block (code first.items) (row_units body) (code behind.items) rest
  unit_in_front (Loop' first s body behind) rest = nest_unit a_loop (code first.items) (row_units body) (code behind.items) rest
  unit_in_front (If' condition first_then s a first_else t b behind) rest =
      if_unit condition (code first_then.items) (row_units a) (code first_else.items) (row_units b) (code behind.items) rest

  -- the units in a construct
  pub row_units : {m : _} → Row_of-Unit m → Units
  row_units end_of-Unit = no_unit
  row_units (more_of-Unit u rest) = unit_in_front u (row_units rest)

-- a list of units
unfoldable pub units_of : List Unit → Units
units_of [] = no_unit
units_of (u ∷ us) = unit_in_front u (units_of us)
