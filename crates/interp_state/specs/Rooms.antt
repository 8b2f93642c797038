-- What the activations of a function reserve.
use Rattle.std.specs.Prelude.{◌<◌, ◌^◌}
use Rattle.wa_types.specs.declared.syntax.Func.{Func as FuncValue}
use Rattle.wa_types.specs.Counts.{count_of, depth_of}
use Rattle.wa_types.specs.Syntax.{Func, Module}
use Rattle.wa_types.specs.View.{func_of}
use Rattle.run_theory.specs.Heights.{most_operands}
use Rattle.interp_state.specs.declared.rooms.Room.{Room}

-- what the activations of a function reserve
abbrev pub room_of : Module → Func → Room
room_of m f = record { operands = most_operands m f.body 0; labels = depth_of f.body }

-- the same of a value of the program
abbrev pub room_at : Module → FuncValue → Room
room_at m f = room_of m (func_of f)

-- a body with so few instructions that the program can count them
abbrev pub HasFewInstrs : FuncValue → Type 0
HasFewInstrs f = count_of (func_of f).body < 2 ^ 63
