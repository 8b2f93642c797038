use Rattle.std.proofs.Common.{◌≡◌, take, map}
use Rattle.wa_types.specs.View.{module_of}
use Rattle.interp_state.specs.Rooms.{room_at}
use Rattle.interp_state.proofs.rooms.all_rooms.Given as goal

abbrev pub invariant-loop-func : goal.invariant-loop-func
invariant-loop-func l = l.rooms.items ≡ map (room_at (module_of l.source)) (take l.func-index l.source.funcs.items)
