use Rattle.std.proofs.Common.{◌≡◌, map, drop}
use Rattle.wa_model.specs.Instantiation.{first_out}
use Rattle.interp_state.specs.Making.{elem_piece_of}
use Rattle.interp_state.proofs.segments.elem_out.Given as goal

abbrev pub invariant-loop-i : goal.invariant-loop-i
invariant-loop-i l = first_out l.size 0 (map (elem_piece_of l.globals) l.elems) ≡ first_out l.size l.i (map (elem_piece_of l.globals) (drop l.i l.elems))
