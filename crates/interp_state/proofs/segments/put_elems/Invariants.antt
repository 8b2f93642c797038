use Rattle.std.proofs.Common.{◌≡◌, None, length, map, drop}
use Rattle.wa_model.specs.Instantiation.{first_out, put_pieces}
use Rattle.interp_state.specs.Making.{elem_piece_of}
use Rattle.interp_state.proofs.segments.put_elems.Given as goal

abbrev pub invariant-loop-elem : goal.invariant-loop-elem
invariant-loop-elem l = record {
  puts : put_pieces l.table.items (map (elem_piece_of l.globals) (drop l.elem-index l.elems)) ≡ put_pieces l.fn.table.items (map (elem_piece_of l.globals) l.elems);
  fits : first_out (length l.fn.table.items) l.elem-index (map (elem_piece_of l.globals) (drop l.elem-index l.elems)) ≡ None;
  size : length l.table.items ≡ length l.fn.table.items;
}
