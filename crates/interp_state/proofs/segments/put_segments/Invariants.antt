use Rattle.std.proofs.Common.{◌≡◌, None, length, map, drop}
use Rattle.wa_model.specs.Instantiation.{first_out, put_pieces}
use Rattle.interp_state.specs.Making.{byte_piece_of}
use Rattle.interp_state.proofs.segments.put_segments.Given as goal

abbrev pub invariant-loop-segment : goal.invariant-loop-segment
invariant-loop-segment l = record {
  puts : put_pieces l.memory.bytes (map (byte_piece_of l.globals) (drop l.segment-index l.segments)) ≡ put_pieces l.fn.memory.bytes (map (byte_piece_of l.globals) l.segments);
  fits : first_out (length l.fn.memory.bytes) l.segment-index (map (byte_piece_of l.globals) (drop l.segment-index l.segments)) ≡ None;
  size : length l.memory.bytes ≡ length l.fn.memory.bytes;
  max : l.memory.max ≡ l.fn.memory.max;
}
