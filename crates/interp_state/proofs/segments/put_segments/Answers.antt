use Rattle.std.proofs.Common.{arith, ◌≡◌, ◌+◌, ◌≤◌, length, true, nat_le, ap, sym, ◌∙◌}
use Rattle.wa_types.specs.View.{code}
use Rattle.wa_types.specs.Memory.{overwritten}
use Rattle.wa_model.specs.Instantiation.{place_at, put_piece}
use Rattle.interp_state.specs.Making.{byte_piece_of}
use Rattle.interp_state.proofs.MakeLemmas.{fits_next, puts_on, puts_end, put_length, written_over}
use Rattle.interp_state.proofs.segments.put_segments.Goals as goal

pub loop-segment-preserved : goal.loop-segment-preserved
loop-segment-preserved c =
    let globals = c.args.globals.now in
    let segments = c.args.segments.now in
    let i = c.loop-segment.segment-index in
    let segment = c.segment-item.result in
    let piece = byte_piece_of globals segment in
    let old = c.loop-segment.memory.bytes in
    let new = c.write.new.self.bytes in
    let next = fits_next (byte_piece_of globals) (length c.args.memory.now.bytes) segments i segment c.loop-segment-test.true c.segment-item.is c.loop-segment.invariant.fits in
    let at : c.place_of.result ≡ piece.at = c.place_of.ensures ∙ ap (λ v. place_at globals (code v)) c.deref.ensures.value in
    let items : c.deref-in-loop-segment.result.now ≡ piece.items = c.deref-in-loop-segment.ensures.value in
    let test : nat_le (c.place_of.result + length c.deref-in-loop-segment.result.now) (length old) ≡ true =
    ap (λ n. nat_le (n + length c.deref-in-loop-segment.result.now) (length old)) at
    ∙ ap (λ v. nat_le (piece.at + length v) (length old)) items
    ∙ ap (nat_le (piece.at + length piece.items)) c.loop-segment.invariant.size
    ∙ next.test in
    let written : new ≡ put_piece old piece =
    written_over old new c.deref-in-loop-segment.result.now c.place_of.result c.write.result c.write.ensures.ok c.write.ensures.past_end test
    ∙ ap (λ n. overwritten old n c.deref-in-loop-segment.result.now) at
    ∙ ap (overwritten old piece.at) items in
    let here : piece.at + length piece.items ≤ length old = omega (arith, next.here, c.loop-segment.invariant.size) in
    record {
      puts = puts_on (byte_piece_of globals) segments i segment old new c.loop-segment-test.true c.segment-item.is written ∙ c.loop-segment.invariant.puts;
      fits = next.rest;
      size = ap length written ∙ put_length old piece here ∙ c.loop-segment.invariant.size;
      max = c.write.ensures.max ∙ c.loop-segment.invariant.max;
    }

pub returns-clause-bytes : goal.returns-clause-bytes
returns-clause-bytes c =
    sym (puts_end (byte_piece_of c.args.globals.now) c.args.segments.now c.loop-segment.segment-index c.loop-segment.memory.bytes c.loop-segment-test.false) ∙ c.loop-segment.invariant.puts
