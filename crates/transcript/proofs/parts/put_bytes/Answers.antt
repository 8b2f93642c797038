use Rattle.std.proofs.Common.{refl}
use Rattle.script_model.specs.Transcript.{printed_bytes, hex_pair}
use Rattle.transcript.proofs.Joined.{last_text, next_text}
use Rattle.transcript.proofs.parts.put_bytes.Goals as goal

pub loop-byte-preserved : goal.loop-byte-preserved
loop-byte-preserved c =
    next_text printed_bytes hex_pair (λ x xs. refl) c.loop-byte.line.items c.put_hex_pair.new.line.items _ c.args.bytes.now c.loop-byte.byte-index 0 c.loop-byte-test.true
    c.in_ok-put_hex_pair.ensures c.loop-byte.invariant

pub returns : goal.returns
returns c = last_text printed_bytes refl c.loop-byte.line.items _ c.args.bytes.now c.loop-byte.byte-index c.loop-byte-test.false c.loop-byte.invariant
