use Rattle.std.proofs.Common.{◌+◌, ◌++◌, List, ℕ, ap, drop, refl, sym, ◌∙◌}
use Rattle.script_model.specs.Transcript.{printed_name, name_byte}
use Rattle.transcript.proofs.Joined.{last_text, next_text}
use Rattle.transcript.proofs.parts.put_name.Goals as goal

pub loop-byte-preserved : goal.loop-byte-preserved
loop-byte-preserved c =
    let same = c.as_bytes-byte-items.ensures.value in
    ap (λ (bs : List ℕ). c.put_name_byte.new.line.items ++ printed_name (drop (c.loop-byte.byte-index + 1) bs)) (sym same)
    ∙ next_text printed_name name_byte (λ x xs. refl) c.loop-byte.line.items c.put_name_byte.new.line.items _ c.as_bytes-byte-items.result.now c.loop-byte.byte-index 0 c.loop-byte-test.true
    c.in_ok-put_name_byte.ensures
    (ap (λ (bs : List ℕ). c.loop-byte.line.items ++ printed_name (drop c.loop-byte.byte-index bs)) same ∙ c.loop-byte.invariant)

pub returns : goal.returns
returns c =
    last_text printed_name refl c.loop-byte.line.items _ c.as_bytes-byte-items.result.now c.loop-byte.byte-index c.loop-byte-test.false
    (ap (λ (bs : List ℕ). c.loop-byte.line.items ++ printed_name (drop c.loop-byte.byte-index bs)) c.as_bytes-byte-items.ensures.value ∙ c.loop-byte.invariant)
