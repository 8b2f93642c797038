use Rattle.std.proofs.Common.{◌≡◌, ◌++◌, drop}
use Rattle.script_model.specs.Transcript.{printed_bytes}
use Rattle.transcript.proofs.parts.put_bytes.Given as goal

abbrev pub invariant-loop-byte : goal.invariant-loop-byte
invariant-loop-byte l = l.line.items ++ printed_bytes (drop l.byte-index l.bytes) ≡ l.fn.line.items ++ printed_bytes l.bytes
