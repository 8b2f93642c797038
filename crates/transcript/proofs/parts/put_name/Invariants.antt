use Rattle.std.proofs.Common.{◌≡◌, ◌++◌, drop}
use Rattle.script_model.specs.Transcript.{printed_name}
use Rattle.transcript.proofs.parts.put_name.Given as goal

abbrev pub invariant-loop-byte : goal.invariant-loop-byte
invariant-loop-byte l = l.line.items ++ printed_name (drop l.byte-index l.name) ≡ l.fn.line.items ++ printed_name l.name
