use Rattle.std.proofs.Common.{◌≡◌, length}
use Rattle.script_model.specs.ScriptLines.{hex_bytes}
use Rattle.script_reader.proofs.Sequences.{appended}
use Rattle.script_reader.proofs.bytes.hex_bytes.Given as goal

abbrev pub invariant-loop-rest : goal.invariant-loop-rest
invariant-loop-rest l = appended l.bytes.items (hex_bytes l.rest) ≡ hex_bytes l.fn.digits

abbrev pub decreases-loop-rest : goal.decreases-loop-rest
decreases-loop-rest l = length l.rest
