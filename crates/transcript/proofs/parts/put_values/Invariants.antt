use Rattle.std.proofs.Common.{◌≡◌, ◌++◌, drop}
use Rattle.script_model.specs.Transcript.{behind_spaces}
use Rattle.transcript.proofs.parts.put_values.Given as goal

abbrev pub invariant-loop-value : goal.invariant-loop-value
invariant-loop-value l = l.line.items ++ behind_spaces (drop l.value-index l.values) ≡ l.fn.line.items ++ behind_spaces l.values
