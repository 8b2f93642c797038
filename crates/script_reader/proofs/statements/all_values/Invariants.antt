use Rattle.std.proofs.Common.{◌≡◌, drop}
use Rattle.script_model.specs.ScriptLines.{all_values}
use Rattle.script_reader.proofs.Sequences.{appended}
use Rattle.script_reader.proofs.statements.all_values.Given as goal

abbrev pub invariant-loop-word : goal.invariant-loop-word
invariant-loop-word l = appended l.values.items (all_values (drop l.word-index l.words)) ≡ all_values l.fn.words
